pub mod DecodedBytes
