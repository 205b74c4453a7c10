-- The elements of a lawful meaning as a ring and a field, and each definition on numbers as the one on elements. Private, as rings.
pub mod Carrier
pub mod Elements
pub mod Realisations
