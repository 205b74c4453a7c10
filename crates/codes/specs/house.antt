pub mod HouseRows
pub mod HouseCards
