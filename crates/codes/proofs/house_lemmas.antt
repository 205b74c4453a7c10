pub mod HouseModuli
pub mod HouseRows
pub mod MadeFields
