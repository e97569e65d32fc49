pub mod Ways
pub mod WorkTables
