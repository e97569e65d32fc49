pub mod Words
pub mod Halves
pub mod Rooms
