pub mod OuterPass
pub mod Read
