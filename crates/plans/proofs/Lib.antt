pub mod Coprimes
pub mod Powers
pub mod Cancels
pub mod Pigeons
pub mod Answering
