pub mod Encoding
pub mod Promises
pub mod Clean
pub mod Blocks
