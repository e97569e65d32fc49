pub mod Kinds
pub mod Tables
pub mod Model
pub mod Requests
