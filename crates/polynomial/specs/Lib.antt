-- The definitions that the contracts cite.
pub mod Polynomials
pub mod Bytes
