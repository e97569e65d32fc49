-- The lemmas of polynomials, of binary digits, of the bits of bytes, and of checks.
pub mod Addition
pub mod Division
pub mod Linear
pub mod Binary
pub mod Bitwise
pub mod Checks
pub mod Listed
pub mod OneMore
