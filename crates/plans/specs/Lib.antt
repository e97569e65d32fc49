pub mod Refusals
pub mod Texts
pub mod Divisors
pub mod Plans
pub mod Permutations
