pub mod Modulo
pub mod Spread
pub mod Priors
