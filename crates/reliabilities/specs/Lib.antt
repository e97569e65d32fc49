pub mod Kept
pub mod Bounds
pub mod LeastTells
pub mod ModuloTells
