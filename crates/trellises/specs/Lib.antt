pub mod Priors
pub mod Inner
pub mod Outer
pub mod Counts
pub mod Bounds
pub mod InnerLaws
pub mod OuterLaws
pub mod Forced
