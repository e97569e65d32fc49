pub mod Covering
pub mod Charged
pub mod Sent
pub mod TouchedPenalties
pub mod InnerTold
pub mod OuterTold
