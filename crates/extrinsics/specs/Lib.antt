pub mod Extrinsics
