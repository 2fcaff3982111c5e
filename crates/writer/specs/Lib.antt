pub mod Chains
pub mod Outputs
pub mod Notes
pub mod Heads
pub mod Compiling
