pub mod Indices
pub mod Runs
pub mod Graph
pub mod Table
pub mod Schedule
pub mod Swaps
pub mod Rounds
