pub mod YesPairs
pub mod Scores
pub mod BestPairs
pub mod GreedyRounds
pub mod Underway
pub mod Settling
pub mod HandedLists
pub mod Endings
