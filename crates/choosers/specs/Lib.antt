pub mod Trying
pub mod Greedy
pub mod Results
pub mod GrownTables
