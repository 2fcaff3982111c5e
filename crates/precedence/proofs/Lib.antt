pub mod Lives
pub mod Spans
pub mod Precedence
pub mod Paths
pub mod Neighbours
pub mod Starts
pub mod Examples
