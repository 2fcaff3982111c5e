pub mod Chosen
pub mod Answers
pub mod Files
