pub mod Writing
pub mod Numbers
pub mod Decimals
pub mod Texts
