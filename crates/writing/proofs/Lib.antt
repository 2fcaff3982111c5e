pub mod Puts
pub mod Remaining
pub mod Digits
pub mod Decimals
pub mod Spelling
pub mod Rows
