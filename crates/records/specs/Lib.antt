pub mod Kinds
pub mod Refusals
pub mod RefusalTexts
pub mod Records
pub mod Bytes
