pub mod Refusals
pub mod Dynamic
pub mod Examples
