pub mod Arrays
pub mod Lists
pub mod Tests
pub mod Outcomes
