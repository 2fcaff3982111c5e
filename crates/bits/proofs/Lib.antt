pub mod Packing
pub mod Operations
pub mod Sums
pub mod Lists
