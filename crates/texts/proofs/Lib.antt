pub mod Spaces
pub mod Sizes
pub mod Whole
pub mod ListingLines
pub mod Lengths
pub mod Worked
pub mod Begun
