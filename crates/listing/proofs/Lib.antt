pub mod Lengths
pub mod Choices
pub mod FirstBytes
pub mod Worked
