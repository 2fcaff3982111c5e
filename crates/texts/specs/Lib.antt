pub mod Lines
pub mod Parts
pub mod Room
pub mod Listings
pub mod Drafts
