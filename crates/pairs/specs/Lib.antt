pub mod Lending
pub mod Listing
pub mod Places
