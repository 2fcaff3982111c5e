pub mod Limits
pub mod Marks
pub mod Rule
pub mod Changes
pub mod Calls
pub mod TableBytes
pub mod Starting
pub mod Growing
