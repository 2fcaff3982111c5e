pub mod Limits
pub mod Judging
pub mod Stepping
pub mod Sketching
pub mod Reading
pub mod Validity
pub mod Places
pub mod Rewriting
