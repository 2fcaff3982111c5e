pub mod Shapes
pub mod Standings
pub mod Encodings
pub mod RoundTrip
pub mod Prefixes
pub mod Unique
