pub mod Decode
pub mod Header
pub mod Listing
