pub mod Chunks
pub mod Listing
