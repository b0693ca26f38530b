pub mod Inputs
pub mod Steps
pub mod Transcripts
