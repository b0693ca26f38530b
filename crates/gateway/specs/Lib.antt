pub mod Checked
pub mod Choices
pub mod Delivered
pub mod Enclosing
pub mod Refused
