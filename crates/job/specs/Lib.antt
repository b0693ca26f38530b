pub mod Loading
pub mod Denials
pub mod Calls
pub mod Lines
pub mod Spelled
pub mod Answering
pub mod Printed
