-- Lemmas, by subject. `Words`, `EndWords` and `Zeros` serve the crate's own functions alone. Assumes nothing.
pub mod Ring
pub mod Order
pub mod Quotients
pub mod Products
pub mod Sums
mod Words
mod EndWords
mod Zeros
