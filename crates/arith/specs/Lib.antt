-- What the contracts cite, by subject. Assumes nothing.
pub mod Rounding
pub mod Product
pub mod Sums
