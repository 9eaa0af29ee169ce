-- The definitions that the project adds to the kit's ℤ: all that a reader of this crate must believe.
pub mod Sum
pub mod Binomial
pub mod Horner
pub mod MinMax
pub mod Triangle
pub mod Digits
pub mod OrderedRing
pub mod Written
