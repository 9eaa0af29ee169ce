pub mod Numerals
pub mod Parting
pub mod Ending
pub mod Counting
pub mod Taking
