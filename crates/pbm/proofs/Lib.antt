mod Samples
mod PictureSamples
pub mod Lengths
pub mod Gaps
pub mod Sizes
pub mod Bits
pub mod Finding
pub mod Sides
pub mod ShortLines
pub mod Masks
pub mod Digits
pub mod Returning
