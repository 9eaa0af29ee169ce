pub mod WeightStays
pub mod Samples
pub mod BadLineStays
pub mod TenSamples
