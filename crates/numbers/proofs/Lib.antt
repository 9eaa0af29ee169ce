pub mod Machine
pub mod Ceiling
