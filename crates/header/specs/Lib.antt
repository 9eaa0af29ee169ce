-- What the contracts of what stands before the digits say.
pub mod Steps
