-- What the contracts of reading standard input say.
pub mod Steps
