-- The answer of `read`, its promise, what this says, and what the inner contracts say. The definition of a sheet text stands in `page`.
pub mod Answers
pub mod Promises
pub mod Facts
pub mod Steps
