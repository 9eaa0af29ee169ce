-- The answer of the call that writes a picture, its promise and what it says, and what the inner contracts say.
pub mod Answers
pub mod Promises
pub mod Facts
pub mod Steps
