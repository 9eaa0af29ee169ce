-- The answers of the calls that walk, their promises, and what these say. The definitions of the page stand in `page` and, of the walk, in `verdicts`.
pub mod Answers
pub mod Promises
pub mod Facts
pub mod Steps
