-- The answers of the calls that walk nothing, their promises, and what these say. The definitions of the page stand in `page`.
pub mod Answers
pub mod Promises
pub mod Facts
