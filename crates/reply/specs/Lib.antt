-- What the calls of the listing program and of the program `picture` answer, and their promises.
pub mod Answers
pub mod Promises
pub mod Steps
