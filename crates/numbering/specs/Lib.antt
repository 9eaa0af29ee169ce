-- The promise of the call that says a refusal's number. The numbers stand in `page`.
pub mod Promises
