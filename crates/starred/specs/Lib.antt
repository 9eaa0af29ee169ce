-- The starred table, and that it holds.
pub mod Starred
