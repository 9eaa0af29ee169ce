-- A table on the machine: what the contracts of this crate say.
pub mod Table
pub mod Moves
pub mod Scaling
pub mod Value
