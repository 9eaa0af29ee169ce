-- Whole numbers on the machine: what the contracts of this crate say.
pub mod Room
