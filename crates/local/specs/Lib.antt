-- The local form on the machine: what the contracts of this crate say.
pub mod Form
pub mod Range
