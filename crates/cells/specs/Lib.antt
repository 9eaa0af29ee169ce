-- What the contracts of this crate say.
pub mod Sheet
pub mod Steps
pub mod Cell
