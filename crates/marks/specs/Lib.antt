-- What a walk leaves of a cell: what the contracts of this crate say.
pub mod Steps
