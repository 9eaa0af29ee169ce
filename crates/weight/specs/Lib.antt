-- The weight of a sheet: what the contracts of this crate say.
pub mod Series
