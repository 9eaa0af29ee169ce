-- What the contracts of a line and of its numbers say. The definition of a sheet text stands in `page`.
pub mod Steps
