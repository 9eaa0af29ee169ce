-- Polynomials over a box, for any number of variables: all that a reader of this crate must believe, and the statements that are proved of it.
pub mod Vectors
pub mod Points
pub mod Polynomial
pub mod Box
pub mod LocalForm
pub mod Bounds
pub mod Weight
pub mod Straight
pub mod Demand3
pub mod Plane
