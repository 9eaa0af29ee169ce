pub mod Picks
pub mod Runs
pub mod Blocks
pub mod Leaving
