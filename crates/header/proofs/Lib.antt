pub mod Firsts
pub mod Passing
pub mod Sizing
pub mod Heading
