-- What the promises of the call that writes a picture and of the one that reads it come to together.
pub mod Returning
