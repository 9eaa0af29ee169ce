-- Request #103 as definitions, in its words and order: what is written of a raster, which texts are plain PBMs of which picture, the refusals; and the statements that are proved of them.
pub mod Writing
pub mod Reading
pub mod Refusals
pub mod PictureText
pub mod Steps
pub mod Facts
