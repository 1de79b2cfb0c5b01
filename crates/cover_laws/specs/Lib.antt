-- Which lines pass the guard of the covering walk.
pub mod Builds
