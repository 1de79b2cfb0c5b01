-- Every line of a build passes the guard of the covering walk.
pub mod Builds
