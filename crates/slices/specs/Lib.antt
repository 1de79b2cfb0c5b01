-- `Slices` and `Moves` are what the public promises cite; `Lists` has the words of the laws.
pub mod Slices
pub mod Moves
pub mod Lists
