-- Laws of `tables`. For the crates above: `Facts` the test and the facts of fit tables, `Parts` what private functions ask of them and the list of a
-- cell as code finds it, `Checking` the checks of standing tables, `Laws` how the lists of any walk are laid out, `Lists` what they hold, `Standing`
-- tables that hold them.
pub mod Facts
pub mod Parts
pub mod Climbing
pub mod Breaks
pub mod Turns
pub mod Offsets
pub mod Checking
pub mod Laws
pub mod Lists
pub mod Standing
