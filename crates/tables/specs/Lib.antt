-- The definitions that the contracts of `tables` cite, and that every crate that reads or fills tables rests on: `Tables` standing tables, `Fit`
-- when they fit, `Lists` the lists of any walk and their layout, `Stands` tables that hold those lists, `InsideFit` what private functions ask of
-- tables, `InsidePasses` the passes that fill tables, `Inside` what the private functions here ask and promise.
pub mod Tables
pub mod Fit
pub mod Lists
pub mod Stands
pub mod InsideFit
pub mod InsidePasses
pub mod Inside
