-- `Whole`: what reading the input promises.
pub mod Whole
