-- Laws of what a visit is lent: `Beginning` the check of it and the lists by line, `Ending` what is left there.
pub mod Beginning
mod Ending
