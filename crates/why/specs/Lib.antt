-- `Why`: the refusal that the program prints, with its value.
pub mod Why
