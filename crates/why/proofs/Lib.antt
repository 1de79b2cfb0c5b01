-- `Cases`: the refusal, case by case of what the calls answered. `Printed`: it is the one that the program prints.
pub mod Cases
pub mod Printed
