-- `Wholes`: a float as a whole number. `Answers`: what is printed, case by case. `Fitting`: how long a text can be.
pub mod Wholes
pub mod Answers
pub mod Fitting
