-- `Showing`: the report of tables. `Visiting`: a full visit in batches. `Chains`: points and their lines. `Input`: the first bytes of the input
-- decide. `Standing`: tables that a visit takes can be shown. `Answers`: what
-- is printed, case by case. `Fitting`: how long a text can be.
pub mod Showing
pub mod Visiting
pub mod Standing
pub mod Chains
pub mod Input
pub mod Answers
pub mod Fitting
