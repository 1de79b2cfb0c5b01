-- Laws of the cost of a visit.
pub mod Costs
