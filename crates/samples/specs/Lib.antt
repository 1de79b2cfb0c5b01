-- The definitions that the contracts of `samples` cite: `Samples` what samples are and their checks, `Sharing` the decision. What the decision means
-- is a law: document 02's sentence, both ways.
pub mod Samples
pub mod Sharing
