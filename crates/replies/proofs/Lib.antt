-- `Handing`: how a reply comes to its promise, here and in the exported functions. `Outcomes`: the promise settles the number and `out`. `Saying`: what
-- a build answers says its grid.
pub mod Handing
pub mod Outcomes
pub mod Saying
