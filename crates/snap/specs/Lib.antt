-- The definitions that the contracts of `snap` cite. `Snap`: the checks, and a point snapped. `Strategies`: whether the two strategies of document 01 agree.
pub mod Snap
pub mod Strategies
