-- `Snapping`: what the answer of `snap_point` tells. `Halves`: where the strategies of document 01 part, by the sums with one half of `HalfSums`.
pub mod Snapping
pub mod HalfSums
pub mod Halves
