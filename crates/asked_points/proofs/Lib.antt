-- `Replied`: what an exported function leaves in `out`, as words of an answer. `ByKind`: the words of an answer by its kind. `InOrder`: the places at which a
-- question is read.
pub mod Replied
mod ByKind
mod InOrder
