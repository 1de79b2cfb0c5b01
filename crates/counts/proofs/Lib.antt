-- Laws of `counts`. For the crates above: `AddLaws` the laws of adding, `AgreedLaws` the agreed grid, `Sharings` the law of benches, `Theorems` what follows from the promises.
pub mod Lists
pub mod AddLaws
pub mod Passing
pub mod Entries
pub mod AgreedLaws
pub mod Sharings
pub mod Theorems
