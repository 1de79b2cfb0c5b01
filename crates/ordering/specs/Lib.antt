-- The public promises cite the definitions of `slices`. `Inside` is what the private functions promise.
pub mod Inside
