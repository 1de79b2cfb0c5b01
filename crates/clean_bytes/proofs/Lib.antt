-- `Texts`: laws of a text put part after part. `Sizes`: how much is found and kept. `Reading`: what the readers find in the input. `Loading`: their
-- answers and buffers. `Keeping`: what is cleaned and written of them. `Fitting`: how long a text can be, and that the promise settles all that is left.
-- `Twice`: cleaning the file that was written.
pub mod Texts
pub mod Sizes
pub mod Reading
pub mod Loading
pub mod Keeping
pub mod Fitting
pub mod Twice
