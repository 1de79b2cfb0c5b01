-- `Held`: points with member lengths, and what they must be. `Writing`: what the writer answers and leaves. `Lining`: the like of the lines of
-- members. `Inside`: what private functions promise.
pub mod Held
pub mod Writing
pub mod Lining
pub mod Inside
