-- `Agreed`: which records agree, and the tally of them. `Inside`: what the private function promises.
pub mod Agreed
pub mod Inside
