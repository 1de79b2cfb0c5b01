-- THE LAWS. `First` says that a test counts as the first exactly if it is, `Once` that each pair is handed out once: over a decision, and as the
-- plain visit does where it is that boxes overlap.
pub mod First
pub mod Once
