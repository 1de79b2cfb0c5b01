-- Laws of this decision, that boxes overlap; those of any decision are in `first_tests`. `Deciding` has the rows of a short list, over any boxes that stand
-- ready, `Boxed` those of its lines, `Entry` the entry.
mod Deciding
mod Boxed
mod Entry
