-- `Sentence`: the cells of a line parallel to an axis. `Lines`: which lines the laws speak of.
pub mod Sentence
pub mod Lines
