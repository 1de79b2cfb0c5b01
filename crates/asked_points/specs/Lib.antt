-- `Replying`: the words of an answer by number and `out`. `Asked`: the words of the answers about numbers and single points.
pub mod Replying
pub mod Asked
