-- `Asked`: the words of the answer to a question, by its kind.
pub mod Asked
