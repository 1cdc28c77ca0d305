-- What the program prints (Answers), what a text says of a grid (GridAnswers), and what becomes of an input (Endings).
pub mod Answers
pub mod GridAnswers
pub mod Endings
