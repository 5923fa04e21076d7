-- What the promises of the lists of arguments mean: how the code's answers and tables hold what the grammar's readers read.
pub mod Answers
