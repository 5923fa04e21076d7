-- What the lexer promises. A reader has to believe Call; Counts begins with "Inner": it says what the code's own functions answer.
pub mod Call
pub mod Counts
