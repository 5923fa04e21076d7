-- What the promises of the file layer mean: Call for the entry, the others for its inner functions.
pub mod Call
pub mod Answers
pub mod Taken
