-- What the promises of the statement layer mean: Call for the entry, the others for its inner functions. The grammar and the reader stand in the crate `grammar`.
pub mod Call
pub mod Choice
pub mod Answers
pub mod Item
pub mod Label
pub mod Length
pub mod Settled
