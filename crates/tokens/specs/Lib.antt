-- What the promises of the token layer mean, in the order of document 01. A reader has to believe these files and nothing else of the crate, but for those that
-- begin with "Inner": they are cited by functions that only the layers above call.
pub mod Kind
pub mod Number
pub mod Byte
pub mod Name
pub mod Literal
pub mod Push
pub mod Token
pub mod WellFormed
pub mod Kept
pub mod PutBetween
pub mod Door
pub mod Keep
pub mod Place
pub mod Lent
pub mod Refusal
pub mod Source
