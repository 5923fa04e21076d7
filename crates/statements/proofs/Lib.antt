-- Laws that the proofs of this layer cite, and what is proved of its entry; each function's proof has a folder of its own.
pub mod ItemLaws
pub mod Pieces
pub mod StatementLaws
pub mod BodyLaws
pub mod LabelLaws
pub mod LengthLaws
pub mod EntryLaws
pub mod Fixed
pub mod Called
pub mod Demand3
pub mod Same
