-- Laws that the proofs of this layer cite, and what is proved of its entry; each function's proof has a folder of its own.
pub mod EntryLaws
pub mod Called
pub mod Same
pub mod FileDemand
pub mod TextRanges
pub mod FileLaws
pub mod Fixed
