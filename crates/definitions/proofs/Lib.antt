-- Laws that the proofs of this layer cite, and what is proved of its entry; each function's proof has a folder of its own.
pub mod DefinitionLaws
pub mod Fixed
pub mod MacroLaws
pub mod HeadLaws
pub mod Readers
pub mod TableLaws
