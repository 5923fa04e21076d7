-- Laws that the proofs of the test for repeated names and of the walk over labels cite; each function's proof has a folder of its own.
pub mod NamesLaws
pub mod LabelsLaws
pub mod Fixed
