-- Laws that the proofs of this layer cite; each function's proof has a folder of its own.
pub mod At
pub mod Left
pub mod ArgumentLaws
pub mod ListLaws
pub mod SingleLaws
pub mod Fixed
