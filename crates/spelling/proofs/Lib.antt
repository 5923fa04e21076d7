-- The laws of the look-up stand here once; each function's proof has a folder of its own.
pub mod FindLaws
pub mod Spelled
pub mod Fixed
