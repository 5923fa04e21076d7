-- Laws stand in a file named after the module that they serve, and in Laws what several cite; each function's proof has a folder of its own.
pub mod Laws
pub mod ClassLaws
pub mod TokenLaws
pub mod SkipLaws
pub mod CallLaws
pub mod Fixed
pub mod Called
