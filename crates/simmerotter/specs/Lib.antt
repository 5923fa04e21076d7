-- What the promises of the exported functions mean.
pub mod Answered
