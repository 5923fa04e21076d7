-- What the test for repeated names promises, what it remembers and its room; and which bodies are short.
pub mod Names
pub mod Labels
pub mod Remembered
