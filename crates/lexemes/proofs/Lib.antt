-- What is proved of a text's tokens.
pub mod RunLaws
pub mod SpellingLaws
pub mod Sound
pub mod Complete
pub mod Exactly
pub mod FoundLaws
pub mod WalkLaws
pub mod Exists
pub mod Rows
pub mod EachToken
pub mod RightLaws
pub mod Covers
pub mod Formed
pub mod Braces
