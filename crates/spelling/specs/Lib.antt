-- How words and marks are spelled. A reader has to believe Spelling; Slots begins with "Inner".
pub mod Spelling
pub mod Slots
