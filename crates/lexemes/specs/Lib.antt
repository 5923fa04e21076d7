-- What a text's tokens are, in the order of request [4]. A reader has to believe these files and nothing else of the crate, but for Reader, which begins with "Inner": it computes
-- what the others say, and the code's promises cite it.
pub mod Bytes
pub mod Contexts
pub mod Shapes
pub mod Words
pub mod Texts
pub mod Errors
pub mod Reads
pub mod Right
pub mod Braces
pub mod Rows
pub mod Reader
