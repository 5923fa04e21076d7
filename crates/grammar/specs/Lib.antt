-- The grammar of a body and of a file, and all that is said of them, in the order of document 01. A reader has to believe these files and nothing else of the
-- crate. Result, Reader, Typed and FileReader do more than compute: what they accept, how it reads and where a refusal's cursor stands is proved to be what the
-- others say, but which of 1 to 13 and 22 a refusal gets is said there and nowhere else. Written and Again are cited by inner functions alone.
pub mod Reading
pub mod Rules
pub mod Grammar
pub mod Records
pub mod PlainLength
pub mod Result
pub mod Reader
pub mod Follows
pub mod Means
pub mod Facts
pub mod Cases
pub mod FileReading
pub mod FileGrammar
pub mod FileRecords
pub mod FileReader
pub mod FileFollows
pub mod FileMeans
pub mod Typed
pub mod Call
pub mod Tables
pub mod FileTables
pub mod TextRanges
pub mod FileCases
pub mod Same
pub mod Written
pub mod Again
