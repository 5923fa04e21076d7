-- What is proved of the exported functions' promises.
pub mod Fixed
pub mod TextToRecords
