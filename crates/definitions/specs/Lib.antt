-- What the inner promises of the definition layer mean: how the code's answers and tables hold what the grammar's readers read. Answers for what the crate above
-- cites, the others for the pieces.
pub mod Answers
pub mod Found
pub mod Pieces
pub mod Constant
pub mod Behind
pub mod Macros
pub mod Tables
