-- The laws that every layer cites stand here once; each function's proof has a folder of its own.
pub mod Laws
pub mod LiteralLaws
pub mod NameLaws
pub mod TypeNames
pub mod FormedLaws
pub mod DoorLaws
pub mod TokenLaws
pub mod KeptLaws
pub mod PutBetween
pub mod PlaceLaws
pub mod PutAt
pub mod Fixed
pub mod LentLaws
