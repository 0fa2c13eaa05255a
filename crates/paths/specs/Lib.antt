pub mod Filling
pub mod Kinds
pub mod PathLaws
pub mod PathsMeaning
pub mod Reading
pub mod WorkedPaths
pub mod PathsKept
pub mod ReadInside
