pub mod Holes
pub mod Inside
