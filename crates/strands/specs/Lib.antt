pub mod ChildAt
pub mod ChildFound
pub mod Children
pub mod Finding
pub mod Located
pub mod StrandLaws
pub mod Strands
