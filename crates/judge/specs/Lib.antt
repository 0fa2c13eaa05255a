pub mod Enough
pub mod Judged
pub mod Named
pub mod Refusals
