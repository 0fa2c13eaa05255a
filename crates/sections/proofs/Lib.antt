pub mod Built
pub mod Lawful
pub mod Sharing
