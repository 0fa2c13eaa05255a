pub mod Rule
pub mod Stepping
