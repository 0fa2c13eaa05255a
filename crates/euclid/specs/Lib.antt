pub mod Divisor
pub mod Steps
