pub mod Fault
pub mod Laws
pub mod Line
pub mod Meaning
pub mod ProductMeaning
pub mod Reading
pub mod ProductKept
pub mod Telling
