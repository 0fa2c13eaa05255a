pub mod Cells
pub mod SectionLaws
pub mod SectionMeaning
pub mod Worked
pub mod SectionKept
pub mod Cell
pub mod Listed
