pub mod Checks
pub mod Elf32
pub mod File
pub mod Image
pub mod Layout
