pub mod Gives
pub mod Signs
pub mod CodeWords
