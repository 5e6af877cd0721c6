pub mod KeepsMeaning
pub mod Renamed
pub mod Replaced
