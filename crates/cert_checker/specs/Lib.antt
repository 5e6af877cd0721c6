pub mod Worth
pub mod Judged
