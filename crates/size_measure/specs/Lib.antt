pub mod Maps
pub mod Kept
pub mod Trees
pub mod Sizes
pub mod Low
