pub mod Grown
pub mod Worths
pub mod Picked
pub mod Found
pub mod Cuts
pub mod Depth
pub mod Deep
