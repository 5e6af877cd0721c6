pub mod Walking
pub mod Turning
pub mod Walked
pub mod Falling
pub mod Sorted
