pub mod Each
pub mod Counts
pub mod Ends
pub mod Reach
pub mod Table
pub mod Body
pub mod Standing
pub mod HomeLaws
