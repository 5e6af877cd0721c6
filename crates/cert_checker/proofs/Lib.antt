pub mod States
pub mod WorthBounds
pub mod Whole
pub mod LeastMaps
pub mod Exact
