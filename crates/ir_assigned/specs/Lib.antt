pub mod Assigned
pub mod Graph
pub mod Names
pub mod Search
pub mod Testing
pub mod Uses
pub mod BlockPaths
