pub mod Chain
pub mod Iterate
pub mod Simulation
