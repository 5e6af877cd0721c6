pub mod Chains
pub mod Walk
pub mod Marks
