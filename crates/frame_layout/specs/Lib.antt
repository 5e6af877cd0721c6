pub mod Parts
pub mod Homes
pub mod Offsets
pub mod Frame
pub mod Laws
