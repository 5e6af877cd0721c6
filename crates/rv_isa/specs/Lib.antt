pub mod Arithmetic
pub mod Decode
pub mod Examples
pub mod Isa
pub mod Laws
pub mod Memory
pub mod Refines
pub mod Words
