pub mod Bytes
pub mod Effects
pub mod Laws
pub mod Memory
pub mod State
pub mod Streams
