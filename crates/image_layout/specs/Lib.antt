pub mod Addresses
pub mod DataBytes
pub mod Symbols
pub mod Image
pub mod Codes
pub mod Faults
pub mod Initialisers
