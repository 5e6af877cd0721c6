pub mod Accesses
pub mod Numbers
pub mod Places
pub mod OutputRoom
pub mod TurnLaws
pub mod ZeroArrays
