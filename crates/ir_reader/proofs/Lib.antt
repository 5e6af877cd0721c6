pub mod Refused
pub mod RoundLaws
pub mod Heads
pub mod Settled
