pub mod RoundLaws
pub mod Loops
pub mod Heads
pub mod Counted
