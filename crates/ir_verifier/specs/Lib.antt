pub mod Faults
pub mod CallFaults
pub mod TypeFaults
pub mod PhiFaults
pub mod Forms
pub mod Verdict
