pub mod WellFormed
