pub mod OneBlock
pub mod SampleFormed
