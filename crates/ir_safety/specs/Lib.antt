pub mod PlainTypes
pub mod TypedRuns
