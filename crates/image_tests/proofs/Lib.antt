pub mod EachFunction
pub mod ZeroBody
