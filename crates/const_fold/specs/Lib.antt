pub mod FactTables
pub mod FoldConstants
pub mod Operands
pub mod Results
pub mod Shortening
