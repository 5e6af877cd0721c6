pub mod Nodes
pub mod AllSites
pub mod Graphs
pub mod Cycles
pub mod Candidates
