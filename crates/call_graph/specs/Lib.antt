pub mod Sites
pub mod Table
pub mod Edges
pub mod Facts
pub mod Graph
