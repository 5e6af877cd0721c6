pub mod Words
pub mod Marks
pub mod Layout
pub mod Order
pub mod Printed
pub mod Pages
pub mod Tokens
pub mod Reprints
