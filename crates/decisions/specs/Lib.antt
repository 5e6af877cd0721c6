pub mod Ends
pub mod Maps
pub mod Reading
pub mod Steps
pub mod Text
