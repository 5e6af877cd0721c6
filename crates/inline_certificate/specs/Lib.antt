pub mod Bodies
pub mod Certificates
pub mod Parts
pub mod Places
pub mod Reading
pub mod Steps
pub mod Text
pub mod Trees
