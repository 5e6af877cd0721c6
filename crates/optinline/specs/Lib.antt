pub mod Answer
pub mod Delivered
pub mod Object
pub mod Reply
pub mod Unbuilt
pub mod Words
