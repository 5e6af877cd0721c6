pub mod Alphabet
pub mod Places
pub mod Strings
pub mod Table
pub mod Lexing
pub mod Spellings
