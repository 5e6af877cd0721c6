pub mod CopyTables
pub mod DeadTests
pub mod DropDead
pub mod LocalCopies
pub mod NeedTables
pub mod Simplify
