pub mod LevelsRead
pub mod WordLists
pub mod Numbered
pub mod Many
pub mod TypesRead
pub mod InitsRead
pub mod GroupsRead
pub mod WordsRead
