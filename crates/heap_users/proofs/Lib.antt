pub mod UserLists
pub mod NewUsers
pub mod Cleared
pub mod StopWords
