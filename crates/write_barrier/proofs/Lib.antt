mod LoggedLists
pub mod LoggedWords
