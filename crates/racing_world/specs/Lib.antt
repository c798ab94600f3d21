pub mod Calls
pub mod Closing
pub mod ClosingNotes
pub mod GivingBack
pub mod Answers
