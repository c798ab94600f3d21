pub mod LineSweeps
pub mod Candidates
