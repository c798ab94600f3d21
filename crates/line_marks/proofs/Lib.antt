pub mod BitSearch
pub mod RunSearch
pub mod HoleRuns
pub mod CountedLines
pub mod HoleStarts
pub mod HoleObjects
