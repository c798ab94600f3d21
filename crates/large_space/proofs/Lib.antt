pub mod RunSearch
pub mod PlacedRuns
pub mod FreeRunLaws
