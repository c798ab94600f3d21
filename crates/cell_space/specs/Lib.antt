pub mod FreeCells
pub mod WordCells
