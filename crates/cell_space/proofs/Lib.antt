pub mod ClassTable
pub mod ClearBits
pub mod BesideCells
pub mod CellSearch
pub mod FreeCellLaws
