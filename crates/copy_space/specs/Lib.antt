pub mod LastOffsets
