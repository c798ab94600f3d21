pub mod TestedBlocks
pub mod ReleasableBlocks
