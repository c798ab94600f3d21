pub mod BlockLemmas
pub mod MarkLemmas
pub mod ZoneLemmas
