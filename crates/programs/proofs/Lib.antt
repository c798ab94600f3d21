pub mod AccessLemmas
pub mod FootprintLemmas
pub mod ListLemmas
pub mod GrowthLemmas
pub mod RegisterLemmas
pub mod FailureLemmas
pub mod CountLemmas
