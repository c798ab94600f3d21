pub mod NameLemmas
pub mod UpdateLemmas
pub mod StepLemmas
pub mod KeptLemmas
pub mod RunLemmas
pub mod OrderLemmas
pub mod TableLemmas
pub mod CommandLemmas
