-- Lemmas on rows, passed on from one place. Declares nothing.
pub use Rattle.plain_row.proofs.EpochFacts as facts
