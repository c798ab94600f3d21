-- Lemmas on worlds, passed on from one place. Declares nothing.
pub use Rattle.plain_world.proofs.CallLemmas.{numbers-mapped}
pub use Rattle.plain_world.proofs.Closed.{may-use, mutators-same}
pub use Rattle.plain_world.proofs.Rows.facts
