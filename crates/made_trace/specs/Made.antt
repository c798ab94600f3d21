-- The trace of `--make N`.
pub use Rattle.stored_commands.specs.Made.{made_trace}
