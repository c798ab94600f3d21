use Rattle.std.proofs.Common.{◌≡◌, ℕ, ◌+◌, ap, ◌∙◌, arith, w64, slice_index}
use Rattle.std.specs.Int.{bit_not}
use Rattle.std.proofs.lemmas.Nat.{and_le_l}
use Rattle.heap_layout.specs.Zones.{first, StartBits, UnlogBits}
use Rattle.object_model.specs.Objects.{state_over}
use Rattle.write_barrier.proofs.LoggedWords.{without-bit}
use Rattle.write_barrier.proofs.list.starts_without_unlog_bit.Goals as goal

pub returns : goal.returns
returns g c =
    let words = g.W.Words.words c.args.words.now in
    let l = c.args.layout.now in
    let i : ℕ = c.args.index in
    let starts : c.get-starts.result ≡ slice_index words (first l.blocks StartBits + i) =
    c.get-starts.ensures ∙ ap (λ n. slice_index words (n + i)) c.start_base.ensures in
    let unlogs : c.get-unlogs.result ≡ slice_index words (first l.blocks UnlogBits + i) =
    c.get-unlogs.ensures ∙ ap (λ n. slice_index words (n + i)) c.unlog_base.ensures in
    let less = and_le_l c.get-starts.result (bit_not w64 c.get-unlogs.result) in
    record {
      bits = λ number base. without-bit (state_over words l number base) i c.requires.index c.get-starts.result c.get-unlogs.result starts unlogs (omega arith);
      fits = omega arith;
    }
