use Rattle.std.proofs.Common.{◌≡◌, ◌∙◌, ◌+◌, ◌*◌, ap, sym, slice_index, arith}
use Rattle.heap_layout.specs.Zones.{StartBits, UnlogBits, first}
use Rattle.block_release.proofs.releasing.bits_differ.Goals as goal

pub returns-clause-some : goal.returns-clause-some
returns-clause-some c = λ is.
    let found = c.differ.ensures.some is in
    let start : c.start_base.result + 64 * c.args.block + found.0 ≡ first c.args.layout.now.blocks StartBits + (64 * c.args.block + found.0) = omega (arith, c.start_base.ensures) in
    let unlog : c.unlog_base.result + 64 * c.args.block + found.0 ≡ first c.args.layout.now.blocks UnlogBits + (64 * c.args.block + found.0) = omega (arith, c.unlog_base.ensures) in
    record { index = found.0; inside = found.1; differ = λ same. found.2 (ap (slice_index c.args.words.now) start ∙ same ∙ sym (ap (slice_index c.args.words.now) unlog)) }

pub returns-clause-none : goal.returns-clause-none
returns-clause-none c = λ is found.
    let start : c.start_base.result + 64 * c.args.block + found.index ≡ first c.args.layout.now.blocks StartBits + (64 * c.args.block + found.index) = omega (arith, c.start_base.ensures) in
    let unlog : c.unlog_base.result + 64 * c.args.block + found.index ≡ first c.args.layout.now.blocks UnlogBits + (64 * c.args.block + found.index) = omega (arith, c.unlog_base.ensures) in
    found.differ (sym (ap (slice_index c.args.words.now) start) ∙ c.differ.ensures.none is found.index found.inside ∙ ap (slice_index c.args.words.now) unlog)
