use Rattle.std.proofs.Common.{Some, ap, sym, ◌∙◌, ◌≡◌, ◌/◌, arith}
use Rattle.std.proofs.lemmas.Grind.{common_steps}
use Rattle.heap_layout.proofs.BlockLemmas.{block_word_of_code}
use Rattle.heap_layout.proofs.block_codes.decode.Goals as goal

pub returns-clause-back : goal.returns-clause-back
returns-clause-back c w valid same =
    let owner : c.in_ok-ok.field-0 ≡ c.args.code / 65536 = grind (arith, common_steps) in
    ap Some (block_word_of_code c.in_ok-kind_at.field-0 c.in_ok-ok.field-0 c.args.code w (sym c.kind_at.ensures ∙ c.in_ok-kind_at.was) owner valid same)
