use Rattle.std.proofs.Common.{◌≡◌, ◌≤◌, ◌∷◌, [], ◌++◌, map, sym, ap, ◌∙◌, arith}
use Rattle.std.specs.Prelude.{vec_capacity, vec_len}
use Rattle.std.proofs.lemmas.List.{map-append}
use Rattle.heap_layout.specs.declared.layout.TheConstants.{GLOBALS}
use Rattle.trace_core.proofs.FirstView.{range-more}
use Rattle.plain_tracer.proofs.plain_trace.PlainTrace.take_globals.Goals as goal

pub loop-global-preserved : goal.loop-global-preserved
loop-global-preserved c =
    let made = c.loop-global.invariant in
    let before : vec_len c.loop-global.tokens ≡ c.loop-global.global = made.1 in
    let room : GLOBALS ≤ vec_capacity c.loop-global.tokens = made.2 in (
      ap (map (λ token. token.global)) c.push_reserved.ensures.items ∙ map-append (λ token. token.global) c.loop-global.tokens.items _
          ∙ ap (λ l. l ++ c.loop-global.global ∷ []) made.0 ∙ sym (range-more 0 c.loop-global.global c.loop-global.global (omega arith)),
      omega (arith, c.push_reserved.ensures.len),
      omega (arith, c.push_reserved.ensures.capacity),
    )
