use Rattle.std.proofs.Common.{◌∙◌, [], ◌∷◌, ◌++◌, map, Ok, ap, sym}
use Rattle.std.proofs.lemmas.List.{map-append}
use Rattle.steal_pool.proofs.steal.all_ok.Goals as goal

pub loop-result-preserved : goal.loop-result-preserved
loop-result-preserved g c =
    let s = c.in_ok-seat.seat in let seats = c.loop-result.seats.items in
    ap (λ l. l ++ c.in-Some.result ∷ []) c.loop-result.invariant ∙ ap (λ r. map (λ s. Ok s) seats ++ r ∷ []) c.in_ok-seat.was ∙ sym (map-append (λ s. Ok s) seats (s ∷ [])) ∙ ap (map (λ s. Ok s)) (sym c.in_ok-push.ensures.items)
