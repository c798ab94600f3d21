-- What the steps of two workers that fill a heap need and show.
use Rattle.std.proofs.Common.{◌≡◌, ℕ, ◌+◌, ◌-◌, ◌*◌, ◌^◌, ◌<◌, inl, inr, nat_eq, nat_lt, List, [], ◌∷◌, refl, sym, ap, subst, arith, lit<}
use Rattle.std.specs.Int.{bit_at}
use Rattle.std.proofs.lemmas.Nat.Bits.{bit_at-pow_other}
use Rattle.std.proofs.lemmas.Bool.{cases_eq, ltb-true, eqb-true}
use Rattle.forward_word.specs.CollectorWords.{collector_word}
use Rattle.heap_layout.specs.Zones.{block_start}
use Rattle.object_model.specs.Lines.{TouchesLine}
use Rattle.object_model.specs.Objects.{word_at}
use Rattle.object_model.specs.Times.{times, one_if}
use Rattle.trace_core.specs.Machine.{ByRoot}
use Rattle.trace_core.specs.WorkedTraces.{nursery_setup}
use Rattle.trace_core.specs.declared.run.TraceRun.{TraceRun}
use Rattle.trace_core.proofs.CountedRights.{times-cons}
use Rattle.trace_core.proofs.Idle.{one-if-from}
use Rattle.trace_words.specs.declared.share.Share.{Share}
use Rattle.trace_words.specs.Rule.{SeatShare}
use Rattle.trace_words.specs.Shares.{empty_share, first_share, learns, sees_busy, takes_after_full}
use Rattle.trace_words.specs.Steps.{MayLeave, MayClaim, LacksRoom, FitsRoom, MayCopy, MayMark, Knows, IsWhole, ShowsClaim, ShowsBlock, TakesBlock, ClaimsMoved}
use Rattle.trace_words.specs.WorkedShares.{crowded_setup, crowded_begun, first_room, first_claimed, first_filled, second_room, second_claimed, helped, stayed, asked_twice, all_taken_in}
use Rattle.trace_words.proofs.WorkedSteps.{below-all}
use Rattle.std.specs.Prelude.{map}
use Rattle.std.specs.List.{range_with_len}

pub begins : (run : TraceRun) → run.logged.items ≡ [] → first_share run 2 ≡ crowded_begun
begins run logged = ap (λ (l : List ℕ). record empty_share { parts = 3; numbers = 1 ∷ 2 ∷ []; grey = map (λ x. (x, 0)) l; unset = range_with_len 0 16; known = map (λ x. (x, x)) l }) logged

pub claims : MayClaim crowded_setup first_room 806 ByRoot (word_at crowded_setup.before 808)
claims = record {
  live = lit< tt;
  held = record { address = record { from = omega arith; below = omega arith }; start = refl };
  before = refl;
  other = λ e. absurd (omega (arith, e));
  young = refl;
  asks = tt;
}

pub moves : FitsRoom crowded_setup first_room 806 × FitsRoom crowded_setup first_claimed 4902 × FitsRoom crowded_setup second_room 6402 × FitsRoom crowded_setup second_claimed 1806
moves = (record { moves = refl; fits = omega arith }, record { moves = refl; fits = omega arith }, record { moves = refl; fits = omega arith }, record { moves = refl; fits = omega arith })

pub leaves : MayLeave crowded_setup first_filled
leaves c has = let filled : 0 < times c (2 ∷ []) = has in let one : times c (2 ∷ []) ≡ one_if (nat_eq c 2) + 0 = times-cons 2 [] c in
    let at : c ≡ 2 = eqb-true c 2 (one-if-from (nat_eq c 2) (omega arith)) in
    record { limit = ap (λ n. block_start 4 n + 4096) (sym at); words = 1600; small = omega arith; tight = omega arith }

pub left : (second_room.full ≡ 2 ∷ []) × (second_room.sparse ≡ []) × (second_room.filling ≡ 3 ∷ [])
left = (refl, refl, refl)

pub lacks : LacksRoom crowded_setup helped 3306
lacks = record {
  tight = omega arith;
  none = λ b l. ltb-true 0 (times b helped.busy) (below-all (λ z. nat_lt 0 (times z helped.busy)) 4 refl b l);
}

pub stays : MayClaim crowded_setup helped 3306 ByRoot (word_at crowded_setup.before 3308)
stays = record {
  live = lit< tt;
  held = record { address = record { from = omega arith; below = omega arith }; start = refl };
  before = refl;
  other = λ e. absurd (omega (arith, e));
  young = refl;
  asks = tt;
}

pub copies : MayCopy crowded_setup stayed 3306 3306 1500
copies = record { live = lit< tt; right = lit< tt; target = lit< tt }

pub asks : Knows crowded_setup stayed 806 8998
asks = record { live = lit< tt; target = lit< tt }

pub marks : MayMark crowded_setup asked_twice 806 8998 30 1
marks = record {
  live = lit< tt;
  target = lit< tt;
  zone = record { from = omega arith; below = omega arith };
  lines = λ k bit. elim (cases_eq k 0) as (λ _. (k < 64) × TouchesLine 4 8998 1000 (64 * (30 - 22) + k)) [
    | inl e ↦ subst (λ z. (z < 64) × TouchesLine 4 8998 1000 (64 * (30 - 22) + z)) (sym e) ((omega arith), record { from = omega arith; below = omega arith })
    | inr ne ↦ absurd (let off : bit_at (2 ^ 0) k ≡ 0 = bit_at-pow_other 0 k ne in let on : bit_at (2 ^ 0) k ≡ 1 = bit in omega arith)
  ];
}

pub all-blocks : (all_taken_in.blocks ≡ 3 ∷ 2 ∷ []) × (all_taken_in.last ≡ 3 ∷ []) × (all_taken_in.full ≡ 2 ∷ []) × (all_taken_in.sparse ≡ []) × (all_taken_in.owned ≡ (3, 1) ∷ (2, 1) ∷ [])
all-blocks = (refl, refl, refl, refl, refl)

pub all-lines : all_taken_in.lined ≡ (30, 1) ∷ []
all-lines = refl

pub whole : IsWhole crowded_setup all_taken_in
whole = record { parts = refl; token = refl; worker = refl; tokens = refl }

pub meets-block : (b : ℕ) (v : Share) (now : SeatShare) → ShowsBlock b (v, []) 17 now → now.0 ≡ sees_busy b v
meets-block b v now shows = ap (λ (s : SeatShare). s.0) (shows.1 (λ e. absurd (omega (arith, e))))

pub loses-block : (b : ℕ) (v : Share) (now : SeatShare) → TakesBlock b (takes_after_full crowded_setup b) (v, []) 17 now → now.0 ≡ sees_busy b v
loses-block b v now shows = ap (λ (s : SeatShare). s.0) (shows.1 (λ e. absurd (omega (arith, e))))

pub meets-claim : (v : Share) (now : SeatShare) → ShowsClaim crowded_setup 806 (v, []) (collector_word 1 8998) now → now.0 ≡ learns 806 8998 v
meets-claim v now shows = ap (λ (s : SeatShare). s.0) (shows.0 refl).1

pub loses-claim : (v : Share) (now : SeatShare) → ClaimsMoved crowded_setup 806 ByRoot 0 (v, []) (collector_word 1 8998) now → now.0 ≡ learns 806 8998 v
loses-claim v now shows = ap (λ (s : SeatShare). s.0) (shows.1 (λ e. absurd (omega (arith, e)))).1

pub meets-old : (v : Share) (now : SeatShare) → ShowsClaim nursery_setup 806 (v, []) (collector_word 1 806) now → now.0 ≡ learns 806 806 v
meets-old v now shows = ap (λ (s : SeatShare). s.0) (shows.1 (λ e. absurd (omega (arith, e))) refl).1
