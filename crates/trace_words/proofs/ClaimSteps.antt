-- Loads of unlog bits and collector words, and the exchange that claims an object in place.
use Rattle.std.proofs.Common.{◌≡◌, ◌≢◌, ℕ, ◌+◌, ◌%◌, ◌<◌, inl, inr, true, false, true≢false, IsTrue, nat_eq, nat_lt, List, ◌∷◌, slice_index, refl, sym, ap, ◌∙◌, arith, Some, None}
use Rattle.std.specs.Int.{bit_at}
use Rattle.std.specs.Prelude.{◌==◌}
use Rattle.std.proofs.lemmas.Bool.{cases_Bool, cases_eq, cond-true, eq-eqb, and_parts, ltb-true}
use prog.Atomic.{either}
use mathlib.Core.Option.{some}
use lib.ListN.{get_elem?}
use Rattle.atomic_table.specs.Table.{Act, keeps, stepped, Allows, Valid, carried_after}
use Rattle.atomic_table.proofs.Lists.{exchanged}
use Rattle.forward_word.specs.CollectorWords.{collector_word, number_in, target_in, is_old_word}
use Rattle.heap_layout.specs.Zones.{UnlogBits}
use Rattle.heap_layout.proofs.MarkLemmas.{address_bit-at_address}
use Rattle.heap_layout.specs.declared.block.Kind.TheVariants as kinds
use Rattle.object_model.specs.BitWords.{bit_word, bit_place}
use Rattle.object_model.specs.Objects.{IsHeld, HasKind, word_at, block_word, is_unlogged}
use Rattle.object_model.specs.Times.{times}
use Rattle.trace_core.specs.Setups.{Setup, blocks, collection, stays_old, may_be_moved}
use Rattle.trace_core.specs.Machine.{Machine, target, ClaimCause, ByRoot, ByGlobal, ByField, Claim}
use Rattle.trace_core.specs.Traces.{machine_after, heap_after, target_of}
use Rattle.trace_core.specs.Outcomes.{base_after_trace}
use Rattle.trace_core.specs.Views.{View, steps_at_claim, asked_roots, claimed_view}
use Rattle.trace_core.proofs.AskRights.{holds-known}
use Rattle.trace_core.proofs.CountedRights.{hits-cons, times-cons}
use Rattle.trace_core.proofs.ClaimRights.{unclaimed-stage, holds-claimed, may-stay}
use Rattle.trace_core.proofs.Clauses.{unclaimed, old-target}
use Rattle.trace_core.proofs.DecidingBits.{seen, aged, waits-for-claim, claimed-parts, old-to, marked}
use Rattle.trace_core.proofs.Finished.{option-cases}
use Rattle.trace_words.specs.declared.share.Share.{Share}
use Rattle.trace_words.specs.Shares.{view_of, pooled, learns, claims_here}
use Rattle.trace_words.specs.Rule.{TraceState, SeatShare, KeepsTrace}
use Rattle.trace_words.specs.Steps.{ShowsBit, ShowsClaim, MayClaim, SawNoneFree, LacksRoom, ClaimsHere}
use Rattle.trace_words.proofs.Pooled.{Alike}
use Rattle.trace_words.proofs.RuleSteps.{share-with, same-counts, word-is, asked-by, event-only, nothing-made, nothing-seen}

pub like-known : (x t : ℕ) (V v : View) → Alike V (record V { known = (x, t) ∷ V.known }) v (record v { known = (x, t) ∷ v.known })
like-known x t V v = record {
  won = λ y k. refl;
  grey = λ y k. refl;
  copied = λ y. refl;
  unset = λ y. refl;
  set = λ y. refl;
  asked = λ y. refl;
  known = λ y u. (let a = hits-cons x t V.known y u in let b = hits-cons x t v.known y u in omega arith);
  blocks = λ y. refl;
}

roots-alike : (x : ℕ) (cause : ClaimCause) (V v : View) (y : ℕ) → times y (asked_roots x cause V.asked) + times y v.asked ≡ times y V.asked + times y (asked_roots x cause v.asked)
roots-alike x ByRoot V v y = let a = times-cons x V.asked y in let b = times-cons x v.asked y in omega arith
roots-alike x (ByGlobal g) V v y = refl
roots-alike x (ByField z i) V v y = refl

pub like-claimed : (p : Setup) (x t : ℕ) (cause : ClaimCause) (V v : View) → Alike V (claimed_view p x t cause V) v (claimed_view p x t cause v)
like-claimed p x t cause V v = record {
  won = λ y k. (let a = hits-cons x (steps_at_claim p x t) V.won y k in let b = hits-cons x (steps_at_claim p x t) v.won y k in omega arith);
  grey = λ y k. refl;
  copied = λ y. refl;
  unset = λ y. refl;
  set = λ y. refl;
  asked = roots-alike x cause V v;
  known = λ y u. (let a = hits-cons x t V.known y u in let b = hits-cons x t v.known y u in omega arith);
  blocks = λ y. refl;
}

module _ (p : Setup) (s : TraceState) (h : KeepsTrace p s) (id : ℕ) (v : Share) (at : get_elem? s.views id ≡ some v) (live : 0 < v.parts) where
  abbrev m : Machine
  m = machine_after p h.events

  -- a load after which one more target is known
  pub target-learnt : (i n : ℕ) (cs : List (ℕ × Unit {0})) (x t : ℕ) → n ≡ slice_index s.words i → target (m.stage x) ≡ Some t → KeepsTrace p (stepped s i n id cs (learns x t v) keeps)
  target-learnt i n cs x t still is = nothing-made p s h id v at i n cs (learns x t v) (record (pooled s.views) { known = (x, t) ∷ (pooled s.views).known }) still
      (holds-known p m (pooled s.views) h.holds x t is) (like-known x t (pooled s.views) (view_of v)) (same-counts v (record (view_of v) { known = (x, t) ∷ v.known }) v.made) refl refl refl
      (share-with p m v (record (view_of v) { known = (x, t) ∷ v.known }) v.made live refl refl (h.shares id v at))

  -- An exchange that failed met the claim of another seat.
  module _ (x : ℕ) (cause : ClaimCause) (old : ℕ) (may : MayClaim p v x cause old) (miss : slice_index s.words (x + 2) ≢ old) where
    abbrev n : ℕ
    n = slice_index s.words (x + 2)

    word : word_at (heap_after p h.events) (x + 2) ≡ n
    word = sym (word-is p s h id v at (x + 2))

    other-target : (t : ℕ) × (target_of p h.events x ≡ Some t)
    other-target = elim (option-cases (target_of p h.events x)) as (λ _. (t : ℕ) × (target_of p h.events x ≡ Some t)) [
      | inl none ↦ absurd (miss (sym word ∙ unclaimed p h.events h.trace x may.held none ∙ sym may.before))
      | inr found ↦ found
    ]

    young : stays_old p x ≡ false
    young = elim (cases_Bool (stays_old p x)) as (λ _. stays_old p x ≡ false) [
      | inl old-one ↦ absurd (true≢false (sym (old-to p h.events h.trace x may.held old-one) ∙ ap (is_old_word (base_after_trace p)) (sym may.before) ∙ may.young))
      | inr new ↦ new
    ]

    parts : (number_in (word_at (heap_after p h.events) (x + 2)) ≡ collection p) × (target_in (word_at (heap_after p h.events) (x + 2)) ≡ other-target.0)
    parts = claimed-parts p h.events h.trace x may.held other-target.0 other-target.1 young

    pub lost-number : number_in n ≡ collection p
    lost-number = ap number_in (sym word) ∙ parts.0

    pub lost-target : target (m.stage x) ≡ Some (target_in n)
    lost-target = other-target.1 ∙ ap Some (sym parts.1 ∙ ap target_in word)

  -- An exchange that succeeds meets an object that nothing claimed.
  pub was-unclaimed : (x : ℕ) (cause : ClaimCause) (old : ℕ) → MayClaim p v x cause old → slice_index s.words (x + 2) ≡ old → target_of p h.events x ≡ None
  was-unclaimed x cause old may hit = let here : word_at (heap_after p h.events) (x + 2) ≡ old = sym (word-is p s h id v at (x + 2)) ∙ hit in
      waits-for-claim p h.events h.trace x may.held (λ e. may.other (ap number_in (sym here) ∙ e)) (ap (is_old_word (base_after_trace p)) here ∙ may.young)

  -- where no block is seen to be Free, each that was is taken
  pub none-free : SawNoneFree p v → (b : ℕ) → HasKind p.before b kinds.Free → 0 < m.taken b
  none-free saw b free = let both = and_parts (nat_lt b (blocks p)) (nat_eq (block_word p.before b % 256) 0) free in
      (h.shares id v at).busy b (saw b (ltb-true b (blocks p) both.0)) free

module _ (p : Setup) where
  -- the exchange of a collector word claims an object that stays, or shows its target
  pub claim-here : (slots id : ℕ) (me : SeatShare) (x : ℕ) (cause : ClaimCause) (old : ℕ) → MayClaim p me.0 x cause old → (IsTrue (may_be_moved p x) → LacksRoom p me.0 x)
      → Allows (KeepsTrace p) slots id me (x + 2) (λ n. either (n == old) (collector_word (collection p) x) n) (ClaimsHere p x cause old me)
  claim-here slots id me x cause old may stays s h _ at _ =
      let n : ℕ = slice_index s.words (x + 2) in
      exchanged n old (collector_word (collection p) x) (λ r. (w : Share) × (a : Act (Unit {0})) × Valid s.homes me.1 a × KeepsTrace p (stepped s (x + 2) r id me.1 w a) × ClaimsHere p x cause old me n (w, carried_after me.1 a))
      (λ hit.
      let free : target_of p h.events x ≡ None = was-unclaimed p s h id me.0 at may.live x cause old may hit in (
        claims_here p x cause me.0,
        keeps,
        tt,
        event-only p s h id me.0 at (x + 2) (collector_word (collection p) x) me.1 (claimed_view p x x cause (view_of me.0)) (Claim x x cause) (claimed_view p x x cause (pooled s.views))
            may.live refl refl
            (may-stay p h.events x cause may.held free (asked-by p s h id me.0 at x cause may.asks) (λ moves. none-free p s h id me.0 at may.live (stays moves).none)) refl refl
            (holds-claimed p (machine_after p h.events) (pooled s.views) h.holds x x cause (unclaimed-stage ((machine_after p h.events).stage x) free))
            (like-claimed p x x cause (pooled s.views) (view_of me.0))
            (cond-true (nat_eq x x) (machine_after p h.events).owner _ (eq-eqb x x refl)) refl,
        ((λ e. refl), λ ne. absurd (ne hit)),
      ))
      (λ miss. (
        learns x (target_in n) me.0,
        keeps,
        tt,
        target-learnt p s h id me.0 at may.live (x + 2) n me.1 x (target_in n) refl (lost-target p s h id me.0 at may.live x cause old may miss),
        ((λ e. absurd (miss e)), λ ne. (lost-number p s h id me.0 at may.live x cause old may miss, refl)),
      ))

  -- a load of a collector word
  pub look-at-claim : (slots id : ℕ) (me : SeatShare) (x : ℕ) → 0 < me.0.parts → IsHeld p.before x → Allows (KeepsTrace p) slots id me (x + 2) (λ n. n) (ShowsClaim p x me)
  look-at-claim slots id me x live held s h _ at _ =
      let n : ℕ = slice_index s.words (x + 2) in
      let word : word_at (heap_after p h.events) (x + 2) ≡ n = sym (word-is p s h id me.0 at (x + 2)) in
      elim (cases_eq (number_in n) (collection p)) as (λ _. (w : Share) × (a : Act (Unit {0})) × Valid s.homes me.1 a × KeepsTrace p (stepped s (x + 2) n id me.1 w a) × ShowsClaim p x me n (w, carried_after me.1 a)) [
        | inl number ↦ (let is = seen p h.events h.trace x held (ap number_in word ∙ number) in (
          learns x (target_in n) me.0,
          keeps,
          tt,
          target-learnt p s h id me.0 at live (x + 2) n me.1 x (target_in n) refl (is.1 ∙ ap (λ k. Some (target_in k)) word),
          ((λ e. (is.0, refl)), (λ ne. absurd (ne number)), λ ne. absurd (ne number)),
        ))
        | inr other ↦ elim (cases_Bool (is_old_word (base_after_trace p) n)) as (λ _. (w : Share) × (a : Act (Unit {0})) × Valid s.homes me.1 a × KeepsTrace p (stepped s (x + 2) n id me.1 w a) × ShowsClaim p x me n (w, carried_after me.1 a)) [
          | inl old ↦ (let is : IsTrue (stays_old p x) = aged p h.events h.trace x held (λ e. other (ap number_in (sym word) ∙ e)) (ap (is_old_word (base_after_trace p)) word ∙ old) in (
            learns x x me.0,
            keeps,
            tt,
            target-learnt p s h id me.0 at live (x + 2) n me.1 x x refl (old-target p h.events h.trace x is),
            ((λ e. absurd (other e)), (λ ne. λ e. (is, refl)), λ ne. λ e. absurd (true≢false (sym old ∙ e))),
          ))
          | inr young ↦ (let free : target_of p h.events x ≡ None = waits-for-claim p h.events h.trace x held (λ e. other (ap number_in (sym word) ∙ e)) (ap (is_old_word (base_after_trace p)) word ∙ young) in (
            me.0,
            keeps,
            tt,
            nothing-seen p s h id me.0 at (x + 2) n me.1 refl,
            ((λ e. absurd (other e)), (λ ne. λ e. absurd (true≢false (sym e ∙ young))), λ ne. λ e. (sym word ∙ unclaimed p h.events h.trace x held free, refl)),
          ))
        ]
      ]

  -- a load of a word of unlog bits
  pub look-at-bit : (slots id : ℕ) (me : SeatShare) (x : ℕ) → 0 < me.0.parts → IsHeld p.before x → Allows (KeepsTrace p) slots id me (bit_word (blocks p) UnlogBits x) (λ n. n) (ShowsBit p x me)
  look-at-bit slots id me x live held s h _ at _ =
      let i : ℕ = bit_word (blocks p) UnlogBits x in let n : ℕ = slice_index s.words i in
      elim (cases_eq (bit_at n (bit_place (blocks p) x)) 1) as (λ _. (w : Share) × (a : Act (Unit {0})) × Valid s.homes me.1 a × KeepsTrace p (stepped s i n id me.1 w a) × ShowsBit p x me n (w, carried_after me.1 a)) [
        | inl one ↦ (let bit : is_unlogged (heap_after p h.events) x ≡ true = address_bit-at_address (blocks p) UnlogBits (machine_after p h.events).words x held.address
            ∙ ap (λ w. nat_eq (bit_at w (bit_place (blocks p) x)) 1) (sym (word-is p s h id me.0 at i)) ∙ eq-eqb (bit_at n (bit_place (blocks p) x)) 1 one in (
              learns x x me.0,
              keeps,
              tt,
              target-learnt p s h id me.0 at live i n me.1 x x refl (marked p h.events h.trace x held bit),
              ((λ e. refl), λ ne. absurd (ne one)),
            ))
        | inr other ↦ (
          me.0,
          keeps,
          tt,
          nothing-seen p s h id me.0 at i n me.1 refl,
          ((λ e. absurd (other e)), λ ne. refl),
        )
      ]
