-- Replies `ok` to some of the mutators, one after another.
use Rattle.std.proofs.Common.{◌≡◌, refl, sym, ◌∙◌, ap, subst, ℕ, ◌+◌, ◌<◌, ◌≢◌, ◌⊎◌, inl, inr, arith, Bool, true, false, List, length, set}
use Rattle.std.specs.Prelude.{slice_get, Option, Some, None}
use Rattle.std.proofs.lemmas.Bool.{cases_eq}
use Rattle.std.proofs.lemmas.List.{length-set}
use Rattle.std.proofs.lemmas.Option.{slice_get_cases}
use Rattle.block_regions.proofs.Lists.{get-some, get-below, one-element}
use Rattle.block_regions.proofs.Elements.{set-here, set-other}
use Rattle.mm_runtime.specs.declared.progress.Progress.{Progress}
use Rattle.ideal_heap.specs.declared.command.Command.{Command}
use Rattle.sessions.specs.Sessions.{is_at_gc}
use Rattle.mm_runtime.specs.declared.progress.PartEnd.{PartEnd}
use Rattle.mm_runtime.specs.declared.progress.PartEnd.TheVariants as end
use Rattle.mm_runtime.specs.Parts.{cause_of}
use Rattle.mm_runtime.specs.Managers.{next_in_trace}
use Rattle.mm_runtime.specs.Replying.{GetsOk, GetsOkIf, RepliesBelow}

-- below or at a place
pub at-most : (k i : ℕ) → k < i + 1 → (k < i) ⊎ (k ≡ i)
at-most k i less = elim (cases_eq k i) as (λ _. (k < i) ⊎ (k ≡ i)) [
  | inl same ↦ inr same
  | inr differ ↦ inl (omega arith)
]

module _ (chosen : ℕ → Bool) (old : List Progress) where
  pub one-passed : (i : ℕ) (now : List Progress) → RepliesBelow chosen i old now → chosen i ≡ false → RepliesBelow chosen (i + 1) old now
  one-passed i now so not = record {
    count = so.count;
    below = λ k p less is. elim (at-most k i less) as (λ _. (after : Progress) × (slice_get now k ≡ Some after) × GetsOkIf (chosen k) p after) [
      | inl under ↦ so.below k p under is
      | inr same ↦ (p, so.above k (omega arith) ∙ is, subst (λ b. GetsOkIf b p p) (sym (ap chosen same ∙ not)) refl)
    ];
    above = λ k least. so.above k (omega arith);
  }

  pub one-replied : (i : ℕ) (now : List Progress) (before after : Progress) → RepliesBelow chosen i old now → slice_get old i ≡ Some before
      → chosen i ≡ true → GetsOk before after → RepliesBelow chosen (i + 1) old (set now i after)
  one-replied i now before after so is chosen_is gets =
      let inside : i < length old = get-below old i before is in
      let many : length now ≡ length old = so.count in
      record {
        count = length-set now i after ∙ so.count;
        below = λ k p less at. elim (at-most k i less) as (λ _. (x : Progress) × (slice_get (set now i after) k ≡ Some x) × GetsOkIf (chosen k) p x) [
          | inl under ↦ (
              let rest = so.below k p under at in
              let differ : k ≢ i = omega arith in
              (rest.0, set-other now i after k differ ∙ rest.1, rest.2)
              )
          | inr same ↦ (
              let p_is : before ≡ p = one-element (slice_get old i) before p is (ap (slice_get old) (sym same) ∙ at) in
              let here : slice_get (set now i after) i ≡ Some after = set-here now i after (omega arith) in
              (after, ap (slice_get (set now i after)) same ∙ here, subst (λ b. GetsOkIf b p after) (sym (ap chosen same ∙ chosen_is)) (subst (λ x. GetsOk x after) p_is gets))
              )
        ];
        above = λ k least. let differ : k ≢ i = omega arith in set-other now i after k differ ∙ so.above k (omega arith);
      }

-- the mutator at place k, before and after
pub back : (chosen : ℕ → Bool) (old new : List Progress) → RepliesBelow chosen (length old) old new → (k : ℕ) (after : Progress) → slice_get new k ≡ Some after
    → (p : Progress) × (k < length old) × (slice_get old k ≡ Some p) × GetsOkIf (chosen k) p after
back chosen old new so k after is =
    let below : k < length new = get-below new k after is in
    let many : length new ≡ length old = so.count in
    let inside : k < length old = omega arith in
    let was = get-some old k inside in
    let then = so.below k was.0 inside was.1 in
    (was.0, inside, was.1, subst (GetsOkIf (chosen k) was.0) (one-element (slice_get new k) then.0 after then.1 is) then.2)

-- a part that did not end at `gc`
pub not-gc : (o : Option PartEnd) → o ≢ Some end.Gc → is_at_gc (cause_of o) ≡ false
not-gc None other = refl
not-gc (Some end.Gc) other = absurd (other refl)
not-gc (Some end.Meet) other = refl
not-gc (Some end.Trace) other = refl
not-gc (Some (end.Need need)) other = refl
not-gc (Some (end.Raised by)) other = refl

-- where a command is next, there is one reply less than commands
pub has-next : (p : Progress) (command : Command) → next_in_trace p ≡ Some command → length p.replies.items < length p.trace
has-next p command next = get-below p.trace (length p.replies.items) command next

abbrev pub is-gc : Option PartEnd → Bool
is-gc o = is_at_gc (cause_of o)

-- a mutator that is not chosen is unchanged
pub unchosen : (chosen : ℕ → Bool) (old new : List Progress) → RepliesBelow chosen (length old) old new → (k : ℕ) → chosen k ≡ false → slice_get new k ≡ slice_get old k
unchosen chosen old new so k not = elim (slice_get_cases old k).1 as (λ _. slice_get new k ≡ slice_get old k) [
  | inl some ↦ (
      let then = so.below k some.0 some.1 some.2 in
      let same : then.0 ≡ some.0 = subst (λ b. GetsOkIf b some.0 then.0) not then.2 in
      then.1 ∙ ap Some same ∙ sym some.2
      )
  | inr past ↦ so.above k past.0
]
