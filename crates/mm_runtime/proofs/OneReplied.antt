-- What one more reply changes: the number of replies, and the entries that have them.
use Rattle.std.proofs.Common.{◌≡◌, ◌≢◌, refl, sym, ◌∙◌, ap, subst, ℕ, zero, suc, ◌+◌, ◌<◌, ◌≤◌, inl, inr, arith, List, [], ◌∷◌, ◌++◌, length, map, take, get_or, append-nil, Some, None}
use Rattle.std.specs.Prelude.{All, slice_get, sum_by, option_map}
use Rattle.std.specs.List.{AllByRecursion}
use Rattle.std.proofs.lemmas.Bool.{cases_eq, ne_eqb}
use Rattle.std.proofs.lemmas.Option.{slice_get-map, slice_get_within, get_or_from_slice_get}
use Rattle.std.proofs.lemmas.List.{length-map, length-append, map-append, take_more}
use Rattle.std.proofs.lemmas.List.Sums.{sum_by-cons}
use Rattle.ideal_heap.specs.declared.command.Command.{Command}
use Rattle.ideal_heap.specs.declared.reply.Reply.{Reply}
use Rattle.ideal_heap.specs.Commands.{IsValid}
use Rattle.ideal_heap.specs.Runs.{Entry, entry, IsMutator, of_mutator, commands_of, replies_of}
use Rattle.ideal_heap.proofs.OrderLemmas.{of_mutator-append, of_mutator-own, commands_of-own}
use Rattle.block_regions.proofs.Lists.{get-below, one-element}
use Rattle.mm_runtime.specs.declared.progress.Progress.{Progress}
use Rattle.mm_runtime.specs.Managers.{next_in_trace, traces_of, replied, IsProgress, HasReplies}
use Rattle.mm_runtime.specs.Stops.{RepliesAt}
use Rattle.managed_heap.proofs.Users.{same-list}

-- a sum of which one part grows
pub sum-at : {X : Type 0} (f : X → ℕ) (xs ys : List X) (k : ℕ) (x y : X) (n : ℕ) → length ys ≡ length xs → slice_get xs k ≡ Some x → slice_get ys k ≡ Some y
    → ((j : ℕ) → j ≢ k → slice_get ys j ≡ slice_get xs j) → f y ≡ f x + n → sum_by f ys ≡ sum_by f xs + n
sum-at f [] ys k x y n len was is others grows = let wrong : None ≡ Some x = was in cc
sum-at f (x' ∷ xs) [] k x y n len was is others grows = let wrong : None ≡ Some y = is in cc
sum-at f (x' ∷ xs) (y' ∷ ys) zero x y n len was is others grows =
    let old : x' ≡ x = one-element (Some x') x' x refl was in
    let new : y' ≡ y = one-element (Some y') y' y refl is in
    let rest : ys ≡ xs = same-list ys xs (λ j. others (suc j) (λ e. omega arith)) in
    let tail : sum_by f ys ≡ sum_by f xs = ap (sum_by f) rest in
    let front : f y' ≡ f x' + n = ap f new ∙ grows ∙ ap (λ z. f z + n) (sym old) in
    let left = sum_by-cons f y' ys in
    let right = sum_by-cons f x' xs in
    omega arith
sum-at f (x' ∷ xs) (y' ∷ ys) (suc k) x y n len was is others grows =
    let front : f y' ≡ f x' = ap f (one-element (Some y') y' x' refl (others 0 (λ e. omega arith))) in
    let tail : sum_by f ys ≡ sum_by f xs + n = sum-at f xs ys k x y n (let many : suc (length ys) ≡ suc (length xs) = len in omega arith) was is
    (λ j other. others (suc j) (λ e. other (omega arith))) grows in
    let left = sum_by-cons f y' ys in
    let right = sum_by-cons f x' xs in
    omega arith

all-append : {X : Type 0} (P : X → Type 0) (xs ys : List X) → AllByRecursion P xs → AllByRecursion P ys → AllByRecursion P (xs ++ ys)
all-append P [] ys all more = more
all-append P (x ∷ xs) ys all more = (all.0, all-append P xs ys all.1 more)

of_mutator-other : (m : ℕ) (es : List Entry) (e : Entry) → e.mutator ≢ m → of_mutator m (es ++ e ∷ []) ≡ of_mutator m es
of_mutator-other m es e other = of_mutator-append m es (e ∷ []) ∙ ap (λ l. of_mutator m es ++ l) (rw (ne_eqb e.mutator m other) refl) ∙ append-nil (of_mutator m es)

module _ (old new : List Progress) (k : ℕ) (reply : Reply) (at : RepliesAt old new k reply) where
  pub count-more : length at.after.replies.items ≡ length at.before.replies.items + 1
  count-more = ap length at.replies ∙ length-append at.before.replies.items (reply ∷ [])

  pub replied-more : replied new ≡ replied old + 1
  replied-more = sum-at (λ p. length p.replies.items) old new k at.before at.after 1 at.count at.was at.is at.others count-more

  pub traces-same : traces_of new ≡ traces_of old
  traces-same = same-list (traces_of new) (traces_of old) (λ j. slice_get-map (λ (p : Progress). p.trace) new j ∙ each j ∙ sym (slice_get-map (λ (p : Progress). p.trace) old j))
    where
      each : (j : ℕ) → option_map (λ (p : Progress). p.trace) (slice_get new j) ≡ option_map (λ (p : Progress). p.trace) (slice_get old j)
      each j = elim (cases_eq j k) as (λ _. option_map (λ (p : Progress). p.trace) (slice_get new j) ≡ option_map (λ (p : Progress). p.trace) (slice_get old j)) [
        | inl e ↦ subst (λ (q : ℕ). option_map (λ (p : Progress). p.trace) (slice_get new q) ≡ option_map (λ (p : Progress). p.trace) (slice_get old q)) (sym e)
            (ap (option_map (λ (p : Progress). p.trace)) at.is ∙ ap Some at.trace ∙ sym (ap (option_map (λ (p : Progress). p.trace)) at.was))
        | inr other ↦ ap (option_map (λ (p : Progress). p.trace)) (at.others j other)
      ]

  -- what holds of the mutator's progress, and of that of the others
  pub progress-each : (Q : ℕ → Progress → Type 0) → Q k at.after → ((j : ℕ) (p : Progress) → j ≢ k → slice_get old j ≡ Some p → Q j p) → (j : ℕ) (p : Progress) → slice_get new j ≡ Some p → Q j p
  progress-each Q own rest j p is = elim (cases_eq j k) as (λ _. Q j p) [
    | inl e ↦ subst (λ (q : ℕ). Q q p) (sym e) (subst (Q k) (one-element (slice_get new k) at.after p at.is (ap (slice_get new) (sym e) ∙ is)) own)
    | inr other ↦ rest j p other (sym (at.others j other) ∙ is)
  ]

  pub is-progress : ((j : ℕ) (p : Progress) → slice_get old j ≡ Some p → IsProgress p) → length at.before.replies.items < length at.before.trace
      → (j : ℕ) (p : Progress) → slice_get new j ≡ Some p → IsProgress p
  is-progress each within = progress-each (λ j p. IsProgress p) own (λ j p other is. each j p is)
    where
      own : IsProgress at.after
      own =
          let was : IsProgress at.before = each k at.before at.was in
          let trace : length at.after.trace ≡ length at.before.trace = ap length at.trace in
          let more : length at.after.replies.items ≡ length at.before.replies.items + 1 = count-more in
          let few : length at.before.trace ≤ 1000000 = was.few in
          let room : length at.before.trace ≤ at.before.replies.capacity = was.room in
          let same : at.after.replies.capacity ≡ at.before.replies.capacity = at.capacity in
          record {
            valid = subst (All IsValid) (sym at.trace) was.valid;
            few = omega arith;
            within = omega arith;
            room = omega arith;
          }

  -- the entries with one more, for the command that was next
  pub has-replies : (done : List Entry) (command : Command) → HasReplies old done → next_in_trace at.before ≡ Some command → HasReplies new (done ++ entry (k + 1) command reply ∷ [])
  has-replies done command has next = record {
    mutators = subst (λ ts. AllByRecursion (λ e. IsMutator ts e.mutator) (done ++ e ∷ [])) (sym traces-same)
        (all-append (λ x. IsMutator (traces_of old) x.mutator) done (e ∷ []) has.mutators (one, tt));
    commands = progress-each (λ j p. commands_of (j + 1) (done ++ e ∷ []) ≡ take (length p.replies.items) p.trace) own-commands
        (λ j p other is. ap (λ l. map (λ x. x.command) l) (of_mutator-other (j + 1) done e (λ same. other (omega arith))) ∙ has.commands j p is);
    replies = progress-each (λ j p. replies_of (j + 1) (done ++ e ∷ []) ≡ p.replies.items) own-replies
        (λ j p other is. ap (λ l. map (λ x. x.reply) l) (of_mutator-other (j + 1) done e (λ same. other (omega arith))) ∙ has.replies j p is);
  }
    where
      e : Entry
      e = entry (k + 1) command reply

      one : IsMutator (traces_of old) (k + 1)
      one = (omega arith, (let below : k < length old = get-below old k at.before at.was in let many : length (traces_of old) ≡ length old = length-map old (λ (p : Progress). p.trace) in omega arith))

      read : get_or at.before.trace (length at.before.replies.items) command ≡ command
      read = get_or_from_slice_get at.before.trace (length at.before.replies.items) command command next

      own-commands : commands_of (k + 1) (done ++ e ∷ []) ≡ take (length at.after.replies.items) at.after.trace
      own-commands = commands_of-own (k + 1) done e refl ∙ ap (λ l. l ++ command ∷ []) (has.commands k at.before at.was)
          ∙ ap (λ x. take (length at.before.replies.items) at.before.trace ++ x ∷ []) (sym read)
          ∙ sym (take_more at.before.trace (length at.before.replies.items) command (slice_get_within at.before.trace (length at.before.replies.items) command next))
          ∙ ap (λ n. take n at.before.trace) (sym count-more) ∙ ap (take (length at.after.replies.items)) (sym at.trace)

      own-replies : replies_of (k + 1) (done ++ e ∷ []) ≡ at.after.replies.items
      own-replies = ap (λ l. map (λ x. x.reply) l) (of_mutator-own (k + 1) done e refl) ∙ map-append (λ x. x.reply) (of_mutator (k + 1) done) (e ∷ [])
          ∙ ap (λ l. l ++ reply ∷ []) (has.replies k at.before at.was) ∙ sym at.replies
