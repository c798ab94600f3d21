-- One more entry, with the reply `ok`, of each of some mutators.
use Rattle.std.proofs.Common.{◌≡◌, ◌≢◌, refl, sym, ◌∙◌, ap, subst, ℕ, zero, suc, ◌+◌, ◌<◌, ◌≤◌, inl, inr, arith, Bool, true, false, cond, List, [], ◌∷◌, ◌++◌, length, map, filter, take, get_or, append-nil, nat_eq}
use Rattle.std.specs.Prelude.{slice_get, Some}
use Rattle.std.specs.List.{AllByRecursion, range_with_len}
use Rattle.std.proofs.lemmas.Bool.Decides.{eqb_tells}
use Rattle.std.proofs.lemmas.List.{length-map, length-append, map-append, take_more}
use Rattle.std.proofs.lemmas.Option.{get_or_from_slice_get}
use Rattle.ideal_heap.specs.declared.command.Command.{Command}
use Rattle.ideal_heap.specs.declared.reply.Reply.TheVariants as r
use Rattle.ideal_heap.specs.Runs.{Entry, of_mutator, commands_of, replies_of, IsMutator}
use Rattle.ideal_heap.proofs.OrderLemmas.{of_mutator-append}
use Rattle.object_model.proofs.Among.{all-to}
use Rattle.sessions.specs.Sessions.{all_done}
use Rattle.mutator_core.proofs.Lists.{all-append}
use Rattle.block_regions.proofs.Lists.{get-below}
use Rattle.mm_runtime.specs.declared.progress.Progress.{Progress}
use Rattle.mm_runtime.specs.Managers.{next_in_trace, traces_of, HasReplies}
use Rattle.mm_runtime.specs.Replying.{GetsOkIf, RepliesBelow}
use Rattle.mm_runtime.proofs.OkSteps.{back}

module _ (asked : Command) where
  abbrev ok : ℕ → Entry
  ok m = record { mutator = m; command = asked; reply = r.Done }

  -- the entries of one mutator among those of the mutators that a test picks

  skipped : (b : Bool) (a m : ℕ) (ms : List ℕ) → nat_eq a m ≡ false → of_mutator m (all_done asked (cond b (a ∷ ms) ms)) ≡ of_mutator m (all_done asked ms)
  skipped true a m ms not = rw not refl
  skipped false a m ms not = refl

  here : (b : Bool) (m : ℕ) (ms : List ℕ) → nat_eq m m ≡ true → of_mutator m (all_done asked ms) ≡ []
      → of_mutator m (all_done asked (cond b (m ∷ ms) ms)) ≡ cond b (ok m ∷ []) []
  here true m ms same none = rw same (ap (λ es. ok m ∷ es) none)
  here false m ms same none = none

  module _ (pick : ℕ → Bool) where
    none-before : (a n m : ℕ) → m < a → of_mutator m (all_done asked (filter pick (range_with_len a n))) ≡ []
    none-before a zero m low = refl
    none-before a (suc n) m low = elim (eqb_tells a m) as (λ _. of_mutator m (all_done asked (filter pick (range_with_len a (suc n)))) ≡ []) [
      | inl same ↦ (let is : a ≡ m = same.1 in absurd (omega arith))
      | inr differ ↦ skipped (pick a) a m (filter pick (range_with_len (a + 1) n)) differ.0 ∙ none-before (a + 1) n m (omega arith)
    ]

    pub one-picked : (a n m : ℕ) → a ≤ m → m < a + n → of_mutator m (all_done asked (filter pick (range_with_len a n))) ≡ cond (pick m) (ok m ∷ []) []
    one-picked a zero m low high = absurd (omega arith)
    one-picked a (suc n) m low high = elim (eqb_tells a m) as (λ _. of_mutator m (all_done asked (filter pick (range_with_len a (suc n)))) ≡ cond (pick m) (ok m ∷ []) []) [
      | inl same ↦ subst (λ k. of_mutator m (all_done asked (cond (pick k) (k ∷ filter pick (range_with_len (a + 1) n)) (filter pick (range_with_len (a + 1) n)))) ≡ cond (pick m) (ok m ∷ []) [])
          (sym same.1) (here (pick m) m (filter pick (range_with_len (a + 1) n)) (subst (λ k. nat_eq k m ≡ true) same.1 same.0)
          (none-before (a + 1) n m (let is : a ≡ m = same.1 in omega arith)))
      | inr differ ↦ (
          let not : a ≢ m = differ.1 in
          skipped (pick a) a m (filter pick (range_with_len (a + 1) n)) differ.0 ∙ one-picked (a + 1) n m (omega arith) (omega arith)
          )
    ]

    more-in : (b : Bool) (a : ℕ) (ms : List ℕ) (P : Entry → Type 0) → P (ok a) → AllByRecursion P (all_done asked ms) → AllByRecursion P (all_done asked (cond b (a ∷ ms) ms))
    more-in true a ms P one all = (one, all)
    more-in false a ms P one all = all

    -- all are of mutators of the range
    pub all-picked : (P : Entry → Type 0) (a n : ℕ) → ((m : ℕ) → a ≤ m → m < a + n → P (ok m)) → AllByRecursion P (all_done asked (filter pick (range_with_len a n)))
    all-picked P a zero each = tt
    all-picked P a (suc n) each = more-in (pick a) a (filter pick (range_with_len (a + 1) n)) P (each a (omega arith) (omega arith))
        (all-picked P (a + 1) n (λ m low high. each m (omega arith) (omega arith)))

  -- if a mutator has an entry, the list is not empty
  pub some-of : (ms : List ℕ) (m : ℕ) → of_mutator m (all_done asked ms) ≡ ok m ∷ [] → (x : ℕ) × (xs : List ℕ) × (ms ≡ x ∷ xs)
  some-of [] m is = let wrong : [] ≡ ok m ∷ [] = is in cc
  some-of (x ∷ xs) m is = (x, xs, refl)

  -- the commands and replies of one mutator

  own-commands : (b : Bool) (m : ℕ) (p after : Progress) → GetsOkIf b p after → (b ≡ true → next_in_trace p ≡ Some asked)
      → take (length p.replies.items) p.trace ++ map (λ e. e.command) (cond b (ok m ∷ []) []) ≡ take (length after.replies.items) after.trace
  own-commands true m p after gets next =
      let more : length after.replies.items ≡ length p.replies.items + 1 = ap length gets.replies ∙ length-append p.replies.items (r.Done ∷ []) in
      let inside : length p.replies.items < length p.trace = get-below p.trace (length p.replies.items) asked (next refl) in
      let last : get_or p.trace (length p.replies.items) asked ≡ asked = get_or_from_slice_get p.trace (length p.replies.items) asked asked (next refl) in
      sym (ap (λ x. take (length p.replies.items) p.trace ++ x ∷ []) last) ∙ sym (take_more p.trace (length p.replies.items) asked inside)
      ∙ ap (λ n. take n p.trace) (sym more) ∙ ap (take (length after.replies.items)) (sym gets.trace)
  own-commands false m p after same next =
      append-nil (take (length p.replies.items) p.trace) ∙ ap (λ (x : Progress). take (length x.replies.items) x.trace) (sym same)

  own-replies : (b : Bool) (m : ℕ) (p after : Progress) → GetsOkIf b p after → p.replies.items ++ map (λ e. e.reply) (cond b (ok m ∷ []) []) ≡ after.replies.items
  own-replies true m p after gets = sym gets.replies
  own-replies false m p after same = append-nil p.replies.items ∙ ap (λ (x : Progress). x.replies.items) (sym same)

  module _ (chosen : ℕ → Bool) (old new : List Progress) (so : RepliesBelow chosen (length old) old new) (pick : ℕ → Bool)
      (agree : (k : ℕ) → k < length old → pick (k + 1) ≡ chosen k) (next : (k : ℕ) (p : Progress) → slice_get old k ≡ Some p → chosen k ≡ true → next_in_trace p ≡ Some asked) where
    abbrev pub picked : List Entry
    picked = all_done asked (filter pick (range_with_len 1 (length old)))

    -- the entries of the mutator at place k
    pub of-picked : (k : ℕ) → k < length old → of_mutator (k + 1) picked ≡ cond (chosen k) (ok (k + 1) ∷ []) []
    of-picked k inside = one-picked pick 1 (length old) (k + 1) (omega arith) (omega arith) ∙ ap (λ b. cond b (ok (k + 1) ∷ []) []) (agree k inside)

    pub now-replies : (done : List Entry) → HasReplies old done → HasReplies new (done ++ picked)
    now-replies done has =
        let few : length (traces_of new) ≡ length old = length-map new (λ p. p.trace) ∙ so.count in
        let before : length (traces_of old) ≡ length old = length-map old (λ p. p.trace) in
        record {
          mutators = all-append (λ e. IsMutator (traces_of new) e.mutator) done picked
              (all-to (λ e. IsMutator (traces_of old) e.mutator) (λ e. IsMutator (traces_of new) e.mutator)
              (λ e is. (is.0, let most : e.mutator ≤ length (traces_of old) = is.1 in omega arith)) done has.mutators)
              (all-picked pick (λ e. IsMutator (traces_of new) e.mutator) 1 (length old) (λ m low high. (low, omega arith)));
          commands = λ k after is. let at = back chosen old new so k after is in
              ap (map (λ e. e.command)) (of_mutator-append (k + 1) done picked) ∙ map-append (λ e. e.command) (of_mutator (k + 1) done) (of_mutator (k + 1) picked)
              ∙ ap (λ es. commands_of (k + 1) done ++ map (λ e. e.command) es) (of-picked k at.1)
              ∙ ap (λ cs. cs ++ map (λ e. e.command) (cond (chosen k) (ok (k + 1) ∷ []) [])) (has.commands k at.0 at.2)
              ∙ own-commands (chosen k) (k + 1) at.0 after at.3 (next k at.0 at.2);
          replies = λ k after is. let at = back chosen old new so k after is in
              ap (map (λ e. e.reply)) (of_mutator-append (k + 1) done picked) ∙ map-append (λ e. e.reply) (of_mutator (k + 1) done) (of_mutator (k + 1) picked)
              ∙ ap (λ es. replies_of (k + 1) done ++ map (λ e. e.reply) es) (of-picked k at.1)
              ∙ ap (λ rs. rs ++ map (λ e. e.reply) (cond (chosen k) (ok (k + 1) ∷ []) [])) (has.replies k at.0 at.2)
              ∙ own-replies (chosen k) (k + 1) at.0 after at.3;
        }
