-- A `meet` for each mutator of a range that passes a test, and the round after it.
use Rattle.std.proofs.Common.{◌≡◌, refl, ◌∙◌, ap, ℕ, zero, suc, ◌+◌, ◌*◌, ◌<◌, ◌≤◌, inl, inr, arith, Bool, true, false, cond, List, [], ◌∷◌, ◌++◌, length, map, filter, eq-eqb}
use Rattle.std.specs.List.{range_with_len}
use Rattle.std.proofs.lemmas.Bool.{cases_eq}
use Rattle.ideal_heap.specs.declared.command.Command.{Command}
use Rattle.ideal_heap.specs.declared.command.Command.TheVariants as c
use Rattle.ideal_heap.specs.declared.reply.Reply.TheVariants as r
use Rattle.ideal_heap.specs.Runs.{Entry, entry, of_mutator, commands_of, meets, level_after, RisesFrom, last_level, IsMutator, next_of}
use Rattle.ideal_heap.proofs.OrderLemmas.{rises-append}
use Rattle.sessions.specs.Sessions.{all_done, is_at_meet, is_waiting}
use Rattle.sessions.proofs.Levels.{meets-more, other-none, last_level-append, HasLeft, IsInRound, left-before, left-some, at_meet-left}

abbrev met_by : List ℕ → List Entry
met_by ms = all_done c.Meet ms

-- the levels of the entries rise from the least to at most the highest
abbrev AtMost : ℕ → List Entry → ℕ → List Entry → Type 0
AtMost least done most es = RisesFrom least done es × (last_level least done es ≤ most)

module _ (p : ℕ → Bool) where
  -- the mutators of a range that pass
  abbrev passing : ℕ → ℕ → List ℕ
  passing k n = filter p (range_with_len k n)

  -- a mutator before the range has no entry
  none-before : (m k n : ℕ) → m < k → of_mutator m (met_by (passing k n)) ≡ []
  none-before m k zero less = refl
  none-before m k (suc n) less = elim (p k) as (λ b. of_mutator m (met_by (cond b (k ∷ passing (k + 1) n) (passing (k + 1) n))) ≡ []) [
    | true ↦ other-none m (entry k c.Meet r.Done) (met_by (passing (k + 1) n)) (λ same. omega arith) ∙ none-before m (k + 1) n (omega arith)
    | false ↦ none-before m (k + 1) n (omega arith)
  ]

  -- one of the range that passes has one `meet`
  one-within : (m k n : ℕ) → k ≤ m → m < k + n → p m ≡ true → meets (commands_of m (met_by (passing k n))) ≡ 1
  one-within m k zero low high passes = absurd (omega arith)
  one-within m k (suc n) low high passes = elim (cases_eq k m) as (λ _. meets (commands_of m (met_by (passing k (suc n)))) ≡ 1) [
    | inl same ↦
        let now : p k ≡ true = ap p same ∙ passes in
        rw (now, eq-eqb k m same) (ap (λ l. 1 + meets (map (λ e. e.command) l)) (none-before m (k + 1) n (omega arith)))
    | inr differ ↦
        let later : meets (commands_of m (met_by (passing (k + 1) n))) ≡ 1 = one-within m (k + 1) n (omega arith) (omega arith) passes in
        elim (p k) as (λ b. meets (commands_of m (met_by (cond b (k ∷ passing (k + 1) n) (passing (k + 1) n)))) ≡ 1) [
          | true ↦ ap (λ l. meets (map (λ e. e.command) l)) (other-none m (entry k c.Meet r.Done) (met_by (passing (k + 1) n)) differ) ∙ later
          | false ↦ later
        ]
  ]

  -- if each of them has passed j `meet`s, their levels are 2j + 1
  levels : (j k n least : ℕ) (done : List Entry) → least ≤ 2 * j + 1 → ((m : ℕ) → k ≤ m → m < k + n → p m ≡ true → meets (commands_of m done) ≡ j)
      → AtMost least done (2 * j + 1) (met_by (passing k n))
  levels j k zero least done low passed = (tt, low)
  levels j k (suc n) least done low passed = (elim (p k) as (λ b. p k ≡ b → AtMost least done (2 * j + 1) (met_by (cond b (k ∷ passing (k + 1) n) (passing (k + 1) n)))) [
    | true ↦ λ now.
        let e : Entry = entry k c.Meet r.Done in
        let at : meets (commands_of k done) ≡ j = passed k (omega arith) (omega arith) now in
        let level : level_after done k c.Meet ≡ 2 * j + 1 = ap (λ i. 2 * i + 1) at in
        let rest = levels j (k + 1) n (level_after done k c.Meet) (done ++ e ∷ []) (omega arith) (λ m more few passes.
        meets-more m done (e ∷ []) ∙ ap (λ l. meets (commands_of m done) + meets (map (λ x. x.command) l)) (other-none m e [] (λ same. omega arith))
        ∙ (let before : meets (commands_of m done) ≡ j = passed m (omega arith) (omega arith) passes in omega arith)) in
        ((omega arith, rest.0), rest.1)
    | false ↦ λ now. levels j (k + 1) n least done low (λ m more few passes. passed m (omega arith) (omega arith) passes)
  ]) refl

module _ (traces : List (List Command)) where
  abbrev at_meet : List Entry → ℕ → Bool
  at_meet done m = is_at_meet (next_of traces done m)

  -- Where each mutator is at `meet` or at its end, those at `meet` pass one more.
  pub next-round : (done : List Entry) (j : ℕ) → IsInRound traces done j → ((m : ℕ) → IsMutator traces m → is_waiting (next_of traces done m) ≡ true)
      → IsInRound traces (done ++ met_by (filter (λ m. is_at_meet (next_of traces done m)) (range_with_len 1 (length traces)))) (j + 1)
  next-round done j round waiting =
      let ms : List Entry = met_by (passing (at_meet done) 1 (length traces)) in
      let low : last_level 0 [] done ≤ 2 * j = round.level in
      let both = levels (at_meet done) j 1 (length traces) (last_level 0 [] done) done (omega arith)
      (λ m least most passes. round.passed m (least, omega arith) (left-some traces m done (next_of traces done m) refl passes)) in
      record {
        passed = λ m is left.
            let behind : HasLeft traces done m = left-before traces m done ms left in
            let at : at_meet done m ≡ true = at_meet-left traces m done (next_of traces done m) refl behind (waiting m is) in
            let before : meets (commands_of m done) ≡ j = round.passed m is behind in
            let one : meets (commands_of m ms) ≡ 1 = one-within (at_meet done) m 1 (length traces) is.0 (let most : m ≤ length traces = is.1 in omega arith) at in
            let more : meets (commands_of m (done ++ ms)) ≡ meets (commands_of m done) + meets (commands_of m ms) = meets-more m done ms in
            omega arith;
        level =
            (let same : last_level 0 [] (done ++ ms) ≡ last_level (last_level 0 [] done) done ms = last_level-append 0 [] done ms in
            let high : last_level (last_level 0 [] done) done ms ≤ 2 * j + 1 = both.1 in
            omega arith);
        rises = rises-append 0 [] done ms round.rises both.0;
      }
