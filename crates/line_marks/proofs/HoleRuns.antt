-- Runs of clear bits in the line words of a block are holes of the block.
use Rattle.std.proofs.Common.{◌≡◌, sym, ◌∙◌, ap, subst, ℕ, zero, suc, ◌+◌, ◌*◌, ◌-◌, ◌/◌, ◌%◌, ◌<◌, ◌≤◌, inl, inr, max, arith, true, false, nat_eq, IsTrue, List, slice_index}
use Rattle.std.specs.Int.{bit_at}
use Rattle.heap_layout.specs.Zones.{first, LineWords}
use Rattle.std.proofs.lemmas.Bool.{cases_lt, cases_eq, cases_Bool, false_from_ne_true, true≢false}
use Rattle.object_model.specs.Objects.{HeapState, line_marked}
use Rattle.line_marks.specs.Bits.{bit_in, IsClearFrom, IsFirstClearRun}
use Rattle.line_marks.specs.LineHoles.{IsHoleFrom}

-- the line words of a block have its line bits
pub lines-read : (s : HeapState) (lines : List ℕ) (k line : ℕ) → ((n : ℕ) → n < 4 → slice_index lines n ≡ slice_index s.words (first s.blocks LineWords + 4 * k + n)) → line < 256
    → bit_in lines line ≡ line_marked s k line
lines-read s lines k line read below =
    let n : ℕ = line / 64 in
    let word : slice_index lines n ≡ slice_index s.words (first s.blocks LineWords + 4 * k + n) = read n (omega arith) in
    let place : first s.blocks LineWords + 4 * k + n ≡ first s.blocks LineWords + (256 * k + line) / 64 = omega arith in
    let bit : line % 64 ≡ (256 * k + line) % 64 = omega arith in
    ap (λ v. nat_eq (bit_at v (line % 64)) 1) (word ∙ ap (slice_index s.words) place) ∙ ap (λ i. nat_eq (bit_at (slice_index s.words (first s.blocks LineWords + (256 * k + line) / 64)) i) 1) bit

-- these words have the line bits of block k
module _ (s : HeapState) (k : ℕ) (lines : List ℕ) (read : (line : ℕ) → line < 256 → bit_in lines line ≡ line_marked s k line) where
  line-clear : (line : ℕ) → line < 256 → bit_in lines line ≡ false → IsTrue (line_marked s k line) → ⊥
  line-clear line below clear marked = true≢false (sym marked ∙ sym (read line below) ∙ clear)

  line-set : (line : ℕ) → line < 256 → bit_in lines line ≡ true → IsTrue (line_marked s k line)
  line-set line below set = sym (read line below) ∙ set

  clear-line : (line : ℕ) → line < 256 → (IsTrue (line_marked s k line) → ⊥) → bit_in lines line ≡ false
  clear-line line below clear = read line below ∙ false_from_ne_true (line_marked s k line) clear

  -- the run that contains a clear line has a first line
  run-start : (x : ℕ) → bit_in lines x ≡ false → (start : ℕ) × (start ≤ x) × ((m : ℕ) → start ≤ m → m ≤ x → bit_in lines m ≡ false) × (0 < start → bit_in lines (start - 1) ≡ true)
  run-start zero clear = (0, omega arith, (λ m from below. subst (λ (q : ℕ). bit_in lines q ≡ false) (let e : 0 ≡ m = omega arith in e) clear), (λ some. absurd (omega arith)))
  run-start (suc x) clear = elim (cases_Bool (bit_in lines x)) as (λ _. (start : ℕ) × (start ≤ suc x) × ((m : ℕ) → start ≤ m → m ≤ suc x → bit_in lines m ≡ false) × (0 < start → bit_in lines (start - 1) ≡ true)) [
    | inl set ↦ (suc x, omega arith, (λ m from below. subst (λ (q : ℕ). bit_in lines q ≡ false) (let e : suc x ≡ m = omega arith in e) clear), (λ some. subst (λ (q : ℕ). bit_in lines q ≡ true) (let e : x ≡ suc x - 1 = omega arith in e) set))
    | inr more ↦
        let before = run-start x more in
        (before.0, (let le = before.1 in omega arith), (λ m from below. elim (cases_eq m (suc x)) as (λ _. bit_in lines m ≡ false) [ inl e ↦ subst (λ (q : ℕ). bit_in lines q ≡ false) (sym e) clear | inr other ↦ before.2 m from (omega arith) ]), before.3)
  ]

  pub run-hole : (from needed x end : ℕ) → 1 ≤ needed → IsFirstClearRun lines from needed x end → IsHoleFrom s k from x (end - x)
  run-hole from needed x end some run =
      let room = run.room in
      let inside = run.inside in
      let here : bit_in lines x ≡ false = run.clear x (omega arith) (omega arith) in
      let start = run-start x here in
      let le : start.0 ≤ x = start.1 in
      let after = run.after in
      record {
        line = start.0;
        all = end - start.0;
        hole = record {
          some = omega arith;
          inside = omega arith;
          clear = λ line past below. line-clear line (omega arith)
              (elim (cases_lt x line) as (λ _. bit_in lines line ≡ false) [ inl more ↦ run.clear line (omega arith) (omega arith) | inr within ↦ start.2 line past within ]);
          before = λ more. line-set (start.0 - 1) (omega arith) (start.3 more);
          after = λ more. subst (λ (q : ℕ). IsTrue (line_marked s k q)) (let e : end ≡ start.0 + (end - start.0) = omega arith in e) (line-set end (omega arith) (run.ends (omega arith)));
        };
        starts = elim run.begins as (λ _. x ≡ max start.0 from) [
          | inl e ↦ omega arith
          | inr set ↦ (let same : start.0 ≡ x = elim (cases_eq start.0 x) as (λ _. start.0 ≡ x) [ inl e ↦ e | inr other ↦ absurd (let past = set.0 in true≢false (sym set.1 ∙ start.2 (x - 1) (omega arith) (omega arith))) ] in omega arith)
        ];
        ends = omega arith;
      }

  -- a part of a hole with enough lines begins with as many clear lines
  pub hole-clear : (from needed x len : ℕ) → IsHoleFrom s k from x len → needed ≤ len → (from ≤ x) × IsClearFrom lines x needed
  hole-clear from needed x len part room =
      let starts : x ≡ max part.line from = part.starts in
      let ends : x + len ≡ part.line + part.all = part.ends in
      let inside : part.line + part.all ≤ 256 = part.hole.inside in (
        omega arith,
        record {
          inside = omega arith;
          clear = λ m past below. clear-line m (omega arith) (part.hole.clear m (omega arith) (omega arith));
        },
      )

  -- the first run of clear bits is that of the first hole
  pub run-first : (from needed x end : ℕ) → IsFirstClearRun lines from needed x end → (y len : ℕ) → IsHoleFrom s k from y len → needed ≤ len → x ≤ y
  run-first from needed x end run y len part room = elim (cases_lt y x) as (λ _. x ≤ y) [
    | inl less ↦ absurd (let clear = hole-clear from needed y len part room in run.first y clear.0 less clear.1)
    | inr past ↦ past
  ]
