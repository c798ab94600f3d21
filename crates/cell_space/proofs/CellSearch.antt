-- The search for a free cell, a word of start bits at a time.
use Rattle.std.proofs.Common.{◌≡◌, refl, sym, ◌∙◌, ap, subst, ℕ, ◌+◌, ◌*◌, ◌-◌, ◌/◌, ◌%◌, ◌<◌, ◌≤◌, min, inl, inr, arith, mul-le-mul_right, Option, Some, None, MatchOption}
use Rattle.std.proofs.lemmas.Bool.{cases_lt}
use Rattle.std.proofs.lemmas.Grind.{div_ceil_times}
use Rattle.object_model.specs.Objects.{HeapState, class_at, cell_words}
use Rattle.sessions.specs.Fitting.{IsFreeCell}
use Rattle.cell_space.specs.FreeCells.{IsNextCell, HasNoCell}
use Rattle.cell_space.specs.WordCells.{IsBeside, IsFirstBeside, HasNoneBeside}

-- the cells from the one at offset `at` on are left: no free one begins between `from` and it
pub record IsSearched (s : HeapState) (k from size at : ℕ) : Type 0 where
  pub index : ℕ
  pub start : at ≡ index * size
  pub after : from ≤ at
  pub none : (x : ℕ) → from ≤ x → x < at → IsFreeCell s k x → ⊥

-- a multiple of the size that is no less than n is no less than the first such one
later-cell : (n size q index : ℕ) → q * size < n + size → n ≤ index * size → q * size ≤ index * size
later-cell n size q index first after = elim (cases_lt index q) as (λ _. q * size ≤ index * size) [
  | inr more ↦ mul-le-mul_right {m = q} {n = index} size more
  | inl less ↦ absurd (let times = mul-le-mul_right {m = index + 1} {n = q} size (omega arith) in let e : (index + 1) * size ≡ index * size + size = omega arith in omega (arith, times, e, first, after))
]

module _ (s : HeapState) (k from size : ℕ) (some : 4 ≤ size) (cells : size ≡ cell_words (class_at s k)) where
  cell-place : (x : ℕ) → (cell : IsFreeCell s k x) → x ≡ cell.index * size
  cell-place x cell = cell.start ∙ ap (λ w. cell.index * w) (sym cells)

  module _ (at : ℕ) (searched : IsSearched s k from size at) where
    abbrev next : ℕ
    next = 64 * (at / 64 + 1)

    -- a free cell from here on begins at an address of this word, or later
    beside : (x : ℕ) → at ≤ x → x < next → (cell : IsFreeCell s k x) → IsBeside s k size at x
    beside x past below cell =
        let place = cell-place x cell in
        let here : at ≡ searched.index * size = searched.start in
        let order : searched.index ≤ cell.index = (elim (cases_lt cell.index searched.index) as (λ _. searched.index ≤ cell.index) [
          | inr more ↦ more
          | inl less ↦ absurd (let times = mul-le-mul_right {m = cell.index + 1} {n = searched.index} size (omega arith) in let e : (cell.index + 1) * size ≡ cell.index * size + size = omega arith in omega (arith, times, e, place, here, past, some))
        ]) in
        let d : ℕ = cell.index - searched.index in
        let sum : (searched.index + d) * size ≡ searched.index * size + d * size = omega arith in
        let whole : cell.index * size ≡ (searched.index + d) * size = ap (λ i. i * size) (let e : cell.index ≡ searched.index + d = omega (arith, order) in e) in
        record {
          index = d;
          start = omega (arith, place, whole, sum, here);
          inside = below;
          free = cell.free;
        }

    pub searched-more : HasNoneBeside s k size at → IsSearched s k from size ((next / size + min 1 (next % size)) * size)
    searched-more none =
        let up = div_ceil_times next size (omega arith) in
        record {
          index = next / size + min 1 (next % size);
          start = refl;
          after = (let after = searched.after in omega (arith, after, up.0));
          none = λ x past before cell. elim (cases_lt x at) as (λ _. ⊥) [
            | inl less ↦ searched.none x past less cell
            | inr more ↦ elim (cases_lt x next) as (λ _. ⊥) [
              | inl here ↦ none x (beside x more here cell)
              | inr later ↦ (let place = cell-place x cell in
                  let least = later-cell next size (next / size + min 1 (next % size)) cell.index up.1 (omega (arith, place, later)) in omega (arith, least, place, before))
            ]
          ];
        }

    pub at-end : 4096 - size < at → size ≤ 2048 → HasNoCell s k from
    at-end past most x after cell = elim (cases_lt x at) as (λ _. ⊥) [
      | inl less ↦ searched.none x after less cell
      | inr more ↦ (let inside : x + cell_words (class_at s k) ≤ 4096 = cell.inside in omega (arith, inside, more, past, most, cells))
    ]

    module _ (found : ℕ) (is : IsFirstBeside s k size at found) where
      least : (x : ℕ) → from ≤ x → IsFreeCell s k x → found ≤ x
      least x after cell = elim (cases_lt x at) as (λ _. found ≤ x) [
        | inl less ↦ absurd (searched.none x after less cell)
        | inr more ↦ elim (cases_lt x next) as (λ _. found ≤ x) [
          | inl here ↦ is.first x (beside x more here cell)
          | inr later ↦ (let below : found < 64 * (at / 64 + 1) = is.found.inside in omega (arith, below, later))
        ]
      ]

      fitting-cell : found + size ≤ 4096 → IsNextCell s k from found
      fitting-cell room =
          let start : found ≡ at + is.found.index * size = is.found.start in
          let here : at ≡ searched.index * size = searched.start in
          let sum : (searched.index + is.found.index) * size ≡ searched.index * size + is.found.index * size = omega arith in
          let place : found ≡ (searched.index + is.found.index) * size = omega (arith, start, here, sum) in
          record {
            cell = record {
              index = searched.index + is.found.index;
              start = place ∙ ap (λ w. (searched.index + is.found.index) * w) cells;
              inside = omega (arith, room, cells);
              free = is.found.free;
            };
            after = (let after = searched.after in omega (arith, after, start));
            first = least;
          }

      pub found-cell : (o : Option ℕ) → MatchOption o (4096 < found + size) (λ x. (x ≡ found) × (x + size ≤ 4096))
          → MatchOption o (HasNoCell s k from) (IsNextCell s k from)
      found-cell None past = λ x after cell. (let inside : x + cell_words (class_at s k) ≤ 4096 = cell.inside in let more = least x after cell in omega (arith, inside, more, past, cells))
      found-cell (Some x) fits = subst (IsNextCell s k from) (sym fits.0) (fitting-cell (let room = fits.1 in let same = fits.0 in omega (arith, room, same)))
