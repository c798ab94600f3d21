-- Seats that take notes of the blocks, one block and one seat after another.
use Rattle.std.proofs.Common.{◌≡◌, ◌≢◌, ◌∙◌, refl, sym, ap, subst, ℕ, zero, suc, ◌+◌, ◌<◌, ◌≤◌, inl, inr, arith, List, [], ◌∷◌, length, get_or, get_or-set_other, length-set}
use Rattle.std.specs.Prelude.{slice_set}
use Rattle.std.proofs.lemmas.Bool.{cases_eq}
use Rattle.std.proofs.lemmas.List.{get_or-set_same, same_lists}
use mathlib.Core.Option.{some, some-injective}
use lib.ListN.{get_elem?}
use Rattle.block_regions.specs.declared.block_notes.BlockNote.{BlockNote}
use Rattle.mutator_rule.specs.declared.seat.MutatorSeat.{MutatorSeat}
use Rattle.mutator_rule.specs.declared.seat_notes.SeatNotes.{SeatNotes}
use Rattle.mutator_rule.specs.Seats.{KeepsKnown}
use Rattle.mutator_rule.proofs.Loops.{get-or-elem}
use Rattle.racing_world.specs.Closing.{IsSeatAt}
use Rattle.racing_world.specs.ClosingNotes.{TakesNotes, EachTakesNotes}
use Rattle.racing_world.proofs.Begun.{place-within}

-- the notes of the first n blocks are taken
pub record TakesBelow (notes : List BlockNote) (old now : MutatorSeat) (n : ℕ) : Type 0 where
  pub known_stays : KeepsKnown old now
  pub rest : now.notes ≡ record old.notes { blocks = now.notes.blocks }
  pub len : length now.notes.blocks.items ≡ length notes
  pub done : (k : ℕ) (d : BlockNote) → k < n → get_or now.notes.blocks.items k d ≡ get_or notes k d

pub takes-none : (notes : List BlockNote) (seat : MutatorSeat) → length seat.notes.blocks.items ≡ length notes → TakesBelow notes seat seat 0
takes-none notes seat len = record {
  known_stays = record { known_stays = refl; table = refl; registers = refl };
  rest = refl;
  len = len;
  done = λ k d below. absurd (omega arith);
}

pub takes-next : (notes : List BlockNote) (old now new : MutatorSeat) (n : ℕ) (note : BlockNote) → n < length notes → note ≡ get_or notes n note → KeepsKnown now new → new.notes ≡ record now.notes { blocks = new.notes.blocks }
    → new.notes.blocks.items ≡ slice_set now.notes.blocks.items n note → TakesBelow notes old now n → TakesBelow notes old new (n + 1)
takes-next notes old now new n note there reads keeps rest blocks is = record {
  known_stays = record {
    known_stays = keeps.known_stays ∙ is.known_stays.known_stays;
    table = keeps.table ∙ is.known_stays.table;
    registers = keeps.registers ∙ is.known_stays.registers;
  };
  rest = rest ∙ ap (λ (s : SeatNotes). record s { blocks = new.notes.blocks }) is.rest;
  len = ap (λ (xs : List BlockNote). length xs) blocks ∙ length-set now.notes.blocks.items n note ∙ is.len;
  done = λ k d below. ap (λ (xs : List BlockNote). get_or xs k d) blocks ∙ elim (cases_eq k n) as (λ _. get_or (slice_set now.notes.blocks.items n note) k d ≡ get_or notes k d) [
    | inl here ↦ subst (λ (j : ℕ). get_or (slice_set now.notes.blocks.items n note) j d ≡ get_or notes j d) (sym here)
        (get_or-set_same now.notes.blocks.items n note d (let l = is.len in omega arith) ∙ read-anyway notes n note d there reads)
    | inr away ↦ get_or-set_other now.notes.blocks.items n k note d (let a : k ≢ n = away in a) ∙ is.done k d (let a : k ≢ n = away in omega arith)
  ];
}
  where
    read-anyway : (xs : List BlockNote) (k : ℕ) (x d : BlockNote) → k < length xs → x ≡ get_or xs k x → x ≡ get_or xs k d
    read-anyway [] k x d below e = absurd (omega arith)
    read-anyway (y ∷ ys) zero x d below e = e
    read-anyway (y ∷ ys) (suc k) x d below e = read-anyway ys k x d (let b : suc k < suc (length ys) = below in omega arith) e

pub takes-all : (notes : List BlockNote) (old now : MutatorSeat) (n : ℕ) → length notes ≤ n → TakesBelow notes old now n → TakesNotes notes old now
takes-all notes old now n all is = record {
  known_stays = is.known_stays;
  rest = is.rest;
  blocks = same_lists now.notes.blocks.items notes is.len (λ k d below. is.done k d (let l = is.len in omega arith));
}

-- the first n seats took them
pub record EachTakesBelow (notes : List BlockNote) (old now : List MutatorSeat) (n : ℕ) : Type 0 where
  pub len : length now ≡ length old
  pub done : (k : ℕ) (a b : MutatorSeat) → k < n → IsSeatAt old k a → IsSeatAt now k b → TakesNotes notes a b
  pub left : (k : ℕ) → n ≤ k → get_elem? now k ≡ get_elem? old k

pub each-none : (notes : List BlockNote) (seats : List MutatorSeat) → EachTakesBelow notes seats seats 0
each-none notes seats = record {
  len = refl;
  done = λ k a b below at here. absurd (omega arith);
  left = λ k from. refl;
}

elem-set-here : (xs : List MutatorSeat) (k : ℕ) (x : MutatorSeat) → k < length xs → get_elem? (slice_set xs k x) k ≡ some x
elem-set-here [] k x below = absurd (omega arith)
elem-set-here (y ∷ ys) zero x below = refl
elem-set-here (y ∷ ys) (suc k) x below = elem-set-here ys k x (let b : suc k < suc (length ys) = below in omega arith)

elem-set-other : (xs : List MutatorSeat) (k : ℕ) (x : MutatorSeat) (j : ℕ) → j ≢ k → get_elem? (slice_set xs k x) j ≡ get_elem? xs j
elem-set-other [] k x j other = refl
elem-set-other (y ∷ ys) zero x zero other = absurd (other refl)
elem-set-other (y ∷ ys) zero x (suc j) other = refl
elem-set-other (y ∷ ys) (suc k) x zero other = refl
elem-set-other (y ∷ ys) (suc k) x (suc j) other = elem-set-other ys k x j (λ same. other (ap suc same))

pub each-next : (notes : List BlockNote) (old now : List MutatorSeat) (n : ℕ) (x y : MutatorSeat) → n < length now → x ≡ get_or now n x → TakesNotes notes x y → EachTakesBelow notes old now n → EachTakesBelow notes old (slice_set now n y) (n + 1)
each-next notes old now n x y below reads takes is = record {
  len = length-set now n y ∙ is.len;
  done = λ k a b less at here. elim (cases_eq k n) as (λ _. TakesNotes notes a b) [
    | inl same ↦ (let was : IsSeatAt old n x = sym (is.left n (omega arith)) ∙ get-or-elem now n x below reads in
        let is-a : x ≡ a = some-injective x a (sym was ∙ subst (λ (j : ℕ). IsSeatAt old j a) same at) in
        let is-b : y ≡ b = some-injective y b (sym (elem-set-here now n y below) ∙ subst (λ (j : ℕ). IsSeatAt (slice_set now n y) j b) same here) in
        subst (λ (z : MutatorSeat). TakesNotes notes z b) is-a (subst (λ (z : MutatorSeat). TakesNotes notes x z) is-b takes))
    | inr away ↦ (let other : k ≢ n = away in is.done k a b (omega arith) at (sym (elem-set-other now n y k other) ∙ here))
  ];
  left = λ k from. elem-set-other now n y k (λ same. omega arith) ∙ is.left k (omega arith);
}

pub each-all : (notes : List BlockNote) (old now : List MutatorSeat) (n : ℕ) → length now ≤ n → EachTakesBelow notes old now n → EachTakesNotes notes old now
each-all notes old now n all is = record {
  len = is.len;
  each = λ k a b at here. let below = place-within now k b here in is.done k a b (omega arith) at here;
}
