-- Two steps, one after the other, of one mutator or of two.
use Rattle.std.proofs.Common.{◌≡◌, ◌≢◌, sym, ◌∙◌, ap, subst, ℕ, ◌<◌, arith, List, length, map, nat_eq}
use Rattle.std.specs.Prelude.{if◌then◌else◌}
use Rattle.std.specs.List.{Contains}
use Rattle.std.proofs.lemmas.Bool.{cond-true, cond-false, eq-eqb, ne_eqb}
use Rattle.std.proofs.lemmas.List.{get_or-map, length-map}
use Rattle.heap_layout.specs.Zones.{IsAddress}
use Rattle.object_model.specs.Objects.{HeapState}
use Rattle.object_model.specs.Graphs.{MutatorState, with_mutator}
use Rattle.object_model.specs.Changes.{ObjectsStay}

-- a mutator with another number is still in the list
pub other-stays : (ms : List MutatorState) (m k : MutatorState) → Contains ms k → k.number ≢ m.number → Contains (with_mutator ms m) k
other-stays ms m k among differ =
    let f : MutatorState → MutatorState = λ x. if nat_eq x.number m.number then m else x in
    let many : length (map f ms) ≡ length ms = length-map ms f in
    let there : among.0 < length ms = among.1 in
    (among.0, omega arith, get_or-map f ms among.0 k k among.1 ∙ ap f among.2 ∙ cond-false (nat_eq k.number m.number) m k (ne_eqb k.number m.number differ))

-- and the one that takes the place of its like is in it
pub new-there : (ms : List MutatorState) (m m' : MutatorState) → Contains ms m → m'.number ≡ m.number → Contains (with_mutator ms m') m'
new-there ms m m' among same =
    let f : MutatorState → MutatorState = λ x. if nat_eq x.number m'.number then m' else x in
    let many : length (map f ms) ≡ length ms = length-map ms f in
    let there : among.0 < length ms = among.1 in
    (among.0, omega arith, get_or-map f ms among.0 m m' among.1 ∙ ap f among.2 ∙ cond-true (nat_eq m.number m'.number) m' m (eq-eqb m.number m'.number (sym same)))

-- objects that stay, and stay again, stay
pub stay-on : (s mid new : HeapState) → ObjectsStay s mid → ObjectsStay mid new → ObjectsStay s new
stay-on s mid new one two =
    let few : mid.blocks ≡ s.blocks = one.blocks in
    record {
      blocks = two.blocks ∙ one.blocks;
      number = two.number ∙ one.number;
      base = two.base ∙ one.base;
      extent = two.extent ∙ one.extent;
      starts = λ a. two.starts a ∙ one.starts a;
      unlogs = λ a is. one.unlogs a (two.unlogs a is);
      lines = λ k line there less. two.lines k line (omega arith) less ∙ one.lines k line there less;
      block_words = λ k there. two.block_words k (omega arith) ∙ one.block_words k there;
      headers = λ a i holds less. two.headers a i
          (record { address = subst (λ (b : ℕ). IsAddress b a) (sym few) holds.address; start = one.starts a ∙ holds.start }) less ∙ one.headers a i holds less;
    }
