-- What collections count, and the collection of an empty heap.
use Rattle.std.proofs.Common.{◌≡◌, refl, ap, subst, sym, ℕ, zero, suc, ◌+◌, arith, Bool, true, false, ◌&&◌, not, IsTrue, List, ◌∷◌, map, replicate, slice_index}
use Rattle.std.proofs.lemmas.Bool.{and_parts}
use Rattle.heap_layout.specs.Zones.{StartBits}
use Rattle.heap_layout.proofs.MarkLemmas.{is-address_from_mark}
use Rattle.object_model.specs.declared.collect.Collect.{Collect}
use Rattle.object_model.specs.declared.collect.Collect.TheVariants.{Full}
use Rattle.object_model.specs.Objects.{HeapState, empty_heap, is_start, is_unlogged, IsHeld}
use Rattle.object_model.specs.Graphs as graphs
use Rattle.object_model.specs.Graphs.{IsReachable}
use Rattle.object_model.specs.Ages.{is_old, is_logged}
use Rattle.object_model.proofs.Zeros as zeros
use Rattle.sessions.specs.Plans.{Plan, Rules, rules_of}
use Rattle.sessions.specs.Collecting.{Collects, CollectsIf, IsCollection, IsEmptied, is_logged_under}
use Rattle.sessions.proofs.EmptyHeapFits.{is-free}

counts_after : (collects : Bool) (r : Rules) (workers : ℕ) (c : Collect) (old new : HeapState) (roots after : List ℕ) → CollectsIf collects r workers c old roots new after
    → (new.number ≡ old.number + 1) × (new.blocks ≡ old.blocks)
counts_after true r workers c old new roots after collects = (collects.number, collects.layout)
counts_after false r workers c old new roots after counts = (ap (λ (s : HeapState). s.number) counts.heap, ap (λ (s : HeapState). s.blocks) counts.heap)

-- each collection increments the collection number and keeps the layout
pub counts-one : (r : Rules) (workers : ℕ) (c : Collect) (old new : HeapState) (roots after : List ℕ) → IsCollection r workers c old roots new after
    → (new.number ≡ old.number + 1) × (new.blocks ≡ old.blocks)
counts-one r = counts_after r.collects r

abbrev nils : ℕ → List ℕ
nils n = replicate n 0

nils-map : (n : ℕ) → nils n ≡ map (λ (a : ℕ). 0) (nils n)
nils-map zero = refl
nils-map (suc n) = ap (λ (xs : List ℕ). 0 ∷ xs) (nils-map n)

-- a heap without objects, and registers that are nil
module _ (b n : ℕ) where
  abbrev old : HeapState
  old = empty_heap b

  abbrev new : HeapState
  new = record old { number = 1; base = 1 }

  none-held : (a : ℕ) → IsHeld new a → ⊥
  none-held a h = zeros.none_held b a (record { address = h.address; start = h.start })

  none-arrives : (a : ℕ) → IsReachable old (nils n) a → ⊥
  none-arrives a (graphs.from_root i e some) = (let nil : slice_index (nils n) i ≡ 0 = zeros.zero_of n i in omega arith)
  none-arrives a (graphs.from_global g few e some) = (let nil = zeros.zero_word b (2 + g) in omega arith)
  none-arrives a (graphs.from_field x i before within e some) = none-arrives x before

  emptied : (k : ℕ) → IsEmptied new k
  emptied k a i holds = absurd (none-held a holds)

  none-logged : (r : Rules) (a : ℕ) → IsTrue (is_logged_under r new a) → ⊥
  none-logged r a h =
      let started : IsTrue (is_start new a) = (and_parts (is_start new a) (is_old new a) (and_parts (is_start new a && is_old new a) (not (is_unlogged new a)) (and_parts r.young (is_logged new a) h).1).0).0 in
      none-held a (record { address = is-address_from_mark b StartBits new.words a started; start = started })

  pub collects-empty : (r : Rules) (workers : ℕ) → Collects r workers Full old (nils n) new (nils n)
  collects-empty r workers = record {
    target = λ a. 0;
    kept = record {
      nil = refl;
      held = λ a none. absurd (omega arith);
      one_to_one = λ a x none same. absurd (omega arith);
      there = λ a none. absurd (omega arith);
      onto = λ x holds. absurd (none-held x holds);
      same = λ a none. absurd (omega arith);
      fields = λ a i none less. absurd (omega arith);
      closed = λ a i none less some. absurd (omega arith);
      globals = λ g few. zeros.zero_word b _;
      registers = nils-map n;
      stays = λ a none fixed. absurd (omega arith);
      reached = λ a arrives. absurd (none-arrives a arrives);
    };
    precise = λ a. (λ none. absurd (omega arith), λ arrives. absurd (none-arrives a arrives));
    ages = λ a holds. absurd (none-held a holds);
    block = λ k there. record {
      emptied = λ empty. is-free b k there;
      taken = λ full. absurd (full (emptied k));
      kept = λ full. absurd (full (emptied k));
      others = λ full. absurd (full (emptied k));
    };
    logged = none-logged r;
    unlogged = λ a holds. absurd (none-held a holds);
    numbers = λ full a holds. absurd (none-held a holds);
    claimed = λ young a none. absurd (omega arith);
    stays = λ young a none. absurd (omega arith);
    number = refl;
    base = refl;
    layout = refl;
    moved = λ a none. absurd (omega arith);
  }

  pub collected-empty : (p : Plan) (workers : ℕ) → (rules_of p).collects ≡ true → IsCollection (rules_of p) workers Full old (nils n) new (nils n)
  collected-empty p workers collects =
      subst (λ (x : Bool). CollectsIf x (rules_of p) workers Full old (nils n) new (nils n)) (sym collects) (collects-empty (rules_of p) workers)
