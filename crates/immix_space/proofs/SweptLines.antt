-- The line bits of a swept Immix block.
use Rattle.std.proofs.Common.{◌≡◌, sym, ap, ◌∙◌, subst, inl, inr, ℕ, ◌+◌, ◌*◌, ◌-◌, ◌/◌, ◌%◌, ◌<◌, ◌≤◌, ◌&&◌, List, slice_index, nat_eq, nat_le, nat_lt, arith}
use Rattle.std.specs.Int.{bit_at}
use Rattle.std.proofs.Math.Logic.{∥∥₁_elim, ∥∥₁_map}
use Rattle.std.proofs.lemmas.Bool.{true≢false}
use Rattle.heap_layout.specs.Zones.{Zone, StartBits, PinBits, UnlogBits, LineWords, BlockWords, first, heap_of, row_words, block_start, address_bit}
use Rattle.heap_layout.specs.Blocks.{kind_code}
use Rattle.heap_layout.specs.declared.block.Kind.TheVariants as kinds
use Rattle.heap_layout.specs.declared.layout.Layout.{Layout}
use Rattle.object_model.specs.Objects.{HeapState, state_over, is_start, is_pinned, is_unlogged, IsHeld, size_at}
use Rattle.object_model.specs.Lines.{TouchesLine}
use Rattle.object_model.specs.Lawful.{IsTouched, LineBitsAreExact}
use Rattle.object_model.specs.Ages.{Lives}
use Rattle.block_sweeps.specs.Sweeping.{InBlock, HasNoLiving, Sweeps, MarksTouched, IsTouchedHere, IsLineWord, IsMetadata, object_count}
use Rattle.block_sweeps.proofs.ChangedWords.{changes-more, changes-both}
use Rattle.block_sweeps.proofs.BitCounts.{count-same}
use Rattle.immix_space.specs.LineSweeps.{SweepsLines, IsTouchedFromWithin}

-- Nothing is left in the block.
pub swept-empty : (l : Layout) (k base after : ℕ) (old new : List ℕ) → HasNoLiving base (state_over old l 0 0) (InBlock (state_over old l 0 0) k)
    → Sweeps base after (state_over old l 0 0) (state_over new l 0 0) k → SweepsLines base (state_over old l 0 0) (state_over new l 0 0) k
swept-empty l k base after old new none swept = record {
  objects = swept.objects;
  empty = swept.empty;
  word = λ a here lives. absurd (none a here lives);
  lines = λ line small. (
    (λ marked. absurd (true≢false (sym marked ∙ (swept.empty none).lines line small))),
    (λ touched. absurd (∥∥₁_elim touched (λ x. absurd x) (λ t.
        let here : InBlock (state_over old l 0 0) k t.touched.object = record { address = t.touched.held.address; block = t.here } in
        none t.touched.object here ((swept.objects.held t.touched.object here).0 t.touched.held)))),
  );
  rest = swept.rest;
}

-- Then the lines that objects touch were marked.
module _ (l : Layout) (k : ℕ) (mid new : List ℕ) (there : k < l.blocks) (marks : MarksTouched (state_over mid l 0 0) (state_over new l 0 0) k) where
  abbrev b : ℕ
  b = l.blocks

  abbrev t : HeapState
  t = state_over mid l 0 0

  abbrev u : HeapState
  u = state_over new l 0 0

  same : (i : ℕ) → first b LineWords + 4 * b ≤ i → slice_index new i ≡ slice_index mid i
  same i past = marks.rest.others i (λ line. let below = line.below in omega arith)

  bit-same : (z : Zone) → first b LineWords + 4 * b ≤ first b z → (a : ℕ) → address_bit b z new a ≡ address_bit b z mid a
  bit-same z past a = ap (λ w. nat_le (heap_of b) a && nat_lt a (row_words b) && nat_eq (bit_at w ((a - heap_of b) % 64)) 1) (same (first b z + (a - heap_of b) / 64) (omega arith))

  start-same : (a : ℕ) → is_start u a ≡ is_start t a
  start-same = bit-same StartBits (omega arith)

  pub count-kept : object_count u k ≡ object_count t k
  count-kept = count-same (λ w. is_start u (block_start b k + w)) (λ w. is_start t (block_start b k + w)) 0 0 4096 (λ i below. start-same (block_start b k + (0 + i)))

  held-then : (a : ℕ) → IsHeld u a → IsHeld t a
  held-then a is = record { address = is.address; start = sym (start-same a) ∙ is.start }

  held-now : (a : ℕ) → IsHeld t a → IsHeld u a
  held-now a is = record { address = is.address; start = start-same a ∙ is.start }

  size-same : (a : ℕ) → heap_of b ≤ a → size_at u a ≡ size_at t a
  size-same a from = ap (λ w. 3 + w % 65536 + w / 65536) (same (a + 1) (omega arith))

  abbrev then : (line : ℕ) → IsTouched u k line → IsTouched t k line
  then line is = record {
    object = is.object;
    held = held-then is.object is.held;
    touches = subst (λ (n : ℕ). TouchesLine b is.object n (256 * k + line)) (size-same is.object is.held.address.from) is.touches;
  }

  abbrev now : (line : ℕ) → IsTouched t k line → IsTouched u k line
  now line is = record {
    object = is.object;
    held = held-now is.object is.held;
    touches = subst (λ (n : ℕ). TouchesLine b is.object n (256 * k + line)) (sym (size-same is.object is.held.address.from)) is.touches;
  }

  touched-then : (line : ℕ) → IsTouchedHere u k line → IsTouchedHere t k line
  touched-then line is = record { touched = then line is.touched; here = is.here }

  touched-now : (line : ℕ) → IsTouchedHere t k line → IsTouchedHere u k line
  touched-now line is = record { touched = now line is.touched; here = is.here }

  pub lines-exact : IsTouchedFromWithin t k → LineBitsAreExact u k
  lines-exact within = record {
    marked = λ line immix small set. ∥∥₁_map ((marks.lines line small).0 set) (λ is. (touched-now line is).touched);
    touched = λ line immix small is. (marks.lines line small).1 ∣ (record { touched = then line is; here = within line small (then line is) }) ∣₁;
  }

  module _ (old : List ℕ) (base a : ℕ) (here : InBlock (state_over old l 0 0) k a) (lives : Lives base (state_over old l 0 0) a)
      (swept : Sweeps base (kind_code kinds.Immix) (state_over old l 0 0) t k) where
    abbrev s : HeapState
    s = state_over old l 0 0

    pub swept-some : SweepsLines base s u k
    swept-some = record {
      objects = record {
        held = λ x inside. ((λ is. (swept.objects.held x inside).0 (held-then x is)), (λ is. held-now x ((swept.objects.held x inside).1 is)));
        pins = λ x inside. bit-same PinBits (omega arith) x ∙ swept.objects.pins x inside ∙ ap (λ c. is_pinned s x && c) (sym (start-same x));
        unlogs = λ x inside. bit-same UnlogBits (omega arith) x ∙ swept.objects.unlogs x inside ∙ ap (λ c. is_unlogged s x && c) (sym (start-same x));
      };
      empty = λ none. absurd (none a here lives);
      word = λ x inside is. marks.rest.others (first b BlockWords + k) (λ line. let after = line.after in omega arith) ∙ swept.word x inside is;
      lines = λ line small. (
        (λ marked. ∥∥₁_map ((marks.lines line small).0 marked) (touched-now line)),
        (λ some. (marks.lines line small).1 (∥∥₁_map some (touched-then line))),
      );
      rest = changes-both (IsMetadata b k) s t u swept.rest (changes-more (IsLineWord b k) (IsMetadata b k) t u (λ i line. inl (inr line)) marks.rest);
    }
