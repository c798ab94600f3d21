-- The invariant for objects: what the words of each object are, at its old place and at its target, by its stage.
use Rattle.std.proofs.Common.{◌≡◌, ◌≢◌, ℕ, ◌+◌, ◌<◌, ◌≤◌, ◌⊎◌, inl, inr, Bool, true, false, true≢false, cond, IsTrue, List, length, slice_index, slice_set, refl, sym, ap, ◌∙◌, subst, arith, length-set, get_or-set_other, Option, Some, None}
use Rattle.std.proofs.lemmas.Bool.{cases_eq}
use Rattle.heap_layout.specs.Zones.{row_words, block_at}
use Rattle.heap_layout.specs.declared.block.Kind.TheVariants as kinds
use Rattle.object_model.specs.Objects.{word_at, HasKind, ref_at}
use Rattle.trace_core.specs.Setups.{Setup, blocks, held, size, refs, stays_old, was_logged}
use Rattle.trace_core.specs.Machine.{Stage, Unclaimed, Copying, Scanning, target, put, claimed_word, copied_word, step_of_offset, forward, IsSettled, address_or_nil}
use Rattle.trace_core.specs.Traces.{HasCopyRoom}
use Rattle.object_model.specs.Objects.{is_reference}
use Rattle.trace_core.proofs.Puts.{put_here, put_else}

module _ (p : Setup) (word : ℕ → ℕ) (stage : ℕ → Stage) (owner : ℕ → Option ℕ) (taken : ℕ → ℕ) (x : ℕ) where
  -- the target is x itself, or room that is x's alone
  abbrev pub IsPlaced : ℕ → Type 0
  IsPlaced t = (t ≡ x) ⊎ (HasCopyRoom p taken x t × ((o : ℕ) → o < size p x → owner (t + o) ≡ Some x))

  -- its words are as they were, but for the collector word
  abbrev pub Intact : Type 0
  Intact = (o : ℕ) → o < size p x → o ≢ 2 → word (x + o) ≡ word_at p.before (x + o)

  pub record UnclaimedObject : Type 0 where
    pub collector : word (x + 2) ≡ word_at p.before (x + 2)
    pub intact : Intact

  pub record CopyingObject (t k : ℕ) : Type 0 where
    pub collector : word (x + 2) ≡ claimed_word p x t
    pub placed : IsPlaced t
    pub young : stays_old p x ≡ false
    pub steps : k ≤ size p x + 1
    pub in_place : t ≡ x → k ≡ size p x
    pub intact : Intact
    pub copied : (o : ℕ) → o < size p x → step_of_offset (size p x) o < k → word (t + o) ≡ copied_word p x t o

  pub record ScanningObject (t k : ℕ) : Type 0 where
    pub collector : word (x + 2) ≡ claimed_word p x t
    pub placed : IsPlaced t
    pub old : IsTrue (stays_old p x) → t ≡ x
    pub header : (o : ℕ) → o < 2 → word (x + o) ≡ word_at p.before (x + o)
    pub source : (t ≡ x) ⊎ Intact
    pub fields : k ≤ refs p x
    pub rest : (o : ℕ) → o < size p x → (o < 3) ⊎ (3 + k ≤ o) → word (t + o) ≡ copied_word p x t o
    pub settled : (o : ℕ) → o < k → IsSettled stage (ref_at p.before x o)
    pub scanned : (o : ℕ) → o < k → word (t + 3 + o) ≡ forward stage (ref_at p.before x o)

  abbrev pub ObjectIs : Stage → Type 0
  ObjectIs Unclaimed = UnclaimedObject
  ObjectIs (Copying t k) = CopyingObject t k
  ObjectIs (Scanning t k) = ScanningObject t k

-- an old object of a nursery collection is in place, to be scanned if it is logged
pub record OldObject (p : Setup) (stage : ℕ → Stage) (x : ℕ) : Type 0 where
  pub fields : ℕ
  pub same : stage x ≡ Scanning x fields
  pub not_logged : was_logged p x ≡ false → fields ≡ refs p x

-- word a is in the target of the moved object x
pub record OwnedWord (p : Setup) (stage : ℕ → Stage) (x a : ℕ) : Type 0 where
  pub at : ℕ
  pub same : target (stage x) ≡ Some at
  pub moved : at ≢ x
  pub from : at ≤ a
  pub below : a < at + size p x

pub record KeepsObjects (p : Setup) (words : List ℕ) (stage : ℕ → Stage) (owner : ℕ → Option ℕ) (taken : ℕ → ℕ) : Type 0 where
  pub long : length words ≡ row_words (blocks p)
  pub objects : (x : ℕ) → IsTrue (held p x) → ObjectIs p (slice_index words) stage owner taken x (stage x)
  pub outside : (x : ℕ) → held p x ≡ false → stage x ≡ Unclaimed
  pub old : (x : ℕ) → IsTrue (stays_old p x) → OldObject p stage x
  pub owned : (a x : ℕ) → owner a ≡ Some x → OwnedWord p stage x a
  pub free : (b : ℕ) → 0 < taken b → HasKind p.before b kinds.Free

pub Some-injective : (a b : ℕ) → Some a ≡ Some b → a ≡ b
Some-injective a b e = ap address_or_nil e

pub None-not-Some : (a : ℕ) → None ≡ Some a → ⊥
None-not-Some a e = let f : Option ℕ → Bool = λ o. (elim o as (λ _. Bool) [ None ↦ false | Some v ↦ true ]) in true≢false (sym (ap f e))

-- a target stays
abbrev pub Grows : (ℕ → Stage) → (ℕ → Stage) → Type 0
Grows stage stage' = (z t : ℕ) → target (stage z) ≡ Some t → target (stage' z) ≡ Some t

pub settled_grows : (stage stage' : ℕ → Stage) → Grows stage stage' → (v : ℕ) → IsSettled stage v → IsSettled stage' v
settled_grows stage stage' grows v is reference = let d = is reference in (d.0, grows v d.0 d.1)

forward_by : (stage : ℕ → Stage) (v : ℕ) (b : Bool) → is_reference v ≡ b → (b ≡ true → (t : ℕ) × (target (stage v) ≡ Some t)) → (stage' : ℕ → Stage) → Grows stage stage' → forward stage' v ≡ forward stage v
forward_by stage v true is settled stage' grows = let d = settled refl in let t : ℕ = d.0 in
    ap (λ b. cond {A = ℕ} b (address_or_nil (target (stage' v))) v) is ∙ ap address_or_nil (grows v t d.1) ∙ sym (ap address_or_nil d.1) ∙ sym (ap (λ b. cond {A = ℕ} b (address_or_nil (target (stage v))) v) is)
forward_by stage v false is settled stage' grows =
    ap (λ b. cond {A = ℕ} b (address_or_nil (target (stage' v))) v) is ∙ sym (ap (λ b. cond {A = ℕ} b (address_or_nil (target (stage v))) v) is)

pub forward_grows : (stage stage' : ℕ → Stage) → Grows stage stage' → (v : ℕ) → IsSettled stage v → forward stage' v ≡ forward stage v
forward_grows stage stage' grows v settled = forward_by stage v (is_reference v) refl settled stage' grows

pub grows_put : (stage : ℕ → Stage) (x : ℕ) (new : Stage) → ((t : ℕ) → target (stage x) ≡ Some t → target new ≡ Some t) → Grows stage (put stage x new)
grows_put stage x new keep z t is = elim (cases_eq z x) as (λ _. target (put stage x new z) ≡ Some t) [
  | inl e ↦ ap target (ap (put stage x new) e ∙ put_here stage x new) ∙ keep t (ap (λ (y : ℕ). target (stage y)) (sym e) ∙ is)
  | inr ne ↦ ap target (put_else stage x new z ne) ∙ is
]

module _ (p : Setup) (word word' : ℕ → ℕ) (stage stage' : ℕ → Stage) (owner owner' : ℕ → Option ℕ) (taken taken' : ℕ → ℕ) (y : ℕ)
    (own : (o : ℕ) → o < size p y → word' (y + o) ≡ word (y + o))
    (there : (a : ℕ) → owner a ≡ Some y → word' a ≡ word a)
    (owns : (a : ℕ) → owner a ≡ Some y → owner' a ≡ Some y)
    (more : (b : ℕ) → 0 < taken b → 0 < taken' b)
    (grows : Grows stage stage') where
  still_placed : (t : ℕ) → IsPlaced p word stage owner taken y t → IsPlaced p word' stage' owner' taken' y t
  still_placed t placed = elim placed as (λ _. IsPlaced p word' stage' owner' taken' y t) [
    | inl e ↦ inl e
    | inr room ↦ inr (record { moves = room.0.moves; address = room.0.address; block = more (block_at (blocks p) t) room.0.block; within = room.0.within }, λ o l. owns (t + o) (room.1 o l))
  ]

  at_target : (t o : ℕ) → IsPlaced p word stage owner taken y t → o < size p y → word' (t + o) ≡ word (t + o)
  at_target t o placed l = elim placed as (λ _. word' (t + o) ≡ word (t + o)) [
    | inl e ↦ ap (λ z. word' (z + o)) e ∙ own o l ∙ sym (ap (λ z. word (z + o)) e)
    | inr room ↦ there (t + o) (room.1 o l)
  ]

  -- an event at another object changes no word of this object and of its target
  pub others : (st : Stage) → ObjectIs p word stage owner taken y st → ObjectIs p word' stage' owner' taken' y st
  others Unclaimed is = record {
    collector = own 2 (omega arith) ∙ is.collector;
    intact = λ o l n. own o l ∙ is.intact o l n;
  }
  others (Copying t k) is = record {
    collector = own 2 (omega arith) ∙ is.collector;
    placed = still_placed t is.placed;
    young = is.young;
    steps = is.steps;
    in_place = is.in_place;
    intact = λ o l n. own o l ∙ is.intact o l n;
    copied = λ o l before. at_target t o is.placed l ∙ is.copied o l before;
  }
  others (Scanning t k) is = let most : k ≤ refs p y = is.fields in record {
    collector = own 2 (omega arith) ∙ is.collector;
    placed = still_placed t is.placed;
    old = is.old;
    header = λ o l. own o (omega arith) ∙ is.header o l;
    source = (elim is.source as (λ _. (t ≡ y) ⊎ Intact p word' stage' owner' taken' y) [
      | inl e ↦ inl e
      | inr intact ↦ inr (λ o l n. own o l ∙ intact o l n)
    ]);
    fields = is.fields;
    rest = λ o l w. at_target t o is.placed l ∙ is.rest o l w;
    settled = λ o l. settled_grows stage stage' grows (ref_at p.before y o) (is.settled o l);
    scanned = λ o l. (let at : t + 3 + o ≡ t + (3 + o) = omega arith in ap word' at ∙ at_target t (3 + o) is.placed (omega arith) ∙ sym (ap word at))
        ∙ is.scanned o l ∙ sym (forward_grows stage stage' grows (ref_at p.before y o) (is.settled o l));
  }

-- an event at the object at x, which stores v at index i
module _ (p : Setup) (words : List ℕ) (stage : ℕ → Stage) (owner : ℕ → Option ℕ) (taken : ℕ → ℕ) (h : KeepsObjects p words stage owner taken)
    (x i v : ℕ) (new : Stage) (owner' : ℕ → Option ℕ) where
  abbrev words' : List ℕ
  words' = slice_set words i v

  abbrev stage' : ℕ → Stage
  stage' = put stage x new

  new_stage : stage' x ≡ new
  new_stage = put_here stage x new

  pub moved : IsTrue (held p x)
      → ((t : ℕ) → target (stage x) ≡ Some t → target new ≡ Some t)
      → ((y o : ℕ) → IsTrue (held p y) → y ≢ x → o < size p y → y + o ≢ i)
      → ((y a : ℕ) → y ≢ x → owner a ≡ Some y → a ≢ i)
      → ((y a : ℕ) → y ≢ x → owner a ≡ Some y → owner' a ≡ Some y)
      → ((y a : ℕ) → owner' a ≡ Some y → (owner a ≡ Some y) ⊎ ((y ≡ x) × OwnedWord p stage' x a))
      → (IsTrue (stays_old p x) → OldObject p stage' x)
      → ObjectIs p (slice_index words') stage' owner' taken x new
      → KeepsObjects p words' stage' owner' taken
  moved inside keep apart unowned owns explained ages mine =
      let grows : Grows stage stage' = grows_put stage x new keep in
      record {
        long = length-set words i v ∙ h.long;
        objects = λ y there. elim (cases_eq y x) as (λ _. ObjectIs p (slice_index words') stage' owner' taken y (stage' y)) [
          | inl e ↦ subst (λ (z : ℕ). ObjectIs p (slice_index words') stage' owner' taken z (stage' z)) (sym e)
              (subst (ObjectIs p (slice_index words') stage' owner' taken x) (sym new_stage) mine)
          | inr ne ↦ subst (ObjectIs p (slice_index words') stage' owner' taken y) (sym (put_else stage x new y ne))
              (others p (slice_index words) (slice_index words') stage stage' owner owner' taken taken y
              (λ o l. get_or-set_other words i (y + o) v 0 (apart y o there ne l))
              (λ a own. get_or-set_other words i a v 0 (unowned y a ne own))
              (λ a own. owns y a ne own) (λ b some. some) grows (stage y) (h.objects y there))
        ];
        outside = λ y none. put_else stage x new y (λ e. true≢false (sym (sym none ∙ ap (held p) e ∙ inside))) ∙ h.outside y none;
        old = λ y aged. elim (cases_eq y x) as (λ _. OldObject p stage' y) [
          | inl e ↦ subst (λ (z : ℕ). OldObject p stage' z) (sym e) (ages (subst (λ (z : ℕ). IsTrue (stays_old p z)) e aged))
          | inr ne ↦ let d = h.old y aged in record { fields = d.fields; same = put_else stage x new y ne ∙ d.same; not_logged = d.not_logged }
        ];
        owned = λ a y own. elim (explained y a own) as (λ _. OwnedWord p stage' y a) [
          | inl before ↦ let d = h.owned a y before in record { at = d.at; same = grows y d.at d.same; moved = d.moved; from = d.from; below = d.below }
          | inr mine ↦ subst (λ (z : ℕ). OwnedWord p stage' z a) (sym mine.0) mine.1
        ];
        free = h.free;
      }

-- an event that changes no word of an object or a target
pub beside : (p : Setup) (words words' : List ℕ) (stage : ℕ → Stage) (owner : ℕ → Option ℕ) (taken taken' : ℕ → ℕ) → KeepsObjects p words stage owner taken
    → length words' ≡ length words
    → ((y o : ℕ) → IsTrue (held p y) → o < size p y → slice_index words' (y + o) ≡ slice_index words (y + o))
    → ((y a : ℕ) → owner a ≡ Some y → slice_index words' a ≡ slice_index words a)
    → ((b : ℕ) → 0 < taken b → 0 < taken' b) → ((b : ℕ) → 0 < taken' b → HasKind p.before b kinds.Free)
    → KeepsObjects p words' stage owner taken'
beside p words words' stage owner taken taken' h len own there more free = record {
  long = len ∙ h.long;
  objects = λ y inside. others p (slice_index words) (slice_index words') stage stage owner owner taken taken' y (λ o l. own y o inside l) (λ a. there y a) (λ a e. e) more (λ z t e. e) (stage y) (h.objects y inside);
  outside = h.outside;
  old = h.old;
  owned = h.owned;
  free = free;
}
