-- Clearing an unlog bit logs an old object, and no other, and a heap that remembers its young objects still does.
use Rattle.std.proofs.Common.{◌≡◌, ◌≢◌, sym, ◌∙◌, ap, subst, ℕ, ◌+◌, ◌/◌, ◌%◌, ◌^◌, ◌<◌, ◌≤◌, inl, inr, arith, true, false, ◌&&◌, IsTrue, List, nat_lt, nat_le}
use Rattle.std.specs.Prelude.{not}
use Rattle.std.proofs.lemmas.Bool.{cases_Bool, and_from}
use Rattle.heap_layout.specs.Zones.{StartBits, heap_of}
use Rattle.object_model.specs.Objects.{HeapState, with_words, word_at, is_start, is_unlogged, IsHeld, refs_at, ref_at, is_reference}
use Rattle.object_model.specs.Ages.{is_old, is_logged, RemembersYoung}
use Rattle.object_model.specs.Changes.{ClearsUnlog}
use Rattle.object_model.proofs.Frames.{same-layout}
use Rattle.object_model.proofs.LawfulStores.{mark-kept}
use Rattle.object_model.proofs.LawfulTests.{held-at}

module _ (s : HeapState) (w : List ℕ) (a : ℕ) (clears : ClearsUnlog s (with_words s w) a) where
  abbrev after : HeapState
  after = with_words s w

  start-same : (x : ℕ) → is_start after x ≡ is_start s x
  start-same x = mark-kept s w a clears StartBits x (omega arith)

  heap-word : (x i : ℕ) → IsHeld s x → word_at after (x + i) ≡ word_at s (x + i)
  heap-word x i holds = clears.rest (x + i) (inr (let from : heap_of s.blocks ≤ x = holds.address.from in omega arith))

  held-before : (x : ℕ) → IsHeld after x → IsHeld s x
  held-before x holds = record { address = holds.address; start = sym (start-same x) ∙ holds.start }

  held-after : (x : ℕ) → IsHeld s x → IsHeld after x
  held-after x holds = record { address = holds.address; start = start-same x ∙ holds.start }

  old-same : (x : ℕ) → IsHeld s x → is_old after x ≡ is_old s x
  old-same x holds = ap (λ (v : ℕ). nat_lt 0 s.base && nat_le s.base (v / 2 ^ 24)) (heap-word x 2 holds)

  logs : IsHeld s a → IsTrue (is_old s a) → IsTrue (is_logged after a)
  logs holds old = and_from (is_start after a && is_old after a) _ (and_from (is_start after a) _ (held-after a holds).start (old-same a holds ∙ old)) (ap not clears.clear)

  others : (x : ℕ) → x ≢ a → is_logged after x ≡ is_logged s x
  others x differ = elim (cases_Bool (is_start s x)) as (λ _. is_logged after x ≡ is_logged s x) [
    | inl start ↦
        let holds : IsHeld s x = held-at s x start in
        ap (λ b. (b && is_old after x) && not (is_unlogged after x)) (start-same x)
        ∙ ap (λ b. (is_start s x && b) && not (is_unlogged after x)) (old-same x holds)
        ∙ ap (λ b. (is_start s x && is_old s x) && not b) (clears.others x differ)
    | inr none ↦ ap (λ b. (b && is_old after x) && not (is_unlogged after x)) (start-same x ∙ none) ∙ sym (ap (λ b. (b && is_old s x) && not (is_unlogged s x)) none)
  ]

  not-cleared : (x : ℕ) → IsTrue (is_unlogged after x) → IsTrue (is_unlogged s x)
  not-cleared x unlogged =
      let differ : x ≢ a = λ same. let wrong : false ≡ true = sym (ap (is_unlogged after) same ∙ clears.clear) ∙ unlogged in cc in
      sym (clears.others x differ) ∙ unlogged

  remembers-fields : RemembersYoung s → (x i : ℕ) → IsHeld after x → IsTrue (is_old after x) → IsTrue (is_unlogged after x) → i < refs_at after x
      → IsTrue (is_reference (ref_at after x i)) → IsHeld after (ref_at after x i) × IsTrue (is_old after (ref_at after x i))
  remembers-fields before x i holds old unlogged less some =
      let there : IsHeld s x = held-before x holds in
      let refs : refs_at after x ≡ refs_at s x = ap (λ v. v % 65536) (heap-word x 1 there) in
      let place : x + 3 + i ≡ x + (3 + i) = omega arith in
      let field : ref_at after x i ≡ ref_at s x i = ap (word_at after) place ∙ heap-word x (3 + i) there ∙ sym (ap (word_at s) place) in
      let to = before.fields x i there (sym (old-same x there) ∙ old) (not-cleared x unlogged) (subst (λ (n : ℕ). i < n) refs less) (subst (λ (v : ℕ). IsTrue (is_reference v)) field some) in
      (subst (IsHeld after) (sym field) (held-after (ref_at s x i) to.0), ap (is_old after) field ∙ old-same (ref_at s x i) to.0 ∙ to.1)

  remembers-marks : RemembersYoung s → (x : ℕ) → IsHeld after x → IsTrue (is_unlogged after x) → IsTrue (is_old after x)
  remembers-marks before x holds unlogged =
      let there : IsHeld s x = held-before x holds in
      old-same x there ∙ before.marked x there (not-cleared x unlogged)

  remembers : RemembersYoung s → RemembersYoung after
  remembers before = record { fields = remembers-fields before; marked = remembers-marks before }

module _ (old new : HeapState) (a : ℕ) (clears : ClearsUnlog old new a) where
  same : new ≡ with_words old new.words
  same = same-layout old new clears.blocks clears.number clears.base

  cleared : ClearsUnlog old (with_words old new.words) a
  cleared = subst (λ (x : HeapState). ClearsUnlog old x a) same clears

  pub logs-one : IsHeld old a → IsTrue (is_old old a) → IsTrue (is_logged new a)
  logs-one holds was = subst (λ (x : HeapState). IsTrue (is_logged x a)) (sym same) (logs old new.words a cleared holds was)

  pub logs-no-other : (x : ℕ) → x ≢ a → is_logged new x ≡ is_logged old x
  logs-no-other x differ = subst (λ (y : HeapState). is_logged y x ≡ is_logged old x) (sym same) (others old new.words a cleared x differ)

  pub still-remembers : RemembersYoung old → RemembersYoung new
  still-remembers before = subst RemembersYoung (sym same) (remembers old new.words a cleared before)
