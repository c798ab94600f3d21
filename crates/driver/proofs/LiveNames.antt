-- The live objects of a sound moment, by names, and the live line of the ideal heap.
use Rattle.std.proofs.Common.{◌≡◌, refl, sym, ◌∙◌, ap, ap₂, subst, ℕ, zero, suc, ◌+◌, ◌<◌, ◌≤◌, ◌⊎◌, inl, inr, arith, false, List, [], ◌∷◌, ◌++◌, map, length, slice_index, slice_index_or, unwrap_or, codes, if◌then◌else◌}
use Rattle.std.specs.List.{AllByRecursion, AllPairs, Any, range_with_len}
use Rattle.std.specs.Fmt.{decimal}
use Rattle.std.proofs.lemmas.List.{get_or-map, length-map}
use Rattle.std.proofs.lemmas.List.FromFn.{length-range_with_len}
use Rattle.ideal_heap.specs.declared.name.Name.{Name}
use Rattle.ideal_heap.specs.declared.command.Command.{Command}
use Rattle.ideal_heap.specs.Names.{IsBefore}
use Rattle.ideal_heap.specs.Ideal.{IdealHeap, record_of, no_fields, empty, step}
use Rattle.ideal_heap.specs.Reach.{PathReaches}
use Rattle.ideal_heap.specs.Runs.{Entry, is_full, after_entry, heap_after_run, IsMutator, IsOrder}
use Rattle.ideal_heap.proofs.OrderLemmas.{of_mutator-all}
use Rattle.object_model.specs.Objects.{HeapState, name_at, size_at, size_of, record_at, refs_at, nums_at, ref_at, num_at, field_of_word}
use Rattle.object_model.specs.Counting.{count_words_at}
use Rattle.trace_text.specs.Text.{ended}
use Rattle.sessions.specs.Sessions.{Setting, Moment, IsSound, IsWhole, ideal_at}
use Rattle.sessions.proofs.Soundness.{session-sound}
use Rattle.driver.specs.Texts.{AreLive, live_line}
use Rattle.driver.specs.LiveNames.{AreLiveNames, record_size, count_words_named, ideal_live_line, heap_alone}

-- elements of lists

module _ {X : Type 0} where
  pub here : (x : X) (xs : List X) (y : X) → x ≡ y → Any (λ z. z ≡ y) (x ∷ xs)
  here x xs y e = (0, x, omega arith, refl, e)

  pub later : (x : X) (xs : List X) (y : X) → Any (λ z. z ≡ y) xs → Any (λ z. z ≡ y) (x ∷ xs)
  later x xs y there = (suc there.0, there.1, omega (arith, there.2), there.3, there.4)

  at-place : (x y : X) (xs : List X) (k : ℕ) (z : X) → k < length (x ∷ xs) → slice_index_or (x ∷ xs) k z ≡ z → z ≡ y → (x ≡ y) ⊎ Any (λ w. w ≡ y) xs
  at-place x y xs zero z low is e = inl (is ∙ e)
  at-place x y xs (suc k) z low is e = inr (k, z, omega (arith, low), is, e)

  pub first-or-later : (x : X) (xs : List X) (y : X) → Any (λ z. z ≡ y) (x ∷ xs) → (x ≡ y) ⊎ Any (λ z. z ≡ y) xs
  first-or-later x xs y there = at-place x y xs there.0 there.1 there.2 there.3 there.4

  pub none-there : (y : X) → Any (λ z. z ≡ y) [] → ⊥
  none-there y there = omega (arith, there.2)

  -- what holds of each element
  pub all-of : (P : X → Type 0) (xs : List X) → ((x : X) → Any (λ z. z ≡ x) xs → P x) → AllByRecursion P xs
  all-of P [] each = tt
  all-of P (x ∷ xs) each = (each x (here x xs x refl), all-of P xs (λ y there. each y (later x xs y there)))

  -- of pairs of a list, those of its tail, and the first element with a later one
  pub pairs-later : (R : X → X → Type 0) (x : X) (xs : List X) → AllPairs R (x ∷ xs) → AllPairs R xs
  pairs-later R x xs pairs i j d less low = pairs (suc i) (suc j) d (omega (arith, less)) (omega (arith, low))

  pub pairs-first : (R : X → X → Type 0) (x : X) (xs : List X) (y : X) → AllPairs R (x ∷ xs) → Any (λ z. z ≡ y) xs → R x y
  pairs-first R x xs y pairs there =
      subst (R x) (there.3 ∙ there.4) (pairs zero (suc there.0) there.1 (omega arith) (omega (arith, there.2)))

-- elements of a mapped list
pub mapped-there : {X Y : Type 0} (f : X → Y) (xs : List X) (x : X) → Any (λ z. z ≡ x) xs → Any (λ z. z ≡ f x) (map f xs)
mapped-there f [] x there = absurd (none-there x there)
mapped-there f (w ∷ xs) x there = elim (first-or-later w xs x there) as (λ _. Any (λ z. z ≡ f x) (map f (w ∷ xs))) [
  | inl e ↦ here (f w) (map f xs) (f x) (ap f e)
  | inr rest ↦ later (f w) (map f xs) (f x) (mapped-there f xs x rest)
]

pub mapped-from : {X Y : Type 0} (f : X → Y) (xs : List X) (y : Y) → Any (λ z. z ≡ y) (map f xs) → (x : X) × Any (λ z. z ≡ x) xs × (f x ≡ y)
mapped-from f [] y there = absurd (none-there y there)
mapped-from {X} f (w ∷ xs) y there = elim (first-or-later (f w) (map f xs) y there) as (λ _. (x : X) × Any (λ z. z ≡ x) (w ∷ xs) × (f x ≡ y)) [
  | inl e ↦ (w, here w xs w refl, e)
  | inr rest ↦ (let found = mapped-from f xs y rest in (found.0, later w xs found.0 found.1, found.2))
]

-- the order of names

pub not-before-itself : (m n : Name) → m ≡ n → IsBefore m n → ⊥
not-before-itself m n same before = elim before as (λ _. ⊥) [
  | inl less ↦ omega (arith, less, ap (λ (x : Name). x.mutator) same)
  | inr both ↦ omega (arith, both.1, ap (λ (x : Name). x.birth) same)
]

not-both : (m n : Name) → IsBefore m n → IsBefore n m → ⊥
not-both m n one two = elim one as (λ _. ⊥) [
  | inl less ↦ elim two as (λ _. ⊥) [ inl more ↦ omega (arith, less, more) | inr same ↦ omega (arith, less, same.0) ]
  | inr both ↦ elim two as (λ _. ⊥) [ inl more ↦ omega (arith, both.0, more) | inr same ↦ omega (arith, both.1, same.1) ]
]

-- two rising lists with the same elements are one
abbrev AreAmong : List Name → List Name → Type 0
AreAmong ms ns = (n : Name) → Any (λ x. x ≡ n) ms → Any (λ x. x ≡ n) ns

first-same : (m n : Name) (ms ns : List Name) → AllPairs IsBefore (m ∷ ms) → AllPairs IsBefore (n ∷ ns) → AreAmong (m ∷ ms) (n ∷ ns) → AreAmong (n ∷ ns) (m ∷ ms) → m ≡ n
first-same m n ms ns rise up into back = elim (first-or-later n ns m (into m (here m ms m refl))) as (λ _. m ≡ n) [
  | inl e ↦ sym e
  | inr low ↦ elim (first-or-later m ms n (back n (here n ns n refl))) as (λ _. m ≡ n) [
    | inl e ↦ e
    | inr high ↦ absurd (not-both m n (pairs-first IsBefore m ms n rise high) (pairs-first IsBefore n ns m up low))
  ]
]

rest-among : (m n : Name) (ms ns : List Name) → m ≡ n → AllPairs IsBefore (m ∷ ms) → AreAmong (m ∷ ms) (n ∷ ns) → AreAmong ms ns
rest-among m n ms ns same rise into x there = elim (first-or-later n ns x (into x (later m ms x there))) as (λ _. Any (λ z. z ≡ x) ns) [
  | inl e ↦ absurd (not-before-itself m x (same ∙ e) (pairs-first IsBefore m ms x rise there))
  | inr rest ↦ rest
]

one-rising : (ms ns : List Name) → AllPairs IsBefore ms → AllPairs IsBefore ns → AreAmong ms ns → AreAmong ns ms → ms ≡ ns
one-rising [] [] rise up into back = refl
one-rising [] (n ∷ ns) rise up into back = absurd (none-there n (back n (here n ns n refl)))
one-rising (m ∷ ms) [] rise up into back = absurd (none-there m (into m (here m ms m refl)))
one-rising (m ∷ ms) (n ∷ ns) rise up into back =
    let same = first-same m n ms ns rise up into back in
    ap₂ (λ (x : Name) (l : List Name). x ∷ l) same
    (one-rising ms ns (pairs-later IsBefore m ms rise) (pairs-later IsBefore n ns up)
    (rest-among m n ms ns same rise into) (rest-among n m ns ms (sym same) up back))

pub one-list : (h : IdealHeap) (ms ns : List Name) → AreLiveNames h ms → AreLiveNames h ns → ms ≡ ns
one-list h ms ns are so = one-rising ms ns are.rise so.rise (λ n there. (so.all n).0 ((are.all n).1 there)) (λ n there. (are.all n).0 ((so.all n).1 there))

-- an object has the size of its record

pub size-is : (s : HeapState) (a : ℕ) → record_size (record_at s a) ≡ size_at s a
size-is s a =
    let refs : length (map (λ i. field_of_word s (ref_at s a i)) (range_with_len 0 (refs_at s a))) ≡ refs_at s a =
    length-map (range_with_len 0 (refs_at s a)) (λ i. field_of_word s (ref_at s a i)) ∙ length-range_with_len 0 (refs_at s a) in
    let nums : length (map (λ j. num_at s a j) (range_with_len 0 (nums_at s a))) ≡ nums_at s a =
    length-map (range_with_len 0 (nums_at s a)) (λ j. num_at s a j) ∙ length-range_with_len 0 (nums_at s a) in
    ap₂ size_of refs nums

-- the words of objects that have the sizes of their records
words-of : (s : HeapState) (h : IdealHeap) (live : List ℕ) → AllByRecursion (λ a. size_at s a ≡ record_size (record_of h (name_at s a))) live
    → count_words_at s live ≡ count_words_named h (map (name_at s) live)
words-of s h [] each = refl
words-of s h (a ∷ live) each = ap₂ (λ (x y : ℕ). x + y) each.0 (words-of s h live each.1)

module _ (t : Setting) (now : Moment) (live : List ℕ) (sound : IsSound t now) (are : AreLive now live) where
  pub live-size : (a : ℕ) → Any (λ x. x ≡ a) live → size_at now.heap a ≡ record_size (record_of (ideal_at now) (name_at now.heap a))
  live-size a there =
      let is = (sound.represents.there a ((are.all a).1 there)).1 in
      sym (size-is now.heap a) ∙ ap record_size (sym (ap (λ o. unwrap_or o no_fields) is))

  pub live-sizes : AllByRecursion (λ a. size_at now.heap a ≡ record_size (record_of (ideal_at now) (name_at now.heap a))) live
  live-sizes = all-of (λ a. size_at now.heap a ≡ record_size (record_of (ideal_at now) (name_at now.heap a))) live live-size

  pub live-words : count_words_at now.heap live ≡ count_words_named (ideal_at now) (map (name_at now.heap) live)
  live-words = words-of now.heap (ideal_at now) live live-sizes

  named : (n : Name) → PathReaches (ideal_at now) n → Any (λ x. x ≡ n) (map (name_at now.heap) live)
  named n reaches =
      let found = sound.represents.all n reaches in
      subst (λ m. Any (λ x. x ≡ m) (map (name_at now.heap) live)) found.2 (mapped-there (name_at now.heap) live found.0 ((are.all found.0).0 found.1))

  reached : (n : Name) → Any (λ x. x ≡ n) (map (name_at now.heap) live) → PathReaches (ideal_at now) n
  reached n there =
      let found = mapped-from (name_at now.heap) live n there in
      subst (PathReaches (ideal_at now)) found.2 (sound.represents.there found.0 ((are.all found.0).1 found.1)).0

  pub live-names : AreLiveNames (ideal_at now) (map (name_at now.heap) live)
  live-names = record {
    all = λ n. (named n, reached n);
    rise = λ i j d less low.
        let within : j < length live = subst (λ (k : ℕ). j < k) (length-map live (name_at now.heap)) low in
        let at_i : slice_index_or (map (name_at now.heap) live) i d ≡ name_at now.heap (slice_index live i) = get_or-map (name_at now.heap) live i 0 d (omega (arith, less, within)) in
        let at_j : slice_index_or (map (name_at now.heap) live) j d ≡ name_at now.heap (slice_index live j) = get_or-map (name_at now.heap) live j 0 d within in
        subst (λ m. IsBefore m (slice_index_or (map (name_at now.heap) live) j d)) (sym at_i)
        (subst (λ n. IsBefore (name_at now.heap (slice_index live i)) n) (sym at_j) (are.rise i j less within));
  }

  pub live-line : (names : List Name) → AreLiveNames (ideal_at now) names → live_line now.heap live ≡ ideal_live_line (ideal_at now) names
  live-line names so =
      let same : map (name_at now.heap) live ≡ names = one-list (ideal_at now) (map (name_at now.heap) live) names live-names so in
      let count : length live ≡ length names = sym (length-map live (name_at now.heap)) ∙ ap length same in
      let words : count_words_at now.heap live ≡ count_words_named (ideal_at now) names = live-words ∙ ap (count_words_named (ideal_at now)) same in
      ap₂ (λ (k w : ℕ). ended (codes "live objects " ++ decimal k ++ codes " words " ++ decimal w)) count words

-- one mutator that is not refused

after-alone : (h : IdealHeap) (m : ℕ) (es : List Entry) → AllByRecursion (λ e. e.mutator ≡ m) es → AllByRecursion (λ e. is_full e.reply ≡ false) es
    → heap_after_run h es ≡ heap_alone h m (map (λ e. e.command) es)
after-alone h m [] all served = refl
after-alone h m (e ∷ es) all served =
    let heap : after_entry h e ≡ (step h m e.command).1 =
    ap (λ b. if b then h else (step h e.mutator e.command).1) served.0 ∙ ap (λ k. (step h k e.command).1) all.0 in
    after-alone (after_entry h e) m es all.1 served.1 ∙ ap (λ k. heap_alone k m (map (λ x. x.command) es)) heap

only-first : (trace : List Command) (es : List Entry) → AllByRecursion (λ e. IsMutator (trace ∷ []) e.mutator) es → AllByRecursion (λ e. e.mutator ≡ 1) es
only-first trace [] are = tt
only-first trace (e ∷ es) are =
    let least : 1 ≤ e.mutator = are.0.0 in
    let most : e.mutator ≤ 1 = are.0.1 in
    (omega (arith, least, most), only-first trace es are.1)

pub ideal-alone : (t : Setting) (trace : List Command) (last : Moment) → t.traces ≡ trace ∷ [] → IsWhole t last → AllByRecursion (λ e. is_full e.reply ≡ false) last.done
    → ideal_at last ≡ heap_alone empty 1 trace
ideal-alone t trace last one whole none =
    let order : IsOrder (trace ∷ []) last.done = subst (λ ts. IsOrder ts last.done) one whole.order in
    let own = only-first trace last.done order.mutators in
    let commands : map (λ (e : Entry). e.command) last.done ≡ trace =
    ap (λ (l : List Entry). map (λ e. e.command) l) (sym (of_mutator-all 1 last.done own)) ∙ order.commands 1 (omega arith, omega arith) in
    after-alone empty 1 last.done own none ∙ ap (heap_alone empty 1) commands

pub line-alone : (t : Setting) (trace : List Command) (last : Moment) (live : List ℕ) (names : List Name) → 4 ≤ t.blocks → t.blocks ≤ 1024 → t.traces ≡ trace ∷ [] → IsWhole t last
    → AllByRecursion (λ e. is_full e.reply ≡ false) last.done → AreLive last live → AreLiveNames (heap_alone empty 1 trace) names → live_line last.heap live ≡ ideal_live_line (heap_alone empty 1 trace) names
line-alone t trace last live names least most one whole none are so =
    let count : length t.traces ≡ 1 = ap length one in
    let sound = session-sound t last least most (omega (arith, count)) whole.session in
    let ideal = ideal-alone t trace last one whole none in
    live-line t last live sound are names (subst (λ h. AreLiveNames h names) (sym ideal) so) ∙ ap (λ h. ideal_live_line h names) ideal

pub lines-same : (t u : Setting) (trace : List Command) (last end : Moment) (live left : List ℕ) → 4 ≤ t.blocks → t.blocks ≤ 1024 → 4 ≤ u.blocks → u.blocks ≤ 1024
    → t.traces ≡ trace ∷ [] → u.traces ≡ trace ∷ [] → IsWhole t last → IsWhole u end
    → AllByRecursion (λ e. is_full e.reply ≡ false) last.done → AllByRecursion (λ e. is_full e.reply ≡ false) end.done → AreLive last live → AreLive end left
    → live_line last.heap live ≡ live_line end.heap left
lines-same t u trace last end live left least most least' most' one one' whole whole' none none' are so =
    let count : length u.traces ≡ 1 = ap length one' in
    let sound = session-sound u end least' most' (omega (arith, count)) whole'.session in
    let names : AreLiveNames (heap_alone empty 1 trace) (map (name_at end.heap) left) =
    subst (λ h. AreLiveNames h (map (name_at end.heap) left)) (ideal-alone u trace end one' whole' none') (live-names u end left sound so) in
    line-alone t trace last live (map (name_at end.heap) left) least most one whole none are names
    ∙ sym (line-alone u trace end left (map (name_at end.heap) left) least' most' one' whole' none' so names)
