-- The places of a sound moment's live objects, and its report.
use Rattle.std.proofs.Common.{◌≡◌, refl, sym, ◌∙◌, ap, subst, ℕ, suc, ◌+◌, ◌-◌, ◌<◌, ◌≤◌, arith, inl, inr, true, ◌||◌, List, [], ◌∷◌, length, map, Ok}
use Rattle.std.specs.Prelude.{slice_index_or}
use Rattle.std.specs.List.{All, AllByRecursion, AllPairs, list_any, range_with_len}
use Rattle.std.proofs.lemmas.Bool.{cases_Bool, cases_lt}
use Rattle.std.proofs.lemmas.List.Elements.{All-from_recursion, recursion_from_All}
use Rattle.std.proofs.lemmas.List.{get_or_default, get_or-map, length-map}
use Rattle.std.proofs.lemmas.List.FromFn.{get_or-range_with_len, length-range_with_len}
use Rattle.ideal_heap.specs.Names.{IsBefore}
use Rattle.ideal_heap.specs.Ideal.{empty}
use Rattle.ideal_heap.specs.Runs.{heap_after_run, replies_of}
use Rattle.object_model.specs.Counting.{count_words_at}
use Rattle.object_model.specs.Graphs.{MutatorState, numbers_of}
use Rattle.object_model.specs.Objects.{HeapState, IsHeld, name_at, nums_at, refs_at, size_at, size_of}
use Rattle.object_model.specs.Lawful.{HasObject, IsWellFormed}
use Rattle.object_model.proofs.Representation.{models}
use Rattle.sessions.proofs.Histories.{session-run}
use Rattle.sessions.specs.Fitting.{large_of}
use Rattle.sessions.specs.Plans.{Rules, rules_of}
use Rattle.sessions.specs.Sessions.{InSession, Moment, Setting, IsSound, IsWhole, ideal_at}
use Rattle.command_line.specs.Orders.{plan_in}
use Rattle.command_line.specs.declared.order.PlanName.{PlanName}
use Rattle.driver.specs.MapPlaces.{AreDisjoint, LiesInBlocks}
use Rattle.driver.specs.Texts.{AreLive, IsSessionText, place_of}
use Rattle.heap_picture.specs.Reading.{has_young, text_read}
use Rattle.heap_picture.specs.Sessions.{HasNumbers, place_seen, places_of, replies_in, report_of}
use Rattle.heap_picture.specs.Texts.{AllNamesInOrder, CountsCollections, IsBorn, IsPlaceIn, Reports, births_in, large_blocks, small_blocks, whole}
use Rattle.heap_picture.proofs.Mapped.{blocks_of, words_in}
use Rattle.heap_picture.proofs.SessionBirths.{all-named, births-counted, none-said}
use Rattle.session_counts.specs.HeapCounts.{Distinct, HasOtherSizes, lies_in_block, own_in, shared_in}
use Rattle.session_counts.specs.Sizes.{AreSizes, own_blocks}
use Rattle.session_counts.proofs.Collections.{refused-in, session-fair}
use Rattle.session_counts.proofs.FilledBlocks.{session-filled}
use Rattle.session_counts.proofs.HeldRoom.{held-fit}
use Rattle.session_counts.proofs.OtherObjects.{other-sizes, size-in}
use Rattle.session_counts.proofs.Weights.{below-same, weigh_list, weighed}
use Rattle.object_model.specs.Times.{one_if}
use Rattle.heap_picture.specs.Marks.{is_used}
use Rattle.heap_picture.proofs.SessionFills.{known-kinds}
use Rattle.heap_picture.proofs.SessionCounts.{all-counted, all-print, all-short, full-counted}
use Rattle.heap_picture.proofs.SessionBlocks.{live-rooms, small-fit}
use Rattle.heap_picture.proofs.SessionKinds.{kinds-add-up}
use Rattle.heap_picture.proofs.Mutators.{IsShort, news}
use Rattle.heap_picture.proofs.SessionTexts.{session-read}
use Rattle.heap_picture.proofs.Taken.{Apart}
use Rattle.heap_picture.proofs.Sums.{all_printable, large_are, all_refusals_are, all_replies_are, births_are, words_are}

sizes : (refs nums : ℕ) → refs ≤ 1024 → nums ≤ 60000 → (3 ≤ size_of refs nums) × (size_of refs nums ≤ 61027)
sizes refs nums few low = (omega arith, omega arith)

seen-words : (s : HeapState) (live : List ℕ) → words_in (places_of s live) ≡ count_words_at s live
seen-words s [] = refl
seen-words s (a ∷ live) = ap (λ n. size_at s a + n) (seen-words s live)

seen-blocks : (s : HeapState) (live : List ℕ) → blocks_of (places_of s live) ≡ weigh_list (λ (a : ℕ). own_blocks (size_at s a)) live
seen-blocks s [] = refl
seen-blocks s (a ∷ live) = ap (λ n. own_blocks (size_at s a) + n) (seen-blocks s live)

any-seen : (s : HeapState) (k : ℕ) (live : List ℕ) → list_any (lies_in_block s k) live ≡ is_used (places_of s live) k
any-seen s k [] = refl
any-seen s k (a ∷ live) = ap (λ b. lies_in_block s k a || b) (any-seen s k live)

seen-shared : (s : HeapState) (live : List ℕ) → shared_in s live ≡ small_blocks s.blocks (places_of s live)
seen-shared s live = below-same (λ k. one_if (list_any (lies_in_block s k) live)) (λ k. one_if (is_used (places_of s live) k)) s.blocks (λ k. ap one_if (any-seen s k live))

first-differs : (x : ℕ) (xs : List ℕ) → AllPairs (λ (x y : ℕ). x ≡ y → ⊥) (x ∷ xs) → All (λ y. x ≡ y → ⊥) xs
first-differs x xs pairs i d low = pairs 0 (suc i) d (omega arith) (omega (arith, low))

distinct-by : (xs : List ℕ) → AllPairs (λ (x y : ℕ). x ≡ y → ⊥) xs → Distinct xs
distinct-by [] pairs = tt
distinct-by (x ∷ xs) pairs = (
  recursion_from_All (λ y. x ≡ y → ⊥) xs (first-differs x xs pairs),
  distinct-by xs (λ i j d less low. pairs (suc i) (suc j) d (omega (arith, less)) (omega (arith, low))),
)

module _ (t : Setting) (last : Moment) (live : List ℕ) (sound : IsSound t last) (are : AreLive last live) (inside : All (LiesInBlocks last.heap.blocks) (map (place_of last.heap) live)) where
  order : IsWellFormed last.heap
  order = sound.lawful.but_lines.order

  live-held : (i : ℕ) → i < length live → IsHeld last.heap (slice_index_or live i 0)
  live-held i low =
      let a : ℕ = slice_index_or live i 0 in
      (models last.heap last.mutators (ideal_at last) order sound.represents).mirrors.held a ((are.all a).1 (i, a, low, get_or_default live i a 0 low, refl))

  number-in : (m : MutatorState) (j : ℕ) → j < length last.mutators → slice_index_or last.mutators j m ≡ m → (m.number ≡ 1 + j) × (j < length t.traces)
  number-in m j low is =
      let number = λ (x : MutatorState). x.number in
      let many : length last.mutators ≡ length t.traces = sym (length-map last.mutators number) ∙ ap length sound.listed ∙ length-range_with_len 1 (length t.traces) in
      let at : slice_index_or (numbers_of last.mutators) j 0 ≡ m.number = get_or-map number last.mutators j m 0 low ∙ ap number is in
      let counted : slice_index_or (numbers_of last.mutators) j 0 ≡ 1 + j = ap (λ ns. slice_index_or ns j 0) sound.listed ∙ get_or-range_with_len 1 (length t.traces) j 0 (omega (arith, low, many)) in
      (sym at ∙ counted, omega (arith, low, many))

  name-in : (a : ℕ) → IsHeld last.heap a → (1 ≤ (name_at last.heap a).mutator) × ((name_at last.heap a).mutator ≤ length t.traces)
  name-in a held =
      let born = sound.represents.births.held a held in
      let number = number-in born.1 born.0 born.2 born.3 in
      let same : (name_at last.heap a).mutator ≡ born.1.number = born.4.0 in
      let is = number.0 in
      let low = number.1 in
      (omega (arith, same, is), omega (arith, same, is, low))

  place-in : (i : ℕ) → i < length live → IsPlaceIn (length t.traces) last.heap.blocks (place_seen (place_of last.heap (slice_index_or live i 0)))
  place-in i low =
      let a : ℕ = slice_index_or live i 0 in
      let held = live-held i low in
      let object : HasObject last.heap a = (order.objects.headers a held).object in
      let size = sizes (refs_at last.heap a) (nums_at last.heap a) object.refs object.nums in
      let named = name-in a held in
      record {
        least = named.0;
        most = named.1;
        born = object.name.born;
        fits = object.name.fits;
        header = size.0;
        short = size.1;
        lies = subst (LiesInBlocks last.heap.blocks) (get_or-map (place_of last.heap) live i 0 (place_of last.heap 0) low)
            (inside i (place_of last.heap 0) (subst (λ (k : ℕ). i < k) (sym (length-map live (place_of last.heap))) low));
      }

  -- a `new` reply gave the name of a held object
  births-at : (j : ℕ) → j < length t.traces → slice_index_or (births_in (replies_in (length t.traces) last)) (1 + j) 0 ≡ news (replies_of (1 + j) last.done)
  births-at j low =
      let n : ℕ = length t.traces in
      let rs = λ (m : ℕ). replies_of m last.done in
      let one : 1 + j ≡ suc j = omega arith in
      let dealt-in : j < length (range_with_len 1 n) = subst (λ (k : ℕ). j < k) (sym (length-range_with_len 1 n)) low in
      let many : j < length (replies_in n last) = subst (λ (k : ℕ). j < k) (sym (length-map (range_with_len 1 n) rs)) dealt-in in
      ap (λ (bs : List ℕ). slice_index_or bs (1 + j) 0) (births_are (replies_in n last))
      ∙ ap (λ (k : ℕ). slice_index_or (0 ∷ map news (replies_in n last)) k 0) one
      ∙ get_or-map news (replies_in n last) j [] 0 many
      ∙ ap news (get_or-map rs (range_with_len 1 n) j 0 [] dealt-in ∙ ap rs (get_or-range_with_len 1 n j 0 low))

  -- all births of the session
  births-said : IsWhole t last → (m : ℕ) → (heap_after_run empty last.done).births m ≤ slice_index_or (births_in (replies_in (length t.traces) last)) m 0
  births-said ended m =
      let bs : List ℕ = births_in (replies_in (length t.traces) last) in
      let count : (heap_after_run empty last.done).births m ≡ news (replies_of m last.done) = births-counted m last.done (session-run t last ended.session) in
      elim (cases_lt (length t.traces) m) as (λ _. (heap_after_run empty last.done).births m ≤ slice_index_or bs m 0) [
        | inl past ↦ (let none : news (replies_of m last.done) ≡ 0 = none-said t.traces m last.done (λ is. let low = is.1 in omega (arith, past, low)) ended.order.mutators in omega (arith, count, none))
        | inr low ↦ elim (cases_lt 0 m) as (λ _. (heap_after_run empty last.done).births m ≤ slice_index_or bs m 0) [
          | inr first ↦ (let none : news (replies_of m last.done) ≡ 0 = none-said t.traces m last.done (λ is. let some = is.0 in omega (arith, some, first)) ended.order.mutators in omega (arith, count, none))
          | inl some ↦ (
              let at : 1 + (m - 1) ≡ m = omega (arith, some) in
              let said : slice_index_or bs m 0 ≡ news (replies_of m last.done) = subst (λ (j : ℕ). slice_index_or bs j 0 ≡ news (replies_of j last.done)) at (births-at (m - 1) (omega (arith, some, low))) in
              omega (arith, count, said))
        ]
      ]

  pub names-said : IsWhole t last → AllNamesInOrder (births_in (replies_in (length t.traces) last)) 1 (replies_in (length t.traces) last)
  names-said ended = all-named (births_in (replies_in (length t.traces) last)) (length t.traces) 1 last.done (session-run t last ended.session) (births-said ended)

  born-in : IsWhole t last → (a : ℕ) → IsHeld last.heap a → IsBorn (replies_in (length t.traces) last) (place_seen (place_of last.heap a))
  born-in ended a held =
      let born = sound.represents.births.held a held in
      let j : ℕ = born.0 in
      let m : MutatorState = born.1 in
      let number = number-in m j born.2 born.3 in
      let same : (name_at last.heap a).mutator ≡ m.number = born.4.0 in
      let most : (name_at last.heap a).birth ≤ m.births = born.4.1 in
      let counts = All-from_recursion (λ (x : MutatorState). (ideal_at last).births x.number ≡ x.births) last.mutators sound.represents.births.births j m born.2 in
      let count : (ideal_at last).births m.number ≡ m.births = subst (λ (x : MutatorState). (ideal_at last).births x.number ≡ x.births) born.3 counts in
      let is : (name_at last.heap a).mutator ≡ 1 + j = same ∙ number.0 in
      let replied : (ideal_at last).births (1 + j) ≡ news (replies_of (1 + j) last.done) = births-counted (1 + j) last.done (session-run t last ended.session) in
      let all : slice_index_or (births_in (replies_in (length t.traces) last)) (name_at last.heap a).mutator 0 ≡ m.births =
      ap (λ (k : ℕ). slice_index_or (births_in (replies_in (length t.traces) last)) k 0) is ∙ births-at j number.1 ∙ sym replied ∙ ap (ideal_at last).births (sym number.0) ∙ count in
      subst (λ (k : ℕ). (name_at last.heap a).birth ≤ k) (sym all) most

  pub all-born : IsWhole t last → All (IsBorn (replies_in (length t.traces) last)) (places_of last.heap live)
  all-born ended i d low =
      let look = λ (a : ℕ). place_seen (place_of last.heap a) in
      let few : i < length live = subst (λ (k : ℕ). i < k) (length-map live look) low in
      subst (IsBorn (replies_in (length t.traces) last)) (sym (get_or-map look live i 0 d few)) (born-in ended (slice_index_or live i 0) (live-held i few))

  -- the live objects are held, each once
  each-held : AllByRecursion (IsHeld last.heap) live
  each-held = recursion_from_All (IsHeld last.heap) live (λ i d low. subst (IsHeld last.heap) (get_or_default live i 0 d low) (live-held i low))

  differ : AllPairs (λ (x y : ℕ). x ≡ y → ⊥) live
  differ i j d less low same =
      let before : IsBefore (name_at last.heap (slice_index_or live i 0)) (name_at last.heap (slice_index_or live j 0)) = are.rise i j less low in
      let one : slice_index_or live i 0 ≡ slice_index_or live i d = get_or_default live i 0 d (omega (arith, less, low)) in
      let two : slice_index_or live j 0 ≡ slice_index_or live j d = get_or_default live j 0 d low in
      let x : ℕ = slice_index_or live i 0 in
      let y : ℕ = slice_index_or live j 0 in
      let is : x ≡ y = one ∙ same ∙ sym two in
      let mutators : (name_at last.heap x).mutator ≡ (name_at last.heap y).mutator = ap (λ (a : ℕ). (name_at last.heap a).mutator) is in
      let births : (name_at last.heap x).birth ≡ (name_at last.heap y).birth = ap (λ (a : ℕ). (name_at last.heap a).birth) is in
      elim before as (λ _. ⊥) [
        | inl less ↦ omega (arith, less, mutators)
        | inr later ↦ (let more = later.1 in omega (arith, more, births))
      ]

  rooms : AllPairs AreDisjoint (map (place_of last.heap) live) → AllPairs Apart (places_of last.heap live)
  rooms apart = live-rooms last.heap order live live-held differ apart

  pub each-in : All (IsPlaceIn (length t.traces) last.heap.blocks) (places_of last.heap live)
  each-in i d low =
      let look = λ (a : ℕ). place_seen (place_of last.heap a) in
      let few : i < length live = subst (λ (k : ℕ). i < k) (length-map live look) low in
      subst (IsPlaceIn (length t.traces) last.heap.blocks) (sym (get_or-map look live i 0 d few)) (place-in i few)

  -- the collections, by the plan
  collections-of : (plan : PlanName) → t.rules ≡ rules_of (plan_in plan) → InSession t last → CountsCollections (report_of plan (length t.traces) last live)
  collections-of plan same session =
      let fair = session-fair t last session in
      let refused : refused-in last.done + 0 ≤ last.full = fair.refused in
      let nursery : last.nursery ≤ length last.done + 0 = fair.nursery in
      let full : last.full ≤ length last.done + 0 = fair.full in
      record {
        young = λ some. elim (cases_Bool t.rules.young) as (λ _. has_young plan ≡ true) [
          | inl is ↦ sym (ap (λ (r : Rules). r.young) same) ∙ is
          | inr not ↦ absurd (let none : last.nursery ≡ 0 = fair.none not in omega (arith, none, some))
        ];
        first = fair.first;
        refused = omega (arith, refused);
        nursery = omega (arith, nursery);
        collected = omega (arith, full);
      }

  pub reports-of : (plan : PlanName) → t.rules ≡ rules_of (plan_in plan) → IsWhole t last → 1 ≤ length t.traces → length t.traces ≤ 16 → HasNumbers (report_of plan (length t.traces) last live) last.done
      → Reports (report_of plan (length t.traces) last live) (replies_in (length t.traces) last) (places_of last.heap live)
  reports-of plan same ended some few fit =
      let all = replies_in (length t.traces) last in
      let ps = places_of last.heap live in
      let each = ended.order.mutators in
      let held : HasOtherSizes last.heap live = other-sizes last.heap order live each-held (distinct-by live differ) (session-filled t last ended.session) in
      let r = report_of plan (length t.traces) last live in
      let large-is : own_in last.heap live ≡ large_blocks ps = weighed (λ (a : ℕ). own_blocks (size_at last.heap a)) live ∙ sym (large_are ps ∙ seen-blocks last.heap live) in
      let small-is : shared_in last.heap live ≡ small_blocks last.heap.blocks ps = seen-shared last.heap live in
      let large : own_in last.heap live ≤ large_of last.heap = held.large in
      record {
        mutators = sym (length-map (range_with_len 1 (length t.traces)) (λ (m : ℕ). replies_of m last.done) ∙ length-range_with_len 1 (length t.traces));
        some = some;
        few = few;
        commands = all-counted (length t.traces) last.done each ∙ sym (all_replies_are all);
        full = full-counted (length t.traces) last.done each ∙ sym (all_refusals_are all);
        live = sym (length-map live (λ (a : ℕ). place_seen (place_of last.heap a)));
        words = sym (words_are ps ∙ seen-words last.heap live);
        held = held.objects;
        held_words = held.words;
        others = record {
          sizes = held.sizes;
          are = subst (λ (n : ℕ). AreSizes (r.held - r.live) (r.held_words - r.live_words) (r.kinds.large - n) (r.blocks - r.kinds.free - r.kinds.large - small_blocks r.blocks ps) held.sizes) large-is
              (subst (λ (n : ℕ). AreSizes (r.held - r.live) (r.held_words - r.live_words) (r.kinds.large - own_in last.heap live) (r.blocks - r.kinds.free - r.kinds.large - n) held.sizes) small-is held.are);
        };
        room = held-fit last.heap sound.lawful.but_lines (λ a held. (size-in last.heap order a held).least);
        collections = collections-of plan same ended.session;
        large = omega (arith, large, large-is);
        small = small-fit last.heap order live each-held;
        kinds = kinds-add-up last.heap sound.lawful.but_lines.blocks;
        of_plan = known-kinds t plan last same ended.session;
        least = order.row.least;
        most = order.row.most;
        fit = fit.report;
      }

pub sound-read : (t : Setting) (plan : PlanName) (last : Moment) (text : List ℕ) → t.rules ≡ rules_of (plan_in plan) → IsSound t last → IsWhole t last → 1 ≤ length t.traces → length t.traces ≤ 16 → All (λ trace. length trace ≤ 1000000) t.traces
    → (s : IsSessionText (plan_in plan) (length t.traces) true last text) → All (LiesInBlocks last.heap.blocks) (map (place_of last.heap) s.live) → AllPairs AreDisjoint (map (place_of last.heap) s.live)
    → HasNumbers (report_of plan (length t.traces) last s.live) last.done
    → text_read text ≡ Ok (whole (report_of plan (length t.traces) last s.live) (births_in (replies_in (length t.traces) last)) (places_of last.heap s.live))
sound-read t plan last text same sound ended some few brief s inside apart fit =
    session-read plan (length t.traces) last text s (reports-of t last s.live sound s.are inside plan same ended some few fit)
    (all_printable (replies_in (length t.traces) last) (all-print (length t.traces) 1 last.done fit.replies))
    (All-from_recursion IsShort (replies_in (length t.traces) last) (all-short t.traces brief last.done ended.order.commands (length t.traces) 1 (omega arith) (omega arith)))
    (names-said t last s.live sound s.are inside ended)
    (each-in t last s.live sound s.are inside) (all-born t last s.live sound s.are inside ended) (rooms t last s.live sound s.are inside apart)
