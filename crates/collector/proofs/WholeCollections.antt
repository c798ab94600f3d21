-- A finished trace and the release of all blocks make a collection.
use Rattle.std.proofs.Common.{◌≡◌, refl, sym, ◌∙◌, ap, ap₂, subst, subst₂, ℕ, ◌+◌, ◌^◌, ◌<◌, ◌≤◌, ◌⊎◌, inl, inr, lit<, arith, Bool, false, IsTrue, nat_lt, List, [], map, length, Option, Some, None}
use Rattle.std.specs.Prelude.{if◌then◌else◌, slice_get, unwrap_or}
use Rattle.std.proofs.lemmas.Bool.{cond-true, cond-false}
use Rattle.heap_layout.specs.declared.block.Kind.TheVariants as kinds
use Rattle.object_model.specs.declared.collect.Collect.{Collect}
use Rattle.object_model.specs.declared.collect.Collect.TheVariants.{Nursery, Full}
use Rattle.object_model.specs.Objects.{HeapState, HasKind, IsHeld, word_at, with_words}
use Rattle.object_model.specs.Lawful.{IsLawful}
use Rattle.sessions.specs.Plans.{Rules, Plan, rules_of}
use Rattle.sessions.specs.Collecting as collecting
use Rattle.sessions.specs.Collecting.{is_evacuated, still_free, Collects}
use Rattle.plan_api.specs.Evacuation.{listed}
use Rattle.plan_api.proofs.EvacuationLaws.{flag-of}
use Rattle.trace_core.specs.Setups.{Setup, blocks, collection}
use Rattle.trace_core.specs.Machine.{Event}
use Rattle.trace_core.specs.Traces.{IsTracing, IsFinished, machine_after, heap_after, stage_of}
use Rattle.trace_core.specs.Outcomes.{base_after_trace, image, HaveAsked, NoOthersAsked}
use Rattle.trace_core.specs.Rooms.{AreLeft, IsFilled}
use Rattle.trace_core.specs.Runs.{is_nursery, is_some_true, without_lines, without_unlogs, with_unlogs, setup_of, MayRun}
use Rattle.trace_core.specs.Views.{View, Holds}
use Rattle.trace_core.specs.declared.run.TraceRun.{TraceRun}
use Rattle.trace_core.proofs.WithoutLines as lines
use Rattle.trace_core.proofs.Begun as begins
use Rattle.trace_core.proofs.SetUnlogs as sets
use Rattle.object_model.specs.Times.{times}
use Rattle.trace_core.proofs.Begun.{by-begun}
use Rattle.block_release.specs.Released.{ReleasesBelow, AreReleased, with_numbers}
use Rattle.block_release.specs.Knowing.{IsRunUnder}
use Rattle.racing_collector.specs.Together.{FillsBlocks}
use Rattle.collector.specs.Collected.{FillsInTurn}
use Rattle.collector.proofs.Given.{SameButBits, IsSetupUnder}
use Rattle.block_release.proofs.Fates.{IsAllReleased}
use Rattle.block_release.proofs.InOrder.{released}
use Rattle.block_release.proofs.LawfulReleases.{all-numbered, lawful}
use Rattle.collector.proofs.CollectedObjects.{kept, precise, aged, none-logged, unlogged, has-number, claimed-here, old-stay}
use Rattle.collector.proofs.CollectedBlocks.{block-after, still-free}
use Rattle.collector.proofs.StillFree.{in-place}
use Rattle.collector.proofs.Turns.{fills-in-turn}

-- a collection by this map
abbrev pub CollectsBy : (ℕ → ℕ) → Rules → ℕ → Collect → HeapState → List ℕ → HeapState → List ℕ → Type 0
CollectsBy F r w c old roots new after = (made : Collects r w c old roots new after) × (made.target ≡ F)

abbrev with : List ℕ → ℕ → ℕ → ℕ → HeapState
with w b number base = record { words = w; blocks = b; number = number; base = base }

module _ {q : Plan} {c : Collect} {p : Setup} {u : List ℕ} (under : IsSetupUnder q c p u) {es : List Event} (trace : IsTracing p es) (finished : IsFinished p (machine_after p es))
    {v : List ℕ} (all : IsAllReleased (rules_of q) c (base_after_trace p) (heap_after p es) v (collection p) (base_after_trace p))
    (roots : List ℕ) (asked : HaveAsked roots (machine_after p es).asked) (no-others : NoOthersAsked roots (machine_after p es).asked) (fills : FillsBlocks p (machine_after p es)) where
  base-by : (kind : Collect) → p.nursery ≡ is_nursery kind → base_after_trace p ≡ collecting.base_after kind (collection p) p.before.base
  base-by Full full = cond-false p.nursery p.before.base (collection p) full
  base-by Nursery nursery = cond-true p.nursery p.before.base (collection p) nursery

  full : (b : ℕ) → 0 < (machine_after p es).taken b → (0 < times b fills.last) ⊎ ((n : ℕ) × (2048 < n) × IsFilled p (machine_after p es) b n)
  full b taken = elim (fills.full b taken) as (λ _. (0 < times b fills.last) ⊎ ((n : ℕ) × (2048 < n) × IsFilled p (machine_after p es) b n)) [
    | inl last ↦ inl last
    | inr filled ↦ inr (2049, lit< tt, filled)
  ]

  collects : Collects (rules_of q) p.workers c (with_words p.before u) roots (with v (blocks p) (collection p) (base_after_trace p)) (map (image (stage_of p es)) roots)
  collects = record {
    target = image (stage_of p es);
    kept = kept under trace finished all roots asked;
    precise = precise under trace finished all roots asked no-others;
    ages = aged under trace finished all;
    block = block-after under trace finished all;
    logged = none-logged under trace finished all;
    unlogged = unlogged under trace finished all;
    numbers = λ full. has-number under trace finished all (under.nursery ∙ ap is_nursery full);
    claimed = λ young. claimed-here under trace finished all young;
    stays = λ young. old-stay under trace finished all young;
    number = refl;
    base = base-by c under.nursery;
    layout = refl;
    moved = λ a some young moves same.
        let most : still_free (with_words p.before u) (with v (blocks p) (collection p) (base_after_trace p)) ≤ length fills.last = in-place under trace finished all fills.last full a some young moves same in
        let few : length fills.last ≤ p.workers = fills.few in omega (arith, most, few);
  }

-- the flag of a block, as setups and as lists read it
set-listed : (o : Option Bool) → is_some_true o ≡ unwrap_or o false
set-listed None = refl
set-listed (Some b) = refl

-- the number and the base that the tracer gets are those of the setup
pub record IsNumbered (s : HeapState) (run : TraceRun) (p : Setup) : Type 0 where
  pub blocks : blocks p ≡ s.blocks
  pub number : run.number ≡ collection p
  pub base : run.base ≡ base_after_trace p

module _ (s : HeapState) (run : TraceRun) (w : ℕ) where
  -- the setup, by the heap as its trace begins
  abbrev setup : HeapState → Setup
  setup h = record { before = h; nursery = is_nursery run.collect; logged = λ a. nat_lt 0 (times a run.logged.items); from = λ b. is_some_true (slice_get run.from.items b); copy = run.copy_kind; workers = w }

  by-heap : (P : Setup → Type 0) → P (setup (without_unlogs (without_lines s))) → P (setup (without_unlogs s)) → (IsTrue (is_nursery run.collect) → P (setup (with_unlogs s run.logged.items)))
      → P (setup_of s run w)
  by-heap P = by-begun s run (λ h. P (setup h))

  module _ (may : MayRun s run) where
    numbered-by : (h : HeapState) → with_words h s.words ≡ s → IsNumbered s run (setup h)
    numbered-by h same =
        let number : run.number ≡ collection (setup h) = may.number ∙ ap (λ (x : HeapState). x.number + 1) (sym same) in
        record {
          blocks = ap (λ (x : HeapState). x.blocks) same;
          number = number;
          base = may.base ∙ ap₂ (λ b n. if is_nursery run.collect then b else n) (ap (λ (x : HeapState). x.base) (sym same)) number;
        }

    pub numbered : (p : Setup) → p ≡ setup_of s run w → IsNumbered s run p
    numbered p is = subst (IsNumbered s run) (sym is) (by-heap (IsNumbered s run) (numbered-by (without_unlogs (without_lines s)) refl) (numbered-by (without_unlogs s) refl) (λ young. numbered-by (with_unlogs s run.logged.items) refl))

    -- what the release of all blocks left, by the setup's numbers
    releases : (p : Setup) → IsNumbered s run p → (es : List Event) (r : Rules) (c : Collect) (new : HeapState) → IsTracing p es → IsFinished p (machine_after p es)
        → ReleasesBelow r c run.base (heap_after p es) new s.blocks → AreReleased r c (base_after_trace p) (heap_after p es) new (blocks p)
    releases p is es r c new trace finished below = released p es r c new (blocks p) trace finished (subst₂ (λ b n. ReleasesBelow r c b (heap_after p es) new n) is.base (sym is.blocks) below)

    pub lawful-after : (p : Setup) → p ≡ setup_of s run w → (es : List Event) (r : Rules) (c : Collect) (new : HeapState) → IsTracing p es → IsFinished p (machine_after p es)
        → ((i : ℕ) → word_at (heap_after p es) i < 2 ^ 64) → ReleasesBelow r c run.base (heap_after p es) new s.blocks → IsLawful (with_numbers new run.number run.base)
    lawful-after p is es r c new trace finished fits below =
        let numbers = numbered p is in
        subst₂ (λ n b. IsLawful (with_numbers new n b)) (sym numbers.number) (sym numbers.base) (lawful p es trace finished r c new fits (releases p numbers es r c new trace finished below))

module _ (s : HeapState) (run : TraceRun) (w : ℕ) (lawful-before : IsLawful s) (may : MayRun s run) where
  -- with unlog bits cleared, and with line bits cleared before
  unlogs : SameButBits (without_unlogs s) s.words
  unlogs = let lawful = lawful-before.but_lines in let keeps = begins.keeps-objects s lawful in record {
    heap = record {
      words = λ i above. sym (begins.above-unlogs s lawful i above);
      globals = λ g few. sym (begins.globals-same s lawful g few);
      starts = λ x. sym (keeps.starts x);
      pins = λ x. sym (begins.pins-same s lawful x);
    };
    blocks = λ k there. sym (keeps.block_words k there);
  }

  both : SameButBits (without_unlogs (without_lines s)) s.words
  both =
      let same = lines.same s lawful-before.but_lines in
      let lawful = lines.without_lines-lawful s lawful-before.but_lines in
      let keeps = begins.keeps-objects (without_lines s) lawful in record {
        heap = record {
          words = λ i above. sym (begins.above-unlogs (without_lines s) lawful i above ∙ same.words i above);
          globals = λ g few. sym (begins.globals-same (without_lines s) lawful g few ∙ same.globals g few);
          starts = λ x. sym (keeps.starts x ∙ same.starts x);
          pins = λ x. sym (begins.pins-same (without_lines s) lawful x ∙ same.pins x);
        };
        blocks = λ k there. sym (keeps.block_words k there ∙ lines.block-same s lawful-before.but_lines k there);
      }

  -- with those of the logged objects set
  marked : IsTrue (is_nursery run.collect) → SameButBits (with_unlogs s run.logged.items) s.words
  marked young =
      let lawful = lawful-before.but_lines in
      let held : (x : ℕ) → 0 < times x run.logged.items → IsHeld s x = begins.listed-held s run.logged.items (may.nursery young) in
      let same = sets.alike s lawful run.logged.items held in record {
        heap = record {
          words = λ i above. sym (same.words i above);
          globals = λ g few. sym (same.globals g few);
          starts = λ x. sym (same.starts x);
          pins = λ x. sym (same.pins x);
        };
        blocks = λ k there. sym (sets.word-same s lawful run.logged.items held k there);
      }

  -- how one worker filled blocks
  abbrev Turns : Setup → Type 0
  Turns p = (es : List Event) (v : View) → IsTracing p es → IsFinished p (machine_after p es) → Holds p (machine_after p es) v → AreLeft p (machine_after p es) [] v.blocks
      → ((b d : ℕ) → 0 < (machine_after p es).taken b → d < b → HasKind p.before d kinds.Free → 0 < (machine_after p es).taken d) → FillsInTurn s (image (stage_of p es))

  turns-by : (h : HeapState) → SameButBits h s.words → with_words h s.words ≡ s → Turns (setup s run w h)
  turns-by h like same es v trace finished holds left lowest = subst (λ old. FillsInTurn old (image (stage_of (setup s run w h) es))) same
      (fills-in-turn (setup s run w h) s.words like es trace finished v holds left lowest)

  pub turns : (p : Setup) → p ≡ setup_of s run w → Turns p
  turns p is = subst Turns (sym is) (by-heap s run w Turns (turns-by (without_unlogs (without_lines s)) both refl) (turns-by (without_unlogs s) unlogs refl) (λ young. turns-by (with_unlogs s run.logged.items) (marked young) refl))

module _ (q : Plan) (c : Collect) (s : HeapState) (run : TraceRun) (w : ℕ) (lawful-before : IsLawful s) (may : MayRun s run) (shown : IsRunUnder (rules_of q) c s run) where
  abbrev r : Rules
  r = rules_of q

  abbrev Makes : Setup → Type 0
  Makes p = (es : List Event) (roots : List ℕ) (new : HeapState) → IsTracing p es → IsFinished p (machine_after p es)
      → HaveAsked roots (machine_after p es).asked → NoOthersAsked roots (machine_after p es).asked → FillsBlocks p (machine_after p es)
      → ReleasesBelow r c run.base (heap_after p es) new s.blocks
      → CollectsBy (image (stage_of p es)) r w c s roots (with_numbers new run.number run.base) (map (image (stage_of p es)) roots)

  module _ (h : HeapState) (like : SameButBits h s.words) (same : with_words h s.words ≡ s) where
    abbrev p : Setup
    p = setup s run w h

    numbers : IsNumbered s run p
    numbers = numbered-by s run w may h same

    under : IsSetupUnder q c p s.words
    under = record {
      like = like;
      nursery = ap is_nursery shown.collect;
      young = shown.young;
      from = λ k there. set-listed (slice_get run.from.items k) ∙ ap (λ l. listed l k) shown.from
          ∙ flag-of (is_evacuated r c s) s.blocks k (subst (λ n. k < n) numbers.blocks there) ∙ ap (λ (x : HeapState). is_evacuated r c x k) (sym same);
      copy = shown.copy;
    }

    of-setup : Makes p
    unfolding collects
    of-setup es roots new trace finished asked no-others fills below =
        let are : AreReleased r c (base_after_trace p) (heap_after p es) new (blocks p) = releases s run w may p numbers es r c new trace finished below in
        let after : List ℕ = map (image (stage_of p es)) roots in
        let F : ℕ → ℕ = image (stage_of p es) in
        subst (λ n. CollectsBy F r w c s roots (with new.words new.blocks run.number n) after) (sym numbers.base)
        (subst (λ n. CollectsBy F r w c s roots (with new.words new.blocks n (base_after_trace p)) after) (sym numbers.number)
        (subst (λ n. CollectsBy F r w c s roots (with new.words n (collection p) (base_after_trace p)) after) (sym are.blocks)
        (subst (λ old. CollectsBy F r w c old roots (with new.words (blocks p) (collection p) (base_after_trace p)) after) same
        (collects under trace finished (all-numbered p es trace finished r c new (collection p) (base_after_trace p) are) roots asked no-others fills, refl))))

  pub makes : (p : Setup) → p ≡ setup_of s run w → Makes p
  makes p is = subst Makes (sym is) (by-heap s run w Makes (of-setup (without_unlogs (without_lines s)) (both s run w lawful-before may) refl) (of-setup (without_unlogs s) (unlogs s run w lawful-before may) refl) (λ young. of-setup (with_unlogs s run.logged.items) (marked s run w lawful-before may young) refl))

  -- a block that was Free and that no worker took stays Free
  abbrev Frees : Setup → Type 0
  Frees p = (es : List Event) (new : HeapState) → IsTracing p es → IsFinished p (machine_after p es) → ReleasesBelow r c run.base (heap_after p es) new s.blocks
      → (k : ℕ) → HasKind s k kinds.Free → (machine_after p es).taken k ≡ 0 → HasKind new k kinds.Free

  module _ (h : HeapState) (like : SameButBits h s.words) (same : with_words h s.words ≡ s) where
    frees-by : Frees (setup s run w h)
    frees-by es new trace finished below k free none =
        let p : Setup = setup s run w h in
        let are : AreReleased r c (base_after_trace p) (heap_after p es) new (blocks p) = releases s run w may p (numbers h like same) es r c new trace finished below in
        subst (λ n. HasKind (with new.words n (collection p) (base_after_trace p)) k kinds.Free) (sym are.blocks)
        (still-free (under h like same) trace finished (all-numbered p es trace finished r c new (collection p) (base_after_trace p) are) k
        (subst (λ old. HasKind old k kinds.Free) (sym same) free) none)

  pub frees : (p : Setup) → p ≡ setup_of s run w → Frees p
  frees p is = subst Frees (sym is) (by-heap s run w Frees (frees-by (without_unlogs (without_lines s)) (both s run w lawful-before may) refl)
      (frees-by (without_unlogs s) (unlogs s run w lawful-before may) refl) (λ young. frees-by (with_unlogs s run.logged.items) (marked s run w lawful-before may young) refl))
