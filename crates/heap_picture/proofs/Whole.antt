-- A text is read exactly where it is that of a run with a map.
use Rattle.heap_picture.proofs.UsedBlocks.{small_are}
use Rattle.std.proofs.Common.{◌≡◌, refl, sym, ◌∙◌, ap, subst, ℕ, ◌+◌, ◌-◌, ◌*◌, ◌<◌, ◌≤◌, ◌^◌, arith, inl, inr, true, ◌&&◌, ◌||◌, nat_eq, nat_lt, nat_le, List, [], ◌∷◌, ◌++◌, length, map, append_assoc, zero-add, None, Ok}
use Rattle.std.specs.Prelude.{codes, slice_index_or}
use Rattle.std.proofs.lemmas.List.{get_or-replicate, get_or_past}
use Rattle.std.specs.List.{All, AllByRecursion, flat_map}
use Rattle.std.proofs.lemmas.Grind.{flat_map-append}
use Rattle.std.proofs.lemmas.Bool.{and_from, and_parts, cases_lt, eq-eqb, eqb-true, le-leb, leb-true, lt-ltb, ltb-true, or_cases, or_left, or_right}
use Rattle.std.proofs.lemmas.List.Elements.{All-from_recursion, recursion_from_All}
use Rattle.ideal_heap.specs.declared.reply.Reply.{Reply}
use Rattle.trace_text.specs.Text.{IsPrintable, ended, replies_text, reply_text}
use Rattle.driver.specs.Texts.{place_line}
use Rattle.command_line.specs.declared.order.PlanName.{PlanName}
use Rattle.heap_picture.specs.declared.forms.Place.{Place}
use Rattle.heap_picture.specs.declared.reader.Report.{Report}
use Rattle.heap_picture.specs.Bars.{map_place}
use Rattle.heap_picture.specs.Forms.{LARGE}
use Rattle.heap_picture.specs.Reading.{Begun, has_young, have_sizes, blocks_in, may_collect, may_have_kinds, no_wants, nothing, strange_in, text_read}
use Rattle.session_counts.specs.Sizes.{AreSizes, may_fill}
use Rattle.session_counts.proofs.SizeTests.{bounded, found as sizes_found}
use Rattle.heap_picture.specs.Texts.{AllNamesInOrder, CountsCollections, HasOthers, IsPlaceIn, IsRunText, Reports, births_in, count_lines, large_blocks, numbers_in, place_text, plan_line, replies_from, report_text, whole, small_blocks}
use Rattle.heap_picture.proofs.LineTexts.{kinds_line_lacks, one_line, place_line_lacks, plan_line_lacks, reply_line_lacks, two_line}
use Rattle.heap_picture.proofs.Lines.{IsLine, Leads, read_lines, text_of_lines}
use Rattle.heap_picture.proofs.Mapped.{BornBy, Leaves, blocks_of, filled-as, leaves-by, map_goes, map_leads, place_fits, sizes_again, words_in, added_to}
use Rattle.heap_picture.proofs.Mutators.{IsShort, all_refusals, all_replies, first_line, mutators_go, news, planned, refusals, replies_lead, reply_lines}
use Rattle.heap_picture.proofs.PlacesRead.{place_line_is}
use Rattle.heap_picture.proofs.Reported.{Sized, mapping, report_goes, report_leads}
use Rattle.heap_picture.proofs.Sums.{all_printable, all_refusals_are, all_replies_are, births_are, each_printable, from_pairs, in_pairs, large_are, words_are}
use Rattle.heap_picture.proofs.Taken.{clear_again, clear_pairs}

-- the lines of a text
abbrev run_lines : Report → List (List Reply) → List Place → List (List ℕ)
run_lines r all ps = reply_lines 1 all ++ (plan_line r.plan ∷ (count_lines r ++ map place_text ps))

replies_joined : (rs : List Reply) → flat_map ended (map reply_text rs) ≡ replies_text rs
replies_joined [] = refl
replies_joined (x ∷ rs) = ap (λ t. ended (reply_text x) ++ t) (replies_joined rs)

mutators_joined : (all : List (List Reply)) (m : ℕ) → flat_map ended (reply_lines m all) ≡ replies_from m all
mutators_joined [] m = refl
mutators_joined (rs ∷ all) m =
    ap (λ t. ended (first_line m) ++ t) (flat_map-append ended (map reply_text rs) (reply_lines (m + 1) all)
    ∙ ap (λ t. t ++ flat_map ended (reply_lines (m + 1) all)) (replies_joined rs) ∙ ap (λ t. replies_text rs ++ t) (mutators_joined all (m + 1)))
    ∙ sym (append_assoc (ended (first_line m)) (replies_text rs) (replies_from (m + 1) all))

places_joined : (ps : List Place) → flat_map ended (map place_text ps) ≡ flat_map place_line (map map_place ps)
places_joined [] = refl
places_joined (p ∷ ps) = ap (λ t. t ++ flat_map ended (map place_text ps)) (sym (place_line_is p)) ∙ ap (λ t. place_line (map_place p) ++ t) (places_joined ps)

run_joined : (r : Report) (all : List (List Reply)) (ps : List Place)
    → flat_map ended (run_lines r all ps) ≡ replies_from 1 all ++ report_text r ++ flat_map place_line (map map_place ps)
run_joined r all ps =
    flat_map-append ended (reply_lines 1 all) ((plan_line r.plan ∷ count_lines r) ++ map place_text ps)
    ∙ ap (λ t. t ++ flat_map ended ((plan_line r.plan ∷ count_lines r) ++ map place_text ps)) (mutators_joined all 1)
    ∙ ap (λ t. replies_from 1 all ++ t) (flat_map-append ended (plan_line r.plan ∷ count_lines r) (map place_text ps) ∙ ap (λ t. report_text r ++ t) (places_joined ps))
    ∙ sym (append_assoc (replies_from 1 all) (report_text r) (flat_map place_line (map map_place ps)))

-- what is read was printed
sizes_fit : (r : Report) → Sized r → All (λ n. n ≤ LARGE) (numbers_in r)
sizes_fit r s = All-from_recursion (λ n. n ≤ LARGE) (numbers_in r)
    (s.commands, (s.full, (s.nursery, (s.collected, (s.live, (s.live_words, (s.held, (s.held_words, (s.kinds.free, (s.kinds.bump, (s.kinds.young, (s.kinds.mature, (s.kinds.immix, (s.kinds.cells, (s.kinds.large, (s.kinds.kept, tt))))))))))))))))

-- what is held beside the live objects
record Held (r : Report) : Type 0 where
  objects : r.live ≤ r.held
  words : r.live_words ≤ r.held_words

held_by : (r : Report) → Sized r → Held r
held_by r s =
    let k : ℕ = r.held - r.live in
    let w : ℕ = r.held_words - r.live_words in
    let whole = and_parts (nat_le r.live r.held && nat_le r.live_words r.held_words && have_sizes k w) (nat_le r.held_words (4096 * r.blocks)) s.held_is in
    let all = and_parts (nat_le r.live r.held && nat_le r.live_words r.held_words) (have_sizes k w) whole.0 in
    let front = and_parts (nat_le r.live r.held) (nat_le r.live_words r.held_words) all.0 in
    record {
      objects = leb-true r.live r.held front.0;
      words = leb-true r.live_words r.held_words front.1;
    }

-- the kinds of the blocks
record Filled (r : Report) : Type 0 where
  all : blocks_in r.kinds ≡ r.blocks
  of_plan : strange_in r.plan r.kinds ≡ 0
  room : r.held_words ≤ 4096 * (r.blocks - r.kinds.free)
  fill : may_fill r.held r.held_words r.kinds.large (r.blocks - r.kinds.free - r.kinds.large) ≡ true

filled_by : (r : Report) → may_have_kinds r r.kinds ≡ true → Filled r
filled_by r e =
    let fill = and_parts (nat_eq (blocks_in r.kinds) r.blocks && nat_eq (strange_in r.plan r.kinds) 0 && nat_le r.held_words (4096 * (r.blocks - r.kinds.free))) (may_fill r.held r.held_words r.kinds.large (r.blocks - r.kinds.free - r.kinds.large)) e in
    let whole = and_parts (nat_eq (blocks_in r.kinds) r.blocks && nat_eq (strange_in r.plan r.kinds) 0) (nat_le r.held_words (4096 * (r.blocks - r.kinds.free))) fill.0 in
    let both = and_parts (nat_eq (blocks_in r.kinds) r.blocks) (nat_eq (strange_in r.plan r.kinds) 0) whole.0 in
    record { all = eqb-true (blocks_in r.kinds) r.blocks both.0; of_plan = eqb-true (strange_in r.plan r.kinds) 0 both.1; room = leb-true r.held_words (4096 * (r.blocks - r.kinds.free)) whole.1; fill = fill.1 }

-- the collections, as they are counted and as they are tested
some_young : (plan : PlanName) (n c : ℕ) → (nat_eq n 0 || has_young plan && nat_lt 0 c) ≡ true → 0 < n → (has_young plan ≡ true) × (0 < c)
some_young plan n c e some = elim (or_cases (nat_eq n 0) (has_young plan && nat_lt 0 c) e) as (λ _. (has_young plan ≡ true) × (0 < c)) [
  | inl none ↦ absurd (let is : n ≡ 0 = eqb-true n 0 none in omega (arith, is, some))
  | inr both ↦ (let parts = and_parts (has_young plan) (nat_lt 0 c) both in (parts.0, ltb-true 0 c parts.1))
]

made_by : (r : Report) → may_collect r (record { first = r.nursery; second = r.collected }) ≡ true → CountsCollections r
made_by r e =
    let last = and_parts (nat_le r.full r.collected && nat_le r.collected r.commands && nat_le r.nursery r.commands) (nat_eq r.nursery 0 || has_young r.plan && nat_lt 0 r.collected) e in
    let three = and_parts (nat_le r.full r.collected && nat_le r.collected r.commands) (nat_le r.nursery r.commands) last.0 in
    let two = and_parts (nat_le r.full r.collected) (nat_le r.collected r.commands) three.0 in
    record {
      young = λ some. (some_young r.plan r.nursery r.collected last.1 some).0;
      first = λ some. (some_young r.plan r.nursery r.collected last.1 some).1;
      refused = leb-true r.full r.collected two.0;
      nursery = leb-true r.nursery r.commands three.1;
      collected = leb-true r.collected r.commands two.1;
    }

made_again : (r : Report) → CountsCollections r → may_collect r (record { first = r.nursery; second = r.collected }) ≡ true
made_again r counts =
    and_from _ _ (and_from _ _ (and_from _ _ (le-leb r.full r.collected counts.refused) (le-leb r.collected r.commands counts.collected)) (le-leb r.nursery r.commands counts.nursery))
    (elim (cases_lt 0 r.nursery) as (λ _. (nat_eq r.nursery 0 || has_young r.plan && nat_lt 0 r.collected) ≡ true) [
      | inl some ↦ or_right (nat_eq r.nursery 0) _ (and_from _ _ (counts.young some) (lt-ltb 0 r.collected (counts.first some)))
      | inr none ↦ or_left (nat_eq r.nursery 0) _ (eq-eqb r.nursery 0 (omega (arith, none)))
    ])

reports_are : (r : Report) (all : List (List Reply)) (ps : List Place) → Sized r → r.mutators ≡ length all → 0 < r.mutators → r.mutators ≤ 16 → r.commands ≡ all_replies all
    → r.full ≡ all_refusals all → r.live ≡ length ps → r.live_words ≡ words_in ps → blocks_of ps ≤ r.kinds.large → small_blocks r.blocks ps ≤ r.blocks - r.kinds.free - r.kinds.large → HasOthers r ps → Reports r all ps
reports_are r all ps sizes mutators some few commands full live words large small others =
    let held = held_by r sizes in
    let filled = filled_by r sizes.kinds_are in
    record {
      mutators = mutators;
      some = omega (arith, some);
      few = few;
      commands = commands ∙ sym (all_replies_are all);
      full = full ∙ sym (all_refusals_are all);
      live = live;
      words = words ∙ sym (words_are ps);
      held = held.objects;
      held_words = held.words;
      others = others;
      room = filled.room;
      collections = made_by r sizes.collections;
      large = let same : large_blocks ps ≡ blocks_of ps = large_are ps in omega (arith, same, large);
      small = small;
      of_plan = filled.of_plan;
      least = sizes.least;
      most = sizes.most;
      kinds = filled.all;
      fit = sizes_fit r sizes;
    }

-- the sizes of the held objects that are not live, by blocks counted place by place
others_as : (r : Report) (ps : List Place) (large small : ℕ) (sizes : List ℕ) → large_blocks ps ≡ large → small_blocks r.blocks ps ≡ small
    → AreSizes (r.held - r.live) (r.held_words - r.live_words) (r.kinds.large - large) (r.blocks - r.kinds.free - r.kinds.large - small) sizes
    → AreSizes (r.held - r.live) (r.held_words - r.live_words) (r.kinds.large - large_blocks ps) (r.blocks - r.kinds.free - r.kinds.large - small_blocks r.blocks ps) sizes
others_as r ps large small sizes one two are =
    subst (λ n. AreSizes (r.held - r.live) (r.held_words - r.live_words) (r.kinds.large - n) (r.blocks - r.kinds.free - r.kinds.large - small_blocks r.blocks ps) sizes) (sym one)
    (subst (λ n. AreSizes (r.held - r.live) (r.held_words - r.live_words) (r.kinds.large - large) (r.blocks - r.kinds.free - r.kinds.large - n) sizes) (sym two) are)

others_found : (r : Report) (ps : List Place) → small_blocks r.blocks ps ≡ added_to [] ps
    → may_fill (r.held - r.live) (r.held_words - r.live_words) (r.kinds.large - blocks_of ps) (r.blocks - r.kinds.free - r.kinds.large - added_to [] ps) ≡ true → HasOthers r ps
others_found r ps small-is is =
    let some = sizes_found (r.held - r.live) (r.held_words - r.live_words) (r.kinds.large - blocks_of ps) (r.blocks - r.kinds.free - r.kinds.large - added_to [] ps) is in
    record { sizes = some.0; are = others_as r ps (blocks_of ps) (added_to [] ps) some.0 (large_are ps) small-is some.1 }

-- the converse
others_again : (r : Report) (ps : List Place) (o : HasOthers r ps) → small_blocks r.blocks ps ≡ added_to [] ps
    → AreSizes (r.held - r.live) (r.held_words - r.live_words) (r.kinds.large - blocks_of ps) (r.blocks - r.kinds.free - r.kinds.large - added_to [] ps) o.sizes
others_again r ps o small-is =
    subst (λ n. AreSizes (r.held - r.live) (r.held_words - r.live_words) (r.kinds.large - n) (r.blocks - r.kinds.free - r.kinds.large - added_to [] ps) o.sizes) (large_are ps)
    (subst (λ n. AreSizes (r.held - r.live) (r.held_words - r.live_words) (r.kinds.large - large_blocks ps) (r.blocks - r.kinds.free - r.kinds.large - n) o.sizes) small-is o.are)

-- a text that is read, with what was read
record Found (text : List ℕ) (end : Begun) : Type 0 where
  report : Report
  places : List Place
  is : IsRunText report places text
  end_is : end ≡ whole report (births_in is.replies) places

found : (text : List ℕ) (end : Begun) → text_read text ≡ Ok end → Found text end
found text end e =
    let read = read_lines text end e in
    let early = replies_lead read.lines 0 0 0 0 0 [] no_wants end refl read.leads in
    let rep = report_leads early.rest early.plan early.mutators early.commands early.full early.births end early.leads in
    let r : Report = rep.report in
    let held = held_by r rep.sizes in
    let words : r.live_words ≤ r.held_words = held.words in
    let leaves : Leaves r [] r.live_words r.kinds.large (r.blocks - r.kinds.free - r.kinds.large) =
    filled-as r.held r.held_words r.kinds.large (r.blocks - r.kinds.free - r.kinds.large) (r.held - 0) (r.held_words - r.live_words + r.live_words) r.kinds.large (r.blocks - r.kinds.free - r.kinds.large) (omega arith) (omega (arith, words)) refl refl (filled_by r rep.sizes.kinds_are).fill in
    let mapped = map_leads rep.rest early.births r [] r.live_words r.kinds.large (r.blocks - r.kinds.free - r.kinds.large) end leaves rep.leads in
    let small-is : small_blocks r.blocks mapped.more ≡ added_to [] mapped.more = small_are r.mutators r.blocks mapped.more mapped.each in
    let all : List (List Reply) = early.others in
    let ps : List Place = mapped.more in
    let lines-are : read.lines ≡ run_lines r all ps =
    early.lines_are ∙ ap (λ rs. map reply_text rs ++ (reply_lines 1 all ++ (plan_line early.plan ∷ early.rest))) (early.alone refl)
    ∙ ap (λ plan. reply_lines 1 all ++ (plan_line plan ∷ early.rest)) (sym rep.plan_is)
    ∙ ap (λ ls. reply_lines 1 all ++ (plan_line r.plan ∷ ls)) (rep.lines_are ∙ ap (λ ls. count_lines r ++ ls) mapped.lines_are) in
    let births-are : early.births ≡ births_in all =
    early.births_are ∙ ap (λ rs. (0 + news rs) ∷ map news all) (early.alone refl) ∙ ap (λ n. n ∷ map news all) (zero-add 0) ∙ sym (births_are all) in
    let none = ap length (early.alone refl) in
    let few : r.mutators ≤ 16 = let most = early.few (omega arith) in let same = rep.mutators_are in omega (arith, most, same) in
    let some : 0 < r.mutators = let more = early.some in let same = rep.mutators_are in omega (arith, more, same) in
    record {
      report = r;
      places = ps;
      is = record {
        replies = all;
        printable = all_printable all early.also;
        short = All-from_recursion IsShort all early.also_short;
        named = subst (λ bs. AllNamesInOrder bs 1 all) births-are early.also_named;
        reports = reports_are r all ps rep.sizes (rep.mutators_are ∙ early.mutators_are ∙ omega arith) some few
            (rep.commands_are ∙ early.commands_are ∙ ap (λ rs. 0 + length rs + all_replies all) (early.alone refl) ∙ omega arith)
            (rep.full_is ∙ early.full_are ∙ ap (λ rs. 0 + refusals rs + all_refusals all) (early.alone refl) ∙ omega arith)
            (let sum = mapped.live in omega (arith, sum)) mapped.words mapped.large (let low : added_to [] mapped.more ≤ r.blocks - r.kinds.free - r.kinds.large = mapped.small in omega (arith, small-is, low))
            (others_found r ps small-is mapped.others);
        each = All-from_recursion (IsPlaceIn r.mutators r.blocks) ps mapped.each;
        born = subst (λ bs. All (BornBy bs) ps) births-are (All-from_recursion (BornBy early.births) ps mapped.born);
        apart = clear_pairs [] ps mapped.clear;
        rise = in_pairs None ps mapped.rise;
        text_is = read.text_is ∙ ap (flat_map ended) lines-are ∙ run_joined r all ps;
      };
      end_is = mapped.end_is ∙ ap (λ n. record (whole r early.births ps) { large = r.kinds.large - n; small = r.blocks - r.kinds.free - r.kinds.large - added_to [] ps }) (sym (large_are ps))
          ∙ ap (λ n. record (whole r early.births ps) { small = r.blocks - r.kinds.free - r.kinds.large - n }) (sym small-is) ∙ ap (λ bs. whole r bs ps) births-are;
    }

-- nothing is wanted at the beginning
none-wanted : (m : ℕ) → slice_index_or no_wants m 0 ≡ 0
none-wanted m = elim (cases_lt m 17) as (λ _. slice_index_or no_wants m 0 ≡ 0) [
  | inl low ↦ get_or-replicate 17 m 0 0 low
  | inr past ↦ get_or_past no_wants m 0 past
]

-- the end state has no more than a report, births and places
abbrev pub IsReadRun : List ℕ → Begun → Type 0
IsReadRun text s = (t : IsRunText s.report s.places text) × (s ≡ whole s.report (births_in t.replies) s.places)

pub read_is_printed : (text : List ℕ) (s : Begun) → text_read text ≡ Ok s → IsReadRun text s
read_is_printed text s e =
    let f = found text s e in
    subst (IsReadRun text) (sym f.end_is) (f.is, refl)

-- what was printed is read
append_lines : (xs ys : List (List ℕ)) → AllByRecursion IsLine xs → AllByRecursion IsLine ys → AllByRecursion IsLine (xs ++ ys)
append_lines [] ys h k = k
append_lines (x ∷ xs) ys h k = (h.0, append_lines xs ys h.1 k)

reply_lines_lack : (rs : List Reply) → AllByRecursion IsPrintable rs → AllByRecursion IsLine (map reply_text rs)
reply_lines_lack [] h = tt
reply_lines_lack (x ∷ rs) h = (reply_line_lacks x h.0, reply_lines_lack rs h.1)

mutator_lines_lack : (all : List (List Reply)) (m : ℕ) → AllByRecursion (AllByRecursion IsPrintable) all → m + length all ≤ 17 → AllByRecursion IsLine (reply_lines m all)
mutator_lines_lack [] m h few = tt
mutator_lines_lack (rs ∷ all) m h few =
    (one_line (codes "mutator ") m refl (omega (arith, few)), append_lines (map reply_text rs) (reply_lines (m + 1) all) (reply_lines_lack rs h.0) (mutator_lines_lack all (m + 1) h.1 (omega (arith, few))))

small : (n : ℕ) → n ≤ LARGE → n < 2 ^ 64
small n fits = omega (arith, fits)

count_lines_lack : (r : Report) → Sized r → AllByRecursion IsLine (count_lines r)
count_lines_lack r s = (
  one_line (codes "blocks ") r.blocks refl (let most = s.most in omega (arith, most)),
  (
    one_line (codes "mutators ") r.mutators refl (small r.mutators s.mutators),
    (
      one_line (codes "commands ") r.commands refl (small r.commands s.commands),
      (
        one_line (codes "full ") r.full refl (small r.full s.full),
        (
          two_line (codes "collections nursery ") (codes " full ") r.nursery r.collected refl refl (small r.nursery s.nursery) (small r.collected s.collected),
          (
            two_line (codes "live objects ") (codes " words ") r.live r.live_words refl refl (small r.live s.live) (small r.live_words s.live_words),
            (
              two_line (codes "held objects ") (codes " words ") r.held r.held_words refl refl (small r.held s.held) (small r.held_words s.held_words),
              (
                kinds_line_lacks r.kinds s.kinds,
                tt,
              ),
            ),
          ),
        ),
      ),
    ),
  ),
)

place_lines_lack : (ps : List Place) (k b : ℕ) → k ≤ 16 → b ≤ 1024 → AllByRecursion (IsPlaceIn k b) ps → AllByRecursion IsLine (map place_text ps)
place_lines_lack [] k b few low h = tt
place_lines_lack (p ∷ ps) k b few low h = (place_line_lacks p (place_fits k b p few low h.0), place_lines_lack ps k b few low h.1)

sized_of : (r : Report) (all : List (List Reply)) (ps : List Place) → Reports r all ps → AllByRecursion (IsPlaceIn r.mutators r.blocks) ps → Sized r
sized_of r all ps is each =
    let f = recursion_from_All (λ n. n ≤ LARGE) (numbers_in r) is.fit in
    let few = is.few in
    let k : ℕ = r.held - r.live in
    let w : ℕ = r.held_words - r.live_words in
    let others = bounded k w (r.kinds.large - large_blocks ps) (r.blocks - r.kinds.free - r.kinds.large - small_blocks r.blocks ps) is.others.sizes is.others.are in
    let small-is : small_blocks r.blocks ps ≡ added_to [] ps = small_are r.mutators r.blocks ps each in
    let words : r.live_words ≤ r.held_words = is.held_words in
    let large-is : large_blocks ps ≡ blocks_of ps = large_are ps in
    let large = is.large in
    let low = is.small in
    let leaves : Leaves r [] r.live_words r.kinds.large (r.blocks - r.kinds.free - r.kinds.large) =
    leaves-by r ps [] r.live_words r.kinds.large (r.blocks - r.kinds.free - r.kinds.large) is.others.sizes (others_again r ps is.others small-is) each (omega arith ∙ sym is.live) is.held (is.words ∙ words_are ps) (omega (arith, large, large-is)) (omega (arith, low, small-is)) in
    record {
      live_sizes = sizes_again r.mutators r.blocks r.live r.live_words ps each is.live (is.words ∙ words_are ps);
      held_is = and_from _ _ (and_from _ _ (and_from _ _ (le-leb r.live r.held is.held) (le-leb r.live_words r.held_words is.held_words)) (and_from _ _ (le-leb (3 * k) w others.0) (le-leb w (61027 * k) others.1)))
          (le-leb r.held_words (4096 * r.blocks) (let room = is.room in omega (arith, room)));
      collections = made_again r is.collections;
      kinds_are = and_from _ _ (and_from _ _ (and_from _ _ (eq-eqb (blocks_in r.kinds) r.blocks is.kinds) (eq-eqb (strange_in r.plan r.kinds) 0 is.of_plan)) (le-leb r.held_words (4096 * (r.blocks - r.kinds.free)) is.room))
          (filled-as (r.held - 0) (r.held_words - r.live_words + r.live_words) r.kinds.large (r.blocks - r.kinds.free - r.kinds.large) r.held r.held_words r.kinds.large (r.blocks - r.kinds.free - r.kinds.large) (omega arith) (omega (arith, words)) refl refl leaves);
      least = is.least;
      most = is.most;
      mutators = omega (arith, few);
      commands = f.0;
      full = f.1.0;
      nursery = f.1.1.0;
      collected = f.1.1.1.0;
      live = f.1.1.1.1.0;
      live_words = f.1.1.1.1.1.0;
      held = f.1.1.1.1.1.1.0;
      held_words = f.1.1.1.1.1.1.1.0;
      kinds = record {
        free = f.1.1.1.1.1.1.1.1.0;
        bump = f.1.1.1.1.1.1.1.1.1.0;
        young = f.1.1.1.1.1.1.1.1.1.1.0;
        mature = f.1.1.1.1.1.1.1.1.1.1.1.0;
        immix = f.1.1.1.1.1.1.1.1.1.1.1.1.0;
        cells = f.1.1.1.1.1.1.1.1.1.1.1.1.1.0;
        large = f.1.1.1.1.1.1.1.1.1.1.1.1.1.1.0;
        kept = f.1.1.1.1.1.1.1.1.1.1.1.1.1.1.1.0;
      };
    }

pub printed_is_read : (r : Report) (ps : List Place) (text : List ℕ) → (t : IsRunText r ps text) → text_read text ≡ Ok (whole r (births_in t.replies) ps)
printed_is_read r ps text t =
    let all : List (List Reply) = t.replies in
    let reports = t.reports in
    let each = recursion_from_All (IsPlaceIn r.mutators r.blocks) ps t.each in
    let sizes : Sized r = sized_of r all ps reports each in
    let prints = each_printable all t.printable in
    let bs : List ℕ = births_in all in
    let rest = count_lines r ++ map place_text ps in
    let few = reports.few in
    let some = reports.some in
    let k-is : r.mutators ≡ 0 + length all = reports.mutators ∙ omega arith in
    let c-is : r.commands ≡ 0 + all_replies all = reports.commands ∙ all_replies_are all ∙ omega arith in
    let f-is : r.full ≡ 0 + all_refusals all = reports.full ∙ all_refusals_are all ∙ omega arith in
    let low = sizes.commands in
    let end = whole r bs ps in
    let small-is : small_blocks r.blocks ps ≡ added_to [] ps = small_are r.mutators r.blocks ps each in
    let map-goes : Leads (map place_text ps) (mapping bs r) end =
    subst (λ e. Leads (map place_text ps) (mapping bs r) e) (ap (λ n. record end { large = r.kinds.large - n; small = r.blocks - r.kinds.free - r.kinds.large - added_to [] ps }) (sym (large_are ps))
    ∙ ap (λ n. record end { small = r.blocks - r.kinds.free - r.kinds.large - n }) (sym small-is))
    (map_goes ps bs r [] r.live_words r.kinds.large (r.blocks - r.kinds.free - r.kinds.large) reports.others.sizes reports.held (others_again r ps reports.others small-is) few reports.most each (recursion_from_All (BornBy bs) ps t.born) (clear_again ps t.apart) (from_pairs ps t.rise) (omega arith ∙ sym reports.live) (reports.words ∙ words_are ps) (let large = reports.large in let same : large_blocks ps ≡ blocks_of ps = large_are ps in omega (arith, large, same)) (let small = reports.small in omega (arith, small, small-is))) in
    let goes : Leads rest (planned r.plan r.mutators r.commands r.full bs) end = report_goes r bs (map place_text ps) end sizes map-goes in
    let leads : Leads (run_lines r all ps) nothing end =
    mutators_go all r.plan 0 0 0 0 0 [] no_wants bs rest end prints (recursion_from_All IsShort all t.short) t.named (births_are all) refl refl (λ m. subst (λ (n : ℕ). n ≤ slice_index_or bs m 0) (sym (none-wanted m)) (omega arith)) (omega (arith, k-is, some)) (omega (arith, k-is, few)) (omega arith) (omega (arith, c-is, low))
    (subst (λ s. Leads rest s end) (ap (λ i. planned r.plan i r.commands r.full bs) k-is ∙ ap (λ i. planned r.plan (0 + length all) i r.full bs) c-is ∙ ap (λ i. planned r.plan (0 + length all) (0 + all_replies all) i bs) f-is) goes) in
    let lines : AllByRecursion IsLine (run_lines r all ps) =
    append_lines (reply_lines 1 all) (plan_line r.plan ∷ rest) (mutator_lines_lack all 1 prints (omega (arith, k-is, few)))
    (plan_line_lacks r.plan, append_lines (count_lines r) (map place_text ps) (count_lines_lack r sizes) (place_lines_lack ps r.mutators r.blocks few reports.most each)) in
    ap text_read (t.text_is ∙ sym (run_joined r all ps)) ∙ text_of_lines (run_lines r all ps) end lines leads
