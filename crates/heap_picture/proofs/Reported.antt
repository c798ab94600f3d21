-- The lines of a report lead to its map, and no others do.
use Rattle.std.proofs.Common.{◌≡◌, refl, sym, ◌∙◌, ap, subst, ℕ, ◌<◌, ◌≤◌, ◌^◌, ◌*◌, ◌-◌, arith, Bool, true, false, ◌&&◌, ◌||◌, nat_eq, nat_lt, nat_le, List, [], ◌∷◌, ◌++◌, Some, None}
use Rattle.std.specs.Prelude.{if◌then◌else◌, codes, option_and_then}
use Rattle.std.specs.Fmt.{decimal}
use Rattle.std.proofs.lemmas.Bool.{and_parts, and_from, eq-eqb, eqb-true, le-leb, leb-true}
use Rattle.command_line.specs.declared.order.PlanName.{PlanName}
use Rattle.heap_picture.specs.declared.forms.KindCounts.{KindCounts}
use Rattle.heap_picture.specs.declared.forms.Pair.{Pair}
use Rattle.heap_picture.specs.declared.reader.Report.{Report}
use Rattle.heap_picture.specs.declared.reader.Stage.{Stage}
use Rattle.heap_picture.specs.declared.reader.Stage.TheVariants as stages
use Rattle.heap_picture.specs.Forms.{LARGE, kinds_in, one_number, two_numbers}
use Rattle.heap_picture.specs.Reading.{Begun, after_line, as_blocks, as_collections, as_held, as_kinds, as_live, as_known, blocks_in, goes_to, has_young, have_sizes, is_whole, may_be_held, may_collect, may_have_kinds, no_report, no_wants, strange_in}
use Rattle.session_counts.specs.Sizes.{may_fill}
use Rattle.heap_picture.specs.Texts.{count_lines, kinds_line_text, two_text}
use Rattle.heap_picture.proofs.Choices.{LeadsBy, chosen, first_of, then_read}
use Rattle.heap_picture.proofs.KindsRead.{kinds_again, kinds_read}
use Rattle.heap_picture.proofs.LineTexts.{Counted}
use Rattle.heap_picture.proofs.Lines.{Leads}
use Rattle.heap_picture.proofs.Mutators.{planned}
use Rattle.heap_picture.proofs.Numbers.{one_again, two_again}
use Rattle.heap_picture.proofs.NumbersRead.{one_read, two_read}

-- the states between the lines of a report
abbrev sized : Stage → PlanName → ℕ → ℕ → ℕ → List ℕ → ℕ → Begun
sized stage plan k c f bs n = record {
  stage = stage;
  report = record no_report { plan = plan; mutators = k; commands = c; full = f; blocks = n };
  replied = 0;
  born = 0;
  births = bs;
  wanted = no_wants;
  places = [];
  left = 0;
  large = 0;
  small = 0;
}

abbrev collected : PlanName → ℕ → ℕ → ℕ → List ℕ → ℕ → Pair → Begun
collected plan k c f bs n x = goes_to (sized stages.Live plan k c f bs n) stages.Live (record (sized stages.Live plan k c f bs n).report { nursery = x.first; collected = x.second })

abbrev counted : PlanName → ℕ → ℕ → ℕ → List ℕ → ℕ → Pair → Pair → Begun
counted plan k c f bs n x y = record (collected plan k c f bs n x) {
  stage = stages.Held;
  report = record (collected plan k c f bs n x).report { live = y.first; live_words = y.second };
  left = y.second;
}

abbrev held : PlanName → ℕ → ℕ → ℕ → List ℕ → ℕ → Pair → Pair → Pair → Begun
held plan k c f bs n x y z = goes_to (counted plan k c f bs n x y) stages.Kinds (record (counted plan k c f bs n x y).report { held = z.first; held_words = z.second })

-- a report of these numbers
abbrev made : PlanName → ℕ → ℕ → ℕ → List ℕ → ℕ → Pair → Pair → Pair → KindCounts → Report
made plan k c f bs n x y z kinds = record (held plan k c f bs n x y z).report { kinds = kinds }

-- the report is read, and no line of the map
abbrev pub mapping : List ℕ → Report → Begun
mapping bs r = record { stage = stages.Map; report = r; replied = 0; born = 0; births = bs; wanted = no_wants; places = []; left = r.live_words; large = r.kinds.large; small = r.blocks - r.kinds.free - r.kinds.large }

-- the numbers of a report have their sizes
pub record Sized (r : Report) : Type 0 where
  pub least : 4 ≤ r.blocks
  pub most : r.blocks ≤ 1024
  pub mutators : r.mutators ≤ LARGE
  pub commands : r.commands ≤ LARGE
  pub full : r.full ≤ LARGE
  pub nursery : r.nursery ≤ LARGE
  pub collected : r.collected ≤ LARGE
  pub live : r.live ≤ LARGE
  pub live_words : r.live_words ≤ LARGE
  pub held : r.held ≤ LARGE
  pub held_words : r.held_words ≤ LARGE
  pub kinds : Counted r.kinds
  pub live_sizes : have_sizes r.live r.live_words ≡ true
  pub collections : may_collect r (record { first = r.nursery; second = r.collected }) ≡ true
  pub held_is : may_be_held r (record { first = r.held; second = r.held_words }) ≡ true
  pub kinds_are : may_have_kinds r r.kinds ≡ true

-- the lines are those of a report after its first, and then others
pub record Reported (lines : List (List ℕ)) (plan : PlanName) (k c f : ℕ) (bs : List ℕ) (end : Begun) : Type 0 where
  pub report : Report
  pub rest : List (List ℕ)
  pub lines_are : lines ≡ count_lines report ++ rest
  pub plan_is : report.plan ≡ plan
  pub mutators_are : report.mutators ≡ k
  pub commands_are : report.commands ≡ c
  pub full_is : report.full ≡ f
  pub sizes : Sized report
  pub leads : Leads rest (mapping bs report) end

large : LARGE < 2 ^ 64
large = omega arith

-- a line of a word and a number that is told, and more
record Told (word : List ℕ) (told : ℕ) (More : List (List ℕ) → Type 0) (lines : List (List ℕ)) : Type 0 where
  rest : List (List ℕ)
  lines_are : lines ≡ (word ++ decimal told) ∷ rest
  fits : told ≤ LARGE
  more : More rest

-- a line of two words, each with a number, and more
record Paired (word other : List ℕ) (More : Pair → List (List ℕ) → Type 0) (lines : List (List ℕ)) : Type 0 where
  pair : Pair
  rest : List (List ℕ)
  lines_are : lines ≡ two_text word pair.first other pair.second ∷ rest
  first : pair.first ≤ LARGE
  second : pair.second ≤ LARGE
  more : More pair rest

told_by : (word : List ℕ) (told : ℕ) (next : Stage) (s end : Begun) (lines : List (List ℕ)) (More : List (List ℕ) → Type 0) (l : LeadsBy lines s end)
    → as_known word told next s l.line ≡ Some l.next → ((rest : List (List ℕ)) → Leads rest (record s { stage = next }) end → More rest) → Told word told More lines
told_by word told next s end lines More l e later =
    let n = then_read (λ n. if nat_eq n told then Some (record s { stage = next }) else None) (one_number word LARGE l.line) l.next e in
    let taken = chosen (nat_eq n.0 told) (record s { stage = next }) l.next n.2 in
    let same = eqb-true n.0 told taken.0 in
    let read = one_read word LARGE l.line n.0 large n.1 in
    record {
      rest = l.rest;
      lines_are = l.lines_are ∙ ap (λ x. x ∷ l.rest) (read.0 ∙ ap (λ i. word ++ decimal i) same);
      fits = omega (arith, same, read.1);
      more = later l.rest (subst (λ m. Leads l.rest m end) (sym taken.1) l.leads);
    }

told_step : (word : List ℕ) (told : ℕ) (next : Stage) (s end : Begun) (lines : List (List ℕ)) (More : List (List ℕ) → Type 0) → is_whole s ≡ false
    → ((line : List ℕ) → after_line s line ≡ as_known word told next s line) → ((rest : List (List ℕ)) → Leads rest (record s { stage = next }) end → More rest)
    → Leads lines s end → Told word told More lines
told_step word told next s end lines More unfinished after later leads =
    let l = first_of lines s end unfinished leads in
    told_by word told next s end lines More l (sym (after l.line) ∙ l.is) later

-- a line of two words, each with a number, that pass a test, and more
checked_by : (word other : List ℕ) (test : Pair → Bool) (to : Pair → Begun) (s end : Begun) (lines : List (List ℕ)) (More : Pair → List (List ℕ) → Type 0) (l : LeadsBy lines s end)
    → option_and_then (λ x. if test x then Some (to x) else None) (two_numbers word other LARGE l.line) ≡ Some l.next
    → ((x : Pair) (rest : List (List ℕ)) → test x ≡ true → Leads rest (to x) end → More x rest) → Paired word other More lines
checked_by word other test to s end lines More l e later =
    let x = then_read (λ x. if test x then Some (to x) else None) (two_numbers word other LARGE l.line) l.next e in
    let taken = chosen (test x.0) (to x.0) l.next x.2 in
    let read = two_read word other LARGE l.line x.0 large x.1 in
    record {
      pair = x.0;
      rest = l.rest;
      lines_are = l.lines_are ∙ ap (λ y. y ∷ l.rest) read.0;
      first = read.1;
      second = read.2;
      more = later x.0 l.rest taken.0 (subst (λ m. Leads l.rest m end) (sym taken.1) l.leads);
    }

checked_step : (word other : List ℕ) (test : Pair → Bool) (to : Pair → Begun) (s end : Begun) (lines : List (List ℕ)) (More : Pair → List (List ℕ) → Type 0) → is_whole s ≡ false
    → ((line : List ℕ) → after_line s line ≡ option_and_then (λ x. if test x then Some (to x) else None) (two_numbers word other LARGE line))
    → ((x : Pair) (rest : List (List ℕ)) → test x ≡ true → Leads rest (to x) end → More x rest)
    → Leads lines s end → Paired word other More lines
checked_step word other test to s end lines More unfinished after later leads =
    let l = first_of lines s end unfinished leads in
    checked_by word other test to s end lines More l (sym (after l.line) ∙ l.is) later

-- the blocks of the kinds fill a heap of n blocks, and the objects may fill them
abbrev fills : PlanName → ℕ → Pair → KindCounts → Bool
fills plan n z kinds = nat_eq (blocks_in kinds) n && nat_eq (strange_in plan kinds) 0 && nat_le z.second (4096 * (n - kinds.free)) && may_fill z.first z.second kinds.large (n - kinds.free - kinds.large)

-- the lines from each line of a report on
record FromKinds (plan : PlanName) (k c f : ℕ) (bs : List ℕ) (n : ℕ) (x y z : Pair) (end : Begun) (lines : List (List ℕ)) : Type 0 where
  kinds : KindCounts
  rest : List (List ℕ)
  lines_are : lines ≡ kinds_line_text kinds ∷ rest
  fits : Counted kinds
  all : fills plan n z kinds ≡ true
  leads : Leads rest (mapping bs (made plan k c f bs n x y z kinds)) end

from_kinds : (plan : PlanName) (k c f : ℕ) (bs : List ℕ) (n : ℕ) (x y z : Pair) (end : Begun) (lines : List (List ℕ)) → Leads lines (held plan k c f bs n x y z) end → FromKinds plan k c f bs n x y z end lines
from_kinds plan k c f bs n x y z end lines leads =
    let l = first_of lines (held plan k c f bs n x y z) end refl leads in
    let read = then_read (as_kinds (held plan k c f bs n x y z)) (kinds_in l.line) l.next l.is in
    let taken = chosen (fills plan n z read.0) (mapping bs (made plan k c f bs n x y z read.0)) l.next read.2 in
    let text = kinds_read l.line read.0 read.1 in
    record {
      kinds = read.0;
      rest = l.rest;
      lines_are = l.lines_are ∙ ap (λ t. t ∷ l.rest) text.0;
      fits = text.1;
      all = taken.0;
      leads = subst (λ m. Leads l.rest m end) (sym taken.1) l.leads;
    }

-- so many objects are held beside the live ones
abbrev holds : ℕ → Pair → Pair → Bool
holds n y z = nat_le y.first z.first && nat_le y.second z.second && have_sizes (z.first - y.first) (z.second - y.second) && nat_le z.second (4096 * n)

abbrev FromHeld : PlanName → ℕ → ℕ → ℕ → List ℕ → ℕ → Pair → Pair → Begun → List (List ℕ) → Type 0
FromHeld plan k c f bs n x y end = Paired (codes "held objects ") (codes " words ") (λ z ls. (holds n y z ≡ true) × FromKinds plan k c f bs n x y z end ls)

from_held : (plan : PlanName) (k c f : ℕ) (bs : List ℕ) (n : ℕ) (x y : Pair) (end : Begun) (lines : List (List ℕ)) → Leads lines (counted plan k c f bs n x y) end → FromHeld plan k c f bs n x y end lines
from_held plan k c f bs n x y end lines leads =
    checked_step (codes "held objects ") (codes " words ") (holds n y) (held plan k c f bs n x y) (counted plan k c f bs n x y) end lines (λ z ls. (holds n y z ≡ true) × FromKinds plan k c f bs n x y z end ls) refl (λ _. refl)
    (λ z rest is next. (is, from_kinds plan k c f bs n x y z end rest next)) leads

abbrev sizes_of : Pair → Bool
sizes_of y = have_sizes y.first y.second

abbrev FromLive : PlanName → ℕ → ℕ → ℕ → List ℕ → ℕ → Pair → Begun → List (List ℕ) → Type 0
FromLive plan k c f bs n x end = Paired (codes "live objects ") (codes " words ") (λ y ls. (sizes_of y ≡ true) × FromHeld plan k c f bs n x y end ls)

from_live : (plan : PlanName) (k c f : ℕ) (bs : List ℕ) (n : ℕ) (x : Pair) (end : Begun) (lines : List (List ℕ)) → Leads lines (collected plan k c f bs n x) end → FromLive plan k c f bs n x end lines
from_live plan k c f bs n x end lines leads =
    checked_step (codes "live objects ") (codes " words ") sizes_of (counted plan k c f bs n x) (collected plan k c f bs n x) end lines (λ y ls. (sizes_of y ≡ true) × FromHeld plan k c f bs n x y end ls) refl (λ _. refl)
    (λ y rest is next. (is, from_held plan k c f bs n x y end rest next)) leads

-- so many collections are made for c commands, f of which are refused
abbrev makes : PlanName → ℕ → ℕ → Pair → Bool
makes plan c f x = nat_le f x.second && nat_le x.second c && nat_le x.first c && (nat_eq x.first 0 || has_young plan && nat_lt 0 x.second)

abbrev FromCollections : PlanName → ℕ → ℕ → ℕ → List ℕ → ℕ → Begun → List (List ℕ) → Type 0
FromCollections plan k c f bs n end = Paired (codes "collections nursery ") (codes " full ") (λ x ls. (makes plan c f x ≡ true) × FromLive plan k c f bs n x end ls)

from_collections : (plan : PlanName) (k c f : ℕ) (bs : List ℕ) (n : ℕ) (end : Begun) (lines : List (List ℕ)) → Leads lines (sized stages.Collections plan k c f bs n) end → FromCollections plan k c f bs n end lines
from_collections plan k c f bs n end lines leads =
    checked_step (codes "collections nursery ") (codes " full ") (makes plan c f) (collected plan k c f bs n) (sized stages.Collections plan k c f bs n) end lines (λ x ls. (makes plan c f x ≡ true) × FromLive plan k c f bs n x end ls) refl (λ _. refl)
    (λ x rest is next. (is, from_live plan k c f bs n x end rest next)) leads

abbrev FromTold : PlanName → ℕ → ℕ → ℕ → List ℕ → ℕ → Begun → List (List ℕ) → Type 0
FromTold plan k c f bs n end = Told (codes "mutators ") k (Told (codes "commands ") c (Told (codes "full ") f (FromCollections plan k c f bs n end)))

from_told : (plan : PlanName) (k c f : ℕ) (bs : List ℕ) (n : ℕ) (end : Begun) (lines : List (List ℕ)) → Leads lines (sized stages.Mutators plan k c f bs n) end → FromTold plan k c f bs n end lines
from_told plan k c f bs n end lines leads =
    told_step (codes "mutators ") k stages.Commands (sized stages.Mutators plan k c f bs n) end lines (Told (codes "commands ") c (Told (codes "full ") f (FromCollections plan k c f bs n end))) refl (λ _. refl)
    (λ rest next. told_step (codes "commands ") c stages.Full (sized stages.Commands plan k c f bs n) end rest (Told (codes "full ") f (FromCollections plan k c f bs n end)) refl (λ _. refl)
    (λ rest next. told_step (codes "full ") f stages.Collections (sized stages.Full plan k c f bs n) end rest (FromCollections plan k c f bs n end) refl (λ _. refl)
    (λ rest next. from_collections plan k c f bs n end rest next) next) next) leads

record FromBlocks (plan : PlanName) (k c f : ℕ) (bs : List ℕ) (end : Begun) (lines : List (List ℕ)) : Type 0 where
  blocks : ℕ
  rest : List (List ℕ)
  lines_are : lines ≡ (codes "blocks " ++ decimal blocks) ∷ rest
  least : 4 ≤ blocks
  most : blocks ≤ 1024
  more : FromTold plan k c f bs blocks end rest

from_blocks : (plan : PlanName) (k c f : ℕ) (bs : List ℕ) (end : Begun) (lines : List (List ℕ)) → Leads lines (planned plan k c f bs) end → FromBlocks plan k c f bs end lines
from_blocks plan k c f bs end lines leads =
    let l = first_of lines (planned plan k c f bs) end refl leads in
    let n = then_read (as_blocks (planned plan k c f bs)) (one_number (codes "blocks ") LARGE l.line) l.next l.is in
    let taken = chosen (nat_le 4 n.0 && nat_le n.0 1024) (sized stages.Mutators plan k c f bs n.0) l.next n.2 in
    let both = and_parts (nat_le 4 n.0) (nat_le n.0 1024) taken.0 in
    record {
      blocks = n.0;
      rest = l.rest;
      lines_are = l.lines_are ∙ ap (λ t. t ∷ l.rest) (one_read (codes "blocks ") LARGE l.line n.0 large n.1).0;
      least = leb-true 4 n.0 both.0;
      most = leb-true n.0 1024 both.1;
      more = from_told plan k c f bs n.0 end l.rest (subst (λ m. Leads l.rest m end) (sym taken.1) l.leads);
    }

reported : (lines : List (List ℕ)) (plan : PlanName) (k c f : ℕ) (bs : List ℕ) (end : Begun) → FromBlocks plan k c f bs end lines → Reported lines plan k c f bs end
reported lines plan k c f bs end b =
    let t = b.more in
    let u = t.more in
    let v = u.more in
    let x = v.more in
    let y = x.more.1 in
    let z = y.more.1 in
    let w = z.more.1 in
    let end7 = z.lines_are ∙ ap (λ ls. two_text (codes "held objects ") z.pair.first (codes " words ") z.pair.second ∷ ls) w.lines_are in
    let end6 = y.lines_are ∙ ap (λ ls. two_text (codes "live objects ") y.pair.first (codes " words ") y.pair.second ∷ ls) end7 in
    let end5 = x.lines_are ∙ ap (λ ls. two_text (codes "collections nursery ") x.pair.first (codes " full ") x.pair.second ∷ ls) end6 in
    let end4 = v.lines_are ∙ ap (λ ls. (codes "full " ++ decimal f) ∷ ls) end5 in
    let end3 = u.lines_are ∙ ap (λ ls. (codes "commands " ++ decimal c) ∷ ls) end4 in
    let end2 = t.lines_are ∙ ap (λ ls. (codes "mutators " ++ decimal k) ∷ ls) end3 in
    record {
      report = made plan k c f bs b.blocks x.pair y.pair z.pair w.kinds;
      rest = w.rest;
      lines_are = b.lines_are ∙ ap (λ ls. (codes "blocks " ++ decimal b.blocks) ∷ ls) end2;
      plan_is = refl;
      mutators_are = refl;
      commands_are = refl;
      full_is = refl;
      sizes = record {
        least = b.least;
        most = b.most;
        mutators = t.fits;
        commands = u.fits;
        full = v.fits;
        nursery = x.first;
        collected = x.second;
        live = y.first;
        live_words = y.second;
        held = z.first;
        held_words = z.second;
        kinds = w.fits;
        live_sizes = y.more.0;
        collections = x.more.0;
        held_is = z.more.0;
        kinds_are = w.all;
      };
      leads = w.leads;
    }

pub report_leads : (lines : List (List ℕ)) (plan : PlanName) (k c f : ℕ) (bs : List ℕ) (end : Begun) → Leads lines (planned plan k c f bs) end → Reported lines plan k c f bs end
report_leads lines plan k c f bs end leads = reported lines plan k c f bs end (from_blocks plan k c f bs end lines leads)

told_again : (word : List ℕ) (told : ℕ) (next : Stage) (s : Begun) → told ≤ LARGE → as_known word told next s (word ++ decimal told) ≡ Some (record s { stage = next })
told_again word told next s fits =
    ap (option_and_then (λ n. if nat_eq n told then Some (record s { stage = next }) else None)) (one_again word LARGE told fits large)
    ∙ ap (λ b. if b then Some (record s { stage = next }) else None) (eq-eqb told told refl)

abbrev pair : ℕ → ℕ → Pair
pair a b = record { first = a; second = b }

pub report_goes : (r : Report) (bs : List ℕ) (rest : List (List ℕ)) (end : Begun) → Sized r → Leads rest (mapping bs r) end → Leads (count_lines r ++ rest) (planned r.plan r.mutators r.commands r.full bs) end
report_goes r bs rest end sizes leads =
    let plan = r.plan in
    let k : ℕ = r.mutators in
    let c : ℕ = r.commands in
    let f : ℕ = r.full in
    let n : ℕ = r.blocks in
    let x : Pair = pair r.nursery r.collected in
    let y : Pair = pair r.live r.live_words in
    let z : Pair = pair r.held r.held_words in
    let tests : (nat_le 4 n && nat_le n 1024) ≡ true = and_from _ _ (le-leb 4 n sizes.least) (le-leb n 1024 sizes.most) in
    let at_kinds : Leads (kinds_line_text r.kinds ∷ rest) (held plan k c f bs n x y z) end =
    (mapping bs r, ap (option_and_then (as_kinds (held plan k c f bs n x y z))) (kinds_again r.kinds sizes.kinds) ∙ ap (λ t. if t then Some (mapping bs r) else None) sizes.kinds_are, leads) in
    let at_held : Leads (two_text (codes "held objects ") r.held (codes " words ") r.held_words ∷ kinds_line_text r.kinds ∷ rest) (counted plan k c f bs n x y) end =
    (held plan k c f bs n x y z, ap (option_and_then (as_held (counted plan k c f bs n x y))) (two_again (codes "held objects ") (codes " words ") LARGE r.held r.held_words sizes.held sizes.held_words large (λ _. refl)) ∙ ap (λ t. if t then Some (held plan k c f bs n x y z) else None) sizes.held_is, at_kinds) in
    let at_live : Leads (two_text (codes "live objects ") r.live (codes " words ") r.live_words ∷ two_text (codes "held objects ") r.held (codes " words ") r.held_words ∷ kinds_line_text r.kinds ∷ rest) (collected plan k c f bs n x) end =
    (counted plan k c f bs n x y, ap (option_and_then (as_live (collected plan k c f bs n x))) (two_again (codes "live objects ") (codes " words ") LARGE r.live r.live_words sizes.live sizes.live_words large (λ _. refl)) ∙ ap (λ t. if t then Some (counted plan k c f bs n x y) else None) sizes.live_sizes, at_held) in
    let at_collections : Leads (two_text (codes "collections nursery ") r.nursery (codes " full ") r.collected ∷ two_text (codes "live objects ") r.live (codes " words ") r.live_words ∷ two_text (codes "held objects ") r.held (codes " words ") r.held_words ∷ kinds_line_text r.kinds ∷ rest) (sized stages.Collections plan k c f bs n) end =
    (collected plan k c f bs n x, ap (option_and_then (as_collections (sized stages.Collections plan k c f bs n))) (two_again (codes "collections nursery ") (codes " full ") LARGE r.nursery r.collected sizes.nursery sizes.collected large (λ _. refl)) ∙ ap (λ t. if t then Some (collected plan k c f bs n x) else None) sizes.collections, at_live) in
    let at_full : Leads ((codes "full " ++ decimal f) ∷ two_text (codes "collections nursery ") r.nursery (codes " full ") r.collected ∷ two_text (codes "live objects ") r.live (codes " words ") r.live_words ∷ two_text (codes "held objects ") r.held (codes " words ") r.held_words ∷ kinds_line_text r.kinds ∷ rest) (sized stages.Full plan k c f bs n) end =
    (sized stages.Collections plan k c f bs n, told_again (codes "full ") f stages.Collections (sized stages.Full plan k c f bs n) sizes.full, at_collections) in
    let at_commands : Leads ((codes "commands " ++ decimal c) ∷ (codes "full " ++ decimal f) ∷ two_text (codes "collections nursery ") r.nursery (codes " full ") r.collected ∷ two_text (codes "live objects ") r.live (codes " words ") r.live_words ∷ two_text (codes "held objects ") r.held (codes " words ") r.held_words ∷ kinds_line_text r.kinds ∷ rest) (sized stages.Commands plan k c f bs n) end =
    (sized stages.Full plan k c f bs n, told_again (codes "commands ") c stages.Full (sized stages.Commands plan k c f bs n) sizes.commands, at_full) in
    let at_mutators : Leads ((codes "mutators " ++ decimal k) ∷ (codes "commands " ++ decimal c) ∷ (codes "full " ++ decimal f) ∷ two_text (codes "collections nursery ") r.nursery (codes " full ") r.collected ∷ two_text (codes "live objects ") r.live (codes " words ") r.live_words ∷ two_text (codes "held objects ") r.held (codes " words ") r.held_words ∷ kinds_line_text r.kinds ∷ rest) (sized stages.Mutators plan k c f bs n) end =
    (sized stages.Commands plan k c f bs n, told_again (codes "mutators ") k stages.Commands (sized stages.Mutators plan k c f bs n) sizes.mutators, at_commands) in (
      sized stages.Mutators plan k c f bs n,
      ap (option_and_then (as_blocks (planned plan k c f bs))) (one_again (codes "blocks ") LARGE n (let most = sizes.most in omega (arith, most)) large)
          ∙ ap (λ b. if b then Some (sized stages.Mutators plan k c f bs n) else None) tests,
      at_mutators,
    )
