-- The text of a session is that of its report, its replies and the places of its live objects.
use Rattle.std.proofs.Common.{◌≡◌, refl, sym, ◌∙◌, ap, subst, ℕ, zero, suc, ◌+◌, ◌<◌, List, [], ◌∷◌, ◌++◌, length, map, append_assoc, append-nil, arith, true, Ok}
use Rattle.std.specs.Prelude.{codes, slice_index_or}
use Rattle.std.specs.Fmt.{decimal}
use Rattle.std.specs.List.{All, AllPairs, flat_map, range_with_len}
use Rattle.std.proofs.lemmas.List.{get_or-map, length-map}
use Rattle.ideal_heap.specs.Runs.{Entry, replies_of}
use Rattle.object_model.specs.Objects.{HeapState}
use Rattle.sessions.specs.Sessions.{Moment}
use Rattle.trace_text.specs.Text.{IsPrintable, ended, mutator_text}
use Rattle.command_line.specs.Orders.{plan_in}
use Rattle.command_line.specs.declared.order.PlanName.{PlanName}
use Rattle.driver.specs.Texts.{AreLive, IsSessionText, map_line, map_part, place_line, place_of, replies_part, report_part}
use Rattle.heap_picture.specs.declared.forms.KindCounts.{KindCounts}
use Rattle.heap_picture.specs.Bars.{map_place}
use Rattle.heap_picture.specs.Reading.{text_read}
use Rattle.heap_picture.specs.Sessions.{place_seen, places_of, replies_in, report_of}
use Rattle.heap_picture.specs.Texts.{AllNamesInOrder, IsBorn, IsPlaceIn, Reports, births_in, kinds_line_text, plan_line, replies_from, report_text, two_text, whole}
use Rattle.heap_picture.proofs.Taken.{Apart}
use Rattle.heap_picture.proofs.Mapped.{Precedes}
use Rattle.heap_picture.proofs.Mutators.{IsShort}
use Rattle.heap_picture.proofs.Whole.{printed_is_read}

replies-from : (n m : ℕ) (done : List Entry) → replies_from m (map (λ k. replies_of k done) (range_with_len m n)) ≡ flat_map (λ k. mutator_text k (replies_of k done)) (range_with_len m n)
replies-from zero m done = refl
replies-from (suc n) m done = ap (λ t. mutator_text m (replies_of m done) ++ t) (replies-from n (m + 1) done)

pub replies-are : (n : ℕ) (last : Moment) → replies_from 1 (replies_in n last) ≡ replies_part n last
replies-are n last = replies-from n 1 last.done

-- pieces of a text, from the left and from the right
abbrev from-left : List ℕ → List (List ℕ) → List ℕ
from-left acc [] = acc
from-left acc (x ∷ xs) = from-left (acc ++ x) xs

abbrev from-right : List ℕ → List (List ℕ) → List ℕ
from-right x [] = x
from-right x (y ∷ ys) = x ++ from-right y ys

abbrev all-right : List (List ℕ) → List ℕ
all-right [] = []
all-right (x ∷ xs) = x ++ all-right xs

lefts : (acc x : List ℕ) (xs : List (List ℕ)) → from-left acc (x ∷ xs) ≡ acc ++ from-right x xs
lefts acc x [] = refl
lefts acc x (y ∷ ys) = lefts (acc ++ x) y ys ∙ append_assoc acc x (from-right y ys)

all-lefts : (acc : List ℕ) (xs : List (List ℕ)) → from-left acc xs ≡ acc ++ all-right xs
all-lefts acc [] = sym (append-nil acc)
all-lefts acc (x ∷ xs) = all-lefts (acc ++ x) xs ∙ append_assoc acc x (all-right xs)

-- a line of two words and numbers, as the driver has it
two-left : (word : List ℕ) (n : ℕ) (other : List ℕ) (m : ℕ) → two_text word n other m ≡ word ++ decimal n ++ other ++ decimal m
two-left word n other m = sym (lefts word (decimal n) (other ∷ decimal m ∷ []))

kinds-left : (k : KindCounts) → kinds_line_text k ≡ codes "kinds free " ++ decimal k.free ++ codes " bump " ++ decimal k.bump ++ codes " young " ++ decimal k.young ++ codes " mature "
    ++ decimal k.mature ++ codes " immix " ++ decimal k.immix ++ codes " cells " ++ decimal k.cells ++ codes " large " ++ decimal k.large ++ codes " kept " ++ decimal k.kept
kinds-left k = sym (lefts (codes "kinds free ") (decimal k.free) (codes " bump " ∷ decimal k.bump ∷ codes " young " ∷ decimal k.young ∷ codes " mature " ∷ decimal k.mature
    ∷ codes " immix " ∷ decimal k.immix ∷ codes " cells " ∷ decimal k.cells ∷ codes " large " ∷ decimal k.large ∷ codes " kept " ∷ decimal k.kept ∷ []))

-- nine lines
nine : (a b c d e f g h i : List ℕ) → flat_map ended (a ∷ b ∷ c ∷ d ∷ e ∷ f ∷ g ∷ h ∷ i ∷ [])
    ≡ ended a ++ ended b ++ ended c ++ ended d ++ ended e ++ ended f ++ ended g ++ ended h ++ ended i
nine a b c d e f g h i = sym (all-lefts (ended a) (ended b ∷ ended c ∷ ended d ∷ ended e ∷ ended f ∷ ended g ∷ ended h ∷ ended i ∷ []))

four-changed : (a b c d e f g h i f' g' h' i' : List ℕ) → f ≡ f' → g ≡ g' → h ≡ h' → i ≡ i'
    → flat_map ended (a ∷ b ∷ c ∷ d ∷ e ∷ f ∷ g ∷ h ∷ i ∷ []) ≡ flat_map ended (a ∷ b ∷ c ∷ d ∷ e ∷ f' ∷ g' ∷ h' ∷ i' ∷ [])
four-changed a b c d e f g h i f' g' h' i' one two three four =
    ap (λ x. flat_map ended (a ∷ b ∷ c ∷ d ∷ e ∷ x ∷ g ∷ h ∷ i ∷ [])) one
    ∙ ap (λ x. flat_map ended (a ∷ b ∷ c ∷ d ∷ e ∷ f' ∷ x ∷ h ∷ i ∷ [])) two
    ∙ ap (λ x. flat_map ended (a ∷ b ∷ c ∷ d ∷ e ∷ f' ∷ g' ∷ x ∷ i ∷ [])) three
    ∙ ap (λ x. flat_map ended (a ∷ b ∷ c ∷ d ∷ e ∷ f' ∷ g' ∷ h' ∷ x ∷ [])) four

pub report-is : (plan : PlanName) (n : ℕ) (last : Moment) (live : List ℕ) → report_text (report_of plan n last live) ≡ report_part (plan_in plan) n last live
report-is plan n last live =
    let r = report_of plan n last live in
    let a : List ℕ = plan_line plan in
    let b : List ℕ = codes "blocks " ++ decimal r.blocks in
    let c : List ℕ = codes "mutators " ++ decimal r.mutators in
    let d : List ℕ = codes "commands " ++ decimal r.commands in
    let e : List ℕ = codes "full " ++ decimal r.full in
    let f : List ℕ = codes "collections nursery " ++ decimal r.nursery ++ codes " full " ++ decimal r.collected in
    let g : List ℕ = codes "live objects " ++ decimal r.live ++ codes " words " ++ decimal r.live_words in
    let h : List ℕ = codes "held objects " ++ decimal r.held ++ codes " words " ++ decimal r.held_words in
    let k = r.kinds in
    let i : List ℕ = codes "kinds free " ++ decimal k.free ++ codes " bump " ++ decimal k.bump ++ codes " young " ++ decimal k.young ++ codes " mature " ++ decimal k.mature
    ++ codes " immix " ++ decimal k.immix ++ codes " cells " ++ decimal k.cells ++ codes " large " ++ decimal k.large ++ codes " kept " ++ decimal k.kept in
    four-changed a b c d e (two_text (codes "collections nursery ") r.nursery (codes " full ") r.collected) (two_text (codes "live objects ") r.live (codes " words ") r.live_words)
    (two_text (codes "held objects ") r.held (codes " words ") r.held_words) (kinds_line_text k) f g h i
    (two-left (codes "collections nursery ") r.nursery (codes " full ") r.collected) (two-left (codes "live objects ") r.live (codes " words ") r.live_words)
    (two-left (codes "held objects ") r.held (codes " words ") r.held_words) (kinds-left k)
    ∙ nine a b c d e f g h i

map-lines : (s : HeapState) (live : List ℕ) → flat_map place_line (map map_place (places_of s live)) ≡ flat_map (map_line s) live
map-lines s [] = refl
map-lines s (a ∷ live) = ap (λ t. map_line s a ++ t) (map-lines s live)

pub map-is : (last : Moment) (live : List ℕ) → flat_map place_line (map map_place (places_of last.heap live)) ≡ map_part last live
map-is last live = map-lines last.heap live

pub live-rise : (last : Moment) (live : List ℕ) → AreLive last live → AllPairs Precedes (places_of last.heap live)
live-rise last live are i j d less low =
    let seen = λ (a : ℕ). place_seen (place_of last.heap a) in
    let few : j < length live = subst (λ (n : ℕ). j < n) (length-map live seen) low in
    let first : slice_index_or (map seen live) i d ≡ seen (slice_index_or live i 0) = get_or-map seen live i 0 d (omega (arith, less, few)) in
    let second : slice_index_or (map seen live) j d ≡ seen (slice_index_or live j 0) = get_or-map seen live j 0 d few in
    subst (λ p. Precedes p (slice_index_or (map seen live) j d)) (sym first)
    (subst (λ q. Precedes (seen (slice_index_or live i 0)) q) (sym second) (are.rise i j less few))

pub session-read : (plan : PlanName) (n : ℕ) (last : Moment) (text : List ℕ) → (s : IsSessionText (plan_in plan) n true last text)
    → Reports (report_of plan n last s.live) (replies_in n last) (places_of last.heap s.live) → All (All IsPrintable) (replies_in n last)
    → All IsShort (replies_in n last) → AllNamesInOrder (births_in (replies_in n last)) 1 (replies_in n last) → All (IsPlaceIn n last.heap.blocks) (places_of last.heap s.live) → All (IsBorn (replies_in n last)) (places_of last.heap s.live)
    → AllPairs Apart (places_of last.heap s.live)
    → text_read text ≡ Ok (whole (report_of plan n last s.live) (births_in (replies_in n last)) (places_of last.heap s.live))
session-read plan n last text s reports printable short named each born apart =
    let r = report_of plan n last s.live in
    let ps = places_of last.heap s.live in
    printed_is_read r ps text (record {
      replies = replies_in n last;
      printable = printable;
      short = short;
      named = named;
      reports = reports;
      each = each;
      born = born;
      apart = apart;
      rise = live-rise last s.live s.are;
      text_is = s.printed ∙ sym (ap (λ t. t ++ report_text r ++ flat_map place_line (map map_place ps)) (replies-are n last)
          ∙ ap (λ t. replies_part n last ++ t ++ flat_map place_line (map map_place ps)) (report-is plan n last s.live)
          ∙ ap (λ t. replies_part n last ++ report_part (plan_in plan) n last s.live ++ t) (map-is last s.live));
    })
