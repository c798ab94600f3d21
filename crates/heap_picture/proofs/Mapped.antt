-- The lines of a map lead to the end of the text, and no others do.
use Rattle.std.proofs.Common.{◌≡◌, refl, sym, ◌∙◌, ap, subst, ℕ, suc, ◌+◌, ◌-◌, ◌*◌, ◌<◌, ◌≤◌, ◌^◌, arith, inl, inr, Bool, true, false, ◌&&◌, nat_eq, nat_lt, nat_le, List, [], ◌∷◌, ◌++◌, length, map, append_assoc, append-nil, length-append, Option, Some, None}
use Rattle.std.specs.Prelude.{if◌then◌else◌, slice_get, slice_index_or, option_and_then}
use Rattle.std.specs.List.{AllByRecursion, sum_by}
use Rattle.std.proofs.lemmas.Bool.{and_parts, and_from, eq-eqb, eqb-true, le-leb, leb-true, lt-ltb, ltb-true, or_cases, or_left, or_right}
use Rattle.ideal_heap.specs.Names.{IsBefore}
use Rattle.heap_picture.specs.declared.forms.Place.{Place}
use Rattle.heap_picture.specs.declared.reader.Report.{Report}
use Rattle.heap_picture.specs.declared.reader.Stage.TheVariants as stages
use Rattle.heap_picture.specs.Bars.{map_place}
use Rattle.heap_picture.specs.Forms.{place_in}
use Rattle.heap_picture.specs.Reading.{Begun, as_place, follows, have_sizes, is_after, is_free, is_name, is_next, leaves_room, lies_in, may_be_next, leaves_others, no_wants, new_blocks}
use Rattle.session_counts.specs.Sizes.{AreSizes, may_fill, own_blocks, shared_blocks}
use Rattle.heap_picture.specs.Texts.{Fits, IsPlaceIn, place_text}
use Rattle.heap_picture.specs.Marks.{is_used}
use Rattle.session_counts.proofs.SizeTests.{tested}
use Rattle.std.proofs.lemmas.List.Sums.{sum_by-cons}
use Rattle.heap_picture.proofs.Choices.{chosen, then_read}
use Rattle.heap_picture.proofs.Lies.{ends_within, lies_again, place_lies, word_few}
use Rattle.heap_picture.proofs.Lines.{Leads}
use Rattle.heap_picture.proofs.PlacesRead.{place_again, place_read}
use Rattle.heap_picture.proofs.Taken.{Clear, FreeOf, free_again, free_is}

-- some lines of the map are read, and so many words, and blocks of large objects and of others, are left
abbrev pub mapped : List ℕ → Report → List Place → ℕ → ℕ → ℕ → Begun
mapped bs r ps l g h = record { stage = stages.Map; report = r; replied = 0; born = 0; births = bs; wanted = no_wants; places = ps; left = l; large = g; small = h }

-- a `new` reply gave the name
abbrev pub BornBy : List ℕ → Place → Type 0
BornBy bs p = p.birth ≤ slice_index_or bs p.mutator 0

abbrev pub words_in : List Place → ℕ
words_in [] = 0
words_in (p ∷ ps) = p.size + words_in ps

abbrev pub blocks_of : List Place → ℕ
blocks_of [] = 0
blocks_of (p ∷ ps) = own_blocks p.size + blocks_of ps

-- the blocks of small and medium objects that more places add
abbrev pub added_to : List Place → List Place → ℕ
added_to ps [] = 0
added_to ps (p ∷ more) = new_blocks ps p + added_to (ps ++ p ∷ []) more

-- the name comes after another, if there is one
abbrev pub Precedes : Place → Place → Type 0
Precedes p q = IsBefore (map_place p).name (map_place q).name

abbrev pub Follows : Option Place → Place → Type 0
Follows None p = Unit {0}
Follows (Some last) p = Precedes last p

abbrev pub Rises : Option Place → List Place → Type 0
Rises o [] = Unit {0}
Rises o (p ∷ ps) = Follows o p × Rises (Some p) ps

abbrev pub last_of : List Place → Option Place
last_of ps = slice_get ps (length ps - 1)

last_pushed : (ps : List Place) (p : Place) → last_of (ps ++ p ∷ []) ≡ Some p
last_pushed [] p = refl
last_pushed (x ∷ ps) p =
    let longer : length (ps ++ p ∷ []) ≡ length ps + 1 = length-append ps (p ∷ []) in
    let index : length (x ∷ (ps ++ p ∷ [])) - 1 ≡ suc (length (ps ++ p ∷ []) - 1) = omega (arith, longer) in
    ap (slice_get (x ∷ (ps ++ p ∷ []))) index ∙ last_pushed ps p

follows_is : (o : Option Place) (p : Place) → follows o p ≡ true → Follows o p
follows_is None p e = tt
follows_is (Some last) p e = elim (or_cases (nat_lt last.mutator p.mutator) (nat_eq last.mutator p.mutator && nat_lt last.birth p.birth) e) as (λ _. Precedes last p) [
  | inl less ↦ inl (ltb-true last.mutator p.mutator less)
  | inr both ↦ (let parts = and_parts (nat_eq last.mutator p.mutator) (nat_lt last.birth p.birth) both in inr (eqb-true last.mutator p.mutator parts.0, ltb-true last.birth p.birth parts.1))
]

follows_again : (o : Option Place) (p : Place) → Follows o p → follows o p ≡ true
follows_again None p h = refl
follows_again (Some last) p h = elim h as (λ _. is_after last p ≡ true) [
  | inl less ↦ or_left _ _ (lt-ltb last.mutator p.mutator less)
  | inr both ↦ or_right _ _ (and_from _ _ (eq-eqb last.mutator p.mutator both.0) (lt-ltb last.birth p.birth both.1))
]

-- the lines are those of more places, which complete the map
pub record MapRead (lines : List (List ℕ)) (bs : List ℕ) (r : Report) (ps : List Place) (l g h : ℕ) (end : Begun) : Type 0 where
  pub more : List Place
  pub lines_are : lines ≡ map place_text more
  pub end_is : end ≡ mapped bs r (ps ++ more) 0 (g - blocks_of more) (h - added_to ps more)
  pub large : blocks_of more ≤ g
  pub small : added_to ps more ≤ h
  pub live : length ps + length more ≡ r.live
  pub others : may_fill (r.held - r.live) (r.held_words - r.live_words) (g - blocks_of more) (h - added_to ps more) ≡ true
  pub words : l ≡ words_in more
  pub each : AllByRecursion (IsPlaceIn r.mutators r.blocks) more
  pub born : AllByRecursion (BornBy bs) more
  pub clear : Clear ps more
  pub rise : Rises (last_of ps) more

-- what the tests of a place say
record Passes (bs : List ℕ) (r : Report) (ps : List Place) (l g h : ℕ) (p : Place) : Type 0 where
  is_in : p.birth < 2 ^ 32 → IsPlaceIn r.mutators r.blocks p
  named : BornBy bs p
  next : Follows (last_of ps) p
  few : length ps < r.live
  within : p.size ≤ l
  large : own_blocks p.size ≤ g
  small : new_blocks ps p ≤ h
  others : may_fill (r.held - (length ps + 1)) (r.held_words - r.live_words + (l - p.size)) (g - own_blocks p.size) (h - new_blocks ps p) ≡ true
  free : FreeOf ps p

passes : (bs : List ℕ) (r : Report) (ps : List Place) (l g h : ℕ) (p : Place) → may_be_next (mapped bs r ps l g h) p ≡ true → Passes bs r ps l g h p
passes bs r ps l g h p e =
    let o : ℕ = r.live - length ps in
    let t8 = and_parts (is_name r.mutators bs p && lies_in r.blocks p && nat_le 3 p.size && is_next ps p && leaves_room o l p && nat_le (own_blocks p.size) g && nat_le (new_blocks ps p) h && leaves_others (mapped bs r ps l g h) p) (is_free ps p) e in
    let t7 = and_parts (is_name r.mutators bs p && lies_in r.blocks p && nat_le 3 p.size && is_next ps p && leaves_room o l p && nat_le (own_blocks p.size) g && nat_le (new_blocks ps p) h) (leaves_others (mapped bs r ps l g h) p) t8.0 in
    let t6 = and_parts (is_name r.mutators bs p && lies_in r.blocks p && nat_le 3 p.size && is_next ps p && leaves_room o l p && nat_le (own_blocks p.size) g) (nat_le (new_blocks ps p) h) t7.0 in
    let t5 = and_parts (is_name r.mutators bs p && lies_in r.blocks p && nat_le 3 p.size && is_next ps p && leaves_room o l p) (nat_le (own_blocks p.size) g) t6.0 in
    let t4 = and_parts (is_name r.mutators bs p && lies_in r.blocks p && nat_le 3 p.size && is_next ps p) (leaves_room o l p) t5.0 in
    let t3 = and_parts (is_name r.mutators bs p && lies_in r.blocks p && nat_le 3 p.size) (is_next ps p) t4.0 in
    let t2 = and_parts (is_name r.mutators bs p && lies_in r.blocks p) (nat_le 3 p.size) t3.0 in
    let t1 = and_parts (is_name r.mutators bs p) (lies_in r.blocks p) t2.0 in
    let n3 = and_parts (nat_le 1 p.mutator && nat_le p.mutator r.mutators && nat_le 1 p.birth) (nat_le p.birth (slice_index_or bs p.mutator 0)) t1.0 in
    let n2 = and_parts (nat_le 1 p.mutator && nat_le p.mutator r.mutators) (nat_le 1 p.birth) n3.0 in
    let n1 = and_parts (nat_le 1 p.mutator) (nat_le p.mutator r.mutators) n2.0 in
    let r2 = and_parts (nat_lt 0 o && nat_le p.size l) (have_sizes (o - 1) (l - p.size)) t4.1 in
    let r1 = and_parts (nat_lt 0 o) (nat_le p.size l) r2.0 in
    let some : 0 < o = ltb-true 0 o r1.0 in
    let place = place_lies r.blocks p t1.1 in
    record {
      is_in = λ fits. record {
        least = leb-true 1 p.mutator n1.0;
        most = leb-true p.mutator r.mutators n1.1;
        born = leb-true 1 p.birth n2.1;
        fits = fits;
        header = leb-true 3 p.size t2.1;
        short = place.1;
        lies = place.0;
      };
      named = leb-true p.birth (slice_index_or bs p.mutator 0) n3.1;
      next = follows_is (last_of ps) p t3.1;
      few = omega (arith, some);
      within = leb-true p.size l r1.1;
      large = leb-true (own_blocks p.size) g t5.1;
      small = leb-true (new_blocks ps p) h t6.1;
      others = t7.1;
      free = free_is ps p t8.1;
    }

-- four numbers of the test, by others
pub filled-as : (a b c d e f g h : ℕ) → a ≡ e → b ≡ f → c ≡ g → d ≡ h → may_fill a b c d ≡ true → may_fill e f g h ≡ true
filled-as a b c d e f g h one two three four is =
    subst (λ (n : ℕ). may_fill n f g h ≡ true) one (subst (λ (n : ℕ). may_fill a n g h ≡ true) two (subst (λ (n : ℕ). may_fill a b n h ≡ true) three (subst (λ (n : ℕ). may_fill a b c n ≡ true) four is)))

-- the held objects that are not of the places may fill the blocks that are left
abbrev pub Leaves : Report → List Place → ℕ → ℕ → ℕ → Type 0
Leaves r ps l g h = may_fill (r.held - length ps) (r.held_words - r.live_words + l) g h ≡ true

pub map_leads : (lines : List (List ℕ)) (bs : List ℕ) (r : Report) (ps : List Place) (l g h : ℕ) (end : Begun) → Leaves r ps l g h → Leads lines (mapped bs r ps l g h) end → MapRead lines bs r ps l g h end
map_leads [] bs r ps l g h end others leads =
    let both = and_parts (nat_eq (length ps) r.live) (nat_eq l 0) leads.1 in
    let all : length ps ≡ r.live = eqb-true (length ps) r.live both.0 in
    let none : l ≡ 0 = eqb-true l 0 both.1 in
    record {
      more = [];
      lines_are = refl;
      end_is = sym leads.0 ∙ ap (λ n. mapped bs r ps n g h) none ∙ ap (λ qs. mapped bs r qs 0 g h) (sym (append-nil ps)) ∙ ap (λ n. mapped bs r (ps ++ []) 0 n h) (let same : g ≡ g - 0 = omega arith in same)
          ∙ ap (mapped bs r (ps ++ []) 0 (g - 0)) (let same : h ≡ h - 0 = omega arith in same);
      large = omega arith;
      small = omega arith;
      live = omega (arith, all);
      others = filled-as (r.held - length ps) (r.held_words - r.live_words + l) g h (r.held - r.live) (r.held_words - r.live_words) (g - 0) (h - 0) (omega (arith, all)) (omega (arith, none)) (omega arith) (omega arith) others;
      words = none;
      each = tt;
      born = tt;
      clear = tt;
      rise = tt;
    }
map_leads (line ∷ lines) bs r ps l g h end others leads =
    let read = then_read (as_place (mapped bs r ps l g h)) (place_in line) leads.0 leads.1 in
    let p : Place = read.0 in
    let place = place_read line p read.1 in
    let taken = chosen (may_be_next (mapped bs r ps l g h) p) (mapped bs r (ps ++ p ∷ []) (l - p.size) (g - own_blocks p.size) (h - new_blocks ps p)) leads.0 read.2 in
    let pass = passes bs r ps l g h p taken.0 in
    let new : ℕ = new_blocks ps p in
    let room : new ≤ h = pass.small in
    let own : ℕ = own_blocks p.size in
    let fits : own ≤ g = pass.large in
    let longer : length (ps ++ p ∷ []) ≡ length ps + 1 = length-append ps (p ∷ []) in
    let leaves : Leaves r (ps ++ p ∷ []) (l - p.size) (g - own) (h - new) = ap (λ (n : ℕ). may_fill (r.held - n) (r.held_words - r.live_words + (l - p.size)) (g - own) (h - new)) longer ∙ pass.others in
    let later = map_leads lines bs r (ps ++ p ∷ []) (l - p.size) (g - own) (h - new) end leaves (subst (λ s. Leads lines s end) (sym taken.1) leads.2) in
    record {
      more = p ∷ later.more;
      lines_are = ap (λ x. x ∷ lines) place.0 ∙ ap (λ ls. place_text p ∷ ls) later.lines_are;
      end_is = later.end_is ∙ ap (λ qs. mapped bs r qs 0 (g - own - blocks_of later.more) (h - new - added_to (ps ++ p ∷ []) later.more)) (append_assoc ps (p ∷ []) later.more)
          ∙ ap (λ n. mapped bs r (ps ++ p ∷ later.more) 0 n (h - new - added_to (ps ++ p ∷ []) later.more)) (let rest : ℕ = blocks_of later.more in let same : g - own - rest ≡ g - (own + rest) = omega arith in same)
          ∙ ap (mapped bs r (ps ++ p ∷ later.more) 0 (g - (own + blocks_of later.more))) (let rest : ℕ = added_to (ps ++ p ∷ []) later.more in let same : h - new - rest ≡ h - (new + rest) = omega arith in same);
      large = let rest : blocks_of later.more ≤ g - own = later.large in omega (arith, rest, fits);
      small = let rest : added_to (ps ++ p ∷ []) later.more ≤ h - new = later.small in omega (arith, rest, room);
      live = let sum = later.live in omega (arith, sum, longer);
      others = let rest : ℕ = blocks_of later.more in let new-rest : ℕ = added_to (ps ++ p ∷ []) later.more in
          filled-as (r.held - r.live) (r.held_words - r.live_words) (g - own - rest) (h - new - new-rest) (r.held - r.live) (r.held_words - r.live_words) (g - (own + rest)) (h - (new + new-rest)) refl refl (omega arith) (omega arith) later.others;
      words = let sum = later.words in let within = pass.within in omega (arith, sum, within);
      each = (pass.is_in (let born = place.1.birth in omega (arith, born)), later.each);
      born = (pass.named, later.born);
      clear = (pass.free, later.clear);
      rise = (pass.next, subst (λ o. Rises o later.more) (last_pushed ps p) later.rise);
    }

-- the converse
pub place_fits : (k b : ℕ) (p : Place) → k ≤ 16 → b ≤ 1024 → IsPlaceIn k b p → Fits p
place_fits k b p few low is =
    let end = ends_within b p is.header is.short is.lies in
    let word = word_few b p is.header is.short is.lies in
    let most = is.most in
    let fits = is.fits in
    let short = is.short in
    record {
      mutator = omega (arith, most, few);
      birth = omega (arith, fits);
      block = omega (arith, end, low);
      word = omega (arith, word);
      size = omega (arith, short);
    }

-- places have words as their objects may have
pub sizes_are : (k b : ℕ) (ps : List Place) → AllByRecursion (IsPlaceIn k b) ps → (3 * length ps ≤ words_in ps) × (words_in ps ≤ 61027 * length ps)
sizes_are k b [] each = (omega arith, omega arith)
sizes_are k b (p ∷ ps) each =
    let least = each.0.header in
    let most = each.0.short in
    let rest = sizes_are k b ps each.1 in
    let low = rest.0 in
    let high = rest.1 in
    (omega (arith, least, low), omega (arith, most, high))

pub sizes_again : (k b n w : ℕ) (ps : List Place) → AllByRecursion (IsPlaceIn k b) ps → n ≡ length ps → w ≡ words_in ps → have_sizes n w ≡ true
sizes_again k b n w ps each count words =
    let sizes = sizes_are k b ps each in
    let low = sizes.0 in
    let high = sizes.1 in
    and_from _ _ (le-leb (3 * n) w (omega (arith, count, words, low))) (le-leb w (61027 * n) (omega (arith, count, words, high)))

new-few : (ps : List Place) (p : Place) (b : Bool) → is_used ps p.block ≡ b → new_blocks ps p ≤ shared_blocks p.size
new-few ps p true is = let none : new_blocks ps p ≡ 0 = ap (λ t. if t then 0 else shared_blocks p.size) is in omega (arith, none)
new-few ps p false is = let all : new_blocks ps p ≡ shared_blocks p.size = ap (λ t. if t then 0 else shared_blocks p.size) is in omega (arith, all)

-- the size of one more place
one-size : (k b : ℕ) (ps : List Place) (p : Place) (objects words large small : ℕ) (sizes : List ℕ) → IsPlaceIn k b p → AreSizes objects words large small sizes
    → AreSizes (1 + objects) (p.size + words) (own_blocks p.size + large) (new_blocks ps p + small) (p.size ∷ sizes)
one-size k b ps p objects words large small sizes is are =
    let count : length sizes ≡ objects = are.count in
    let sum : sum_by (λ size. size) sizes ≡ words = are.sum in
    let own : sum_by own_blocks sizes ≡ large = are.own in
    let shared : small ≤ sum_by shared_blocks sizes = are.shared in
    let sum1 = sum_by-cons (λ (m : ℕ). m) p.size sizes in
    let own1 = sum_by-cons own_blocks p.size sizes in
    let shared1 = sum_by-cons shared_blocks p.size sizes in
    let few : new_blocks ps p ≤ shared_blocks p.size = new-few ps p (is_used ps p.block) refl in
    record {
      each = (record { least = is.header; most = is.short }, are.each);
      count = omega (arith, count);
      sum = omega (arith, sum, sum1);
      own = omega (arith, own, own1);
      shared = omega (arith, shared, shared1, few);
    }

-- the sizes of the places that are to come and of the others
record Coming (ps more : List Place) (objects words large small : ℕ) : Type 0 where
  sizes : List ℕ
  are : AreSizes (length more + objects) (words_in more + words) (blocks_of more + large) (added_to ps more + small) sizes

coming : (k b : ℕ) (more ps : List Place) (objects words large small : ℕ) (sizes : List ℕ) → AllByRecursion (IsPlaceIn k b) more → AreSizes objects words large small sizes → Coming ps more objects words large small
coming k b [] ps objects words large small sizes each are =
    let count : length sizes ≡ objects = are.count in
    let sum : sum_by (λ m. m) sizes ≡ words = are.sum in
    let own : sum_by own_blocks sizes ≡ large = are.own in
    let shared : small ≤ sum_by shared_blocks sizes = are.shared in
    record { sizes = sizes; are = record { each = are.each; count = omega (arith, count); sum = omega (arith, sum); own = omega (arith, own); shared = omega (arith, shared) } }
coming k b (p ∷ more) ps objects words large small sizes each are =
    let rest = coming k b more (ps ++ p ∷ []) objects words large small sizes each.1 are in
    let one = one-size k b ps p (length more + objects) (words_in more + words) (blocks_of more + large) (added_to (ps ++ p ∷ []) more + small) rest.sizes each.0 rest.are in
    let n : ℕ = length more in
    let w : ℕ = words_in more in
    let g : ℕ = blocks_of more in
    let h : ℕ = added_to (ps ++ p ∷ []) more in
    let count : length (p.size ∷ rest.sizes) ≡ 1 + (n + objects) = one.count in
    let sum : sum_by (λ m. m) (p.size ∷ rest.sizes) ≡ p.size + (w + words) = one.sum in
    let own : sum_by own_blocks (p.size ∷ rest.sizes) ≡ own_blocks p.size + (g + large) = one.own in
    let shared : new_blocks ps p + (h + small) ≤ sum_by shared_blocks (p.size ∷ rest.sizes) = one.shared in
    record {
      sizes = p.size ∷ rest.sizes;
      are = record { each = one.each; count = omega (arith, count); sum = omega (arith, sum); own = omega (arith, own); shared = omega (arith, shared) };
    }

-- they pass the test
pub leaves-by : (r : Report) (more ps : List Place) (l g h : ℕ) (sizes : List ℕ) → AreSizes (r.held - r.live) (r.held_words - r.live_words) (g - blocks_of more) (h - added_to ps more) sizes
    → AllByRecursion (IsPlaceIn r.mutators r.blocks) more → length ps + length more ≡ r.live → r.live ≤ r.held → l ≡ words_in more → blocks_of more ≤ g → added_to ps more ≤ h → Leaves r ps l g h
leaves-by r more ps l g h sizes are each live held words large small =
    let c = coming r.mutators r.blocks more ps (r.held - r.live) (r.held_words - r.live_words) (g - blocks_of more) (h - added_to ps more) sizes each are in
    let new : ℕ = added_to ps more in
    filled-as (length more + (r.held - r.live)) (words_in more + (r.held_words - r.live_words)) (blocks_of more + (g - blocks_of more)) (added_to ps more + (h - added_to ps more))
    (r.held - length ps) (r.held_words - r.live_words + l) g h (omega (arith, live, held)) (omega (arith, words)) (omega (arith, large)) (omega (arith, small))
    (tested _ _ _ _ c.sizes c.are)

next_again : (bs : List ℕ) (r : Report) (ps : List Place) (l g h : ℕ) (p : Place) → IsPlaceIn r.mutators r.blocks p → BornBy bs p → FreeOf ps p → Follows (last_of ps) p → length ps < r.live → p.size ≤ l
    → have_sizes (r.live - length ps - 1) (l - p.size) ≡ true → own_blocks p.size ≤ g → new_blocks ps p ≤ h → leaves_others (mapped bs r ps l g h) p ≡ true → may_be_next (mapped bs r ps l g h) p ≡ true
next_again bs r ps l g h p is named free next few within sizes large small others =
    let name : is_name r.mutators bs p ≡ true = and_from _ _ (and_from _ _ (and_from _ _ (le-leb 1 p.mutator is.least) (le-leb p.mutator r.mutators is.most)) (le-leb 1 p.birth is.born)) (le-leb p.birth (slice_index_or bs p.mutator 0) named) in
    let room : leaves_room (r.live - length ps) l p ≡ true = and_from _ _ (and_from _ _ (lt-ltb 0 (r.live - length ps) (omega (arith, few))) (le-leb p.size l within)) sizes in
    and_from _ _ (and_from _ _ (and_from _ _ (and_from _ _ (and_from _ _ (and_from _ _ (and_from _ _ (and_from _ _ name (lies_again r.blocks p is.header is.short is.lies)) (le-leb 3 p.size is.header)) (follows_again (last_of ps) p next)) room) (le-leb (own_blocks p.size) g large)) (le-leb (new_blocks ps p) h small)) others) (free_again ps p free)

pub map_goes : (more : List Place) (bs : List ℕ) (r : Report) (ps : List Place) (l g h : ℕ) (others : List ℕ) → r.live ≤ r.held → AreSizes (r.held - r.live) (r.held_words - r.live_words) (g - blocks_of more) (h - added_to ps more) others → r.mutators ≤ 16 → r.blocks ≤ 1024 → AllByRecursion (IsPlaceIn r.mutators r.blocks) more → AllByRecursion (BornBy bs) more
    → Clear ps more → Rises (last_of ps) more
    → length ps + length more ≡ r.live → l ≡ words_in more → blocks_of more ≤ g → added_to ps more ≤ h → Leads (map place_text more) (mapped bs r ps l g h) (mapped bs r (ps ++ more) 0 (g - blocks_of more) (h - added_to ps more))
map_goes [] bs r ps l g h others held are few low each named clear rise live words large small =
    let all : length ps ≡ r.live = omega (arith, live) in (
      ap (λ n. mapped bs r ps n g h) words ∙ ap (λ qs. mapped bs r qs 0 g h) (sym (append-nil ps)) ∙ ap (λ n. mapped bs r (ps ++ []) 0 n h) (let same : g ≡ g - 0 = omega arith in same)
          ∙ ap (mapped bs r (ps ++ []) 0 (g - 0)) (let same : h ≡ h - 0 = omega arith in same),
      and_from _ _ (eq-eqb (length ps) r.live all) (eq-eqb l 0 words),
    )
map_goes (p ∷ more) bs r ps l g h others held are few low each named clear rise live words large small =
    let longer : length (ps ++ p ∷ []) ≡ length ps + 1 = length-append ps (p ∷ []) in
    let sizes : have_sizes (r.live - length ps - 1) (l - p.size) ≡ true = sizes_again r.mutators r.blocks (r.live - length ps - 1) (l - p.size) more each.1 (omega (arith, live)) (omega (arith, words)) in
    let own : ℕ = own_blocks p.size in
    let rest : ℕ = blocks_of more in
    let all : own + rest ≤ g = large in
    let new : ℕ = new_blocks ps p in
    let later : ℕ = added_to (ps ++ p ∷ []) more in
    let room : new + later ≤ h = small in
    let after : AreSizes (r.held - r.live) (r.held_words - r.live_words) (g - own - rest) (h - new - later) others =
    subst (λ (n : ℕ). AreSizes (r.held - r.live) (r.held_words - r.live_words) n (h - new - later) others) (let same : g - (own + rest) ≡ g - own - rest = omega arith in same)
    (subst (λ (n : ℕ). AreSizes (r.held - r.live) (r.held_words - r.live_words) (g - (own + rest)) n others) (let same : h - (new + later) ≡ h - new - later = omega arith in same) are) in
    let leaves : Leaves r (ps ++ p ∷ []) (l - p.size) (g - own) (h - new) = leaves-by r more (ps ++ p ∷ []) (l - p.size) (g - own) (h - new) others after each.1 (omega (arith, live, longer)) held (omega (arith, words)) (omega (arith, all)) (omega (arith, room)) in
    let next : may_be_next (mapped bs r ps l g h) p ≡ true = next_again bs r ps l g h p each.0 named.0 clear.0 rise.0 (omega (arith, live)) (omega (arith, words)) sizes (omega (arith, all)) (omega (arith, room)) (sym (ap (λ (n : ℕ). may_fill (r.held - n) (r.held_words - r.live_words + (l - p.size)) (g - own) (h - new)) longer) ∙ leaves) in (
      mapped bs r (ps ++ p ∷ []) (l - p.size) (g - own) (h - new),
      ap (option_and_then (as_place (mapped bs r ps l g h))) (place_again p (place_fits r.mutators r.blocks p few low each.0))
          ∙ ap (λ b. if b then Some (mapped bs r (ps ++ p ∷ []) (l - p.size) (g - own) (h - new)) else None) next,
      subst (λ e. Leads (map place_text more) (mapped bs r (ps ++ p ∷ []) (l - p.size) (g - own) (h - new)) e)
          (ap (λ qs. mapped bs r qs 0 (g - own - rest) (h - new - later)) (append_assoc ps (p ∷ []) more) ∙ ap (λ n. mapped bs r (ps ++ p ∷ more) 0 n (h - new - later)) (let same : g - own - rest ≡ g - (own + rest) = omega arith in same)
          ∙ ap (mapped bs r (ps ++ p ∷ more) 0 (g - (own + rest))) (let same : h - new - later ≡ h - (new + later) = omega arith in same))
          (map_goes more bs r (ps ++ p ∷ []) (l - p.size) (g - own) (h - new) others held after few low each.1 named.1 clear.1 (subst (λ o. Rises o more) (sym (last_pushed ps p)) rise.1) (omega (arith, live, longer)) (omega (arith, words)) (omega (arith, all)) (omega (arith, room))),
    )
