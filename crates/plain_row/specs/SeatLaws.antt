-- Effects, one after another. What the laws of the trait of steps say of a row stands in specs/,
-- since an impl's laws cannot come from the crate's own proofs/: here is what they cite, and no
-- more.
use Rattle.std.proofs.Common.{◌≡◌, ◌≢◌, refl, sym, ◌∙◌, ap, subst, ℕ, ◌+◌, inl, inr, arith, Bool, true, false, ◌&&◌}
use Rattle.std.proofs.Common.{◌||◌, not, ◌<◌, suc, length, add-zero, add_assoc, List, [], ◌∷◌, ◌++◌, map, nat_eq}
use Rattle.std.proofs.lemmas.List.{append_assoc, append-nil, map-append}
use Rattle.std.proofs.lemmas.List.Folds.{list_any-append}
use Rattle.std.proofs.lemmas.List.Sums.{sum_by-append}
use Rattle.std.proofs.lemmas.List.Elements.{Contains-append_cases}
use Rattle.std.specs.Prelude.{◌↔◌, if◌then◌else◌, Some}
use Rattle.std.specs.List.{AllByRecursion}
use Rattle.std.proofs.lemmas.Bool.{and_parts, cases_Bool, cond-true, cond-false}
use Rattle.heap_layout.specs.declared.layout.TheConstants.{BUDGET_WORD, STOP_WORD}
use Rattle.ideal_heap.specs.Commands.{is_new}
use Rattle.mutator_core.proofs.Lists.{all-append}
use Rattle.heap_layout.specs.declared.block.Kind.TheVariants as kinds
use Rattle.ideal_heap.specs.Ideal.{IdealHeap}
use Rattle.ideal_heap.specs.Runs.{entry}
use Rattle.object_model.specs.Objects.{HeapState, state_of, word_at, has_kind, HasKind, is_unlogged}
use Rattle.object_model.proofs.OneKind.{kind-within}
use Rattle.mutator_core.proofs.Left.{free-left}
use Rattle.mutator_calls.specs.declared.need.Mutator.{Mutator}
use Rattle.object_model.specs.declared.shape.Shape.{Shape}
use Rattle.mutator_core.specs.declared.state.LogEntry.{LogEntry}
use Rattle.mutator_core.specs.Machine.{Epoch, first_machine}
use Rattle.mutator_core.specs.Histories.{after, history}
use Rattle.block_regions.proofs.Lists.{get-some}
use Rattle.mutator_core.specs.Logs.{machine_after, heap_after, local_after_log}
use Rattle.mutator_core.proofs.Regions.{after-append, history-append}
use Rattle.mutator_calls.specs.Effects.{Effect, nothing, and_then}
use Rattle.plain_row.specs.declared.plain_row.PlainRow.{PlainRow}
use Rattle.local_allocators.specs.declared.local_seat.LocalSeat.{LocalSeat}
use Rattle.plan_api.specs.Cursors.{RegionHasRoom}
use Rattle.plain_row.specs.Rows.{address_at, number_at_turn, mutator_at_turn, seat_at_turn, mutator_number, births_of}
use Rattle.plain_row.specs.Rows.{regions_at_turn}
use Rattle.local_allocators.specs.Seats.{ticket_of}
use Rattle.local_allocators.proofs.KeptRegions.{keeps-more, tries-still}
use Rattle.local_allocators.proofs.SeatRegions.{same-keeps}
use Rattle.plain_row.specs.Worlds.{IsAt, IsInSomeEpoch, MayCall, Goes, Continues, is_in_list, births_in, stop_after}
use Rattle.plain_row.specs.Steps.{HasShape, AllocatesIn, IsOverflow, IsUsed, KeepsAll}

pub shape-some : (a : PlainRow) (s : ℕ) (shape : Shape) → HasShape a s shape → address_at a s ≢ 0
shape-some a s shape is = is.some

both-tests : (b p q : Bool) → ((b && not p) && not q) ≡ (b && not (p || q))
both-tests true true q = refl
both-tests true false q = refl
both-tests false p q = refl

has-append : (xs ys : List ℕ) (x : ℕ) (b : Bool)
    → ((b && not (is_in_list xs x)) && not (is_in_list ys x))
    ≡ (b && not (is_in_list (xs ++ ys) x))
has-append xs ys x b = both-tests b (is_in_list xs x) (is_in_list ys x)
    ∙ ap (λ t. b && not t) (sym (list_any-append
    (nat_eq x) xs ys))

and-true : (b : Bool) → b ≡ (b && true)
and-true true = refl
and-true false = refl

-- what a seat tries, and what overflows, stays with the regions
pub tried-stays : (a b : PlainRow) (n k : ℕ) → KeepsAll a b → AllocatesIn a n k ↔ AllocatesIn b n k
tried-stays a b n k keeps = (
  tries-still a.fill b.fill (regions_at_turn a) (regions_at_turn b) n k keeps.0
      (λ class. (keeps.1.classes class).block) keeps.1.over.block,
  tries-still b.fill a.fill (regions_at_turn b) (regions_at_turn a) n k (sym keeps.0)
      (λ class. sym (keeps.1.classes class).block) (sym keeps.1.over.block),
)

pub overflow-stays : (a b : PlainRow) (n : ℕ) → KeepsAll a b → IsOverflow a n → IsOverflow b n
overflow-stays a b n keeps is = record {
  over = record {
    lines = keeps.0 ∙ is.over.lines;
    tried = record {
      above = is.over.tried.above;
      full = λ room. is.over.tried.full
          (subst (λ r. RegionHasRoom r n) (keeps.1.classes 0).region room);
    };
  };
  some = subst (λ r. r.next < r.end) (sym (keeps.1.classes 0).region) is.some;
}

goes-nowhere : (a : PlainRow) → Goes a nothing a
goes-nowhere a = record {
  turn = refl;
  number = refl;
  steps = λ p i log at. record {
    more = [];
    own = tt;
    at = subst (λ l. IsAt p i l a) (sym (append-nil log)) at;
    entries = refl;
  };
  logged = λ x. and-true (is_unlogged (state_of a.row) x);
  granted = λ k. and-true (has_kind (state_of a.row) k kinds.Free);
  free = λ k there. absurd (let below : there.0 < 0 = there.1 in omega arith);
  size = refl;
  fill = refl;
  blocks = λ k below none. refl;
  budget = sym (add-zero (word_at (state_of a.row) BUDGET_WORD));
  stop = refl;
  births = sym (add-zero (births_of (mutator_at_turn a)));
  ticket = λ none kept. refl;
  regions =
      λ still. same-keeps a.notes.items a.notes.items (seat_at_turn a) (seat_at_turn a) refl
      (λ class. refl) refl;
  others = λ k other. (refl, refl);
  foreign = λ k owner region other is. is;
}

-- a seat that did nothing
pub goes-nothing : (a b : PlainRow) → b ≡ a → Goes a nothing b
goes-nothing a b same = subst (Goes a nothing) (sym same) (goes-nowhere a)

-- from a log on, and on
pub continues-after : (p : Epoch) (i : IdealHeap) (log : List LogEntry) (m n : ℕ) (b c : PlainRow)
    (e f : Effect) → n ≡ m → (one : Continues p i log m e b)
    → Continues p i (log ++ one.more) n f c → Continues p i log m (and_then e f) c
continues-after p i log m n b c e f same one two = record {
  more = one.more ++ two.more;
  own = all-append (λ x. x.mutator ≡ m) one.more two.more one.own
      (subst (λ q. AllByRecursion (λ x. x.mutator ≡ q) two.more) same two.own);
  at = subst (λ l. IsAt p i l c) (append_assoc log one.more two.more) two.at;
  entries = history-append p (machine_after p log) one.more two.more
      ∙ ap (λ es. es ++ history p (after p (machine_after p log) one.more) two.more) one.entries
      ∙ ap (λ h. map (λ x. entry m x.command x.reply) e.entries ++ history p h two.more)
      (sym (after-append p (first_machine p) log one.more))
      ∙ ap (λ es. map (λ x. entry m x.command x.reply) e.entries ++ es)
      (subst (λ q. history p (machine_after p (log ++ one.more)) two.more
      ≡ map (λ x. entry q x.command x.reply) f.entries) same two.entries)
      ∙ sym (map-append (λ x. entry m x.command x.reply) e.entries f.entries);
}

-- a stop that is raised twice is raised once
stop-idle : (number : ℕ) → stop_after true number number ≡ number
stop-idle number =
    elim (nat_eq number 0) as (λ t. (if t then number else number) ≡ number)
    [ true ↦ refl | false ↦ refl ]

stop-twice : (r q : Bool) (number word : ℕ)
    → stop_after q number (stop_after r number word) ≡ stop_after (r || q) number word
stop-twice true true number word =
    elim (cases_Bool (nat_eq word 0)) as
    (λ _. stop_after true number (stop_after true number word) ≡ stop_after true number word) [
      | inl none ↦ (let first : stop_after true number word ≡ number =
          cond-true (nat_eq word 0) number word none in
          ap (λ w. stop_after true number w) first ∙ stop-idle number ∙ sym first)
      | inr some ↦ (let first : stop_after true number word ≡ word =
          cond-false (nat_eq word 0) number word some in
          ap (λ w. stop_after true number w) first)
    ]
stop-twice true false number word = refl
stop-twice false q number word = refl

or-none : (p q : Bool) → (p || q) ≡ false → (p ≡ false) × (q ≡ false)
or-none true q is = absurd (let wrong : true ≡ false = is in cc)
or-none false q is = (refl, is)

has-none : (xs ys : List ℕ) (k : ℕ) → is_in_list (xs ++ ys) k ≡ false
    → (is_in_list xs k ≡ false) × (is_in_list ys k
    ≡ false)
has-none xs ys k is =
    or-none (is_in_list xs k) (is_in_list ys k) (sym (list_any-append (nat_eq k) xs ys) ∙ is)

none-left : (xs ys : List ℕ) → xs ++ ys ≡ [] → (xs ≡ []) × (ys ≡ [])
none-left [] ys is = (refl, is)
none-left (x ∷ xs) ys is =
    absurd (let wrong : suc (length (xs ++ ys)) ≡ 0 = ap length is in omega arith)

-- effects, one after another
pub goes-after : (a b c : PlainRow) (e f : Effect) → Goes a e b → Goes b f c
    → Goes a (and_then e f) c
goes-after a b c e f one two = record {
  turn = two.turn ∙ one.turn;
  number = two.number ∙ one.number;
  steps = λ p i log at. let first = one.steps p i log at in
      continues-after p i log (number_at_turn a) (number_at_turn b) b c e f one.number first
      (two.steps p i (log ++ first.more) first.at);
  logged = λ x. two.logged x ∙ ap (λ t. t && not (is_in_list f.logged x))
      (one.logged x) ∙ has-append e.logged f.logged x (is_unlogged (state_of a.row) x);
  granted = λ k. two.granted k ∙ ap (λ t. t && not (is_in_list f.granted k))
      (one.granted k) ∙ has-append e.granted f.granted k (has_kind (state_of a.row) k kinds.Free);
  free = λ k there. elim (Contains-append_cases e.granted f.granted k there) as
      (λ _. HasKind (state_of a.row) k kinds.Free) [
        | inl before ↦ one.free k before
        | inr later ↦ (and_parts (has_kind (state_of a.row) k kinds.Free)
            (not (is_in_list e.granted k))
            (sym
            (one.granted k) ∙ two.free k later)).0
      ];
  size = two.size ∙ one.size;
  fill = two.fill ∙ one.fill;
  blocks = λ k below none. let both = has-none e.taken f.taken k none in
      two.blocks k (subst (λ n. k < n) (sym one.size) below) both.1 ∙ one.blocks k below both.0;
  budget = two.budget ∙ ap (λ n. n + f.drawn) one.budget
      ∙ add_assoc (word_at (state_of a.row) BUDGET_WORD) e.drawn f.drawn;
  stop = two.stop ∙ ap (λ n. stop_after f.raised n (word_at (state_of b.row) STOP_WORD)) one.number
      ∙ ap (λ w. stop_after f.raised (number_at_turn a) w) one.stop
      ∙ stop-twice e.raised f.raised (number_at_turn a) (word_at (state_of a.row) STOP_WORD);
  births = two.births ∙ ap (λ n. n + births_in f.entries) one.births
      ∙ add_assoc (births_of (mutator_at_turn a)) (births_in e.entries) (births_in f.entries)
      ∙ ap (λ n. births_of (mutator_at_turn a) + n)
      (sym (sum_by-append (λ x. if is_new x.command then 1 else 0) e.entries f.entries));
  ticket = λ none kept. let both = none-left e.granted f.granted kept in
      let sum : e.drawn + f.drawn ≡ 0 = none in two.ticket (omega arith) both.1
      ∙ one.ticket (omega arith) both.0;
  regions = λ still. let both = or-none e.moved f.moved still in
      keeps-more (regions_at_turn a) (regions_at_turn b) (regions_at_turn c) (one.regions both.0)
      (two.regions both.1);
  others = λ k other. let before = one.others k other in let after =
      two.others k (λ same. other (same ∙ one.turn)) in
      (after.0 ∙ before.0, after.1 ∙ before.1);
  foreign =
      λ k owner region other is. two.foreign k owner region (λ same. other (same ∙ one.number))
      (one.foreign k owner region other is);
}

-- while the mutator has an unused ticket below the allowance, some block is Free
pub free-block-is-left : (a : PlainRow) (t : ℕ) → MayCall a → ticket_of (seat_at_turn a) ≡ Some t
    → t < a.allowance
    → ((k : ℕ) → k < a.row.layout.blocks → IsUsed a k) → ⊥
free-block-is-left a t ready ticket few used =
    used free.0 (kind-within (state_of a.row) free.0 kinds.Free kind) kind
  where
    now : IsInSomeEpoch a
    now = ready.between_calls.some

    mutator : (x : Mutator) × (mutator_at_turn a ≡ Some x)
    mutator = get-some a.mutators.items a.turn ready.turn.turn

    seat : (x : LocalSeat) × (seat_at_turn a ≡ Some x)
    seat = get-some a.seats.items a.turn
        (subst (λ n. a.turn < n) (sym ready.turn.seats) ready.turn.turn)

    own : (local_after_log now.epoch now.log (number_at_turn a)).ticket ≡ Some t
    own = ap (λ n. (local_after_log now.epoch now.log n).ticket) (ap mutator_number mutator.1)
        ∙ (now.at.each a.turn mutator.0 seat.0 mutator.1 seat.1).ticket ∙ sym (ap ticket_of seat.1)
        ∙ ticket

    free : (k : ℕ) × HasKind (heap_after now.epoch now.log) k kinds.Free
    free = free-left now.epoch now.ideal now.log now.at.epoch (number_at_turn a)
        (t, own, subst (λ n. t < n) now.at.allowed few)

    kind : HasKind (state_of a.row) free.0 kinds.Free
    kind = subst (λ (s : HeapState). HasKind s free.0 kinds.Free) (sym now.at.heap) free.1
