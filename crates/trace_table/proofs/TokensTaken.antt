-- The tokens of globals and of logged objects: what is left to the table when k of them are given.
use Rattle.std.proofs.Common.{◌≡◌, ℕ, zero, suc, ◌+◌, ◌-◌, ◌<◌, ◌≤◌, ◌&&◌, false, Bool, nat_eq, nat_lt, List, [], ◌∷◌, ◌++◌, All, length, map, drop, get_or, refl, sym, ap, ◌∙◌, subst, arith}
use Rattle.std.specs.Prelude.{if◌then◌else◌}
use Rattle.std.specs.List.{range_with_len}
use Rattle.std.proofs.lemmas.Bool.{lt-ltb, eq-eqb, and_left, and_parts}
use Rattle.std.proofs.lemmas.List.{drop_more}
use Rattle.std.proofs.lemmas.List.Elements.{All-push, All-weaker}
use Rattle.heap_layout.specs.Zones.{row_words, heap_of}
use Rattle.heap_layout.specs.declared.layout.TheConstants.{GLOBALS}
use Rattle.object_model.specs.Ages as ages
use Rattle.object_model.specs.Objects.{IsHeld}
use Rattle.object_model.specs.Times.{times, one_if}
use Rattle.object_model.proofs.Marks as marks
use Rattle.trace_core.specs.Runs.{IsRunOf, is_nursery}
use Rattle.trace_core.specs.Setups.{Setup, TraceMayBegin, blocks, size, refs, held, stays_old, was_logged}
use Rattle.trace_core.specs.Views.{hits, is_pair, without}
use Rattle.trace_core.specs.declared.run.TraceRun.{TraceRun}
use Rattle.trace_core.proofs.CountedRights.{hits-here, hits-more, times-cons}
use Rattle.trace_core.proofs.FirstInvariant.{held-of-old}
use Rattle.trace_core.proofs.FirstView.{times-range}
use Rattle.trace_core.proofs.Idle.{one-if-from, one-if-true}
use Rattle.trace_words.specs.declared.share.Share.{Share}
use Rattle.trace_words.specs.Rule.{setup_in}
use Rattle.trace_words.specs.Shares.{gives_global, gives_scan}
use Rattle.trace_table.specs.declared.table.TraceTable.{TraceTable}
use Rattle.trace_table.specs.declared.tokens.GlobalRoot.{GlobalRoot}
use Rattle.trace_table.specs.declared.tokens.Grey.{Grey}
use Rattle.trace_table.specs.Seats.{IsGrey, IsGlobalRoot, setup_at}
use Rattle.trace_table.specs.Ends.{kept_share, left_share, SameTable, SameTrace}
use Rattle.trace_table.proofs.Copyings.{first-gone}
use Rattle.trace_table.proofs.SeatEnds.{first-out, seat-stays}

-- the tokens of the globals below k were given, or of the first k logged objects
abbrev pub gives_globals : ℕ → Share → Share
gives_globals k v = record v { gave = v.gave + k; unset = range_with_len k (GLOBALS - k) }

abbrev pub gives_logged : ℕ → List ℕ → Share → Share
gives_logged k l v = record v { gave = v.gave + k; grey = map (λ x. (x, 0)) (drop k l) }

-- what is left, by the parts of the table on which it depends
abbrev left_of : TraceRun → ℕ → Bool → Bool → Share
left_of run w globals logged = record (kept_share run w w) {
  gave = (if globals then GLOBALS else 0) + (if logged then length run.logged.items else 0);
  unset = if globals then [] else range_with_len 0 GLOBALS;
  grey = if logged then [] else map (λ x. (x, 0)) run.logged.items;
}

-- all that is left as a trace begins
pub left-new : (t : TraceTable) → t.globals_taken ≡ false → t.logged_taken ≡ false → kept_share t.run (setup_at t).workers (setup_at t).workers ≡ left_share t
left-new t globals logged = ap (λ b. left_of t.run (setup_at t).workers b false) (sym globals) ∙ ap (left_of t.run (setup_at t).workers t.globals_taken) (sym logged)

-- the next global's token is given
pub global-right : (k : ℕ) (v : Share) → k < 16 → 0 < times k (gives_globals k v).unset
global-right k v few = let a = times-range k (16 - k) k (omega arith) in
    let one : one_if (nat_lt k (k + (16 - k))) ≡ 1 = one-if-true (nat_lt k (k + (16 - k))) (lt-ltb k (k + (16 - k)) (omega arith)) in omega arith

pub globals-next : (k : ℕ) (v : Share) → k < 16 → gives_global k (gives_globals k v) ≡ gives_globals (k + 1) v
globals-next k v few = let less : 16 - k ≡ suc (16 - (k + 1)) = omega arith in let gave : v.gave + k + 1 ≡ v.gave + (k + 1) = omega arith in
    ap (λ n. record v { gave = n; unset = without (nat_eq k) (range_with_len k (16 - k)) }) gave
    ∙ ap (λ (l : List ℕ). record v { gave = v.gave + (k + 1); unset = l }) (ap (λ n. without (nat_eq k) (range_with_len k n)) less ∙ first-out k (16 - (k + 1)))

-- that of the next logged object is
pub logged-right : (k x : ℕ) (l : List ℕ) (v : Share) → k < length l → x ≡ get_or l k x → 0 < hits x 0 (gives_logged k l v).grey
logged-right k x l v less is = let rest : List ℕ = drop (k + 1) l in
    subst (λ m. 0 < hits x 0 (map (λ y. (y, 0)) m)) (sym (drop_more l k x less)) (subst (λ y. 0 < hits x 0 ((y, 0) ∷ map (λ z. (z, 0)) rest)) is (hits-here x 0 (map (λ z. (z, 0)) rest)))

pub logged-next : (k x : ℕ) (l : List ℕ) (v : Share) → k < length l → x ≡ get_or l k x → gives_scan x (gives_logged k l v) ≡ gives_logged (k + 1) l v
logged-next k x l v less is = let rest : List (ℕ × ℕ) = map (λ z. (z, 0)) (drop (k + 1) l) in
    ap (λ n. record v { gave = n; grey = without (is_pair x 0) (map (λ z. (z, 0)) (drop k l)) }) (let same : v.gave + k + 1 ≡ v.gave + (k + 1) = omega arith in same)
    ∙ ap (λ (m : List (ℕ × ℕ)). record v { gave = v.gave + (k + 1); grey = m }) (ap (λ m. without (is_pair x 0) (map (λ z. (z, 0)) m)) (drop_more l k x less)
    ∙ ap (λ y. without (is_pair x 0) ((y, 0) ∷ rest)) (sym is) ∙ first-gone x 0 rest)

-- an element of a list is in it
times-at : (l : List ℕ) (i d : ℕ) → i < length l → 0 < times (get_or l i d) l
times-at [] i d less = absurd (omega (arith, less))
times-at (x ∷ l) zero d less = let c = times-cons x l x in let one : one_if (nat_eq x x) ≡ 1 = ap one_if (eq-eqb x x refl) in omega (arith, c, one)
times-at (x ∷ l) (suc i) d less =
    let y : ℕ = get_or l i d in
    let c : times y (x ∷ l) ≡ one_if (nat_eq y x) + times y l = times-cons x l y in
    let rest : 0 < times y l = times-at l i d (omega arith) in
    omega (arith, c, rest)

-- and is known by itself
known-at : (l : List ℕ) (i d : ℕ) → i < length l → 0 < hits (get_or l i d) (get_or l i d) (map (λ y. (y, y)) l)
known-at [] i d less = absurd (omega (arith, less))
known-at (x ∷ l) zero d less = hits-here x x (map (λ y. (y, y)) l)
known-at (x ∷ l) (suc i) d less = let y : ℕ = get_or l i d in hits-more x x (map (λ z. (z, z)) l) y y (known-at l i d (omega arith))

-- a logged object
module _ (p : Setup) (ready : TraceMayBegin p) (run : TraceRun) (is-run : IsRunOf p run) where
  pub logged-held : (k x : ℕ) → k < length run.logged.items → x ≡ get_or run.logged.items k x → IsHeld p.before x
  logged-held k x less is =
      let some : 0 < times x run.logged.items = subst (λ y. 0 < times y run.logged.items) (sym is) (times-at run.logged.items k x less) in
      let logged = one-if-from (was_logged p x) (subst (λ n. 0 < n) (is-run.logged x) some) in
      marks.held p.before x (held-of-old p ready x (and_parts (stays_old p x) (p.logged x) logged).0)

  none-listed : (l : List ℕ) → ((x : ℕ) → times x l ≡ 0) → l ≡ []
  none-listed [] none = refl
  none-listed (x ∷ l) none = absurd (
      let some : 0 < times x (x ∷ l) = times-at (x ∷ l) 0 0 (omega arith) in
      let zero : times x (x ∷ l) ≡ 0 = none x in omega arith)

  -- none is in a full collection
  pub none-in-full : is_nursery run.collect ≡ false → run.logged.items ≡ []
  none-in-full full = none-listed run.logged.items (λ x. is-run.logged x
      ∙ ap one_if (and_left (stays_old p x) (p.logged x) (and_left p.nursery (held p x && ages.is_old p.before x) (is-run.nursery ∙ full))))

pub logged-known : (t : TraceTable) (v : Share) (k x : ℕ) (l : List ℕ) → l ≡ t.run.logged.items → k < length l → x ≡ get_or l k x → v ≡ gives_logged k l (left_share t) → 0 < hits x x v.known
logged-known t v k x l same less is share = subst (λ (u : Share). 0 < hits x x u.known) (sym share)
    (subst (λ m. 0 < hits x x (map (λ y. (y, y)) m)) same (subst (λ y. 0 < hits y y (map (λ z. (z, z)) l)) (sym is) (known-at l k x less)))

-- tables of one trace
pub same-trans : (t u w : TraceTable) → SameTable t u → SameTable u w → SameTable t w
same-trans t u w a b = record { words = b.words ∙ a.words; run = b.run ∙ a.run; globals = b.globals ∙ a.globals; logged = b.logged ∙ a.logged }

grey-stays : (t u : TraceTable) → u.row.words ≡ t.row.words → (g : Grey) → IsGrey t g → IsGrey u g
grey-stays t u same g is = let setup : setup_at u ≡ setup_at t = ap (λ w. setup_in w.key) same in record {
  table = is.table ∙ sym (ap (λ w. w.table_id) same);
  me = is.me;
  held = subst (λ (p : Setup). IsHeld p.before g.object) (sym setup) is.held;
  size = is.size ∙ ap (λ (p : Setup). size p g.object) (sym setup);
  refs = is.refs ∙ ap (λ (p : Setup). refs p g.object) (sym setup);
  start = subst (λ (p : Setup). heap_of (blocks p) ≤ g.target) (sym setup) is.start;
  within = subst (λ (p : Setup). g.target + g.size ≤ row_words (blocks p)) (sym setup) is.within;
}

root-stays : (t u : TraceTable) → u.row.words ≡ t.row.words → (g : GlobalRoot) → IsGlobalRoot t g → IsGlobalRoot u g
root-stays t u same g is = record { table = is.table ∙ sym (ap (λ w. w.table_id) same); me = is.me; below = is.below }

pub same-trace : (t u : TraceTable) → u.row.words ≡ t.row.words → u.run ≡ t.run → SameTrace t u
same-trace t u words run = record {
  setup = ap (λ w. setup_in w.key) words;
  run = run;
  seats = seat-stays t u words;
  greys = grey-stays t u words;
  roots = root-stays t u words;
}

pub all-roots : (t u : TraceTable) (l : List GlobalRoot) → u.row.words ≡ t.row.words → All (IsGlobalRoot t) l → All (IsGlobalRoot u) l
all-roots t u l same all = All-weaker (IsGlobalRoot t) (IsGlobalRoot u) (root-stays t u same) l all

-- one token more
pub more-roots : (t u : TraceTable) (l : List GlobalRoot) (g : GlobalRoot) → u.row.words ≡ t.row.words → All (IsGlobalRoot t) l → IsGlobalRoot u g → All (IsGlobalRoot u) (l ++ g ∷ [])
more-roots t u l g same all is = All-push (IsGlobalRoot u) l g (All-weaker (IsGlobalRoot t) (IsGlobalRoot u) (root-stays t u same) l all) is

pub more-greys : (t u : TraceTable) (l : List Grey) (g : Grey) → u.row.words ≡ t.row.words → All (IsGrey t) l → IsGrey u g → All (IsGrey u) (l ++ g ∷ [])
more-greys t u l g same all is = All-push (IsGrey u) l g (All-weaker (IsGrey t) (IsGrey u) (grey-stays t u same) l all) is

-- a list without elements
pub no-tokens : (l : List Grey) → length l ≡ 0 → l ≡ []
no-tokens [] none = refl
no-tokens (g ∷ l) none = absurd (omega (arith, none))
