-- What the part of an epoch leaves: why each mutator stopped, its entries, and the heap after it.
use Rattle.std.proofs.Common.{◌≡◌, ◌≢◌, ◌↔◌, refl, sym, ◌∙◌, ap, subst, ℕ, zero, suc, ◌+◌, ◌-◌, ◌/◌, ◌%◌, ◌^◌, ◌<◌, ◌≤◌, ◌⊎◌, inl, inr, arith, Bool, true, false, List, [], ◌∷◌, ◌++◌, length, cond, Option, None, Some, append-nil, length-append, slice_index_or, ◌&&◌}
use Rattle.std.specs.Prelude.{count_by, nat_lt, nat_le}
use Rattle.std.specs.List.{AllByRecursion, Any}
use Rattle.std.proofs.lemmas.Bool.{leb-true, ltb-true, and_parts, false_from_ne_true, false≢true}
use Rattle.std.proofs.lemmas.List.Sums.{sum_by-append}
use Rattle.heap_layout.specs.Zones.{block_at}
use Rattle.heap_layout.specs.Blocks.{kind_code}
use Rattle.heap_layout.specs.declared.block.Kind.{Kind}
use Rattle.heap_layout.specs.declared.block.Kind.TheVariants as kinds
use Rattle.ideal_heap.specs.declared.name.Name.{Name}
use Rattle.ideal_heap.specs.declared.command.Command.{Command}
use Rattle.ideal_heap.specs.declared.command.Command.TheVariants as c
use Rattle.ideal_heap.specs.declared.reply.Reply.TheVariants as r
use Rattle.ideal_heap.specs.Commands.{is_new, is_gc, is_meet}
use Rattle.ideal_heap.specs.Ideal.{IdealHeap}
use Rattle.ideal_heap.specs.Runs.{Entry, entry, IsMutator, heap_after_run}
use Rattle.object_model.specs.Objects.{HeapState, word_at, block_word, HasKind, IsHeld, name_at, refs_at, nums_at, size_at, number_at, size_of, is_unlogged}
use Rattle.object_model.specs.Ages.{is_old}
use Rattle.object_model.proofs.OneKind.{kind-within, kind-code, kind-from, one-kind}
use Rattle.object_model.specs.Graphs.{MutatorState}
use Rattle.ideal_heap.specs.Names.{name_of}
use Rattle.sessions.specs.Plans.{Rules, Copies, Headroom}
use Rattle.sessions.specs.Fitting.{free_of, used_of, headroom_of, allowance_of}
use Rattle.sessions.specs.Collecting.{is_logged_under}
use Rattle.sessions.specs.Sessions as sessions
use Rattle.sessions.specs.Sessions.{Setting, Moment, Cause, Needs, EndsBy, next_in, is_at_gc, is_at_need, IsOfPart, IsBirthOf, IsBirth, StoresInto, Stopped, ExhaustsAllowance, RunsPart, IsSound}

-- why a mutator stopped

module _ (t : Setting) (now : Moment) (ends : ℕ → Cause) (m : ℕ) where
  abbrev pub IsRaised : Type 0
  IsRaised = (by : ℕ) × (ends m ≡ sessions.Raised by)

  at-gc : (cause : Cause) → ends m ≡ cause → EndsBy t now ends m cause → next_in t now m ≡ Some c.Gc → (ends m ≡ sessions.AtGc) ⊎ IsRaised
  at-gc sessions.AtGc e by next = inl e
  at-gc sessions.AtMeet e by next = let wrong : Some c.Meet ≡ Some c.Gc = sym by ∙ next in cc
  at-gc sessions.AtEnd e by next = let wrong : None ≡ Some c.Gc = sym by ∙ next in cc
  at-gc sessions.AtNeed e (d, refs, nums, need) next = let wrong : Some (c.New d refs nums) ≡ Some c.Gc = sym need ∙ next in cc
  at-gc (sessions.Raised k) e by next = inr (k, e)

  at-meet : (cause : Cause) → ends m ≡ cause → EndsBy t now ends m cause → next_in t now m ≡ Some c.Meet → (ends m ≡ sessions.AtMeet) ⊎ IsRaised
  at-meet sessions.AtGc e by next = let wrong : Some c.Gc ≡ Some c.Meet = sym by ∙ next in cc
  at-meet sessions.AtMeet e by next = inl e
  at-meet sessions.AtEnd e by next = let wrong : None ≡ Some c.Meet = sym by ∙ next in cc
  at-meet sessions.AtNeed e (d, refs, nums, need) next = let wrong : Some (c.New d refs nums) ≡ Some c.Meet = sym need ∙ next in cc
  at-meet (sessions.Raised k) e by next = inr (k, e)

  at-end : (cause : Cause) → ends m ≡ cause → EndsBy t now ends m cause → next_in t now m ≡ None → ends m ≡ sessions.AtEnd
  at-end sessions.AtGc e by next = let wrong : Some c.Gc ≡ None = sym by ∙ next in cc
  at-end sessions.AtMeet e by next = let wrong : Some c.Meet ≡ None = sym by ∙ next in cc
  at-end sessions.AtEnd e by next = e
  at-end sessions.AtNeed e (d, refs, nums, need) next = let wrong : Some (c.New d refs nums) ≡ None = sym need ∙ next in cc
  at-end (sessions.Raised k) e by next = absurd (by.0 next)

  at-new : (d refs nums : ℕ) (cause : Cause) → ends m ≡ cause → EndsBy t now ends m cause → next_in t now m ≡ Some (c.New d refs nums) → (ends m ≡ sessions.AtNeed) ⊎ IsRaised
  at-new d refs nums sessions.AtGc e by next = let wrong : Some c.Gc ≡ Some (c.New d refs nums) = sym by ∙ next in cc
  at-new d refs nums sessions.AtMeet e by next = let wrong : Some c.Meet ≡ Some (c.New d refs nums) = sym by ∙ next in cc
  at-new d refs nums sessions.AtEnd e by next = let wrong : None ≡ Some (c.New d refs nums) = sym by ∙ next in cc
  at-new d refs nums sessions.AtNeed e by next = inl e
  at-new d refs nums (sessions.Raised k) e by next = inr (k, e)

  abbrev unwrapped : Option Command → Command
  unwrapped None = c.Gc
  unwrapped (Some command) = command

  at-other : (command : Command) (cause : Cause) → ends m ≡ cause → EndsBy t now ends m cause → next_in t now m ≡ Some command
      → is_gc command ≡ false → is_meet command ≡ false → is_new command ≡ false → IsRaised
  at-other command sessions.AtGc e by next no_gc no_meet no_new = absurd (false≢true (sym no_gc ∙ ap (λ o. is_gc (unwrapped o)) (sym next ∙ by)))
  at-other command sessions.AtMeet e by next no_gc no_meet no_new = absurd (false≢true (sym no_meet ∙ ap (λ o. is_meet (unwrapped o)) (sym next ∙ by)))
  at-other command sessions.AtEnd e by next no_gc no_meet no_new = let wrong : None ≡ Some command = sym by ∙ next in cc
  at-other command sessions.AtNeed e (d, refs, nums, need) next no_gc no_meet no_new = absurd (false≢true (sym no_new ∙ ap (λ o. is_new (unwrapped o)) (sym next ∙ need)))
  at-other command (sessions.Raised k) e by next no_gc no_meet no_new = (k, e)

  -- a mutator that raised a stop is at `gc` or at a `new`
  abbrev pub IsAtStop : Type 0
  IsAtStop = (next_in t now m ≡ Some c.Gc) ⊎ ((d : ℕ) × (refs : ℕ) × (nums : ℕ) × (next_in t now m ≡ Some (c.New d refs nums)))

  stop-of : (cause : Cause) → EndsBy t now ends m cause → (is_at_gc cause ≡ true) ⊎ (is_at_need cause ≡ true) → IsAtStop
  stop-of sessions.AtGc by at = inl by
  stop-of sessions.AtMeet by (inl at) = absurd (false≢true at)
  stop-of sessions.AtMeet by (inr at) = absurd (false≢true at)
  stop-of sessions.AtEnd by (inl at) = absurd (false≢true at)
  stop-of sessions.AtEnd by (inr at) = absurd (false≢true at)
  stop-of sessions.AtNeed by at = inr by
  stop-of (sessions.Raised k) by (inl at) = absurd (false≢true at)
  stop-of (sessions.Raised k) by (inr at) = absurd (false≢true at)

raiser : (t : Setting) (before now : Moment) (ends : ℕ → Cause) (m by : ℕ) → RunsPart t before ends now → (cause : Cause) → ends m ≡ cause → EndsBy t now ends m cause → ends m ≡ sessions.Raised by
    → IsMutator t.traces by × IsAtStop t now ends by
raiser t before now ends m by part sessions.AtGc e stop is = let wrong : sessions.AtGc ≡ sessions.Raised by = sym e ∙ is in cc
raiser t before now ends m by part sessions.AtMeet e stop is = let wrong : sessions.AtMeet ≡ sessions.Raised by = sym e ∙ is in cc
raiser t before now ends m by part sessions.AtEnd e stop is = let wrong : sessions.AtEnd ≡ sessions.Raised by = sym e ∙ is in cc
raiser t before now ends m by part sessions.AtNeed e stop is = let wrong : sessions.AtNeed ≡ sessions.Raised by = sym e ∙ is in cc
raiser t before now ends m by part (sessions.Raised k) e stop is =
    let same : k ≡ by = (let both : sessions.Raised k ≡ sessions.Raised by = sym e ∙ is in cc) in
    subst (λ (x : ℕ). IsMutator t.traces x × IsAtStop t now ends x) same (stop.1, stop-of t now ends k (ends k) (part.causes k stop.1) stop.2)

module _ (t : Setting) (before now : Moment) (ends : ℕ → Cause) (m : ℕ) (part : RunsPart t before ends now) (is : IsMutator t.traces m) where
  pub ends-gc : next_in t now m ≡ Some c.Gc → (ends m ≡ sessions.AtGc) ⊎ IsRaised t now ends m
  ends-gc = at-gc t now ends m (ends m) refl (part.causes m is)

  pub ends-meet : next_in t now m ≡ Some c.Meet → (ends m ≡ sessions.AtMeet) ⊎ IsRaised t now ends m
  ends-meet = at-meet t now ends m (ends m) refl (part.causes m is)

  pub ends-end : next_in t now m ≡ None → ends m ≡ sessions.AtEnd
  ends-end = at-end t now ends m (ends m) refl (part.causes m is)

  pub ends-new : (d refs nums : ℕ) → next_in t now m ≡ Some (c.New d refs nums) → (ends m ≡ sessions.AtNeed) ⊎ IsRaised t now ends m
  ends-new d refs nums = at-new t now ends m d refs nums (ends m) refl (part.causes m is)

  pub ends-other : (command : Command) → next_in t now m ≡ Some command → is_gc command ≡ false → is_meet command ≡ false → is_new command ≡ false → IsRaised t now ends m
  ends-other command = at-other t now ends m command (ends m) refl (part.causes m is)

  pub ends-raised : (by : ℕ) → ends m ≡ sessions.Raised by → IsMutator t.traces by × IsAtStop t now ends by
  ends-raised by = raiser t before now ends m by part (ends m) refl (part.causes m is)

-- the entries of a part

none-counted : (p : Entry → Bool) (es : List Entry) → AllByRecursion (λ e. p e ≡ false) es → count_by p es ≡ 0
none-counted p [] each = refl
none-counted p (e ∷ es) each = rw each.0 (none-counted p es each.1)

each-of : (P Q : Entry → Type 0) → ((e : Entry) → P e → Q e) → (es : List Entry) → AllByRecursion P es → AllByRecursion Q es
each-of P Q to [] each = tt
each-of P Q to (e ∷ es) each = (to e each.0, each-of P Q to es each.1)

-- a part adds no entry of a sort that it may not have
pub none-more : (p : Entry → Bool) → ((e : Entry) → IsOfPart e → p e ≡ false) → (t : Setting) (before now : Moment) (ends : ℕ → Cause) → RunsPart t before ends now
    → count_by p now.done ≡ count_by p before.done
none-more p none t before now ends part =
    let split : count_by p (before.done ++ part.part) ≡ count_by p before.done + count_by p part.part = sum_by-append (λ e. cond (p e) 1 0) before.done part.part in
    let rest : count_by p part.part ≡ 0 = none-counted p part.part (each-of IsOfPart (λ e. p e ≡ false) none part.part part.each) in
    let same : count_by p now.done ≡ count_by p (before.done ++ part.part) = ap (count_by p) part.done in
    omega arith

-- the heap after a part

-- an element that holds for some entry, where it holds for none
none-at : (P : Entry → Type 0) (es : List Entry) → AllByRecursion (λ e. P e → ⊥) es → (k : ℕ) (x : Entry) → k < length es → slice_index_or es k x ≡ x → P x → ⊥
none-at P [] each k x less e here = absurd (omega arith)
none-at P (y ∷ es) each zero x less e here = each.0 (subst P (sym e) here)
none-at P (y ∷ es) each (suc k) x less e here = none-at P es each.1 k x (omega arith) e here

none-any : (P : Entry → Type 0) (es : List Entry) → AllByRecursion (λ e. P e → ⊥) es → Any P es → ⊥
none-any P es each some = none-at P es each some.0 some.1 some.2 some.3 some.4

-- the only entry
only-at : (P : Entry → Type 0) (e : Entry) → Any P (e ∷ []) → P e
only-at P e (zero, x, less, at, here) = subst P (sym at) here
only-at P e (suc k, x, less, at, here) = absurd (omega arith)

zero-young : (base v : ℕ) → v ≡ 0 → nat_lt 0 base && nat_le base (v / 2 ^ 24) ≡ false
zero-young base v e = false_from_ne_true _ (λ is.
    let both = and_parts (nat_lt 0 base) (nat_le base (v / 2 ^ 24)) is in
    let some : 0 < base = ltb-true 0 base both.0 in
    let most : base ≤ v / 2 ^ 24 = leb-true base (v / 2 ^ 24) both.1 in
    omega arith)

pub no-code : (kind : Kind) → kind_code kind ≡ kind_code kinds.Free → kind ≡ kinds.Free
no-code kinds.Free e = refl
no-code kinds.Bump e = absurd (omega arith)
no-code kinds.Young e = absurd (omega arith)
no-code kinds.Mature e = absurd (omega arith)
no-code kinds.Immix e = absurd (omega arith)
no-code kinds.Cells e = absurd (omega arith)
no-code kinds.LargeHead e = absurd (omega arith)
no-code kinds.LargeTail e = absurd (omega arith)
no-code kinds.Kept e = absurd (omega arith)

-- an entry between others
at-middle : (P : Entry → Type 0) (prefix : List Entry) (e : Entry) (rest : List Entry) → AllByRecursion P (prefix ++ e ∷ rest) → P e
at-middle P [] e rest each = each.0
at-middle P (x ∷ prefix) e rest each = at-middle P prefix e rest each.1

in-middle : (P : Entry → Type 0) (prefix : List Entry) (e : Entry) (rest part : List Entry) → part ≡ prefix ++ e ∷ rest → AllByRecursion P part → P e
in-middle P prefix e rest part whole each = at-middle P prefix e rest (subst (AllByRecursion P) whole each)

abbrev head_or : Entry → List Entry → Entry
head_or d [] = d
head_or d (e ∷ es) = e

abbrev tail_of : List Entry → List Entry
tail_of [] = []
tail_of (e ∷ es) = es

second-of : (h : IdealHeap) (first : Entry) (m s i v : ℕ) → ((s' i' v' : ℕ) → first.command ≢ c.Put s' i' v') → (n : Name) (prefix : List Entry) (e : Entry) (rest : List Entry)
    → first ∷ entry m (c.Put s i v) r.Done ∷ [] ≡ prefix ++ e ∷ rest → (s' i' v' : ℕ) → e.command ≡ c.Put s' i' v' → (heap_after_run h prefix).registers e.mutator s' ≡ Some n
    → (heap_after_run h (first ∷ [])).registers m s ≡ Some n
second-of h first m s i v other n [] e rest whole s' i' v' put into = absurd (other s' i' v' (ap (λ es. (head_or first es).command) whole ∙ put))
second-of h first m s i v other n (x ∷ []) e rest whole s' i' v' put into =
    let same : first ≡ x = ap (head_or first) whole in
    let last : entry m (c.Put s i v) r.Done ≡ e = ap (λ es. head_or first (tail_of es)) whole in
    let command : c.Put s i v ≡ c.Put s' i' v' = ap (λ (y : Entry). y.command) last ∙ put in
    let register : s ≡ s' = cc in
    let mutator : m ≡ e.mutator = ap (λ (y : Entry). y.mutator) last in
    subst (λ (y : Entry). (heap_after_run h (y ∷ [])).registers m s ≡ Some n) (sym same) (subst (λ (q : ℕ). (heap_after_run h (x ∷ [])).registers m q ≡ Some n) (sym register) (subst (λ (q : ℕ). (heap_after_run h (x ∷ [])).registers q s' ≡ Some n) (sym mutator) into))
second-of h first m s i v other n (x ∷ y ∷ prefix) e rest whole s' i' v' put into =
    let many : 0 ≡ length (prefix ++ e ∷ rest) = ap (λ es. length (tail_of (tail_of es))) whole in
    let both : length (prefix ++ e ∷ rest) ≡ length prefix + length (e ∷ rest) = length-append prefix (e ∷ rest) in
    absurd (omega arith)

few-to : (allowed free left n : ℕ) → left ≤ free → allowed + 1 + left ≤ free + n → allowed < (free - left) + n
few-to allowed free left n fewer few = omega arith

few-from : (allowed free left n : ℕ) → left ≤ free → allowed < (free - left) + n → allowed + 1 + left ≤ free + n
few-from allowed free left n fewer few = omega arith

all-but : (allowed free left n : ℕ) → n ≡ 1 → allowed + 1 + left ≤ free + n → free ≤ left + allowed → free ≡ left + allowed
all-but allowed free left n one few most = omega arith

module _ (rules : Rules) (numbers : List ℕ) (old : HeapState) (h : IdealHeap) (part : List Entry) (new : HeapState) (ms : List MutatorState) (stopped : Stopped rules numbers old h part new ms) where
  pub stays-held : (a : ℕ) → IsHeld old a → IsHeld new a
  stays-held a holds = (stopped.stays a holds).0

  pub header : (a : ℕ) → IsHeld old a → (name_at new a ≡ name_at old a) × (size_at new a ≡ size_at old a) × (number_at new a ≡ number_at old a)
  header a holds =
      let word : (i : ℕ) → i < 3 → word_at new (a + i) ≡ word_at old (a + i) = (stopped.stays a holds).1 in
      let e0 : word_at new (a + 0) ≡ word_at old (a + 0) = word 0 (omega arith) in
      let name : word_at new a ≡ word_at old a = subst (λ (x : ℕ). word_at new x ≡ word_at old x) (let e : a + 0 ≡ a = omega arith in e) e0 in
      (ap name_of name, ap (λ v. 3 + v % 65536 + v / 65536) (word 1 (omega arith)), ap (λ v. v / 2 ^ 24) (word 2 (omega arith)))

  pub none-born : AllByRecursion (λ e. is_new e.command ≡ false) part → (a : ℕ) → IsHeld new a → IsHeld old a
  none-born each a holds = elim (stopped.births a holds) as (λ _. IsHeld old a) [
    | inl before ↦ before
    | inr birth ↦ absurd (none-any (IsBirthOf (name_at new a) (refs_at new a) (nums_at new a)) part
        (each-of (λ e. is_new e.command ≡ false) (λ e. IsBirthOf (name_at new a) (refs_at new a) (nums_at new a) e → ⊥)
        (λ e no_new is. false≢true (sym no_new ∙ ap is_new is.command)) part each) birth.entry)
  ]

  birth-of : (a : ℕ) → IsHeld new a → (IsHeld old a → ⊥) → IsBirth rules old part new a
  birth-of a holds fresh = elim (stopped.births a holds) as (λ _. IsBirth rules old part new a) [ inl before ↦ absurd (fresh before) | inr birth ↦ birth ]

  pub born-young : (a : ℕ) → IsHeld new a → (IsHeld old a → ⊥) → (is_old new a ≡ false) × (is_unlogged new a ≡ false)
  born-young a holds fresh = let birth = birth-of a holds fresh in (zero-young new.base _ birth.unclaimed, false_from_ne_true _ birth.unmarked)

  -- Free blocks
  pub keeps-headroom : rules.reserve ≡ Headroom → headroom_of old ≤ free_of old → headroom_of old ≤ free_of new
  keeps-headroom is least =
      let e : allowance_of rules.reserve old ≡ allowance_of Headroom old = ap (λ x. allowance_of x old) is in
      let all : allowance_of Headroom old ≡ free_of old - headroom_of old = omega arith in
      let taken : free_of old ≤ free_of new + allowance_of rules.reserve old = stopped.taken in
      omega arith

  pub keeps-copies : rules.reserve ≡ Copies → used_of old ≤ free_of old → used_of old + (free_of old - free_of new) ≤ free_of new
  keeps-copies is least =
      let e : allowance_of rules.reserve old ≡ allowance_of Copies old = ap (λ x. allowance_of x old) is in
      let half : allowance_of Copies old ≡ (free_of old - used_of old) / 2 = refl in
      let taken : free_of old ≤ free_of new + allowance_of rules.reserve old = stopped.taken in
      omega arith

  pub keeps-word : (k : ℕ) (kind : Kind) → HasKind old k kind → kind ≢ kinds.Free → block_word new k ≡ block_word old k
  keeps-word k kind is other = elim (stopped.in_block k (kind-within old k kind is)) as (λ _. block_word new k ≡ block_word old k) [
    | inl free ↦ absurd (other (no-code kind (one-kind old k kind kinds.Free is free.0)))
    | inr same ↦ same
  ]

  pub takes-fill : (k : ℕ) → HasKind old k kinds.Free → HasKind new k kinds.Free ⊎ HasKind new k rules.fill
  takes-fill k free = elim (stopped.in_block k (kind-within old k kinds.Free free)) as (λ _. HasKind new k kinds.Free ⊎ HasKind new k rules.fill) [
    | inl taken ↦ inr taken.1
    | inr same ↦ inl (kind-from new k kinds.Free (subst (λ (b : ℕ). k < b) (sym stopped.blocks) (kind-within old k kinds.Free free)) (ap (λ v. v % 256) same ∙ kind-code old k kinds.Free free))
  ]

  pub takes-used : (k : ℕ) → HasKind old k kinds.Free → HasKind new k rules.fill → rules.fill ≢ kinds.Free → (a : ℕ) × IsHeld new a × (block_at new.blocks a ≡ k)
  takes-used k free filled other = stopped.used k free (λ is. other (no-code rules.fill (one-kind new k rules.fill kinds.Free filled is)))

  -- stores that are logged
  not-stored : (a : ℕ) → (StoresInto h part (name_at new a) → ⊥) → is_logged_under rules new a ≡ true → is_logged_under rules old a ≡ true
  not-stored a none logged = elim (stopped.logs a logged) as (λ _. is_logged_under rules old a ≡ true) [ inl before ↦ before | inr stores ↦ absurd (none stores) ]

  pub no-put : AllByRecursion (λ e. (s i v : ℕ) → e.command ≢ c.Put s i v) part → (a : ℕ) → is_logged_under rules new a ≡ true → is_logged_under rules old a ≡ true
  no-put each a = not-stored a (λ stores. in-middle (λ e. (s i v : ℕ) → e.command ≢ c.Put s i v) stores.prefix stores.entry stores.rest part stores.whole each stores.s stores.i stores.v stores.command)

  pub no-done : AllByRecursion (λ e. e.reply ≢ r.Done) part → (a : ℕ) → is_logged_under rules new a ≡ true → is_logged_under rules old a ≡ true
  no-done each a = not-stored a (λ stores. in-middle (λ e. e.reply ≢ r.Done) stores.prefix stores.entry stores.rest part stores.whole each stores.stored)

module _ (rules : Rules) (numbers : List ℕ) (old : HeapState) (h : IdealHeap) (new : HeapState) (ms : List MutatorState) where
  pub one-born : (m d refs nums : ℕ) (n : Name) → Stopped rules numbers old h (entry m (c.New d refs nums) (r.New n) ∷ []) new ms
      → (a : ℕ) → IsHeld new a → (IsHeld old a → ⊥) → (name_at new a ≡ n) × (refs_at new a ≡ refs) × (nums_at new a ≡ nums)
  one-born m d refs nums n stopped a holds fresh =
      let only : Entry = entry m (c.New d refs nums) (r.New n) in
      let is = only-at (IsBirthOf (name_at new a) (refs_at new a) (nums_at new a)) only (birth-of rules numbers old h (only ∷ []) new ms stopped a holds fresh).entry in
      let command : c.New d refs nums ≡ c.New is.register (refs_at new a) (nums_at new a) = is.command in
      let reply : r.New n ≡ r.New (name_at new a) = is.reply in
      ((let e : n ≡ name_at new a = cc in sym e), (let e : refs ≡ refs_at new a = cc in sym e), (let e : nums ≡ nums_at new a = cc in sym e))

  pub born-held : (e : Entry) (rest : List Entry) (n : Name) → e.reply ≡ r.New n → Stopped rules numbers old h (e ∷ rest) new ms → (a : ℕ) × IsHeld new a × (name_at new a ≡ n)
  born-held e rest n reply stopped = stopped.all_held n (0, e, omega arith, refl, reply)

  -- the second of two entries stores
  pub stored-second : (first : Entry) (m s i v : ℕ) → ((s' i' v' : ℕ) → first.command ≢ c.Put s' i' v') → Stopped rules numbers old h (first ∷ entry m (c.Put s i v) r.Done ∷ []) new ms
      → (a : ℕ) → is_logged_under rules new a ≡ true → (is_logged_under rules old a ≡ true) ⊎ ((heap_after_run h (first ∷ [])).registers m s ≡ Some (name_at new a))
  stored-second first m s i v other stopped a logged = elim (stopped.logs a logged) as (λ _. (is_logged_under rules old a ≡ true) ⊎ ((heap_after_run h (first ∷ [])).registers m s ≡ Some (name_at new a))) [
    | inl before ↦ inl before
    | inr stores ↦ inr (second-of h first m s i v other (name_at new a) stores.prefix stores.entry stores.rest stores.whole stores.s stores.i stores.v stores.command stores.into)
  ]

pub stores-into : (h : IdealHeap) (prefix rest : List Entry) (m s i v : ℕ) (n : Name) → (heap_after_run h prefix).registers m s ≡ Some n → StoresInto h (prefix ++ entry m (c.Put s i v) r.Done ∷ rest) n
stores-into h prefix rest m s i v n into = record {
  prefix = prefix;
  entry = entry m (c.Put s i v) r.Done;
  rest = rest;
  s = s;
  i = i;
  v = v;
  whole = refl;
  command = refl;
  stored = refl;
  into = into;
}

-- the allowance

pub exhausts : (t : Setting) (old new : HeapState) → free_of new ≤ free_of old
    → ExhaustsAllowance t old new ↔ ((free_of new ≡ 0) ⊎ (allowance_of t.rules.reserve old < (free_of old - free_of new) + length t.traces))
exhausts t old new fewer = (
  (λ ex. elim ex as (λ _. (free_of new ≡ 0) ⊎ (allowance_of t.rules.reserve old < (free_of old - free_of new) + length t.traces)) [
    | inl none ↦ inl none
    | inr few ↦ inr (few-to (allowance_of t.rules.reserve old) (free_of old) (free_of new) (length t.traces) fewer few)
  ]),
  (λ ex. elim ex as (λ _. ExhaustsAllowance t old new) [
    | inl none ↦ inl none
    | inr few ↦ inr (few-from (allowance_of t.rules.reserve old) (free_of old) (free_of new) (length t.traces) fewer few)
  ]),
)

-- the only mutator's small need comes when all that it may take is taken
pub all-taken : (t : Setting) (before now : Moment) (ends : ℕ → Cause) (d refs nums : ℕ) → RunsPart t before ends now → length t.traces ≡ 1 → ends 1 ≡ sessions.AtNeed
    → next_in t now 1 ≡ Some (c.New d refs nums) → size_of refs nums ≤ 2048 → (free_of now.heap ≡ 0) ⊎ (free_of before.heap ≡ free_of now.heap + allowance_of t.rules.reserve before.heap)
all-taken t before now ends d refs nums part one at next small =
    elim (part.needs 1 d refs nums (omega arith, omega arith) at next small) as (λ _. (free_of now.heap ≡ 0) ⊎ (free_of before.heap ≡ free_of now.heap + allowance_of t.rules.reserve before.heap)) [
      | inl none ↦ inl none
      | inr few ↦ inr (all-but (allowance_of t.rules.reserve before.heap) (free_of before.heap) (free_of now.heap) (length t.traces) one few part.stopped.taken)
    ]

-- a part may be empty, if each small need has its allowance exhausted
pub empty-part : (t : Setting) (now : Moment) (ends : ℕ → Cause) → IsSound t now → ((m : ℕ) → IsMutator t.traces m → EndsBy t now ends m (ends m))
    → ((m d refs nums : ℕ) → IsMutator t.traces m → ends m ≡ sessions.AtNeed → Needs t now m d refs nums → 2048 < size_of refs nums) → RunsPart t now ends now
empty-part t now ends sound causes large = record {
  part = [];
  done = sym (append-nil now.done);
  runs = tt;
  each = tt;
  causes = causes;
  stopped = record {
    listed = sound.listed;
    lawful = sound.lawful;
    remembers = sound.remembers;
    represents = sound.represents;
    blocks = refl;
    number = refl;
    base = refl;
    stays = λ a holds. (holds, λ i less. refl);
    births = λ a holds. inl holds;
    all_held = λ n some. absurd (none-any (λ e. e.reply ≡ r.New n) [] tt some);
    logs = λ a logged. inl logged;
    taken = omega arith;
    in_block = λ k there. inr refl;
    used = λ k free not. absurd (not free);
  };
  counts = (refl, refl);
  needs = λ m d refs nums is at need small. (let more : 2048 < size_of refs nums = large m d refs nums is at need in absurd (omega arith));
}
