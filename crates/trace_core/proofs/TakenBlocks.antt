-- Blocks that workers took, and objects that may be copied into them.
use Rattle.std.proofs.Common.{◌≡◌, ◌≢◌, ℕ, ◌+◌, ◌%◌, ◌<◌, ◌≤◌, inl, inr, true≢false, ◌&&◌, not, IsTrue, nat_eq, nat_lt, nat_le, List, ◌∷◌, refl, sym, ap, ◌∙◌, subst, arith, Option, Some, None}
use Rattle.std.proofs.lemmas.Bool.{cases_eq, and_parts, eqb-true, eq-eqb, ne_eqb, ltb-true, lt-ltb, leb-true}
use Rattle.heap_layout.specs.Zones.{block_start, block_at}
use Rattle.heap_layout.specs.declared.block.Kind.{Kind}
use Rattle.heap_layout.specs.declared.block.Kind.TheVariants as kinds
use Rattle.heap_layout.specs.Blocks.{kind_code, kind_of_code}
use Rattle.heap_layout.proofs.BlockLemmas.{kind_of_code-kind_code, kind_code_most}
use Rattle.object_model.specs.Objects.{HasKind, block_word, is_pinned}
use Rattle.object_model.specs.Times.{one_if, times}
use Rattle.trace_core.specs.Setups.{Setup, TraceMayBegin, blocks, size, may_be_moved}
use Rattle.trace_core.specs.Machine.{Machine, Event, TakeBlock, next, put, taken_word}
use Rattle.trace_core.specs.Traces.{IsTracing, machine_after, heap_after}
use Rattle.trace_core.specs.Views.{View, Holds, taken_view}
use Rattle.trace_core.proofs.Puts.{put_here, put_else}
use Rattle.trace_core.proofs.Law.{sound}
use Rattle.trace_core.proofs.Clauses.{untaken-word, taken-block-word, has-room}
use Rattle.trace_core.proofs.CountedRights.{times-cons}
use Rattle.trace_core.proofs.Idle.{one-if-true}

module _ (p : Setup) (es : List Event) (trace : IsTracing p es) where
  abbrev m : Machine
  m = machine_after p es

  kind-zero : p.copy ≢ kinds.Free → kind_code p.copy ≢ 0
  kind-zero copies zero = copies (same-kind (sym (kind_of_code-kind_code p.copy) ∙ ap kind_of_code zero))
    where
      same-kind : Some p.copy ≡ Some kinds.Free → p.copy ≡ kinds.Free
      same-kind e = ap (λ (o : Option Kind). (elim o as (λ _. Kind) [ None ↦ kinds.Free | Some k ↦ k ])) e

  -- a block that is Free was Free, and no worker took it
  pub free-was : (b : ℕ) → HasKind (heap_after p es) b kinds.Free → HasKind p.before b kinds.Free × (m.taken b ≡ 0)
  free-was b free =
      let both = and_parts (nat_lt b (blocks p)) (nat_eq (block_word (heap_after p es) b % 256) 0) free in
      let there : b < blocks p = ltb-true b (blocks p) both.0 in
      let code : block_word (heap_after p es) b % 256 ≡ 0 = eqb-true (block_word (heap_after p es) b % 256) 0 both.1 in
      elim (cases_eq (m.taken b) 0) as (λ _. HasKind p.before b kinds.Free × (m.taken b ≡ 0)) [
        | inl none ↦ (subst (λ w. IsTrue (nat_lt b (blocks p) && nat_eq (w % 256) 0)) (untaken-word p es trace b there none) free, none)
        | inr some ↦ (let taken : m.taken b ≢ 0 = some in
            let word : block_word (heap_after p es) b ≡ taken_word p (m.taken b) = taken-block-word p es trace b there (omega arith) in
            let most : kind_code p.copy ≤ 8 = kind_code_most p.copy in
            absurd (kind-zero ((sound p es trace).sides.blocks.copies b (omega arith)) (omega arith)))
      ]

  -- a block that was Free and that no worker took is Free
  pub free-still : (b : ℕ) → HasKind p.before b kinds.Free → m.taken b ≡ 0 → HasKind (heap_after p es) b kinds.Free
  free-still b free none =
      let both = and_parts (nat_lt b (blocks p)) (nat_eq (block_word p.before b % 256) 0) free in
      subst (λ w. IsTrue (nat_lt b (blocks p) && nat_eq (w % 256) 0)) (sym (untaken-word p es trace b (ltb-true b (blocks p) both.0) none)) free

  -- words of a block that no worker took are words of no target
  pub unowned-block : (b o : ℕ) → m.taken b ≡ 0 → o < 4096 → m.owner (block_start (blocks p) b + o) ≡ None
  unowned-block b o none l = by-owner (m.owner (block_start (blocks p) b + o)) refl
    where
      by-owner : (w : Option ℕ) → m.owner (block_start (blocks p) b + o) ≡ w → w ≡ None
      by-owner None is = refl
      by-owner (Some x) is =
          let d = (sound p es trace).objects.owned (block_start (blocks p) b + o) x is in
          let room = has-room p es trace x d.at d.same d.moved in
          let from : d.at ≤ block_start (blocks p) b + o = d.from in
          let below : block_start (blocks p) b + o < d.at + _ = d.below in
          let base = room.address.from in
          let within = room.within in
          let same : block_at (blocks p) d.at ≡ b = omega (arith, from, below, base, within, l) in
          let taken : 0 < m.taken b = subst (λ c. 0 < m.taken c) same room.block in absurd (omega arith)

-- the rights after worker w takes a block
module _ (p : Setup) (m : Machine) (v : View) (holds : Holds p m v) (b w : ℕ) (untaken : m.taken b ≡ 0) (some : 0 < w) where
  counted : (c : ℕ) → times c (b ∷ v.blocks) ≡ one_if (nat_lt 0 (put m.taken b w c))
  counted c =
      let count : times c (b ∷ v.blocks) ≡ one_if (nat_eq c b) + times c v.blocks = times-cons b v.blocks c in
      let before : times c v.blocks ≡ one_if (nat_lt 0 (m.taken c)) = holds.blocks c in
      elim (cases_eq c b) as (λ _. times c (b ∷ v.blocks) ≡ one_if (nat_lt 0 (put m.taken b w c))) [
        | inl e ↦ (let one : one_if (nat_eq c b) ≡ 1 = one-if-true (nat_eq c b) (eq-eqb c b e) in
            let none : one_if (nat_lt 0 (m.taken c)) ≡ 0 = ap (λ n. one_if (nat_lt 0 n)) (ap m.taken e ∙ untaken) in
            let now : one_if (nat_lt 0 (put m.taken b w c)) ≡ 1 = one-if-true _ (lt-ltb 0 (put m.taken b w c) (subst (λ n. 0 < n) (sym (ap (put m.taken b w) e ∙ put_here m.taken b w)) some)) in omega arith)
        | inr ne ↦ (let zero : one_if (nat_eq c b) ≡ 0 = ap one_if (ne_eqb c b ne) in
            let same : one_if (nat_lt 0 (put m.taken b w c)) ≡ one_if (nat_lt 0 (m.taken c)) = ap (λ n. one_if (nat_lt 0 n)) (put_else m.taken b w c ne) in omega arith)
      ]

  pub holds-taken : Holds p (next p m (TakeBlock b w)) (taken_view b v)
  holds-taken = record {
    won = holds.won;
    grey = holds.grey;
    copied = holds.copied;
    unset = holds.unset;
    set = holds.set;
    asked = holds.asked;
    known = holds.known;
    blocks = counted;
  }

-- where an object may move, objects are copied somewhere, and it is not large
module _ (p : Setup) (ready : TraceMayBegin p) (x : ℕ) (moves : IsTrue (may_be_moved p x)) where
  pub copies-somewhere : p.copy ≢ kinds.Free
  copies-somewhere none = true≢false (sym (and_parts (p.from (block_at (blocks p) x)) (not (is_pinned p.before x))
      (and_parts (p.from (block_at (blocks p) x) && not (is_pinned p.before x)) (nat_le (size p x) 2048) moves).0).0 ∙ ready.fixed none (block_at (blocks p) x))

  pub moves-small : size p x ≤ 2048
  moves-small = leb-true (size p x) 2048 (and_parts (p.from (block_at (blocks p) x) && not (is_pinned p.before x)) (nat_le (size p x) 2048) moves).1
