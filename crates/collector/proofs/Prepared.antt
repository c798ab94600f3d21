-- What a tracer gets as the description of a collection.
use Rattle.std.proofs.Common.{◌≡◌, refl, sym, ◌∙◌, ap, ap₂, subst, ℕ, ◌+◌, ◌<◌, ◌^◌, Bool, true, false, IsTrue, [], map, length, Some, true≢false, arith}
use Rattle.std.specs.Prelude.{nat_eq, bit_and, slice_get, ◌||◌, if◌then◌else◌}
use Rattle.std.specs.List.{range_with_len}
use Rattle.std.proofs.lemmas.Option.{slice_get_within, get_or_from_slice_get}
use Rattle.std.proofs.lemmas.List.FromFn.{length-map-range_with_len, get_or-map-range_with_len}
use Rattle.heap_layout.specs.declared.block.Kind.TheVariants as kinds
use Rattle.object_model.specs.declared.collect.Collect.{Collect}
use Rattle.object_model.specs.declared.collect.Collect.TheVariants.{Nursery, Full}
use Rattle.object_model.specs.Objects.{HeapState, has_kind}
use Rattle.sessions.specs.Plans.{Rules, Plan, rules_of, NoGc, MarkSweep, SemiSpace, GenCopy, Immix, StickyImmix}
use Rattle.sessions.specs.Collecting.{is_evacuated}
use Rattle.plan_api.specs.Flags.{flags_of}
use Rattle.trace_core.specs.Setups.{is_copy_kind}
use Rattle.trace_core.specs.Runs.{MayRun, is_nursery}
use Rattle.trace_core.specs.declared.run.TraceRun.{TraceRun}
use Rattle.block_release.specs.Knowing.{IsRunUnder}
use Rattle.collector.specs.Collected.{IsOffered}
use Rattle.object_model.specs.Ages.{ListsLogged}

-- plans fill blocks of these kinds with copies, and evacuate none if they fill none
copies : (q : Plan) → IsTrue (is_copy_kind (rules_of q).copy)
copies NoGc = refl
copies MarkSweep = refl
copies SemiSpace = refl
copies GenCopy = refl
copies Immix = refl
copies StickyImmix = refl

none-leaves : (q : Plan) (c : Collect) (s : HeapState) (k : ℕ) → (rules_of q).copy ≡ kinds.Free → is_evacuated (rules_of q) c s k ≡ false
none-leaves NoGc c s k free = refl
none-leaves MarkSweep c s k free = refl
none-leaves SemiSpace c s k free = (let wrong : kinds.Bump ≡ kinds.Free = free in cc)
none-leaves GenCopy c s k free = (let wrong : kinds.Mature ≡ kinds.Free = free in cc)
none-leaves Immix c s k free = (let wrong : kinds.Immix ≡ kinds.Free = free in cc)
none-leaves StickyImmix c s k free = (let wrong : kinds.Immix ≡ kinds.Free = free in cc)

flag-set : (f : ℕ → Bool) (n k : ℕ) → slice_get (map f (range_with_len 0 n)) k ≡ Some true → f k ≡ true
flag-set f n k is =
    let within : k < n = subst (λ m. k < m) (length-map-range_with_len f 0 n) (slice_get_within _ k true is) in
    sym (get_or-map-range_with_len f 0 n k k false within (omega arith)) ∙ get_or_from_slice_get _ k true false is

nursery-is : (c : Collect) → IsTrue (is_nursery c) → c ≡ Nursery
nursery-is Nursery is = refl
nursery-is Full is = absurd (true≢false (sym is))

-- by the rules of a plan that are given as its own
module _ (q : Plan) (r : Rules) (of : r ≡ rules_of q) (c : Collect) (s : HeapState) (offered : IsOffered r c s) (run : TraceRun) (is : run.collect ≡ c)
    (from : run.from.items ≡ map (is_evacuated r c s) (range_with_len 0 s.blocks)) (copy : run.copy_kind ≡ r.copy) where
  nursery : IsTrue (is_nursery run.collect) → c ≡ Nursery
  nursery young = nursery-is c (ap is_nursery (sym is) ∙ young)

  leaves : (b : ℕ) → slice_get run.from.items b ≡ Some true → is_evacuated r c s b ≡ true
  leaves b some = flag-set (is_evacuated r c s) s.blocks b (subst (λ l. slice_get l b ≡ Some true) from some)

  own-copy : run.copy_kind ≡ (rules_of q).copy
  own-copy = copy ∙ ap (λ (r : Rules). r.copy) of

  pub may-trace : run.number ≡ s.number + 1 → run.number < 2 ^ 40 → run.base ≡ (if is_nursery c then s.base else s.number + 1)
      → (IsTrue (is_nursery c) → ListsLogged s run.logged.items) → (is_nursery c ≡ false → run.logged.items ≡ [])
      → ((k : ℕ) → IsTrue (is_evacuated r c s k) → IsTrue (has_kind s k kinds.LargeHead || has_kind s k kinds.LargeTail) → ⊥) → MayRun s run
  may-trace number limit base lists none stay = record {
    number = number;
    limit = limit;
    base = base ∙ ap₂ (λ k n. if is_nursery k then s.base else n) (sym is) (sym number);
    full = λ young. offered.base (nursery young);
    remembers = λ young. offered.remembers (nursery young);
    nursery = λ young. lists (ap is_nursery (sym is) ∙ young);
    none = λ full. none (ap is_nursery (sym is) ∙ full);
    kind = subst (λ k. IsTrue (is_copy_kind k)) (sym own-copy) (copies q);
    from = ap length from ∙ length-map-range_with_len (is_evacuated r c s) 0 s.blocks;
    small = λ b some. stay b (leaves b some);
    fixed = λ free b some. true≢false (sym (leaves b some) ∙ ap (λ (r : Rules). is_evacuated r c s b) of ∙ none-leaves q c s b (sym own-copy ∙ free));
  }

  pub traces-under : run.lines ≡ r.lines → IsRunUnder r c s run
  traces-under lines = record { collect = is; young = offered.young; from = from; copy = copy; lines = lines }

-- the flag of lines is that of the rules
lines-flag : (q : Plan) → nat_eq (bit_and (flags_of (rules_of q)) 4) 4 ≡ (rules_of q).lines
lines-flag NoGc = refl
lines-flag MarkSweep = refl
lines-flag SemiSpace = refl
lines-flag GenCopy = refl
lines-flag Immix = refl
lines-flag StickyImmix = refl

pub lines-shown : (q : Plan) (r : Rules) → r ≡ rules_of q → (flags : ℕ) → flags ≡ flags_of r → nat_eq (bit_and flags 4) 4 ≡ r.lines
lines-shown q r of flags are = ap (λ f. nat_eq (bit_and f 4) 4) (are ∙ ap flags_of of) ∙ lines-flag q ∙ sym (ap (λ (r : Rules). r.lines) of)
