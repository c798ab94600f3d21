-- A manager that begins closes a session of no epochs.
use Rattle.std.proofs.Common.{◌≡◌, refl, sym, ◌∙◌, ap, subst, ℕ, zero, suc, ◌≤◌, arith, List, [], ◌∷◌, length, map, take}
use Rattle.std.specs.Prelude.{slice_get, Some, None, Option, All}
use Rattle.std.specs.List.{range_with_len}
use Rattle.std.proofs.lemmas.List.{length-map}
use Rattle.std.proofs.lemmas.Option.{get_or_from_slice_get}
use Rattle.ideal_heap.specs.declared.command.Command.{Command}
use Rattle.object_model.specs.Graphs.{MutatorState, new_mutator}
use Rattle.sessions.specs.Plans.{Rules}
use Rattle.sessions.specs.Sessions as sessions
use Rattle.sessions.specs.Sessions.{Setting, first_moment}
use Rattle.heap_users.specs.Users.{mutator_state}
use Rattle.block_regions.proofs.Lists.{get-below, get-map}
use Rattle.managed_heap.specs.Stopped as stopped
use Rattle.mm_runtime.specs.declared.progress.Progress.{Progress}
use Rattle.mm_runtime.specs.declared.manager.Manager.{Manager}
use Rattle.mm_runtime.specs.Managers.{traces_of, IsRunnableTrace, IsFresh, IsInOrder, Closes, ClosesSome}

-- a mutator that begins has no births
none-born : (numbers : List ℕ) (k : ℕ) (s : MutatorState) → slice_get (map new_mutator numbers) k ≡ Some s → s.births ≡ 0
none-born [] k s is = let wrong : None ≡ Some s = is in cc
none-born (n ∷ ns) zero s is = ap (λ (o : Option MutatorState). births-in o) (sym is)
  where
    births-in : Option MutatorState → ℕ
    births-in None = 0
    births-in (Some x) = x.births
none-born (n ∷ ns) (suc k) s is = none-born ns k s is

module _ {P : Type 0} (rules : Rules) (m : Manager P) (blocks count workers : ℕ) (traces : List (List Command)) (stands : (t : Setting) → t.rules ≡ rules → t.workers ≡ workers → t.blocks ≡ blocks
    → length t.traces ≡ count → stopped.HeapStandsAt rules m.heap t (first_moment t)) (order : stopped.IsHeapInOrder rules m.heap) (as_many : length m.heap.mutators.items ≡ count)
    (counted : count ≡ length traces) (same : traces_of m.progress.items ≡ traces)
    (fresh : (k : ℕ) (p : Progress) → slice_get m.progress.items k ≡ Some p → IsFresh p.trace p)
    (some : 1 ≤ length traces) (few : length traces ≤ 16) (runnable : All IsRunnableTrace traces) where
  abbrev own : Setting
  own = record { rules = rules; blocks = blocks; workers = workers; traces = traces }

  first : stopped.HeapStandsAt rules m.heap own (first_moment own)
  first = stands own refl refl refl (sym counted)

  many : length m.progress.items ≡ length traces
  many = sym (length-map m.progress.items (λ p. p.trace)) ∙ ap length same

  no-replies : (k : ℕ) (p : Progress) → slice_get m.progress.items k ≡ Some p → length p.replies.items ≡ 0
  no-replies k p is = ap length (fresh k p is).replies

  runs : (k : ℕ) (p : Progress) → slice_get m.progress.items k ≡ Some p → IsRunnableTrace p.trace
  runs k p is =
      let at : slice_get traces k ≡ Some p.trace = ap (λ ts. slice_get ts k) (sym same) ∙ get-map (λ (x : Progress). x.trace) m.progress.items k p is in
      subst IsRunnableTrace (get_or_from_slice_get traces k p.trace [] at) (runnable k [] (get-below traces k p.trace at))

  pub in-order : IsInOrder rules 0 m
  in-order = record {
    heap = order;
    some = (let e = many in omega arith);
    few = (let e = many in omega arith);
    count = (let e = many in omega arith);
    each = λ k p is. let one = runs k p is in let none = no-replies k p is in record {
      valid = one.valid;
      few = one.few;
      within = omega arith;
      room = (fresh k p is).room;
    };
    births = λ k u p at is.
        let none : u.births ≡ 0 = none-born (range_with_len 1 (length traces)) k (mutator_state u)
        (ap (λ ms. slice_get ms k) (sym first.mutators) ∙ get-map mutator_state m.heap.mutators.items k u at) in
        omega arith;
    collections = (let nursery : m.heap.nursery ≡ 0 = first.nursery in let full : m.heap.full ≡ 0 = first.full in omega arith);
  }

  pub closes : (t : Setting) → t.rules ≡ rules → t.blocks ≡ blocks → t.workers ≡ workers → t.traces ≡ traces → Closes rules m t (first_moment t)
  closes t rules_are blocks_are one traces_are = record {
    session = sessions.begun;
    stands = record {
      heap = stands t rules_are one blocks_are (ap length traces_are ∙ sym counted);
      traces = traces_are ∙ sym same;
      replies = record {
        mutators = tt;
        commands = λ k p is. ap (λ n. take n p.trace) (sym (no-replies k p is));
        replies = λ k p is. sym (fresh k p is).replies;
      };
    };
  }

  pub ready : ClosesSome rules m
  ready = record { order = in-order; setting = own; now = first_moment own; closes = closes own refl refl refl refl }
