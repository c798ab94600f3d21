-- The invariants that every step of a log preserves.
use Rattle.std.proofs.Common.{◌≡◌, ◌≢◌, refl, sym, ◌∙◌, ap, subst, ℕ, ◌<◌, ◌⊎◌, inl, inr, arith, Bool, true, false, [], ◌∷◌}
use Rattle.std.specs.Prelude.{Option, Some, None}
use Rattle.std.specs.List.{Contains, AllByRecursion}
use Rattle.std.proofs.lemmas.Bool.{cond-false}
use Rattle.ideal_heap.specs.declared.command.Command.{Command}
use Rattle.ideal_heap.specs.declared.command.Command.TheVariants as c
use Rattle.ideal_heap.specs.declared.reply.Reply.{Reply}
use Rattle.ideal_heap.specs.declared.reply.Reply.TheVariants as r
use Rattle.ideal_heap.specs.declared.name.Name.{Name}
use Rattle.ideal_heap.specs.Commands.{is_new}
use Rattle.sessions.specs.Sessions.{HasBirth}
use Rattle.ideal_heap.specs.Ideal.{IdealHeap, step}
use Rattle.ideal_heap.specs.Runs as runs
use Rattle.ideal_heap.specs.Runs.{entry, is_full}
use Rattle.ideal_heap.proofs.StepLemmas.{never_full}
use Rattle.object_model.specs.Graphs.{numbers_of}
use Rattle.mutator_core.specs.declared.state.Local.{Local}
use Rattle.mutator_core.specs.declared.state.Event.{Event}
use Rattle.mutator_core.specs.declared.state.Event.TheVariants as e
use Rattle.mutator_core.specs.Machine.{Epoch, Machine, heap_in, next, answer_at}
use Rattle.mutator_core.specs.Guards.{MayStep, MayPerform}
use Rattle.mutator_core.specs.Histories.{reply_in, entry_of, entries_with}
use Rattle.mutator_core.specs.Epochs.{EpochMayBegin}
use Rattle.mutator_core.proofs.Lists.{any-cases}
use Rattle.mutator_core.proofs.Kept.{Leaves, grown}
use Rattle.mutator_core.proofs.Commands as commands
use Rattle.mutator_core.proofs.Published as published
use Rattle.mutator_core.proofs.BirthWords as writing
use Rattle.mutator_core.proofs.Quiet as quiet
use Rattle.mutator_core.proofs.Taken as taken
use Rattle.mutator_core.proofs.Moments.{Holds, Moved, Replies}

-- the step publishes an object
abbrev pub is_publication : Event → Bool
is_publication (e.Perform command) = is_new command
is_publication _ = false

-- the entries of a step are a run of the ideal heap, and the invariants hold after it
pub record Goes (p : Epoch) (h : Machine) (i : IdealHeap) (m : ℕ) (x : Event) : Type 1 where
  pub set : ℕ → Type 0
  pub run : runs.IsRun i (entries_with m (entry_of x) (reply_in (heap_in p h) (answer_at p h m x)))
  pub moment : Holds p (next p h m x) (runs.heap_after_run i (entries_with m (entry_of x) (reply_in (heap_in p h) (answer_at p h m x)))) set
  pub leaves : Leaves (heap_in p h) (next p h m x).words
  pub no_birth : is_publication x ≡ false → (n : Name) → HasBirth (entries_with m (entry_of x) (reply_in (heap_in p h) (answer_at p h m x))) n → ⊥
  pub no_full : AllByRecursion (λ e. is_full e.reply ≡ false) (entries_with m (entry_of x) (reply_in (heap_in p h) (answer_at p h m x)))

-- an entry with the reply of the ideal heap's step
entered : (i : IdealHeap) (m : ℕ) (command : Command) (reply : Reply) → reply ≡ (step i m command).0 → runs.heap_after_run i (entry m command reply ∷ []) ≡ (step i m command).1
entered i m command reply answers = cond-false (is_full reply) i (step i m command).1 (ap is_full answers ∙ never_full i m command)

module _ (p : Epoch) (ready : EpochMayBegin p) (h : Machine) (i : IdealHeap) (set : ℕ → Type 0) (now : Holds p h i set) (m : ℕ) (known : Contains (numbers_of p.mutators) m) where
  abbrev l : Local
  l = h.locals m

  quietly : (x : Event) → entry_of x ≡ None → Moved p h (next p h m x) i set → Goes p h i m x
  quietly x none moved = record {
    leaves = moved.leaves;
    no_birth = λ other n. subst (λ (o : Option Command). HasBirth (entries_with m o (reply_in (heap_in p h) (answer_at p h m x))) n → ⊥) (sym none) (λ any. let within : any.0 < 0 = any.2 in omega arith);
    no_full = subst (λ (o : Option Command). AllByRecursion (λ e. is_full e.reply ≡ false) (entries_with m o (reply_in (heap_in p h) (answer_at p h m x)))) (sym none) tt;
    set = set;
    run = subst (λ (o : Option Command). runs.IsRun i (entries_with m o (reply_in (heap_in p h) (answer_at p h m x)))) (sym none) tt;
    moment = subst (λ (o : Option Command). Holds p (next p h m x) (runs.heap_after_run i (entries_with m o (reply_in (heap_in p h) (answer_at p h m x)))) set) (sym none) moved.moment;
  }

  recorded : (x : Event) (command : Command) (set' : ℕ → Type 0) → entry_of x ≡ Some command → reply_in (heap_in p h) (answer_at p h m x) ≡ (step i m command).0
      → Holds p (next p h m x) (step i m command).1 set' → Leaves (heap_in p h) (next p h m x).words
      → (is_publication x ≡ false → (n : Name) → reply_in (heap_in p h) (answer_at p h m x) ≢ r.New n) → Goes p h i m x
  recorded x command set' some answers moment leaves no_birth =
      let reply : Reply = reply_in (heap_in p h) (answer_at p h m x) in
      record {
        set = set';
        leaves = leaves;
        no_birth = λ other n. subst (λ (o : Option Command). HasBirth (entries_with m o reply) n → ⊥) (sym some) (λ any. elim (any-cases (entry m command reply) [] any) as (λ _. ⊥) [
          | inl here ↦ no_birth other n here
          | inr more ↦ (let within : more.0 < 0 = more.2 in omega arith)
        ]);
        no_full = subst (λ (o : Option Command). AllByRecursion (λ e. is_full e.reply ≡ false) (entries_with m o reply)) (sym some) (ap is_full answers ∙ never_full i m command, tt);
        run = subst (λ (o : Option Command). runs.IsRun i (entries_with m o reply)) (sym some) (inl answers, tt);
        moment = subst (λ (o : Option Command). Holds p (next p h m x) (runs.heap_after_run i (entries_with m o reply)) set') (sym some)
            (subst (λ (k : IdealHeap). Holds p (next p h m x) k set') (sym (entered i m command reply answers)) moment);
      }

  performed : (command : Command) → Replies p h i set m command (reply_in (heap_in p h) (answer_at p h m (e.Perform command))) (next p h m (e.Perform command)) → Goes p h i m (e.Perform command)
  performed command is = recorded (e.Perform command) command set refl is.answers is.moment is.leaves (λ other. is.no_birth)

  perform : (command : Command) → MayPerform p l command → Goes p h i m (e.Perform command)
  perform (c.New d refs nums) may = let is = published.publish p ready h i set now m known d refs nums may.0 may.1 may.2 in
      recorded (e.Perform (c.New d refs nums)) (c.New d refs nums) (λ x. set x ⊎ (x ≡ l.unpublished.address)) refl is.0 is.1 is.2 (λ other n. let wrong : true ≡ false = other in cc)
  perform (c.Get d q k) may = performed (c.Get d q k) (commands.get p ready h i set now m known d q k may.0 may.1)
  perform (c.Put q k v) may = performed (c.Put q k v) (commands.put p ready h i set now m known q k v may.0 may.1 may.2)
  perform (c.Read q j) may = performed (c.Read q j) (commands.read p ready h i set now m known q j may)
  perform (c.Write q j v) may = performed (c.Write q j v) (commands.write p ready h i set now m known q j v may.0 may.1)
  perform (c.Add q j v) may = performed (c.Add q j v) (commands.add p ready h i set now m known q j v may.0)
  perform (c.Swap q j was v) may = performed (c.Swap q j was v) (commands.swap p ready h i set now m known q j was v may.0 may.1)
  perform (c.Move d q) may = performed (c.Move d q) (commands.move p ready h i set now m known d q may.0 may.1)
  perform (c.DropReg q) may = performed (c.DropReg q) (commands.drop p ready h i set now m known q may)
  perform (c.Load d g) may = performed (c.Load d g) (commands.load p ready h i set now m known d g may.0 may.1)
  perform (c.Share g q) may = performed (c.Share g q) (commands.share p ready h i set now m known g q may.0 may.1)
  perform (c.Pin q) may = performed (c.Pin q) (commands.pin p ready h i set now m known q may.0 may.1)
  perform (c.Unpin q) may = performed (c.Unpin q) (commands.unpin p ready h i set now m known q may.0 may.1)
  perform c.Gc may = absurd may
  perform c.Meet may = absurd may

  pub goes : (x : Event) → MayStep p l x → Goes p h i m x
  goes (e.Perform command) may = perform command may
  goes (e.Miss command) may = let is = commands.miss p ready h i set now m known command may in recorded (e.Miss command) command set refl is.answers is.moment is.leaves (λ other. is.no_birth)
  goes e.Poll may = quietly e.Poll refl (quiet.loads p ready h i set now m known _ _ refl (λ x. x) (grown l))
  goes (e.LoadName q) may = quietly (e.LoadName q) refl (quiet.loads p ready h i set now m known _ _ refl (λ x. x) (grown l))
  goes (e.LoadShape q) may = quietly (e.LoadShape q) refl (quiet.load-shape p ready h i set now m known q may)
  goes (e.LoadCollector q) may = quietly (e.LoadCollector q) refl (quiet.load-collector p ready h i set now m known q may)
  goes (e.LoadShapeAt a) may = quietly (e.LoadShapeAt a) refl (quiet.loads p ready h i set now m known _ _ refl (λ x. x) (grown l))
  goes (e.LoadBlock k) may = quietly (e.LoadBlock k) refl (quiet.loads p ready h i set now m known _ _ refl (λ x. x) (grown l))
  goes (e.LoadSide k) may = quietly (e.LoadSide k) refl (quiet.loads p ready h i set now m known _ _ refl (λ x. x) (grown l))
  goes (e.LoadUnlog q) may = quietly (e.LoadUnlog q) refl (quiet.load-unlog p ready h i set now m known q may)
  goes e.Raise may = quietly e.Raise refl (quiet.raise p ready h i set now m known)
  goes (e.ClearUnlog q) may = quietly (e.ClearUnlog q) refl (quiet.clear-unlog p ready h i set now m known q may.0)
  goes (e.Initialize a refs nums offset) may = quietly (e.Initialize a refs nums offset) refl (writing.initialize p ready h i set now m known a refs nums offset may)
  goes e.DrawTicket may = quietly e.DrawTicket refl (quiet.draw p ready h i set now m known)
  goes (e.TakeBlock k class free) may = quietly (e.TakeBlock k class free) refl (taken.take p ready h i set now m known k class may.0 may.1 free)
