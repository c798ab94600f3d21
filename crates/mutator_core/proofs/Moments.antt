-- The invariants after a step of an epoch, with the ideal heap that the heap represents and a set of addresses.
use Rattle.std.proofs.Common.{◌≡◌, ◌≢◌, ◌∙◌, ap, subst, ℕ, List, slice_index, slice_set}
use Rattle.std.specs.List.{Contains}
use Rattle.std.proofs.lemmas.List.{set-get_or}
use Rattle.ideal_heap.specs.declared.command.Command.{Command}
use Rattle.ideal_heap.specs.declared.reply.Reply.{Reply}
use Rattle.ideal_heap.specs.declared.reply.Reply.TheVariants as r
use Rattle.ideal_heap.specs.declared.name.Name.{Name}
use Rattle.ideal_heap.specs.Ideal.{IdealHeap, step}
use Rattle.object_model.specs.Objects.{HeapState, with_words}
use Rattle.object_model.specs.Graphs.{MutatorState, numbers_of, with_mutator}
use Rattle.object_model.specs.Agreement.{RepresentsOn}
use Rattle.object_model.specs.Steps.{IsStep}
use Rattle.object_model.proofs.Frames as frames
use Rattle.mutator_core.specs.declared.state.Local.{Local}
use Rattle.mutator_core.specs.Machine.{Epoch, Machine, heap_in, mutator_of, mutators_in}
use Rattle.mutator_core.specs.Epochs.{IsInEpoch, KnowsItsState}
use Rattle.mutator_core.proofs.Lists.{with_local, among, mutators-with}
use Rattle.mutator_core.proofs.Kept.{Leaves, Untouched, KeepsFields, Grows, leaves-kept, free-kept, epoch-left, epoch-with}

pub record Holds (p : Epoch) (h : Machine) (i : IdealHeap) (set : ℕ → Type 0) : Type 1 where
  pub models : RepresentsOn (heap_in p h) (mutators_in p h) i set
  pub epoch : IsInEpoch p (heap_in p h) h.locals

-- the invariants after a step without an entry, and what the step left unchanged
pub record Moved (p : Epoch) (h after : Machine) (i : IdealHeap) (set : ℕ → Type 0) : Type 1 where
  pub moment : Holds p after i set
  pub leaves : Leaves (heap_in p h) after.words

-- the machine with this row and with this state of m
abbrev pub machine_with : Machine → List ℕ → ℕ → Local → Machine
machine_with h w m l = record { words = w; locals = with_local h.locals m l }

-- a word that is stored as it was found
pub same-words : (ws : List ℕ) (k : ℕ) → slice_set ws k (slice_index ws k) ≡ ws
same-words ws k = set-get_or ws k 0

-- the reply to a command, and the invariants after it
pub record Replies (p : Epoch) (h : Machine) (i : IdealHeap) (set : ℕ → Type 0) (m : ℕ) (command : Command) (reply : Reply) (after : Machine) : Type 1 where
  pub answers : reply ≡ (step i m command).0
  pub moment : Holds p after (step i m command).1 set
  pub leaves : Leaves (heap_in p h) after.words
  pub no_birth : (n : Name) → reply ≢ r.New n

module _ (p : Epoch) (h : Machine) (i : IdealHeap) (set : ℕ → Type 0) (now : Holds p h i set) (m : ℕ) (known : Contains (numbers_of p.mutators) m) where
  abbrev pub s : HeapState
  s = heap_in p h

  abbrev pub l : Local
  l = h.locals m

  pub number : l.number ≡ m
  number = now.epoch.numbers m

  pub one-of : Contains (mutators_in p h) (mutator_of (h.locals m))
  one-of = among h.locals (numbers_of p.mutators) m known

  -- the mutators after a step
  pub others-same : (l' : Local) → l'.number ≡ m → (w : List ℕ) (i' : IdealHeap) → RepresentsOn (with_words (heap_in p h) w) (with_mutator (mutators_in p h) (mutator_of l')) i' set
      → RepresentsOn (with_words (heap_in p h) w) (mutators_in p (machine_with h w m l')) i' set
  others-same l' own w i' model = subst (λ (ms : List MutatorState). RepresentsOn (with_words s w) ms i' set) (mutators-with h.locals m l' (numbers_of p.mutators) now.epoch.numbers own) model

  -- the step of a command other than an allocation
  pub finish : (w : List ℕ) (l' : Local) (command : Command) (reply : Reply) → IsStep (heap_in p h) (mutator_of (h.locals m)) command reply (with_words (heap_in p h) w) (mutator_of l')
      → l'.number ≡ (h.locals m).number → (KnowsItsState p (with_words (heap_in p h) w) (h.locals m) → KnowsItsState p (with_words (heap_in p h) w) l')
      → Grows (h.locals m) l' → KeepsFields p (heap_in p h) w → Untouched (heap_in p h) h.locals w → Replies p h i set m command reply (machine_with h w m l')
  finish w l' command reply is own knows grows fields untouched =
      let ms : List MutatorState = mutators_in p h in
      let model = is.models ms i set now.models one-of in
      let after : IsInEpoch p (with_words s w) h.locals = epoch-left p h w now.epoch (leaves-kept s w is.keeps) (frames.held-before s w is.keeps)
      (free-kept s w is.keeps model.order now.epoch.free) is.keeps.block_words fields untouched in
      record {
        answers = is.answers ms i set now.models one-of ∙ ap (λ k. (step i k command).0) number;
        moment = record {
          models = subst (λ (k : ℕ). RepresentsOn (with_words s w) (mutators_in p (machine_with h w m l')) (step i k command).1 set) number
              (others-same l' (own ∙ number) w (step i l.number command).1 model);
          epoch = epoch-with p (with_words s w) h.locals m l' after known (own ∙ number) (knows (after.knows m)) grows;
        };
        leaves = leaves-kept s w is.keeps;
        no_birth = is.no_birth;
      }
