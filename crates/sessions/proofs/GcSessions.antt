-- A session of one mutator whose trace is `gc`, under each plan that reclaims.
use Rattle.std.proofs.Common.{◌≡◌, refl, subst, ℕ, ◌+◌, ◌≤◌, arith, true, List, [], ◌∷◌, lit<}
use Rattle.std.specs.Prelude.{IfSome, take, length, slice_index, replicate}
use Rattle.heap_layout.specs.declared.block.Kind.TheVariants as kinds
use Rattle.ideal_heap.specs.declared.command.Command.{Command}
use Rattle.ideal_heap.specs.declared.command.Command.TheVariants as c
use Rattle.ideal_heap.specs.declared.reply.Reply.TheVariants as r
use Rattle.ideal_heap.specs.declared.name.Name.{Name}
use Rattle.ideal_heap.specs.Ideal.{empty}
use Rattle.ideal_heap.specs.Reach as reach
use Rattle.ideal_heap.specs.Reach.{PathReaches}
use Rattle.ideal_heap.specs.Runs.{Entry, entry, IsMutator, IsOrderPrefix, commands_of, of_mutator, trace_of, next_of, last_level, level_after}
use Rattle.object_model.specs.declared.collect.Collect.TheVariants.{Full}
use Rattle.object_model.specs.Objects.{HeapState, empty_heap, HasKind, IsHeld}
use Rattle.object_model.specs.Ages.{RemembersYoung}
use Rattle.object_model.specs.Lawful.{IsLawful}
use Rattle.object_model.specs.Graphs as graphs
use Rattle.object_model.specs.Graphs.{Represents, IsReachable, MutatorState, roots_of, new_mutator}
use Rattle.object_model.proofs.OneKind.{kind-within, one-kind}
use Rattle.object_model.proofs.Zeros as zeros
use Rattle.sessions.specs.Plans.{Plan, rules_of}
use Rattle.sessions.specs.Sessions as sessions
use Rattle.sessions.specs.Sessions.{Setting, Moment, Cause, EndsBy, IsSound, MakesCollection, RunsPart, IsEpoch, IsWhole}
use Rattle.sessions.specs.WorkedSessions.{worked_setting, worked_moment}
use Rattle.sessions.proofs.EmptyHeapFits.{is-free}
use Rattle.sessions.proofs.CountedCollections.{collected-empty}
use Rattle.sessions.proofs.Soundness.{session-sound, gcs-run}
use Rattle.sessions.proofs.EpochParts.{empty-part}

abbrev heap : HeapState
heap = record (empty_heap 4) { number = 1; base = 1 }

none-held : (a : ℕ) → IsHeld heap a → ⊥
none-held a holds = zeros.none_held 4 a (record { address = holds.address; start = holds.start })

lawful : IsLawful heap
lawful =
    let before : IsLawful (empty_heap 4) = zeros.lawful 4 (lit< tt) (lit< tt) in
    record {
      but_lines = record {
        order = record {
          row = record {
            least = before.but_lines.order.row.least;
            most = before.but_lines.order.row.most;
            extent = before.but_lines.order.row.extent;
            words = before.but_lines.order.row.words;
            base = omega arith;
          };
          objects = record {
            headers = λ a holds. absurd (none-held a holds);
            marks = λ a marked. absurd (zeros.none_held 4 a (before.but_lines.order.objects.marks a marked));
            lies = λ a holds. absurd (none-held a holds);
            apart = λ a x i holds. absurd (none-held a holds);
            heads = λ k head. absurd (zeros.none_held 4 _ (before.but_lines.order.objects.heads k head).0);
            tails = before.but_lines.order.objects.tails;
            references = λ a i holds. absurd (none-held a holds);
            globals = λ g few some. absurd (zeros.none_held 4 _ (before.but_lines.order.objects.globals g few some));
            names = λ a x holds. absurd (none-held a holds);
          };
        };
        blocks = λ k there. record { code = (before.but_lines.blocks k there).code; owner = (before.but_lines.blocks k there).owner };
        free = λ k free. record {
          empty = λ a i holds. absurd (none-held a holds);
          lines = (before.but_lines.free k free).lines;
          marks = (before.but_lines.free k free).marks;
        };
      };
      lines = λ k. record {
        marked = λ line immix less marked. absurd (no-immix k immix);
        touched = λ line immix less touched. absurd (no-immix k immix);
      };
    }
  where
    no-immix : (k : ℕ) → HasKind heap k kinds.Immix → ⊥
    no-immix k immix = (let e = one-kind (empty_heap 4) k kinds.Immix kinds.Free immix (is-free 4 k (kind-within (empty_heap 4) k kinds.Immix immix)) in omega arith)

abbrev mutators : List MutatorState
mutators = new_mutator 1 ∷ []

none-arrives : (a : ℕ) → IsReachable heap (roots_of mutators) a → ⊥
none-arrives a (graphs.from_root i e some) = (let nil : slice_index (replicate 16 0) i ≡ 0 = zeros.zero_of 16 i in omega arith)
none-arrives a (graphs.from_global g few e some) = (let nil = zeros.zero_word 4 (2 + g) in omega arith)
none-arrives a (graphs.from_field x i before within e some) = none-arrives x before

nothing-reached : (n : Name) → PathReaches empty n → ⊥
nothing-reached n (reach.from_register m d e) = cc
nothing-reached n (reach.from_global g e) = cc
nothing-reached n (reach.from_field k i before e) = nothing-reached k before

abbrev traces : List (List Command)
traces = (c.Gc ∷ []) ∷ []

-- what holds of mutator 1 holds of each
only : (P : ℕ → Type 0) → P 1 → (m : ℕ) → IsMutator traces m → P m
only P one m is = subst P (let least : 1 ≤ m = is.0 in let most : m ≤ 1 = is.1 in let e : 1 ≡ m = omega arith in e) one

abbrev replied : List Entry
replied = entry 1 c.Gc r.Done ∷ []

module _ (p : Plan) (collects : (rules_of p).collects ≡ true) where
  abbrev t : Setting
  t = worked_setting (rules_of p) traces

  abbrev first : Moment
  first = worked_moment (rules_of p) traces

  begins : IsSound t first
  begins = session-sound t first (lit< tt) (lit< tt) (omega arith) sessions.begun

  represents : Represents heap mutators empty
  represents =
      let before : Represents (empty_heap 4) mutators empty = begins.represents in
      record {
        mutators = before.mutators;
        pointers = record { registers = before.pointers.registers; globals = before.pointers.globals; confined = before.pointers.confined };
        births = record { births = before.births.births; held = λ a holds. absurd (none-held a holds); pinned = before.births.pinned };
        there = λ a arrives. absurd (none-arrives a arrives);
        all = λ n reaches. absurd (nothing-reached n reaches);
        pins = λ a arrives. absurd (none-arrives a arrives);
      }

  abbrev ends : ℕ → Cause
  ends m = sessions.AtGc

  part : RunsPart t first ends first
  part = empty-part t first ends begins (λ m is. only (λ k. EndsBy t first ends k sessions.AtGc) refl m is) (λ m d refs nums is at. let wrong : sessions.AtGc ≡ sessions.AtNeed = at in cc)

  abbrev collected : Moment
  collected = record { heap = heap; mutators = mutators; done = []; nursery = 0; full = 1 }

  none-remembered : RemembersYoung heap
  none-remembered = record {
    fields = λ a i holds. absurd (none-held a holds);
    marked = λ a holds. absurd (none-held a holds);
  }

  makes : MakesCollection t Full first collected
  makes = record {
    collection = collected-empty 4 16 p 1 collects;
    mutators = refl;
    done = refl;
    counts = refl;
    sound = record { lawful = lawful; remembers = λ young. none-remembered; represents = represents; listed = refl };
  }

  abbrev pub last : Moment
  last = record collected { done = replied }

  order : IsOrderPrefix traces replied
  order = record {
    mutators = ((omega arith, omega arith), tt);
    commands = λ m is. only (λ k. commands_of k replied ≡ take (length (of_mutator k replied)) (trace_of traces k)) refl m is;
    rises = (omega arith, tt);
    waits = λ m is. only (λ k. IfSome (next_of traces replied k) (λ command. last_level 0 [] replied ≤ level_after replied k command)) tt m is;
  }

  epoch : IsEpoch t first last
  epoch = record {
    ends = ends;
    stop = first;
    part = part;
    collected = last;
    gc = (collected, makes, record { rest = refl; runs = gcs-run empty (1 ∷ []) });
    served = last;
    needs = refl;
    meet = record { rest = refl; runs = tt };
    prefix = order;
  }

  pub whole : IsWhole t last
  whole = record {
    session = sessions.longer first sessions.begun epoch;
    order = record {
      mutators = order.mutators;
      commands = λ m is. only (λ k. commands_of k replied ≡ trace_of traces k) refl m is;
      rises = order.rises;
    };
  }
