-- The stop word, and a raised stop.
use Rattle.std.proofs.Common.{◌≡◌, ◌≢◌, refl, sym, ◌∙◌, ap, subst, ℕ, ◌+◌, ◌<◌, ◌≤◌, inl, inr, arith, true, length, add-zero, nat_eq, eq-eqb, [], List}
use Rattle.std.specs.Prelude.{slice_index, slice_get}
use Rattle.std.proofs.lemmas.Bool.{cond-true, cond-false, ne_eqb}
use Rattle.std.proofs.lemmas.List.{get_or-set_same, get_or-set_other}
use Rattle.ideal_heap.specs.Ideal.{IdealHeap}
use Rattle.object_model.specs.Objects.{HeapState, state_of, word_at}
use Rattle.mutator_core.specs.declared.state.LogEntry.{LogEntry}
use Rattle.mutator_core.specs.declared.state.Event.TheVariants as e
use Rattle.mutator_core.specs.Machine.{Epoch}
use Rattle.mutator_core.specs.Logs.{machine_after, heap_after, local_after_log}
use Rattle.mutator_core.proofs.EpochEnds.{log-seen}
use Rattle.mutator_calls.specs.Effects.{raises}
use Rattle.plain_row.specs.declared.plain_row.PlainRow.{PlainRow}
use Rattle.plain_row.specs.Rows.{number_at_turn}
use Rattle.local_allocators.specs.Seats.{ticket_of}
use Rattle.plain_row.specs.Changes.{StoresWord}
use Rattle.plain_row.specs.Worlds.{IsAt, IsInSomeEpoch, MayCall, Goes, stop_after}
use Rattle.plain_row.proofs.EntriesMade as entering
use Rattle.plain_row.proofs.EntriesMade.{SteppedWith}
use Rattle.plain_row.proofs.Turns as turns

-- the row has a stop word and a budget word
pub few-words : (w : PlainRow) → IsInSomeEpoch w → 1 < length w.row.words
few-words w now = let many = turns.extent now.epoch now.ideal now.log w now.at in omega arith

-- the stop word is 0 or a mutator's number
pub stop-small : (w : PlainRow) → IsInSomeEpoch w → word_at (state_of w.row) 0 ≤ 16
stop-small w now =
    subst (λ (t : HeapState). word_at t 0 ≤ 16) (sym now.at.heap)
    (elim (log-seen now.epoch now.ideal now.log now.at.epoch).stop as (λ _. word_at (heap_after now.epoch now.log) 0 ≤ 16) [
      | inl none ↦ omega arith
      | inr some ↦ (turns.number-range now.epoch.mutators (word_at (heap_after now.epoch now.log) 0) now.at.epoch.represents.mutators some.0).1
    ])

module _ (a b : PlainRow) (n : ℕ) (stores : StoresWord a b 0 n) (ready : MayCall a) (own : n ≡ number_at_turn a) (none : word_at (state_of a.row) 0 ≡ 0) where
  budget-stays : word_at (state_of b.row) 1 ≡ word_at (state_of a.row) 1 + 0
  budget-stays = ap (λ t. word_at t 1) stores.words ∙ get_or-set_other (state_of a.row).words 0 1 n 0 (λ e. omega arith) ∙ sym (add-zero (word_at (state_of a.row) 1))

  stop-raised : word_at (state_of b.row) 0 ≡ stop_after true (number_at_turn a) (word_at (state_of a.row) 0)
  stop-raised = ap (λ t. word_at t 0) stores.words
      ∙ get_or-set_same (state_of a.row).words 0 n 0 (let many : 1 < length a.row.words = few-words a ready.between_calls.some in omega arith)
      ∙ own ∙ sym (cond-true (nat_eq (word_at (state_of a.row) 0) 0) (number_at_turn a) (word_at (state_of a.row) 0) (eq-eqb (word_at (state_of a.row) 0) 0 none))

  reach : (p : Epoch) (i : IdealHeap) (log : List LogEntry) → IsAt p i log a → SteppedWith p i log (number_at_turn a) [] 0 true a b
  reach p i log at = entering.stepped-with p i log a b at ready.turn e.Raise [] 0 true (record { quiet = refl; untaken = refl; unlogged = refl }) (record {
    may = tt;
    words = entering.store p i log a at ready.turn b 0 0 n stores refl _
        (cond-true (nat_eq (slice_index (machine_after p log).words 0) 0) (local_after_log p log (number_at_turn a)).number (slice_index (machine_after p log).words 0)
        (eq-eqb (slice_index (machine_after p log).words 0) 0 (entering.word-is p i log a at ready.turn 0 ∙ none))
        ∙ turns.own-local-number p i log a at ready.turn ∙ sym own);
    updates = entering.unchanged p i log a at ready.turn b stores.rest _ refl refl refl refl refl;
    entries = refl;
  }) budget-stays stop-raised (λ still. ap (λ w. ticket_of (slice_get w.seats.items a.turn)) stores.rest)

  pub raised-goes : Goes a raises b
  raised-goes = entering.goes-with a ready [] 0 true b (ap (λ w. w.turn) stores.rest) (ap number_at_turn stores.rest) reach

  pub raised-ready : MayCall b
  raised-ready = entering.still-ready-with a ready [] 0 true b (ap (λ w. w.turn) stores.rest) (ap (λ w. w.notes) stores.rest) reach

-- a stop that was raised already
pub raised-before : (a : PlainRow) → MayCall a → word_at (state_of a.row) 0 ≢ 0 → Goes a raises a
raised-before a ready some = entering.goes-with a ready [] 0 true a refl refl (λ p i log at.
    let idle = entering.unmoved p i log (number_at_turn a) a at in record {
      continues = record { more = idle.continues.more; own = idle.continues.own; at = idle.continues.at; entries = idle.continues.entries };
      unlogs = idle.unlogs;
      kinds = idle.kinds;
      size = idle.size;
      blocks = idle.blocks;
      budget = idle.budget;
      stop = sym (cond-false (nat_eq (word_at (state_of a.row) 0) 0) (number_at_turn a) (word_at (state_of a.row) 0) (ne_eqb (word_at (state_of a.row) 0) 0 some));
      births = idle.births;
      ticket = idle.ticket;
      fill = idle.fill;
      notes = idle.notes;
      cursors = idle.cursors;
      over = idle.over;
      others = idle.others;
    })
