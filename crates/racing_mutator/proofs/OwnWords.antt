-- The word of a block of the mutator's own, as it loads it.
use Rattle.std.proofs.Common.{◌≡◌, refl, sym, ◌∙◌, subst, ℕ, List, ◌++◌, IsTrue}
use Rattle.std.specs.List.{Contains}
use Rattle.heap_layout.specs.Blocks.{IsValidWord, code_of, is_block_code}
use Rattle.heap_layout.specs.declared.block.BlockWord.{BlockWord}
use Rattle.heap_layout.proofs.BlockLemmas.{is_block_code-code_of}
use Rattle.object_model.specs.Objects.{block_word}
use Rattle.sessions.specs.Plans.{Rules}
use Rattle.mutator_core.specs.declared.state.Event.TheVariants as e
use Rattle.mutator_core.specs.declared.state.Local.{Local}
use Rattle.mutator_core.specs.declared.state.LogEntry.{LogEntry}
use Rattle.mutator_core.specs.declared.state.OwnedBlock.{OwnedBlock}
use Rattle.mutator_core.specs.Machine.{Epoch}
use Rattle.mutator_core.specs.Epochs.{IsInEpoch, IsOwned}
use Rattle.mutator_core.specs.Logs.{machine_after, heap_after}
use Rattle.mutator_rule.specs.declared.views.MutatorView.{MutatorView}
use Rattle.mutator_rule.specs.Logs.{MakesStep, KnowsLog}
use Rattle.mutator_rule.proofs.Moments as moments
use Rattle.racing_mutator.specs.declared.racing.Racing.{Racing}
use Rattle.racing_mutator.specs.RacingSeats.{view, local, epoch_of_racing}
use Rattle.racing_mutator.proofs.Looking.{just-before}

-- a block word that says the class that the mutator took the block for
pub record IsWordFor (class n : ℕ) : Type 0 where
  pub word : BlockWord
  pub valid : IsValidWord word
  pub code : code_of word ≡ n
  pub same : word.class ≡ class

pub own-word : {P : Type 0} (rules : Rules) (a : Racing P) (v : MutatorView) (k class n : ℕ) → KnowsLog (epoch_of_racing rules a) (view a) → MakesStep rules (view a) (e.LoadBlock k) n v → Contains (local a).owned (record { block = k; class = class }) → IsWordFor class n
own-word rules a v k class n told st mine =
    let p : Epoch = epoch_of_racing rules a in
    let log : List LogEntry = (view a).seen ++ st.between in
    let m : ℕ = (local a).number in
    let o : OwnedBlock = record { block = k; class = class } in
    let now : IsInEpoch p (heap_after p log) (machine_after p log).locals = moments.epoch p st.told.ideal log (just-before rules a v (e.LoadBlock k) n st told) in
    let is : IsOwned p (heap_after p log) ((machine_after p log).locals m).number o = (now.knows m).owned o (subst (λ (l : Local). Contains l.owned o) (sym st.before) mine) in
    let word : n ≡ block_word (heap_after p log) k = st.word in
    record { word = record { kind = p.rules.fill; class = class; owner = ((machine_after p log).locals m).number }; valid = is.valid; code = sym is.word ∙ sym word; same = refl }

pub own-code : (class n : ℕ) → IsWordFor class n → IsTrue (is_block_code n)
own-code class n is = is_block_code-code_of is.word n is.valid is.code
