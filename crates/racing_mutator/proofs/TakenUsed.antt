-- The exchange that takes a block without an owner.
use Rattle.std.proofs.Common.{◌≡◌, ◌≢◌, sym, ◌∙◌, ap, subst, ℕ, ◌+◌, ◌*◌, ◌<◌, ◌≤◌, arith, inl, inr, Bool, true, false, nat_eq, eq-eqb, List, ◌∷◌, ◌++◌}
use Rattle.std.specs.Prelude.{if◌then◌else◌}
use Rattle.std.specs.List.{Contains}
use Rattle.std.proofs.lemmas.Bool.{cond-false, cond-true, ne_eqb}
use Rattle.heap_layout.specs.Zones.{block_at}
use Rattle.heap_layout.specs.Blocks.{kind_code}
use Rattle.heap_layout.proofs.BlockLemmas.{kind_code_most}
use Rattle.object_model.specs.Objects.{HeapState, block_word, owner_at}
use Rattle.plan_api.specs.declared.block_view.BlockView.{BlockView}
use Rattle.plan_api.specs.Views.{IsViewOf}
use Rattle.sessions.specs.Plans.{Rules}
use Rattle.mutator_core.specs.declared.state.Event.TheVariants as e
use Rattle.mutator_core.specs.declared.state.Extent.{Extent}
use Rattle.mutator_core.specs.declared.state.Local.{Local}
use Rattle.mutator_core.specs.declared.state.LogEntry.{LogEntry}
use Rattle.mutator_core.specs.Machine.{Epoch, found_code, taken}
use Rattle.mutator_core.specs.Epochs.{IsInEpoch, IsMade, IsOwned}
use Rattle.mutator_core.specs.declared.state.Loaded.{Loaded}
use Rattle.mutator_core.specs.declared.state.OwnedBlock.{OwnedBlock}
use Rattle.mutator_core.proofs.Fills.{owned-owner}
use Rattle.mutator_core.proofs.EpochEnds.{log-seen}
use Rattle.mutator_core.proofs.Lists.{contains-here}
use Rattle.mutator_rule.specs.declared.views.EpochStart.{EpochStart}
use Rattle.mutator_rule.specs.Views.{epoch_with}
use Rattle.mutator_core.specs.Logs.{IsEpochLog, machine_after, heap_after, local_after_log}
use Rattle.mutator_core.proofs.Places.{place-owner}
use Rattle.mutator_rule.specs.declared.views.MutatorView.{MutatorView}
use Rattle.mutator_rule.specs.Logs.{MakesStep, KnowsLog}
use Rattle.mutator_rule.proofs.Moments as moments
use Rattle.racing_mutator.specs.declared.racing.Racing.{Racing}
use Rattle.racing_mutator.specs.RacingSeats.{view, local, epoch_of_racing, holdings}
use Rattle.racing_mutator.specs.Looks.{HasLooked}
use Rattle.racing_mutator.proofs.BlockViewed.{viewed}
use Rattle.racing_mutator.proofs.Looking.{just-before}

module _ {P : Type 0} (rules : Rules) (a : Racing P) (v : MutatorView) (k class n : ℕ) (there : k < (epoch_of_racing rules a).before.blocks) (few : class ≤ 18) (st : MakesStep rules (view a) (e.TakeBlock k class false) n v) (told : KnowsLog (epoch_of_racing rules a) (view a)) where
  abbrev p : Epoch
  p = epoch_of_racing rules a

  abbrev was : ℕ
  was = found_code p class false

  abbrev log : List LogEntry
  log = (view a).seen ++ st.between

  is-log : IsEpochLog p st.told.ideal log
  is-log = just-before rules a v (e.TakeBlock k class false) n st told

  abbrev s : HeapState
  s = heap_after p log

  now : IsInEpoch p s (machine_after p log).locals
  now = moments.epoch p st.told.ideal log is-log

  abbrev missed : Local
  missed = record (local a) { blocks = (record { at = k; word = n }) ∷ (local a).blocks }

  nobody : n ≡ was → owner_at s k ≡ 0
  nobody is =
      let word : n ≡ block_word s k = st.word in
      let code : kind_code p.rules.fill ≤ 8 = kind_code_most p.rules.fill in
      let e : n ≡ kind_code p.rules.fill + 256 * class + 65536 * 0 = is in
      omega arith

  -- it found another word than the block had as the epoch began: the block has an owner
  other-owner : block_word p.before k ≡ was → n ≢ was → 0 < owner_at s k
  other-owner before other = elim (now.blocks k there) as (λ _. 0 < owner_at s k) [
    | inl same ↦ absurd (other (st.word ∙ same ∙ before))
    | inr own ↦ (
        let is : IsOwned p s ((machine_after p log).locals own.0).number own.1 = (now.knows own.0).owned own.1 own.2 in
        let some : 0 < ((machine_after p log).locals own.0).number = is.somebody in
        let owner : owner_at s own.1.block ≡ ((machine_after p log).locals own.0).number = owned-owner p s ((machine_after p log).locals own.0).number own.1 is in
        subst (λ (j : ℕ). 0 < owner_at s j) own.3 (subst (λ (m : ℕ). 0 < m) (sym owner) some))
  ]

  pub owner-then : block_word p.before k ≡ was → n ≢ was → 0 < owner_at (heap_after (epoch_with rules v.start) v.seen) k
  owner-then before other =
      let q : Epoch = epoch_with rules v.start in
      let x : Loaded = record { at = k; word = n } in
      let told-v : KnowsLog q v = subst (λ (g : EpochStart). KnowsLog (epoch_with rules g) v) (sym st.start) st.told in
      let local-is : v.local ≡ missed = st.local ∙ cond-false (nat_eq n was) (taken p (local a) k class false) missed (ne_eqb n was other) in
      let among : Contains (local_after_log q v.seen v.local.number).blocks x =
      subst (λ (l : Local). Contains l.blocks x) told-v.now (subst (λ (l : Local). Contains l.blocks x) (sym local-is) (contains-here x (local a).blocks)) in
      let word : n ≡ block_word s k = st.word in
      let owner : 0 < owner_at s k = other-owner before other in
      ((log-seen q told-v.ideal v.seen told-v.epoch).blocks v.local.number x among).1.owned (omega arith)

  pub none-held : n ≡ was → (o : OwnedBlock) → Contains (local a).owned o → o.block ≢ k
  none-held is o among here =
      let m : ℕ = (local a).number in
      let own : IsOwned p s ((machine_after p log).locals m).number o = (now.knows m).owned o (subst (λ (l : Local). Contains l.owned o) (sym st.before) among) in
      let owner : owner_at s o.block ≡ ((machine_after p log).locals m).number = owned-owner p s ((machine_after p log).locals m).number o own in
      let some : 0 < ((machine_after p log).locals m).number = own.somebody in
      let none : owner_at s o.block ≡ 0 = ap (owner_at s) here ∙ nobody is in
      omega arith

  pub viewed-then : (b : BlockView) → n ≡ was → HasLooked p (local a) k b → IsViewOf p.before k b
  viewed-then b is looked = viewed p st.told.ideal log is-log (local a).number k b there (subst (λ (l : Local). HasLooked p l k b) (sym st.before) looked) (nobody is)

  pub none-then : n ≡ was → (x : Extent) → Contains (local a).made x → block_at p.before.blocks x.address ≢ k
  none-then is x made here =
      let m : ℕ = (local a).number in
      let is-made : IsMade p s ((machine_after p log).locals m).owned x = (now.knows m).objects x (subst (λ (l : Local). Contains l.made x) (sym st.before) made) in
      let owner = place-owner p (machine_after p log) now m x.address x.size is-made.place in
      let mine : owner_at s (block_at p.before.blocks x.address) ≡ m = owner.0 in
      let some : 0 < m = owner.1 in
      let none : owner_at s (block_at p.before.blocks x.address) ≡ 0 = ap (owner_at s) here ∙ nobody is in
      omega arith

  pub keeps-then : {A : Type 0} (f : Local → A) → f (taken p (local a) k class false) ≡ f (local a) → f missed ≡ f (local a) → f v.local ≡ f (local a)
  keeps-then f done other = ap f st.local ∙ go (nat_eq n was)
    where
      go : (b : Bool) → f (if b then taken p (local a) k class false else missed) ≡ f (local a)
      go true = done
      go false = other

  pub has-then : n ≡ was → v.local ≡ taken p (local a) k class false
  has-then is = st.local ∙ cond-true (nat_eq n was) (taken p (local a) k class false) _ (eq-eqb n was is)

  pub holds-then : n ≢ was → holdings v.local ≡ holdings (local a)
  holds-then other = ap holdings (st.local ∙ cond-false (nat_eq n was) (taken p (local a) k class false) _ (ne_eqb n was other))
