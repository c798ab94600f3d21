-- What is known at the steps of an allocation.
use Rattle.std.proofs.Common.{◌≡◌, ◌≢◌, refl, sym, ◌∙◌, ap, subst, ℕ, ◌+◌, ◌-◌, ◌%◌, ◌^◌, ◌<◌, ◌≤◌, inl, inr, arith, IsTrue, Bool, true, false, nat_eq, eq-eqb, List, [], ◌∷◌, ◌++◌}
use Rattle.std.specs.Prelude.{bit_or, IfNone, Option, Some, None, unwrap_or, if◌then◌else◌}
use Rattle.std.specs.List.{Contains}
use Rattle.std.proofs.lemmas.Bool.{cond-false, cond-true, ne_eqb}
use Rattle.heap_layout.specs.Zones.{heap_of, block_at}
use Rattle.heap_layout.specs.Blocks.{is_block_code}
use Rattle.heap_layout.specs.declared.layout.Layout.{Layout}
use Rattle.heap_layout.specs.declared.block.Kind.{Kind}
use Rattle.heap_layout.specs.declared.block.Kind.TheVariants as kinds
use Rattle.ideal_heap.specs.Runs.{Entry, entry}
use Rattle.ideal_heap.specs.declared.command.Command.{Command}
use Rattle.ideal_heap.specs.declared.reply.Reply.{Reply}
use Rattle.object_model.specs.Objects.{HeapState, block_word, owner_at, HasKind}
use Rattle.object_model.proofs.OneKind.{kind-from}
use Rattle.object_model.specs.BitWords.{bit_place}
use Rattle.side_meta.specs.BitWords.{with_bit}
use Rattle.sessions.specs.Fitting.{class_for}
use Rattle.sessions.specs.Plans.{Rules}
use Rattle.sessions.proofs.HoleKinds.{class-least}
use Rattle.mutator_core.specs.declared.state.Event.TheVariants as e
use Rattle.mutator_core.specs.declared.state.Extent.{Extent}
use Rattle.mutator_core.specs.declared.state.Loaded.{Loaded}
use Rattle.mutator_core.specs.declared.state.LogEntry.{LogEntry}
use Rattle.mutator_core.specs.declared.state.Local.{Local}
use Rattle.mutator_core.specs.declared.state.OwnedBlock.{OwnedBlock}
use Rattle.mutator_core.specs.Machine.{Epoch, taken, owned_code}
use Rattle.mutator_core.specs.Epochs.{IsInEpoch, IsOwned, IsMade}
use Rattle.mutator_core.specs.Logs.{IsEpochLog, machine_after, heap_after}
use Rattle.mutator_core.specs.Seen.{HasSeenUsed}
use Rattle.mutator_core.proofs.Fills.{owned-owner}
use Rattle.mutator_core.proofs.Places.{place-owner}
use Rattle.mutator_core.proofs.Lists.{contains-here, contains-there}
use Rattle.mutator_rule.specs.declared.views.EpochStart.{EpochStart}
use Rattle.mutator_rule.specs.declared.views.MutatorView.{MutatorView}
use Rattle.mutator_rule.specs.Seats.{IsSeatOf}
use Rattle.mutator_rule.specs.Logs.{MakesStep, KnowsLog}
use Rattle.mutator_rule.proofs.Moments as moments
use Rattle.racing_mutator.specs.declared.racing.Racing.{Racing}
use Rattle.racing_mutator.specs.RacingSeats.{view, local, epoch_of_racing, Makes, holdings}
use Rattle.racing_rooms.proofs.BlockCodes.{block-code, free-word}
use Rattle.racing_mutator.specs.Looks.{with_block_word}
use Rattle.racing_rooms.specs.Rooms.{Suits}
use Rattle.racing_mutator.specs.SeatLaws.{makes-both}
use Rattle.racing_mutator.proofs.Looking.{just-before}

-- a block word that was loaded, of a block that is not Free
pub seen-word : (l m : Local) (k w : ℕ) → m ≡ with_block_word l k w → w % 256 ≢ 0 → HasSeenUsed m k
seen-word l m k w is used = subst (λ (x : Local). HasSeenUsed x k) (sym is) (record { loaded = record { at = k; word = w }; among = contains-here (record { at = k; word = w }) l.blocks; here = refl; used = used })

-- a size suits the class for it
pub class-suits : (fill : Kind) (size : ℕ) → size ≤ 2048 → Suits fill (class_for fill size) size
class-suits fill size small cells =
    let least = class-least size small in
    least.same ∙ ap (λ (c : ℕ). Some c) (sym (ap (λ (f : Kind). class_for f size) cells ∙ ap (λ (o : Option ℕ). unwrap_or o 0) least.same))

-- a block word more that was seen
pub more-seen : (l m : Local) (x : Loaded) → m.blocks ≡ x ∷ l.blocks → (j : ℕ) → HasSeenUsed l j → HasSeenUsed m j
more-seen l m x is j saw = record {
  loaded = saw.loaded;
  among = subst (λ (xs : List Loaded). Contains xs saw.loaded) (sym is) (contains-there x l.blocks saw.loaded saw.among);
  here = saw.here;
  used = saw.used;
}

module _ {P : Type 0} (rules : Rules) (a : Racing P) (v : MutatorView) (k class n : ℕ) (there : k < (epoch_of_racing rules a).before.blocks) (told : KnowsLog (epoch_of_racing rules a) (view a))
    (st : MakesStep rules (view a) (e.TakeBlock k class true) n v) where
  abbrev p : Epoch
  p = epoch_of_racing rules a

  abbrev m : ℕ
  m = (local a).number

  abbrev log : List LogEntry
  log = (view a).seen ++ st.between

  is-log : IsEpochLog p st.told.ideal log
  is-log = just-before rules a v (e.TakeBlock k class true) n st told

  abbrev s : HeapState
  s = heap_after p log

  now : IsInEpoch p s (machine_after p log).locals
  now = moments.epoch p st.told.ideal log is-log

  word-found : n ≡ block_word s k
  word-found = st.word

  -- it found the word of a Free block: the block was Free as the epoch began, and the mutator has no object there
  pub free-before : n ≡ 0 → HasKind p.before k kinds.Free
  free-before free = elim (now.blocks k there) as (λ _. HasKind p.before k kinds.Free) [
    | inl same ↦ kind-from p.before k kinds.Free there (let w = word-found in let e : block_word s k ≡ block_word p.before k = same in omega arith)
    | inr own ↦ absurd (
        let is : IsOwned p s ((machine_after p log).locals own.0).number own.1 = (now.knows own.0).owned own.1 own.2 in
        let some : 0 < ((machine_after p log).locals own.0).number = is.somebody in
        let owner : owner_at s own.1.block ≡ ((machine_after p log).locals own.0).number = owned-owner p s ((machine_after p log).locals own.0).number own.1 is in
        let here : block_word s own.1.block ≡ 0 = ap (block_word s) own.3 ∙ sym word-found ∙ free in
        omega arith)
  ]

  pub none-made : n ≡ 0 → (x : Extent) → Contains (local a).made x → block_at p.before.blocks x.address ≢ k
  none-made free x made here =
      let is : IsMade p s ((machine_after p log).locals m).owned x = (now.knows m).objects x (subst (λ (l : Local). Contains l.made x) (sym st.before) made) in
      let owner = place-owner p (machine_after p log) now m x.address x.size is.place in
      let mine : owner_at s (block_at p.before.blocks x.address) ≡ m = owner.0 in
      let some : 0 < m = owner.1 in
      let word : block_word s (block_at p.before.blocks x.address) ≡ 0 = ap (block_word s) here ∙ sym word-found ∙ free in
      omega arith

  pub none-owned : n ≡ 0 → (o : OwnedBlock) → Contains (local a).owned o → o.block ≢ k
  none-owned free o among here =
      let is : IsOwned p s ((machine_after p log).locals m).number o = (now.knows m).owned o (subst (λ (l : Local). Contains l.owned o) (sym st.before) among) in
      let owner : owner_at s o.block ≡ ((machine_after p log).locals m).number = owned-owner p s ((machine_after p log).locals m).number o is in
      let some : 0 < ((machine_after p log).locals m).number = is.somebody in
      let word : block_word s o.block ≡ 0 = ap (block_word s) here ∙ sym word-found ∙ free in
      omega arith

  pub has-taken : n ≡ 0 → v.local ≡ taken p (local a) k class true
  has-taken free = st.local ∙ cond-true (nat_eq n 0) (taken p (local a) k class true) _ (eq-eqb n 0 free)

  abbrev missed : Local
  missed = record (local a) { blocks = (record { at = k; word = n }) ∷ (local a).blocks }

  -- what neither outcome changes
  pub take-keeps : {A : Type 0} (f : Local → A) → f (taken p (local a) k class true) ≡ f (local a) → f missed ≡ f (local a) → f v.local ≡ f (local a)
  take-keeps f done other = ap f st.local ∙ go (nat_eq n 0)
    where
      go : (b : Bool) → f (if b then taken p (local a) k class true else missed) ≡ f (local a)
      go true = done
      go false = other

  -- it found another word: the block is not Free
  has-seen : n ≢ 0 → v.local ≡ missed
  has-seen other = st.local ∙ cond-false (nat_eq n 0) (taken p (local a) k class true) _ (ne_eqb n 0 other)

  pub seen-used : n ≢ 0 → HasSeenUsed v.local k
  seen-used other = subst (λ (l : Local). HasSeenUsed l k) (sym (has-seen other)) (record {
    loaded = record { at = k; word = n };
    among = contains-here (record { at = k; word = n }) (local a).blocks;
    here = refl;
    used = λ free. other (free-word n (subst (λ (w : ℕ). IsTrue (is_block_code w)) (sym word-found) (block-code p is-log.ready (machine_after p log) now k there)) free);
  })

  -- what it saw it has seen
  pub still-seen : (j : ℕ) → HasSeenUsed (local a) j → HasSeenUsed v.local j
  still-seen j saw = subst (λ (l : Local). HasSeenUsed l j) (sym st.local) (go (nat_eq n 0))
    where
      go : (b : Bool) → HasSeenUsed (if b then taken p (local a) k class true else missed) j
      go true = more-seen (local a) _ (record { at = k; word = owned_code p (local a) class }) refl j saw
      go false = more-seen (local a) missed (record { at = k; word = n }) refl j saw

  pub holds-same : n ≢ 0 → holdings v.local ≡ holdings (local a)
  holds-same other = ap holdings (has-seen other)

-- two facts of nothing
pub none-both : {X : Type 0} (A B C : Type 0) (o : Option X) → (A → B → C) → IfNone o A → IfNone o B → IfNone o C
none-both A B C None f one two = f one two
none-both A B C (Some x) f one two = one

-- steps that enter nothing, and then one that makes an entry
pub then-enters : {P : Type 0} (rules : Rules) (a mid b : Racing P) (command : Command) (m n : ℕ) (x y : Reply) → m ≡ n → x ≡ y → Makes rules a [] mid → Makes rules mid (entry m command x ∷ []) b → Makes rules a (entry n command y ∷ []) b
then-enters rules a mid b command m n x y number reply before last = subst (λ (es : List Entry). Makes rules a es b) (λ k. entry (number k) command (reply k) ∷ []) (makes-both rules a mid b [] (entry m command x ∷ []) before last)

-- the bit that publishes the object at an address, as the step stores it
pub start-stored : {P : Type 0} (rules : Rules) (q : Racing P) → IsSeatOf rules q.row.now q.seat.now → (address bit mask : ℕ) → (local q).unpublished.address ≡ address → bit ≡ (address - heap_of q.row.now.layout.blocks) % 64 → mask ≡ 2 ^ bit
    → ◌≡◌ {A = ℕ → ℕ} (λ n. with_bit n (bit_place (epoch_of_racing rules q).before.blocks (local q).unpublished.address)) (λ n. bit_or n mask)
start-stored rules q own address bit mask at place is =
    let blocks : (epoch_of_racing rules q).before.blocks ≡ q.row.now.layout.blocks = ap (λ (g : EpochStart). g.blocks) own.1 ∙ ap (λ (l : Layout). l.blocks) (sym q.row.now.laid) in
    let here : bit_place (epoch_of_racing rules q).before.blocks (local q).unpublished.address ≡ bit = (λ k. bit_place (blocks k) (at k)) ∙ sym place in
    ap {B = ℕ → ℕ} (λ j n. with_bit n j) here ∙ ap {B = ℕ → ℕ} (λ w n. bit_or n w) (sym is)
