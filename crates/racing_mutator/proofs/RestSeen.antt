-- What an object leaves of the block of its region.
use Rattle.std.proofs.Common.{◌≡◌, ◌≢◌, refl, sym, ◌∙◌, ap, subst, ℕ, ◌+◌, ◌*◌, ◌<◌, ◌≤◌, ◌⊎◌, inl, inr, arith, mul-le-mul_right, false, List, ◌∷◌, slice_index}
use Rattle.std.specs.Prelude.{Some}
use Rattle.std.specs.List.{Contains}
use Rattle.std.proofs.lemmas.Bool.{true≢false, cases_lt, cases_eq}
use Rattle.heap_layout.specs.Zones.{block_start}
use Rattle.heap_layout.specs.Blocks.{kind_code}
use Rattle.heap_layout.specs.declared.block.Kind.{Kind}
use Rattle.heap_layout.specs.declared.block.Kind.TheVariants as kinds
use Rattle.heap_layout.specs.declared.region.Region.{Region}
use Rattle.heap_layout.proofs.BlockLemmas.{kind_code_most, code_parts, valid_most}
use Rattle.object_model.specs.Objects.{HeapState, block_word, HasKind, class_at, cell_words}
use Rattle.object_model.proofs.OneKind.{kind-from}
use Rattle.sessions.specs.Fitting.{LiesInHole}
use Rattle.mutator_core.specs.declared.state.Extent.{Extent}
use Rattle.mutator_core.specs.declared.state.Local.{Local}
use Rattle.mutator_core.specs.declared.state.OwnedBlock.{OwnedBlock}
use Rattle.mutator_core.specs.Machine.{Epoch, address_in}
use Rattle.mutator_core.specs.Guards.{HasSeenStart, IsPlaceOfMutator, BeginsRegion}
use Rattle.mutator_core.specs.Epochs.{IsOwned}
use Rattle.mutator_core.specs.Logs.{heap_after}
use Rattle.sessions.specs.Plans.{Rules}
use Rattle.mutator_rule.specs.declared.seat.MutatorSeat.{MutatorSeat}
use Rattle.mutator_rule.specs.Seats.{local_of, epoch_of_seat}
use Rattle.mutator_rule.specs.declared.views.MutatorView.{MutatorView}
use Rattle.mutator_rule.specs.Logs.{KnowsLog}
use Rattle.racing_rooms.specs.Rooms.{Holdings, holdings, HasObjectAt, IsOwnRegion, with_object}
use Rattle.racing_rooms.specs.OwnHoles.{HasSeenTaken, IsNextCell, cell, none}
use Rattle.racing_mutator.specs.Searches.{PlacesObject}
use Rattle.racing_rooms.proofs.Known.{knows, cells-or}
use Rattle.racing_rooms.proofs.OwnRegions.{own-rest, own-next, own-none}
use Rattle.racing_rooms.proofs.OwnSeen.{one-class, seen-object}

-- cells that were seen taken
pub taken-still : (p : Epoch) (l m : Local) (k class from upto : ℕ) → ((a : ℕ) → HasSeenStart p l a → HasSeenStart p m a) → HasSeenTaken p l k class from upto → HasSeenTaken p m k class from upto
taken-still p l m k class from upto still seen = λ index after below inside. still (block_start p.before.blocks k + index * cell_words class) (seen index after below inside)

pub taken-more : (p : Epoch) (l : Local) (k class from i : ℕ) → 0 < cell_words class → HasSeenTaken p l k class from (i * cell_words class) → HasSeenStart p l (block_start p.before.blocks k + i * cell_words class) → HasSeenTaken p l k class from (i * cell_words class + cell_words class)
taken-more p l k class from i some seen here = λ index after below inside. elim (cases_lt index i) as (λ _. HasSeenStart p l (block_start p.before.blocks k + index * cell_words class)) [
  | inl less ↦ (
      let few : (index + 1) * cell_words class ≤ i * cell_words class = mul-le-mul_right {m = index + 1} {n = i} (cell_words class) (omega arith) in
      let more : (index + 1) * cell_words class ≡ index * cell_words class + cell_words class = omega arith in
      seen index after (omega arith) inside)
  | inr past ↦ elim (cases_eq index i) as (λ _. HasSeenStart p l (block_start p.before.blocks k + index * cell_words class)) [
    | inl same ↦ subst (λ (n : ℕ). HasSeenStart p l (block_start p.before.blocks k + n * cell_words class)) (sym same) here
    | inr other ↦ absurd (
        let many : (i + 1) * cell_words class ≤ index * cell_words class = mul-le-mul_right {m = i + 1} {n = index} (cell_words class) (omega arith) in
        let more : (i + 1) * cell_words class ≡ i * cell_words class + cell_words class = omega arith in
        omega arith)
  ]
]

-- a block of cells that the mutator took was Free as the epoch began, or had cells of the class
cells-before : (p : Epoch) (s : HeapState) (m k class : ℕ) → k < p.before.blocks → p.rules.fill ≡ kinds.Cells → IsOwned p s m (record { block = k; class = class }) → HasKind p.before k kinds.Free ⊎ (HasKind p.before k kinds.Cells × (class_at p.before k ≡ class))
cells-before p s m k class there cells is = elim is.before as (λ _. HasKind p.before k kinds.Free ⊎ (HasKind p.before k kinds.Cells × (class_at p.before k ≡ class))) [
  | inl free ↦ inl (kind-from p.before k kinds.Free there (let e : block_word p.before k ≡ 0 = free in omega arith))
  | inr same ↦ (
      let parts = code_parts (kind_code p.rules.fill) class 0 (block_word p.before k) (kind_code_most p.rules.fill) (valid_most p.rules.fill class m is.valid).0 (sym same) in
      inr (kind-from p.before k kinds.Cells there (parts.0 ∙ ap kind_code cells), parts.1))
]

module _ (p : Epoch) (v : MutatorView) (told : KnowsLog p v) (h : Holdings) (k class size : ℕ) (region rest : Region) (own : IsOwnRegion p h k class region) (some : 0 < size) (room : region.next + size ≤ region.end)
    (holds : holdings v.local ≡ with_object h (record { address = block_start p.before.blocks k + region.next; size = size }))
    (plain : p.rules.fill ≢ kinds.Cells → rest ≡ record { next = region.next + size; end = region.end }) (next : p.rules.fill ≡ kinds.Cells → IsNextCell p v.local k class region.end rest) where
  abbrev x : Extent
  x = record { address = block_start p.before.blocks k + region.next; size = size }

  mine : (c : ℕ) → IsOwnRegion p h k c region → Contains v.local.owned (record { block = k; class = c })
  mine c is = subst (λ (g : Holdings). Contains g.owned (record { block = k; class = c })) (sym holds) is.mine

  -- each cell that was seen taken has an object
  taken-objects : (upto : ℕ) → upto ≤ 4096 → HasSeenTaken p v.local k class region.end upto
      → (index : ℕ) → region.end ≤ index * cell_words class → index * cell_words class < upto → index * cell_words class + cell_words class ≤ 4096 → HasObjectAt p (x ∷ h.made) (block_start p.before.blocks k + index * cell_words class)
  taken-objects upto most seen index from below inside =
      let there : k < p.before.blocks = own.there in
      let a : ℕ = block_start p.before.blocks k + index * cell_words class in
      subst (λ (g : Holdings). HasObjectAt p g.made a) holds
      (seen-object p v told k class (mine class own) a (record { from = omega arith; below = omega arith }) (omega arith) (seen index from below inside))

  cells-left : (cells : p.rules.fill ≡ kinds.Cells) → IsNextCell p v.local k class region.end rest → IsOwnRegion p (with_object h x) k class rest
  cells-left cells (cell index starts ends inside after free seen) =
      subst (λ (e : ℕ). IsOwnRegion p (with_object h x) k class (record { next = rest.next; end = e })) (sym ends)
      (own-next p h k class size region own some room rest.next cells (record { index = index; start = starts; end = refl }) (omega arith) (omega arith)
      (λ n suits. elim (cells-before p (heap_after p v.seen) v.local.number k class own.there cells ((knows p v told).owned (record { block = k; class = class }) (mine class own))) as (λ _. HasKind p.before k kinds.Free ⊎ LiesInHole p.rules.fill p.before k rest.next n) [
        | inl was ↦ inl was
        | inr had ↦ inr (subst (λ (f : Kind). LiesInHole f p.before k rest.next n) (sym cells) (
          had.0,
          record {
            index = index;
            start = subst (λ (c : ℕ). rest.next ≡ index * cell_words c) (sym had.1) starts;
            inside = subst (λ (c : ℕ). rest.next + cell_words c ≤ 4096) (sym had.1) (omega arith);
            free = λ set. true≢false (sym set ∙ free);
          },
          suits ∙ ap (λ (c : ℕ). Some c) (sym had.1),
        ))
      ])
      (taken-objects rest.next (omega arith) seen))
  cells-left cells (none starts ends seen) =
      subst (λ (n : ℕ). IsOwnRegion p (with_object h x) k class (record { next = n; end = rest.end })) (sym starts)
      (subst (λ (e : ℕ). IsOwnRegion p (with_object h x) k class (record { next = 4096; end = e })) (sym ends)
      (own-none p h k class size region own some room cells
      (λ index from inside. taken-objects 4096 (omega arith) seen index from (let end : region.end ≡ region.next + cell_words class = (own.cell cells (omega arith)).end in omega arith) inside)))

  same-left : IsOwnRegion p (with_object h x) k class rest
  same-left = elim (cells-or p.rules.fill) as (λ _. IsOwnRegion p (with_object h x) k class rest) [
    | inl cells ↦ cells-left cells (next cells)
    | inr other ↦ subst (λ (r : Region). IsOwnRegion p (with_object h x) k class r) (sym (plain other)) (own-rest p h k class size region own some room other)
  ]

  pub rest-left : (c : ℕ) → IsOwnRegion p h k c region → IsOwnRegion p (with_object h x) k c rest
  rest-left c is = subst (λ (d : ℕ). IsOwnRegion p (with_object h x) k d rest) (one-class p v told k class c (mine class own) (mine c is)) same-left

-- an object stays where it is while the mutator keeps what it has
pub placed-as : (rules : Rules) (o b c : MutatorSeat) (d size : ℕ) → (local_of c).made ≡ (local_of b).made → (local_of c).owned ≡ (local_of b).owned → (local_of c).registers ≡ (local_of b).registers → PlacesObject rules o d size b → PlacesObject rules o d size c
placed-as rules o b c d size made owned registers is =
    let at : address_in (local_of c) d ≡ address_in (local_of b) d = ap (λ (rs : List ℕ). slice_index rs d) registers in
    record {
      made = made ∙ is.made ∙ ap (λ (a : ℕ). (record { address = a; size = size }) ∷ (local_of o).made) (sym at);
      place = subst (λ (a : ℕ). IsPlaceOfMutator (epoch_of_seat rules o) (local_of c).owned a size) (sym at)
          (subst (λ (os : List OwnedBlock). IsPlaceOfMutator (epoch_of_seat rules o) os (address_in (local_of b) d) size) (sym owned) is.place);
      front = subst (λ (a : ℕ). BeginsRegion (epoch_of_seat rules o) (local_of o).made a size) (sym at) is.front;
    }
