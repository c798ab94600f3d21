-- The least that the first seats noted a block to lack.
use Rattle.std.proofs.Common.{◌≡◌, ◌≢◌, ◌∙◌, refl, sym, ap, subst, ℕ, ◌+◌, ◌<◌, ◌≤◌, ◌⊎◌, inl, inr, arith, List, length}
use Rattle.std.specs.Prelude.{Some, slice_get}
use Rattle.std.proofs.lemmas.Bool.{cases_eq}
use mathlib.Core.Option.{some-injective}
use Rattle.heap_layout.specs.declared.block.Kind.{Kind}
use Rattle.heap_layout.specs.declared.region.Region.{Region}
use Rattle.block_regions.specs.declared.block_notes.BlockNote.{BlockNote}
use Rattle.block_regions.specs.declared.block_notes.BlockNote.TheVariants.{Unowned, Owned}
use Rattle.block_regions.specs.Elements.{ChangesAt}
use Rattle.block_regions.proofs.Elements.{changes-cases}
use Rattle.block_regions.proofs.Lists.{get-below}
use Rattle.mutator_rule.specs.declared.seat.MutatorSeat.{MutatorSeat}
use Rattle.racing_world.specs.Closing.{IsSeatAt}
use Rattle.racing_world.specs.ClosingNotes.{HasNoteOf, IsLeastOf, untaken, JoinsNotes}
use Rattle.racing_world.proofs.Begun.{place-within}

pub record IsLeastBelow (seats : List MutatorSeat) (k known n least : ℕ) : Type 0 where
  pub none : (place owner : ℕ) (seat : MutatorSeat) (region : Region) → place < n → IsSeatAt seats place seat → HasNoteOf seat k (Owned owner region) → ⊥
  pub most : least ≤ known
  pub each : (place m : ℕ) (seat : MutatorSeat) → place < n → IsSeatAt seats place seat → HasNoteOf seat k (Unowned m) → least ≤ m
  pub from : (least ≡ known) ⊎ ((place : ℕ) × (seat : MutatorSeat) × IsSeatAt seats place seat × HasNoteOf seat k (Unowned least))

pub least-none : (seats : List MutatorSeat) (k known : ℕ) → IsLeastBelow seats k known 0 known
least-none seats k known = record {
  none = λ place owner seat region below at note. absurd (omega arith);
  most = omega arith;
  each = λ place m seat below at note. absurd (omega arith);
  from = inl refl;
}

-- the next seat notes that the block lacks `m` words
pub least-next : (seats : List MutatorSeat) (k known n least m later : ℕ) (seat : MutatorSeat) → IsSeatAt seats n seat → HasNoteOf seat k (Unowned m) → ((later ≡ least) × (least ≤ m)) ⊎ ((later ≡ m) × (m ≤ least))
    → IsLeastBelow seats k known n least → IsLeastBelow seats k known (n + 1) later
least-next seats k known n least m later seat at note smaller is = record {
  none = λ place owner other region below there owned. elim (cases_eq place n) as (λ _. ⊥) [
    | inl here ↦ (let same : other ≡ seat = at-one place here other there in
        let wrong : Some (Owned owner region) ≡ Some (Unowned m) = sym owned ∙ ap (λ (x : MutatorSeat). slice_get x.notes.blocks.items k) same ∙ note in cc)
    | inr away ↦ is.none place owner other region (let a : place ≢ n = away in omega arith) there owned
  ];
  most = (let most : least ≤ known = is.most in elim smaller as (λ _. later ≤ known) [ inl a ↦ (let e : later ≡ least = a.0 in omega arith) | inr b ↦ (let e : later ≡ m = b.0 in let l : m ≤ least = b.1 in omega arith) ]);
  each = λ place q other below there lacks. elim (cases_eq place n) as (λ _. later ≤ q) [
    | inl here ↦ (let same : other ≡ seat = at-one place here other there in
        let e : Some (Unowned q) ≡ Some (Unowned m) = sym lacks ∙ ap (λ (x : MutatorSeat). slice_get x.notes.blocks.items k) same ∙ note in
        let are : q ≡ m = cc in
        elim smaller as (λ _. later ≤ q) [ inl a ↦ (let x : later ≡ least = a.0 in let y : least ≤ m = a.1 in omega arith) | inr b ↦ (let x : later ≡ m = b.0 in omega arith) ])
    | inr away ↦ (let l : least ≤ q = is.each place q other (let a : place ≢ n = away in omega arith) there lacks in
        elim smaller as (λ _. later ≤ q) [ inl a ↦ (let x : later ≡ least = a.0 in omega arith) | inr b ↦ (let x : later ≡ m = b.0 in let y : m ≤ least = b.1 in omega arith) ])
  ];
  from = elim smaller as (λ _. (later ≡ known) ⊎ ((place : ℕ) × (other : MutatorSeat) × IsSeatAt seats place other × HasNoteOf other k (Unowned later))) [
    | inl a ↦ subst (λ (x : ℕ). (x ≡ known) ⊎ ((place : ℕ) × (other : MutatorSeat) × IsSeatAt seats place other × HasNoteOf other k (Unowned x))) (sym a.0) is.from
    | inr b ↦ inr (n, seat, at, subst (λ (x : ℕ). HasNoteOf seat k (Unowned x)) (sym b.0) note)
  ];
}
  where
    at-one : (place : ℕ) → place ≡ n → (other : MutatorSeat) → IsSeatAt seats place other → other ≡ seat
    at-one place here other there = some-injective other seat (sym (subst (λ (q : ℕ). IsSeatAt seats q other) here there) ∙ at)

-- all seats did
pub least-all : (fill : Kind) (seats : List MutatorSeat) (k known n least : ℕ) → length seats ≤ n → IsLeastBelow seats k known n least → IsLeastOf fill seats k known least
least-all fill seats k known n least all is = untaken
    (λ region took. let below = place-within seats took.place took.seat took.at in is.none took.place took.owner took.seat region (omega arith) took.at took.note)
    is.most (λ place m seat at note. let below = place-within seats place seat at in is.each place m seat (omega arith) at note) is.from

-- the notes of the first blocks are joined
pub record JoinsBelow (fill : Kind) (seats : List MutatorSeat) (old now : List BlockNote) (n : ℕ) : Type 0 where
  pub len : length now ≡ length old
  pub done : (k known : ℕ) → k < n → slice_get old k ≡ Some (Unowned known) → (least : ℕ) × (slice_get now k ≡ Some (Unowned least)) × IsLeastOf fill seats k known least
  pub left : (k : ℕ) → n ≤ k → slice_get now k ≡ slice_get old k
  pub owned : (k owner : ℕ) (region : Region) → slice_get now k ≡ Some (Owned owner region) → slice_get old k ≡ Some (Owned owner region)

pub joins-none : (fill : Kind) (seats : List MutatorSeat) (old : List BlockNote) → JoinsBelow fill seats old old 0
joins-none fill seats old = record {
  len = refl;
  done = λ k known below is. absurd (omega arith);
  left = λ k from. refl;
  owned = λ k owner region is. is;
}

-- the next block has a note of another kind
pub joins-past : (fill : Kind) (seats : List MutatorSeat) (old now : List BlockNote) (n owner : ℕ) (region : Region) → slice_get now n ≡ Some (Owned owner region) → JoinsBelow fill seats old now n → JoinsBelow fill seats old now (n + 1)
joins-past fill seats old now n owner region note is = record {
  len = is.len;
  done = λ k known below was. elim (cases_eq k n) as (λ _. (least : ℕ) × (slice_get now k ≡ Some (Unowned least)) × IsLeastOf fill seats k known least) [
    | inl here ↦ absurd (let wrong : Some (Unowned known) ≡ Some (Owned owner region) = sym was ∙ ap (slice_get old) here ∙ is.owned n owner region note in cc)
    | inr away ↦ is.done k known (let a : k ≢ n = away in omega arith) was
  ];
  left = λ k from. is.left k (omega arith);
  owned = is.owned;
}

pub joins-next : (fill : Kind) (seats : List MutatorSeat) (old now later : List BlockNote) (n known least : ℕ) → slice_get now n ≡ Some (Unowned known) → IsLeastOf fill seats n known least → ChangesAt now later n (Unowned least)
    → JoinsBelow fill seats old now n → JoinsBelow fill seats old later (n + 1)
joins-next fill seats old now later n known least note are changes is = record {
  len = changes.len ∙ is.len;
  done = λ k before below was. elim (cases_eq k n) as (λ _. (m : ℕ) × (slice_get later k ≡ Some (Unowned m)) × IsLeastOf fill seats k before m) [
    | inl here ↦ (let e : Some (Unowned before) ≡ Some (Unowned known) = sym was ∙ ap (slice_get old) here ∙ sym (is.left n (omega arith)) ∙ note in
        let same : before ≡ known = cc in
        (least, ap (slice_get later) here ∙ changes.here, subst (λ (q : ℕ). IsLeastOf fill seats q before least) (sym here) (subst (λ (q : ℕ). IsLeastOf fill seats n q least) (sym same) are)))
    | inr away ↦ (let a : k ≢ n = away in let before-done = is.done k before (omega arith) was in (before-done.0, changes.others k a ∙ before-done.1, before-done.2))
  ];
  left = λ k from. changes.others k (λ same. omega arith) ∙ is.left k (omega arith);
  owned = λ k owner region read. elim (changes-cases now later n (Unowned least) changes k (Owned owner region) read) as (λ _. slice_get old k ≡ Some (Owned owner region)) [
    | inl here ↦ absurd (let wrong : Owned owner region ≡ Unowned least = here.1 in cc)
    | inr other ↦ is.owned k owner region other.1
  ];
}

pub joins-all : (fill : Kind) (seats : List MutatorSeat) (old now : List BlockNote) (n : ℕ) → length old ≤ n → JoinsBelow fill seats old now n → JoinsNotes fill seats old now
joins-all fill seats old now n all is = record {
  len = is.len;
  each = λ k known was. let below = get-below old k (Unowned known) was in is.done k known (omega arith) was;
}
