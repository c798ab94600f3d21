use Rattle.std.proofs.Common.{◌≡◌, ℕ, ◌+◌, ◌^◌, ◌<◌, ◌≤◌, List, ◌∷◌, ◌++◌, length, Result, Ok, Err, IfOk, arith}
use Rattle.std.proofs.lemmas.List.{length-append}
use Rattle.std.proofs.lemmas.List.Sorted.{IsPermutation-refl, length_permutation}
use Rattle.std.specs.List.Sorted.{IsPermutation}
use Rattle.work_packets.specs.declared.packet.Packet.{Packet}
use Rattle.pools.proofs.tests.TallyWorkerPacketWorkerU32.TheImpl.Goals as goal

abbrev Counts : ℕ → ℕ → ℕ → List (Packet ℕ) → Type 0
Counts most waiting left ps = (length ps ≡ waiting) × (waiting + left ≤ most) × (most < 2 ^ 64)

counts-on : (most waiting left waiting' left' : ℕ) (p : Packet ℕ) (pushed rest qs : List (Packet ℕ)) → left' + length pushed ≤ left → waiting' + 1 ≡ waiting + length pushed
    → Counts most waiting left (p ∷ rest) → IsPermutation (pushed ++ rest) qs → Counts most waiting' left' qs
counts-on most waiting left waiting' left' p pushed rest qs fewer count h e =
    let all : length (p ∷ rest) ≡ waiting = h.0 in let bound : waiting + left ≤ most = h.1 in
    let same : length qs ≡ length (pushed ++ rest) = length_permutation _ _ e in
    let sum : length (pushed ++ rest) ≡ length pushed + length rest = length-append pushed rest in
    (omega arith, omega arith, h.2)

module _ {A E : Type 0} where
  if-both : (r : Result A E) (P Q R : A → Type 0) → ((x : A) → P x → Q x → R x) → IfOk r P → IfOk r Q → IfOk r R
  if-both (Ok x) P Q R f h k = f x h k
  if-both (Err e) P Q R f h k = tt

pub run-asks : goal.run-asks
run-asks x c =
    let h = c.requires.awaited.2 _ (IsPermutation-refl _) in
    let all : length (c.args.p ∷ c.requires.awaited.1) ≡ c.args.self.now.waiting = h.0 in
    let bound : c.args.self.now.waiting + c.args.self.now.trees.left ≤ c.requires.awaited.0 = h.1 in
    let most : c.requires.awaited.0 < 2 ^ 64 = h.2 in
    record { takes = c.requires.takes; items = c.requires.items; empty = c.requires.empty; awaited = (omega arith, omega arith) }

pub run-tells : goal.run-tells
run-tells x c = record {
  home = c.ensures.home;
  step = c.ensures.step;
  left = c.ensures.left;
  takes = c.ensures.takes;
  items = c.ensures.items;
  order = c.ensures.order;
  awaits = if-both c.result _ _ _ (λ r fewer count start rest h qs e. counts-on start _ _ _ _ c.args.p c.new.pushed.now.items rest qs fewer count (h _ (IsPermutation-refl _)) e) c.ensures.left c.ensures.awaits;
}
