-- Births and pins.
use Rattle.std.proofs.Common.{ap, ◌≡◌, ℕ, ◌+◌, true, false, refl, sym, ◌∙◌, Option, Some, if◌then◌else◌}
use Rattle.ideal_heap.specs.declared.name.Name.{Name}
use Rattle.ideal_heap.specs.declared.command.Command.{Command}
use Rattle.ideal_heap.specs.declared.command.Command.TheVariants as c
use Rattle.ideal_heap.specs.declared.reply.Reply.TheVariants as r
use Rattle.ideal_heap.specs.Commands.{is_new}
use Rattle.ideal_heap.specs.Ideal.{IdealHeap, step}
use Rattle.ideal_heap.proofs.UpdateLemmas.{at_name-same, at_name-other, at_number-same, at_number-other}
use Rattle.ideal_heap.proofs.StepLemmas.{by_num, by_ref, by_object, object-some, getting, putting, reading, writing, adding, swapping, pinning, unpinning}
use Rattle.programs.specs.Footprints.{pinned_by}
use Rattle.programs.proofs.FootprintLemmas.{by_swap}

pub births-more : (h : IdealHeap) (m d refs nums : ℕ) → (step h m (c.New d refs nums)).1.births m ≡ h.births m + 1
unfolding step
births-more h m d refs nums = at_number-same h.births m (h.births m + 1)

pub births-rest : (h : IdealHeap) (m : ℕ) (command : Command) (k : ℕ) → (is_new command ≡ true → k ≡ m → ⊥) → (step h m command).1.births k ≡ h.births k
unfolding step
births-rest h m (c.New d refs nums) k not = at_number-other h.births m (h.births m + 1) k (not refl)
births-rest h m (c.Get d t i) k not = by_ref (λ o. o.1.births k ≡ h.births k) h (h.registers m t) i (getting h m d i) refl refl (λ n is l. refl)
births-rest h m (c.Put t i v) k not = by_ref (λ o. o.1.births k ≡ h.births k) h (h.registers m t) i (putting h m i v) refl refl (λ n is l. refl)
births-rest h m (c.Read t j) k not = by_num (λ o. o.1.births k ≡ h.births k) h (h.registers m t) j (reading h j) refl refl (λ n is l. refl)
births-rest h m (c.Write t j v) k not = by_num (λ o. o.1.births k ≡ h.births k) h (h.registers m t) j (writing h j v) refl refl (λ n is l. refl)
births-rest h m (c.Add t j v) k not = by_num (λ o. o.1.births k ≡ h.births k) h (h.registers m t) j (adding h j v) refl refl (λ n is l. refl)
births-rest h m (c.Swap t j u v) k not = by_num (λ o. o.1.births k ≡ h.births k) h (h.registers m t) j (swapping h j u v) refl refl
    (λ n is l. by_swap (λ o. o.1.births k ≡ h.births k) h j u v n refl refl)
births-rest h m (c.Move d t) k not = refl
births-rest h m (c.DropReg d) k not = refl
births-rest h m (c.Load d g) k not = refl
births-rest h m (c.Share g t) k not = refl
births-rest h m (c.Pin t) k not = by_object (λ o. o.1.births k ≡ h.births k) h (h.registers m t) (pinning h) refl (λ n is. refl)
births-rest h m (c.Unpin t) k not = by_object (λ o. o.1.births k ≡ h.births k) h (h.registers m t) (unpinning h) refl (λ n is. refl)
births-rest h m c.Gc k not = refl
births-rest h m c.Meet k not = refl

pub pinned : (h : IdealHeap) (m s : ℕ) (n : Name) → h.registers m s ≡ Some n → (step h m (c.Pin s)).1.pinned n ≡ true
unfolding step
pinned h m s n is = ap (λ o. o.1.pinned n) (object-some h (h.registers m s) (pinning h) n is) ∙ at_name-same h.pinned n true

pub unpinned : (h : IdealHeap) (m s : ℕ) (n : Name) → h.registers m s ≡ Some n → (step h m (c.Unpin s)).1.pinned n ≡ false
unfolding step
unpinned h m s n is = ap (λ o. o.1.pinned n) (object-some h (h.registers m s) (unpinning h) n is) ∙ at_name-same h.pinned n false

pub pin : (h : IdealHeap) (m s : ℕ) (n : Name) → h.registers m s ≡ Some n → h.pinned n ≡ false → (step h m (c.Pin s)).0 ≡ r.Yes
unfolding step
pin h m s n is was = ap (λ o. o.0) (object-some h (h.registers m s) (pinning h) n is) ∙ ap (λ b. if b then r.No else r.Yes) was

pub pin-again : (h : IdealHeap) (m s : ℕ) (n : Name) → h.registers m s ≡ Some n → h.pinned n ≡ true → (step h m (c.Pin s)).0 ≡ r.No
unfolding step
pin-again h m s n is was = ap (λ o. o.0) (object-some h (h.registers m s) (pinning h) n is) ∙ ap (λ b. if b then r.No else r.Yes) was

pub unpin : (h : IdealHeap) (m s : ℕ) (n : Name) → h.registers m s ≡ Some n → h.pinned n ≡ true → (step h m (c.Unpin s)).0 ≡ r.Yes
unfolding step
unpin h m s n is was = ap (λ o. o.0) (object-some h (h.registers m s) (unpinning h) n is) ∙ ap (λ b. if b then r.Yes else r.No) was

pub unpin-again : (h : IdealHeap) (m s : ℕ) (n : Name) → h.registers m s ≡ Some n → h.pinned n ≡ false → (step h m (c.Unpin s)).0 ≡ r.No
unfolding step
unpin-again h m s n is was = ap (λ o. o.0) (object-some h (h.registers m s) (unpinning h) n is) ∙ ap (λ b. if b then r.Yes else r.No) was

-- the object that o names is not this one
not-this : (o : Option Name) (k n : Name) → o ≡ Some k → (o ≡ Some n → ⊥) → n ≡ k → ⊥
not-this o k n is not same = not (is ∙ ap (λ q. Some q) (sym same))

pub pins-rest : (h : IdealHeap) (m : ℕ) (command : Command) (n : Name) → (pinned_by h m command ≡ Some n → ⊥) → (step h m command).1.pinned n ≡ h.pinned n
unfolding step
pins-rest h m (c.New d refs nums) n not = refl
pins-rest h m (c.Get d t i) n not = by_ref (λ o. o.1.pinned n ≡ h.pinned n) h (h.registers m t) i (getting h m d i) refl refl (λ k is l. refl)
pins-rest h m (c.Put t i v) n not = by_ref (λ o. o.1.pinned n ≡ h.pinned n) h (h.registers m t) i (putting h m i v) refl refl (λ k is l. refl)
pins-rest h m (c.Read t j) n not = by_num (λ o. o.1.pinned n ≡ h.pinned n) h (h.registers m t) j (reading h j) refl refl (λ k is l. refl)
pins-rest h m (c.Write t j v) n not = by_num (λ o. o.1.pinned n ≡ h.pinned n) h (h.registers m t) j (writing h j v) refl refl (λ k is l. refl)
pins-rest h m (c.Add t j v) n not = by_num (λ o. o.1.pinned n ≡ h.pinned n) h (h.registers m t) j (adding h j v) refl refl (λ k is l. refl)
pins-rest h m (c.Swap t j u v) n not = by_num (λ o. o.1.pinned n ≡ h.pinned n) h (h.registers m t) j (swapping h j u v) refl refl
    (λ k is l. by_swap (λ o. o.1.pinned n ≡ h.pinned n) h j u v k refl refl)
pins-rest h m (c.Move d t) n not = refl
pins-rest h m (c.DropReg d) n not = refl
pins-rest h m (c.Load d g) n not = refl
pins-rest h m (c.Share g t) n not = refl
pins-rest h m (c.Pin t) n not = by_object (λ o. o.1.pinned n ≡ h.pinned n) h (h.registers m t) (pinning h) refl
    (λ k is. at_name-other h.pinned k true n (not-this (h.registers m t) k n is not))
pins-rest h m (c.Unpin t) n not = by_object (λ o. o.1.pinned n ≡ h.pinned n) h (h.registers m t) (unpinning h) refl
    (λ k is. at_name-other h.pinned k false n (not-this (h.registers m t) k n is not))
pins-rest h m c.Gc n not = refl
pins-rest h m c.Meet n not = refl
