-- Registers and globals that are copied.
use Rattle.std.proofs.Common.{ap, ◌≡◌, ℕ, refl, ◌∙◌, None}
use Rattle.ideal_heap.specs.declared.command.Command.TheVariants as c
use Rattle.ideal_heap.specs.declared.reply.Reply.TheVariants as r
use Rattle.ideal_heap.specs.Ideal.{IdealHeap, global_reply, step}
use Rattle.ideal_heap.proofs.UpdateLemmas.{at_number-same}
use Rattle.programs.specs.Contents.{number_of_object, field_in, number_of, field_in_heap}
use Rattle.programs.proofs.AccessLemmas.{register-same}
use Rattle.programs.proofs.FootprintLemmas.{numbers-stay, fields-stay}

pub moved : (h : IdealHeap) (m d s : ℕ) → (step h m (c.Move d s)).1.registers m d ≡ h.registers m s
unfolding step
moved h m d s = register-same h m d (h.registers m s)

pub dropped : (h : IdealHeap) (m s : ℕ) → (step h m (c.DropReg s)).1.registers m s ≡ None
unfolding step
dropped h m s = register-same h m s None

pub loaded : (h : IdealHeap) (m d g : ℕ) → (step h m (c.Load d g)).1.registers m d ≡ h.globals g
unfolding step
loaded h m d g = register-same h m d (h.globals g)

pub shared : (h : IdealHeap) (m g s : ℕ) → (step h m (c.Share g s)).1.globals g ≡ h.registers m s
unfolding step
shared h m g s = at_number-same h.globals g (h.registers m s)

pub move : (h : IdealHeap) (m d s : ℕ) → (step h m (c.Move d s)).0 ≡ r.Done
unfolding step
move h m d s = refl

pub drop-register : (h : IdealHeap) (m s : ℕ) → (step h m (c.DropReg s)).0 ≡ r.Done
unfolding step
drop-register h m s = refl

pub load : (h : IdealHeap) (m d g : ℕ) → (step h m (c.Load d g)).0 ≡ global_reply (h.globals g)
unfolding step
load h m d g = refl

pub share : (h : IdealHeap) (m g s : ℕ) → (step h m (c.Share g s)).0 ≡ r.Done
unfolding step
share h m g s = refl

-- the object with its numbers and references

pub move-number : (h : IdealHeap) (m d s j : ℕ) → number_of (step h m (c.Move d s)).1 m d j ≡ number_of h m s j
move-number h m d s j = ap (λ o. number_of_object (step h m (c.Move d s)).1 o j) (moved h m d s) ∙ numbers-stay h m (c.Move d s) (h.registers m s) j (λ changes hit. hit)

pub move-field : (h : IdealHeap) (m d s i : ℕ) → field_in_heap (step h m (c.Move d s)).1 m d i ≡ field_in_heap h m s i
move-field h m d s i = ap (λ o. field_in (step h m (c.Move d s)).1 o i) (moved h m d s) ∙ fields-stay h m (c.Move d s) (h.registers m s) i (λ changes hit. hit)

pub load-number : (h : IdealHeap) (m d g j : ℕ) → number_of (step h m (c.Load d g)).1 m d j ≡ number_of_object h (h.globals g) j
load-number h m d g j = ap (λ o. number_of_object (step h m (c.Load d g)).1 o j) (loaded h m d g) ∙ numbers-stay h m (c.Load d g) (h.globals g) j (λ changes hit. hit)

pub load-field : (h : IdealHeap) (m d g i : ℕ) → field_in_heap (step h m (c.Load d g)).1 m d i ≡ field_in h (h.globals g) i
load-field h m d g i = ap (λ o. field_in (step h m (c.Load d g)).1 o i) (loaded h m d g) ∙ fields-stay h m (c.Load d g) (h.globals g) i (λ changes hit. hit)

pub share-number : (h : IdealHeap) (m g s j : ℕ) → number_of_object (step h m (c.Share g s)).1 ((step h m (c.Share g s)).1.globals g) j ≡ number_of h m s j
share-number h m g s j = ap (λ o. number_of_object (step h m (c.Share g s)).1 o j) (shared h m g s) ∙ numbers-stay h m (c.Share g s) (h.registers m s) j (λ changes hit. hit)

pub share-field : (h : IdealHeap) (m g s i : ℕ) → field_in (step h m (c.Share g s)).1 ((step h m (c.Share g s)).1.globals g) i ≡ field_in_heap h m s i
share-field h m g s i = ap (λ o. field_in (step h m (c.Share g s)).1 o i) (shared h m g s) ∙ fields-stay h m (c.Share g s) (h.registers m s) i (λ changes hit. hit)
