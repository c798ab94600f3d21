-- Which unlog bits a store changes.
use Rattle.std.proofs.Common.{◌≡◌, ◌≢◌, refl, sym, ◌∙◌, ap, subst, ℕ, inl, inr, List, [], ◌∷◌, Bool, true, false, ◌&&◌, ◌||◌, not, IsTrue, true≢false, eq-eqb, ne_eqb}
use Rattle.std.proofs.lemmas.Bool.{cases_eq, and_parts, and_right}
use Rattle.ideal_heap.specs.declared.reply.Reply.{Reply}
use Rattle.ideal_heap.specs.declared.reply.Reply.TheVariants as replies
use Rattle.object_model.specs.Objects.{is_unlogged}
use Rattle.sessions.specs.Plans.{Rules}
use Rattle.plain_row.specs.Worlds.{is_in_list}
use Rattle.plain_world.specs.declared.plain_world.PlainWorld.{PlainWorld}
use Rattle.plain_world.specs.Calls.{heap_of_world, register_in, IsOldUnlogged, LogsStore, nothing_logged, object_logged, EntersStore}

one-logged : {P : Type 0} (old : PlainWorld P) (a : ℕ) (reply : Reply) (l : List ℕ) → LogsStore old a reply l → reply ≡ replies.Done → IsOldUnlogged old a → l ≡ a ∷ []
one-logged old a reply l (nothing_logged none unless) done is = absurd (unless done is)
one-logged old a reply l (object_logged one made was) done is = one

-- what a store logs is its object
listed : {P : Type 0} (old : PlainWorld P) (a : ℕ) (reply : Reply) (l : List ℕ) → LogsStore old a reply l → (x : ℕ) → is_in_list l x ≡ true → (x ≡ a) × (reply ≡ replies.Done) × IsOldUnlogged old x
listed old a reply l (nothing_logged none unless) x among = absurd (true≢false (sym among ∙ ap (λ (xs : List ℕ). is_in_list xs x) none))
listed old a reply l (object_logged one made was) x among = elim (cases_eq x a) as (λ _. (x ≡ a) × (reply ≡ replies.Done) × IsOldUnlogged old x) [
  | inl same ↦ (same, made, subst (IsOldUnlogged old) (sym same) was)
  | inr other ↦ absurd (true≢false (sym among ∙ ap (λ (xs : List ℕ). is_in_list xs x) one ∙ ap (λ (b : Bool). b || false) (ne_eqb x a other)))
]

hidden : (set listed now : Bool) → now ≡ (set && not listed) → set ≡ true → now ≡ false → listed ≡ true
hidden true true now is was clear = refl
hidden true false now is was clear = absurd (true≢false (sym is ∙ clear))
hidden false listed now is was clear = absurd (true≢false (sym was))

module _ {P : Type 0} (rules : Rules) (old new : PlainWorld P) (place s i v : ℕ) (reply : Reply) (store : EntersStore rules old place s i v reply new) where
  abbrev a : ℕ
  a = register_in old place s

  pub logs-object : reply ≡ replies.Done → IsOldUnlogged old a → is_unlogged (heap_of_world new) a ≡ false
  logs-object done is =
      store.call.logged a
      ∙ ap (λ (l : List ℕ). is_unlogged (heap_of_world old) a && not (is_in_list l a)) (one-logged old a reply store.logged store.barrier done is)
      ∙ and_right (is_unlogged (heap_of_world old) a) _ (ap (λ (b : Bool). not (b || false)) (eq-eqb a a refl))

  pub sets-none : (x : ℕ) → IsTrue (is_unlogged (heap_of_world new) x) → IsTrue (is_unlogged (heap_of_world old) x)
  sets-none x set = (and_parts (is_unlogged (heap_of_world old) x) (not (is_in_list store.logged x)) (sym (store.call.logged x) ∙ set)).0

  pub clears-one : (x : ℕ) → IsTrue (is_unlogged (heap_of_world old) x) → is_unlogged (heap_of_world new) x ≡ false → (x ≡ a) × (reply ≡ replies.Done) × IsOldUnlogged old x
  clears-one x set clear = listed old a reply store.logged store.barrier x
      (hidden (is_unlogged (heap_of_world old) x) (is_in_list store.logged x) (is_unlogged (heap_of_world new) x) (store.call.logged x) set clear)
