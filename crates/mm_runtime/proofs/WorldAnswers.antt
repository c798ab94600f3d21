-- From what a world's calls promise to the answers of a part.
use Rattle.std.proofs.Common.{◌≡◌, refl, sym, ◌∙◌, ap, subst, ℕ, Bool, true, false, ◌&&◌, List, [], ◌∷◌, ◌++◌, map}
use Rattle.std.specs.Prelude.{not}
use Rattle.heap_layout.specs.declared.block.Kind.TheVariants as kinds
use Rattle.ideal_heap.specs.declared.command.Command.{Command}
use Rattle.ideal_heap.specs.declared.reply.Reply.{Reply}
use Rattle.ideal_heap.specs.Runs.{entry}
use Rattle.object_model.specs.Objects.{HeapState, has_kind}
use Rattle.mutator_core.specs.Logs.{history_of}
use Rattle.mutator_calls.specs.Effects.{Effect}
use Rattle.sessions.specs.Plans.{Rules}
use Rattle.managed_heap.specs.Worlds.{PlainWorld, births_of, ticket_of, is_in_list, stop_after, heap_of_world, mutator_number_at, stop_word, epoch_allowance, IsOpen, SamePlaces, AddsEntries, Grants, LeavesRest, HasEffect}
use Rattle.stored_replies.specs.Replies.{Replies}
use Rattle.mm_runtime.specs.Parts.{AnswersMutator, GetsReply}

-- the heap has as many blocks as the epoch's first one, and the allowance is the epoch's
pub blocks-same : {P : Type 0} {rules : Rules} (old new : PlainWorld P) (es : List _) → IsOpen rules old → AddsEntries old es new
    → (heap_of_world new).blocks ≡ (heap_of_world old).blocks
blocks-same old new es is adds =
    let now = is.between_calls.some in
    let later = adds now.epoch now.ideal (history_of now.epoch now.log) (record { log = now.log; at = now.at; history = refl }) in
    ap (λ (s : HeapState). s.blocks) later.at.heap ∙ sym (ap (λ (s : HeapState). s.blocks) now.at.heap)

pub allowance-same : {P : Type 0} {rules : Rules} (old new : PlainWorld P) (es : List _) → IsOpen rules old → AddsEntries old es new
    → epoch_allowance new ≡ epoch_allowance old
allowance-same old new es is adds =
    let now = is.between_calls.some in
    let later = adds now.epoch now.ideal (history_of now.epoch now.log) (record { log = now.log; at = now.at; history = refl }) in
    later.at.allowed ∙ sym now.at.allowed

and-first : (a b : Bool) → (a && b) ≡ true → a ≡ true
and-first true b e = refl
and-first false b e = e

-- steps of this effect
pub answers-effect : {P : Type 0} {rules : Rules} (old new : PlainWorld P) (m : ℕ) (e : Effect) (granted : List ℕ) → IsOpen rules old → IsOpen rules new → SamePlaces old new
    → AddsEntries old (map (λ x. entry (mutator_number_at old m) x.command x.reply) e.entries) new → Grants old granted new → LeavesRest old m e new
    → AnswersMutator rules old m e.entries new
answers-effect old new m e granted is_old is_new places history grants rest = record {
  is_open = is_new;
  places = places;
  history = history;
  births = rest.births;
  others = λ k other. let same = rest.others k other in (ap ticket_of same.1, ap births_of same.0);
  blocks = blocks-same old new _ is_old history;
  free = λ k free. and-first (has_kind (heap_of_world old) k kinds.Free) (not (is_in_list granted k)) (sym (grants.kind k) ∙ free);
  allowance = allowance-same old new _ is_old history;
}

-- one call that allocates nothing
pub answers-enter : {P : Type 0} {rules : Rules} (old new : PlainWorld P) (m : ℕ) (command given : Command) (reply : Reply) (e : Effect) → command ≡ given
    → e.entries ≡ record { command = given; reply = reply } ∷ [] → IsOpen rules old → HasEffect rules old m e new
    → AnswersMutator rules old m (record { command = command; reply = reply } ∷ []) new
answers-enter {P} {rules} old new m command given reply e same entries is_old call =
    subst (λ (x : Command). AnswersMutator rules old m (record { command = x; reply = reply } ∷ []) new) (sym same)
    (subst (λ es. AnswersMutator rules old m es new) entries
    (answers-effect old new m e e.granted is_old call.stays.is_open call.stays.places call.history call.granted call.rest))

-- its reply goes to the replies
pub gets-entered : {P : Type 0} {rules : Rules} (old new : PlainWorld P) (m : ℕ) (command given : Command) (reply : Reply) (e : Effect) (before after : Replies) → command ≡ given
    → e.entries ≡ record { command = given; reply = reply } ∷ [] → e.raised ≡ false → IsOpen rules old → HasEffect rules old m e new
    → after.items ≡ before.items ++ reply ∷ [] → after.capacity ≡ before.capacity → GetsReply rules old m command before new after
gets-entered old new m command given reply e before after same entries calm is_old call items capacity = record {
  reply = reply;
  answers = answers-enter old new m command given reply e same entries is_old call;
  items = items;
  capacity = capacity;
  stop = call.rest.stop ∙ ap (λ b. stop_after b (mutator_number_at old m) (stop_word old)) calm;
}
