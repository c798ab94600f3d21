use Rattle.std.proofs.Common.{sym, subst, map}
use Rattle.std.proofs.lemmas.Result.{IfOk-weaker}
use Rattle.object_model.specs.Heaps.{heap_state}
use Rattle.mutator_core.specs.Machine.{Epoch}
use Rattle.block_regions.specs.Notes.{AreNotes}
use Rattle.heap_users.specs.Users.{mutator_state}
use Rattle.racing_world.proofs.Begun as begun
use Rattle.racing_tests.specs.Beginnings.{BeginsIdeal}
use Rattle.racing_tests.proofs.NotesHanded.{notes-cleared}
use Rattle.racing_tests.proofs.notes.opened.Goals as goal

pub returns-clause-ideal : goal.returns-clause-ideal
returns-clause-ideal g c = IfOk-weaker c.begin_with.result _ _
    (λ r epoch. subst BeginsIdeal (sym epoch) (begun.represents (heap_state c.args.heap) (map mutator_state c.args.mutators.items) c.args.heap.lawful c.requires.users)) c.begin_with.ensures.epoch

pub returns-clause-notes : goal.returns-clause-notes
returns-clause-notes g c = IfOk-weaker c.begin_with.result _ _
    (λ r epoch. subst (λ (p : Epoch). AreNotes g.P.Plan.rules.fill p.before c.args.notes.now) (sym epoch)
    (notes-cleared (heap_state c.args.heap) c.args.heap.lawful g.P.Plan.rules.fill g.met.P.Plan.fill_has_holes c.args.notes.now c.requires.notes)) c.begin_with.ensures.epoch

pub returns-clause-flags : goal.returns-clause-flags
returns-clause-flags g c = IfOk-weaker c.begin_with.result _ _ (λ r covers. covers c.args.notes.now.flags.items c.requires.flags) c.begin_with.ensures.covers
