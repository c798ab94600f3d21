use Rattle.std.proofs.Common.{◌+◌, slice_index_or, length, take, sym, ap, ◌∙◌, subst}
use Rattle.std.proofs.lemmas.List.{take_more}
use Rattle.heap_layout.specs.Zones.{row_words, IsAddress}
use Rattle.object_model.specs.Objects.{state_of}
use Rattle.plain_tracer.proofs.ListedObjects.{set-length, marks-more, times-at}
use Rattle.plain_tracer.proofs.plain_trace.set_unlogs.Goals as goal

pub set_unlog-requires-clause-extent : goal.set_unlog-requires-clause-extent
set_unlog-requires-clause-extent c =
    ap (λ h. length h.words) c.loop-place.invariant ∙ set-length (state_of c.args.row.now).blocks (take c.loop-place.place c.args.objects.now) (state_of c.args.row.now).words
    ∙ c.requires.extent ∙ ap (λ h. row_words h.blocks) (sym c.loop-place.invariant)

pub set_unlog-requires-clause-address : goal.set_unlog-requires-clause-address
set_unlog-requires-clause-address c = subst (λ b. IsAddress b (slice_index_or c.args.objects.now c.loop-place.place 0)) (ap (λ h. h.blocks) (sym c.loop-place.invariant))
    (c.requires.objects _ (times-at c.args.objects.now c.loop-place.place 0 c.loop-place-test.true))

pub loop-place-preserved : goal.loop-place-preserved
loop-place-preserved c = marks-more (state_of c.args.row.now) (state_of c.set_unlog.new.row) (state_of c.loop-place.row) (take c.loop-place.place c.args.objects.now)
    (take (c.loop-place.place + 1) c.args.objects.now) _ c.set_unlog.ensures c.loop-place.invariant (take_more c.args.objects.now c.loop-place.place 0 c.loop-place-test.true)
