use Rattle.std.proofs.Common.{◌≡◌, ◌+◌, ◌*◌, ◌^◌, ◌<◌, ◌≤◌, [], ◌∷◌, ◌++◌, All, length, length-append, refl, sym, ap, ◌∙◌, subst, arith, append-nil, append_assoc}
use Rattle.std.specs.Prelude.{count_by, sum_by}
use Rattle.std.proofs.lemmas.List.Elements.{All-nil, All-push}
use Rattle.std.proofs.lemmas.List.Sorted.{IsPermutation-refl}
use Rattle.std.proofs.lemmas.List.Sums.{sum_by-cons}
use Rattle.std.specs.List.Sorted.{IsPermutation}
use Rattle.object_model.specs.Times.{one_if}
use Rattle.plain_tracer.specs.declared.tokens.Grey.{Grey}
use Rattle.trace_core.proofs.CountedRights.{count-cons}
use Rattle.collector.specs.declared.item.Item.TheVariants.{Object}
use Rattle.collector.specs.Items.{tokens_of, IsObject}
use Rattle.collector.specs.Tallies.{has_moved}
use Rattle.collector.proofs.HandedOn.{one-token-more, shaped-none, shaped-more, last-reached}
use Rattle.plain_tracer.proofs.TracedObjects.{one-if-few}
use Rattle.collector.proofs.packet_tracer.fill.Goals as goal

pub grey-grey-requires : goal.grey-grey-requires
grey-grey-requires c = let t = c.requires.tracing in record {
  setup = t.setup;
  events = t.events;
  view = t.view;
  tracks = t.tracks;
  right = last-reached t.setup t.view c.pop.new.self.items c.in-Some.reached c.loop-won.invariant.tokens.0 c.args.won.now.items
      (c.loop-won.invariant.tokens.1 ∙ ap (λ ws. ws ++ c.loop-won.invariant.tokens.0) c.in-Some.ensures.items) t.right;
}

pub loop-won-preserved : goal.loop-won-preserved
loop-won-preserved c =
    let invariant = c.loop-won.invariant in
    let grey = c.grey-grey.result in
    let reached = c.in-Some.reached in
    let greys = invariant.tokens.2 in
    let left = c.pop.new.self.items in
    let items = c.loop-won.items.items in
    let pushed : c.push_reserved.new.self.items ≡ c.loop-won.items.items ++ Object c.grey-grey.result ∷ [] = c.push_reserved.ensures.items in
    let longer : length c.push_reserved.new.self.items ≡ length c.loop-won.items.items + 1 = ap length pushed ∙ length-append items (Object grey ∷ []) in
    let as_many : length c.loop-won.items.items ≡ length c.loop-won.invariant.tokens.2 = invariant.tokens.5 in
    let byte : c.moves-moved.result ≡ one_if (has_moved c.grey-grey.result) = c.moves-moved.ensures in
    let once : one_if (has_moved c.grey-grey.result) ≤ 1 = one-if-few (has_moved grey) in
    let more : count_by has_moved (c.grey-grey.result ∷ c.loop-won.invariant.tokens.2) ≡ one_if (has_moved c.grey-grey.result) + count_by has_moved c.loop-won.invariant.tokens.2 =
    count-cons has_moved grey greys in
    let moved : c.loop-won.moved ≡ count_by has_moved c.loop-won.invariant.tokens.2 = invariant.tokens.6 in
    let few : c.loop-won.moved ≤ length c.loop-won.items.items = invariant.moved in
    let words : c.loop-won.words ≤ length c.loop-won.items.items * 2 ^ 32 = invariant.words in
    let sum : c.loop-won.words ≡ sum_by (λ (g : Grey). g.size) c.loop-won.invariant.tokens.2 = invariant.tokens.7 in
    let longer-by : sum_by (λ (g : Grey). g.size) (c.grey-grey.result ∷ c.loop-won.invariant.tokens.2)
    ≡ c.grey-grey.result.size + sum_by (λ (g : Grey). g.size) c.loop-won.invariant.tokens.2 = sum_by-cons (λ (g : Grey). g.size) grey greys in
    let size : c.size.result ≡ c.grey-grey.result.size = c.size.ensures in
    let low : c.size.result < 2 ^ 32 = c.size.type_inv in
    record {
      tokens = (
        reached ∷ invariant.tokens.0,
        invariant.tokens.1 ∙ ap (λ ws. ws ++ c.loop-won.invariant.tokens.0) c.in-Some.ensures.items ∙ append_assoc left (reached ∷ []) invariant.tokens.0,
        grey ∷ greys,
        shaped-more c.args.tracer.now reached invariant.tokens.0 grey greys c.grey-grey.ensures invariant.tokens.3,
        subst (λ is. IsPermutation (c.grey-grey.result ∷ c.loop-won.invariant.tokens.2) (tokens_of is)) (sym pushed)
            (one-token-more grey greys items invariant.tokens.4),
        longer ∙ omega arith,
        omega arith,
        omega arith,
      );
      objects = subst (All IsObject) (sym pushed) (All-push IsObject items (Object grey) invariant.objects tt);
      few = omega arith;
      moved = omega arith;
      words = omega arith;
      room = subst (λ n. 64 ≤ n) (sym c.push_reserved.ensures.capacity) invariant.room;
    }

pub loop-won-init : goal.loop-won-init
loop-won-init c = let none : length c.args.items.now.items ≡ 0 = ap length c.requires.none in record {
  tokens = (
    [],
    sym (append-nil c.args.won.now.items),
    [],
    shaped-none c.args.tracer.now,
    subst (λ is. IsPermutation [] (tokens_of is)) (sym c.requires.none) (IsPermutation-refl []),
    none,
    refl,
    refl,
  );
  objects = subst (All IsObject) (sym c.requires.none) (All-nil IsObject);
  few = omega arith;
  moved = omega arith;
  words = omega arith;
  room = c.requires.room;
}
