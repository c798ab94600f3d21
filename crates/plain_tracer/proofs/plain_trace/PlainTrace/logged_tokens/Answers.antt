use Rattle.std.proofs.Common.{◌≡◌, ℕ, ◌<◌, ◌≤◌, ◌∷◌, [], ◌++◌, List, length, map, take, sym, ap, ◌∙◌, subst, arith, get_or}
use Rattle.std.specs.Prelude.{vec_capacity, vec_len}
use Rattle.std.proofs.lemmas.List.{map_more}
use Rattle.object_model.specs.Times.{times}
use Rattle.plain_tracer.specs.TokenRights.{logged_token}
use Rattle.plain_tracer.proofs.ListedObjects.{listed-held, times-at}
use Rattle.plain_tracer.proofs.plain_trace.PlainTrace.logged_tokens.Goals as goal

-- the object is one of the list
listed : (l : List ℕ) (i x n : ℕ) → x ≡ get_or l i x → i < n → n ≡ length l → 0 < times x l
listed l i x n is less long = subst (λ y. 0 < times y l) (sym is) (times-at l i x (subst (λ m. i < m) long less))

pub with_shape-requires : goal.with_shape-requires
with_shape-requires c = let r = c.requires in record {
  setup = r.setup;
  events = r.events;
  view = r.view;
  tracks = r.tracks;
  right = listed-held r.setup r.events c.args.self.now r.view r.tracks c.index-object.result.now
      (listed c.args.self.now.run.logged.items c.loop-place.place c.index-object.result.now c.len-count.result c.index-object.ensures c.loop-place-test.true
      (c.len-count.ensures ∙ c.args.self.now.run.logged.ok.0));
}

pub loop-place-preserved : goal.loop-place-preserved
loop-place-preserved c =
    let t = c.args.self.now in
    let l = t.run.logged.items in
    let x = c.index-object.result.now in
    let long : c.len-count.result ≡ length l = c.len-count.ensures ∙ t.run.logged.ok.0 in
    let made = c.loop-place.invariant in
    let before : vec_len c.loop-place.tokens ≡ c.loop-place.place = made.1 in
    let room : c.len-count.result ≤ vec_capacity c.loop-place.tokens = made.2 in (
      (λ p es v tracks. c.push_reserved.ensures.items ∙ ap (λ ts. ts ++ c.with_shape.result ∷ []) (made.0 p es v tracks)
          ∙ ap (λ g. map (logged_token p) (take c.loop-place.place l) ++ g ∷ [])
          (c.with_shape.ensures p es v tracks (listed-held p es t v tracks x (listed l c.loop-place.place x c.len-count.result c.index-object.ensures c.loop-place-test.true long))
          ∙ ap (logged_token p) c.index-object.ensures)
          ∙ sym (map_more (logged_token p) l c.loop-place.place x (subst (λ n. c.loop-place.place < n) long c.loop-place-test.true))),
      omega (arith, c.push_reserved.ensures.len),
      omega (arith, c.push_reserved.ensures.capacity),
    )
