use Rattle.std.proofs.Common.{◌≡◌, ℕ, ◌<◌, ◌++◌, ◌∷◌, [], All, List, length, map, get_or, refl, sym, ap, ◌∙◌, subst, arith}
use Rattle.std.proofs.lemmas.List.{map-append, take_more}
use Rattle.trace_core.specs.Runs.{is_nursery}
use Rattle.trace_core.specs.Views.{hits}
use Rattle.trace_core.specs.declared.run.TraceRun.{TraceRun}
use Rattle.trace_words.specs.declared.share.Share.{Share}
use Rattle.trace_words.specs.Rule.{SeatShare}
use Rattle.trace_words.specs.Shares.{gives_scan}
use Rattle.trace_table.specs.declared.tokens.Grey.{Grey}
use Rattle.trace_table.specs.Seats.{IsGrey, setup_at}
use Rattle.trace_table.specs.Ends.{left_share}
use Rattle.trace_table.proofs.SeatShares.{share-is}
use Rattle.trace_table.proofs.TokensTaken.{logged-right, logged-next, logged-held, logged-known, none-in-full, no-tokens, same-trans, same-trace, more-greys}
use Rattle.trace_table.proofs.table.TraceTable.take_logged.Goals as goal

pub logged_token-token-requires-clause-held : goal.logged_token-token-requires-clause-held
logged_token-token-requires-clause-held c = let t = c.loop-place.self in let i = c.loop-place.invariant in
    let count : c.len-count.result ≡ length t.run.logged.items = c.len-count.ensures ∙ c.args.self.now.run.logged.ok.0 ∙ ap (λ (r : TraceRun). length r.logged.items) (sym i.same.run) in
    logged-held (setup_at t) i.table.ready t.run i.table.run c.loop-place.place c.index-object.result.now (let less = c.loop-place-test.true in omega arith) c.index-object.ensures

pub logged_token-token-requires-clause-right : goal.logged_token-token-requires-clause-right
logged_token-token-requires-clause-right c = let i = c.loop-place.invariant in let k : ℕ = c.loop-place.place in let x : ℕ = c.index-object.result.now in
    let l : List ℕ = c.args.self.now.run.logged.items in
    let count : c.len-count.result ≡ length l = c.len-count.ensures ∙ c.args.self.now.run.logged.ok.0 in
    let less : k < length l = (let below = c.loop-place-test.true in omega arith) in
    let is : x ≡ get_or l k x = c.index-object.ensures ∙ ap (λ (r : TraceRun). get_or r.logged.items k x) i.same.run in
    let share = share-is _ _ i.keeper in (
      subst (λ (v : Share). 0 < hits x 0 v.grey) (sym share) (logged-right k x l (left_share c.args.self.now) less is),
      logged-known c.args.self.now c.loop-place.self.keeper.me.0 k x l refl less is share,
    )

pub loop-place-preserved : goal.loop-place-preserved
loop-place-preserved c = let i = c.loop-place.invariant in let k : ℕ = c.loop-place.place in let x : ℕ = c.index-object.result.now in let made = c.logged_token-token.ensures in
    let l : List ℕ = c.args.self.now.run.logged.items in
    let count : c.len-count.result ≡ length l = c.len-count.ensures ∙ c.args.self.now.run.logged.ok.0 in
    let less : k < length l = (let below = c.loop-place-test.true in omega arith) in
    let is : x ≡ get_or l k x = c.index-object.ensures ∙ ap (λ (r : TraceRun). get_or r.logged.items k x) i.same.run in record {
      table = made.table;
      same = same-trans _ _ _ i.same made.same;
      keeper = made.keeper ∙ ap (λ (m : SeatShare). (gives_scan x m.0, m.1)) i.keeper ∙ ap (λ (v : Share). (v, [])) (logged-next k x l (left_share c.args.self.now) less is);
      objects = ap (map (λ (g : Grey). g.object)) c.push_reserved.ensures.items ∙ map-append (λ (g : Grey). g.object) c.loop-place.tokens.items _
          ∙ ap (λ n. map (λ (g : Grey). g.object) c.loop-place.tokens.items ++ n ∷ []) (made.object ∙ is)
          ∙ ap (λ m. m ++ get_or l k x ∷ []) i.objects ∙ sym (take_more l k x less);
      rights = subst (λ m. All (IsGrey c.logged_token-token.new.self) m) (sym c.push_reserved.ensures.items)
          (more-greys c.loop-place.self c.logged_token-token.new.self c.loop-place.tokens.items c.logged_token-token.result made.same.words i.rights made.token);
      room = (let room = i.room in omega (arith, c.push_reserved.ensures.len));
      capacity = (let most = i.capacity in omega (arith, c.push_reserved.ensures.capacity));
    }

pub returns-clause-same : goal.returns-clause-same
returns-clause-same c = let same = c.loop-place.invariant.same in same-trace c.args.self.now _ same.words same.run

pub returns-clause-full : goal.returns-clause-full
returns-clause-full c = λ full. let i = c.loop-place.invariant in let t = c.args.self.now in
    let none : length t.run.logged.items ≡ 0 = ap length (none-in-full (setup_at t) c.requires.table.ready t.run c.requires.table.run (ap is_nursery full)) in
    let count : c.len-count.result ≡ length t.run.logged.items = c.len-count.ensures ∙ t.run.logged.ok.0 in
    no-tokens c.loop-place.tokens.items (let long = c.loop-place.tokens.ok.0 in let room = i.room in omega arith)
