use Rattle.std.proofs.Common.{◌≡◌, List, [], ◌∷◌, ◌++◌, map, sym, subst}
use Rattle.plain_tracer.specs.TokenRights.{grey_of}
use Rattle.plain_tracer.specs.Tracers.{SetsGlobal, ScansFields}
use Rattle.plain_tracer.specs.declared.tokens.Grey.{Grey}
use Rattle.collector.specs.Serving.{HasRights, ServesItems}
use Rattle.collector.proofs.ServedItems.{global-right, serves-global, grey-token, serves-object}
use Rattle.collector.proofs.packet_tracer.PacketTracer.serve.Goals as goal

pub reach_global-requires-clause-tracing : goal.reach_global-requires-clause-tracing
reach_global-requires-clause-tracing c = let t = c.requires in
    let old = c.args.self.now in
    record {
      setup = t.setup;
      events = t.events;
      view = t.view;
      tracks = t.tracks;
      right = (
        global-right t.setup t.events t.view old.tracer old.tracer old.roots.items [] [] c.in-Global.root
            (subst (λ item. HasRights t.setup t.view old.roots.items (item ∷ [])) c.in-Global.is t.right),
        t.right.none_won,
      );
    }

pub reach_fields-requires-clause-tracing : goal.reach_fields-requires-clause-tracing
reach_fields-requires-clause-tracing c = let t = c.requires in
    let old = c.args.self.now in
    record {
      setup = t.setup;
      events = t.events;
      view = t.view;
      tracks = t.tracks;
      right = (
        grey-token t.setup t.events t.view old.tracer old.tracer old.roots.items [] [] c.in-Object.grey
            (subst (λ item. HasRights t.setup t.view old.roots.items (item ∷ [])) c.in-Object.is t.right),
        t.right.none_won,
      );
    }

pub returns-in_ok-reserve-in-Global-clause-serves : goal.returns-in_ok-reserve-in-Global-clause-serves
returns-in_ok-reserve-in-Global-clause-serves c p es v tracks rights =
    let old = c.args.self.now in
    let root = c.in-Global.root in
    let mine = subst (λ item. HasRights p v old.roots.items (item ∷ [])) c.in-Global.is rights in
    let new = c.reach_global.new.self in
    let right = global-right p es v old.tracer old.tracer old.roots.items [] [] root mine in
    subst (λ item. (pushed : List Grey) × (map (grey_of p) c.reach_global.new.out.items ≡ map (grey_of p) c.args.self.now.won.items ++ pushed)
    × ServesItems p es v c.args.self.now.tracer c.args.self.now.roots.items (item ∷ []) c.reach_global.new.self c.args.self.now.roots.items pushed) (sym c.in-Global.is)
    (serves-global p es v old.tracer new old.roots.items (map (grey_of p) old.won.items) (map (grey_of p) c.reach_global.new.out.items) root mine
    (subst (λ out. SetsGlobal p es v c.reach_global.new.self c.in-Global.root.global (map (grey_of p) out) (map (grey_of p) c.reach_global.new.out.items)) c.in_ok-reserve-in-Global.ensures.items
    (c.reach_global.ensures.sets p es v tracks right rights.none_won)) c.reach_global.ensures.keeps.run)

pub returns-in_ok-reserve-in-Object-clause-serves : goal.returns-in_ok-reserve-in-Object-clause-serves
returns-in_ok-reserve-in-Object-clause-serves c p es v tracks rights =
    let old = c.args.self.now in
    let grey = c.in-Object.grey in
    let mine = subst (λ item. HasRights p v old.roots.items (item ∷ [])) c.in-Object.is rights in
    let new = c.reach_fields.new.self in
    let token = grey-token p es v old.tracer old.tracer old.roots.items [] [] grey mine in
    subst (λ item. (pushed : List Grey) × (map (grey_of p) c.reach_fields.new.out.items ≡ map (grey_of p) c.args.self.now.won.items ++ pushed)
    × ServesItems p es v c.args.self.now.tracer c.args.self.now.roots.items (item ∷ []) c.reach_fields.new.self c.args.self.now.roots.items pushed) (sym c.in-Object.is)
    (serves-object p es v old.tracer new old.roots.items (map (grey_of p) old.won.items) (map (grey_of p) c.reach_fields.new.out.items) grey mine old.tracer.run.lines
    (subst (λ out. ScansFields p es v c.reach_fields.new.self c.args.self.now.tracer.run.lines c.in-Object.grey c.in-Object.grey.refs (map (grey_of p) out) (map (grey_of p) c.reach_fields.new.out.items))
    c.in_ok-reserve-in-Object.ensures.items (c.reach_fields.ensures.scans p es v tracks token rights.none_won)) c.reach_fields.ensures.keeps.run
    (λ on. c.reach_fields.ensures.lines on p es v tracks token rights.none_won))
