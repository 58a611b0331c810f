use Rattle.std.proofs.Common.{◌≡◌, ◌<◌, ◌≤◌, map, length, IfOk, set, get_or, refl, sym, ap, subst, ◌∙◌, arith}
use lib.Seq.{map-set, map-set_same}
use Rattle.board.specs.Seated.{Seated, IsOf, Told}
use Rattle.script_run.specs.Meeting.{seen_at}
use Rattle.script_run.proofs.Meets.{as_many, read_at, tell_one, turn_next, turned, turned_all, turned_at}
use Rattle.script_run.proofs.meet.tell_all.Goals as goal

pub loop-other-init : goal.loop-other-init
loop-other-init g c = record { same = refl; told = refl; gates = refl }

pub note-requires : goal.note-requires
note-requires g c = subst (λ (x : Seated). record { fits : IsOf c.args.board.now x }) (sym c.loop-other.invariant.same) (record { fits = c.requires.fits })

pub hear-requires-clause-fits : goal.hear-requires-clause-fits
hear-requires-clause-fits g c =
    let i = c.loop-other.other-index in
    let cs = map (λ w. w.caller) c.args.others.now in
    let d = c.other-item.result in
    let S = c.args.caller.now.account.log.seen in
    let at = read_at (λ w. w.caller) c.loop-other.others (turned (seen_at S) i cs) i d c.loop-other.invariant.told ∙ turned_at (seen_at S) i cs d.caller in
    subst (λ (x : Seated). IsOf c.args.board.now x) (sym at) (c.requires.others i d.caller (omega (arith, as_many (λ w. w.caller) c.args.others.now, c.loop-other-test.true)))

pub loop-other-preserved : goal.loop-other-preserved
loop-other-preserved g c =
    let i = c.loop-other.other-index in
    let cs = map (λ w. w.caller) c.args.others.now in
    let d = c.other-item.result in
    let S = c.args.caller.now.account.log.seen in
    let at = read_at (λ w. w.caller) c.loop-other.others (turned (seen_at S) i cs) i d c.loop-other.invariant.told ∙ turned_at (seen_at S) i cs d.caller in
    let below : i < length cs = omega (arith, as_many (λ w. w.caller) c.args.others.now, c.loop-other-test.true) in
    let x = (get_or c.loop-other.others i d).caller in
    let less : x.account.log.seen ≤ S = subst (λ (y : Seated). y.account.log.seen ≤ S) (sym at) (c.requires.most i d.caller below) in
    let told : c.unwrap-told.result.seen ≡ S =
    subst (λ r. IfOk r (λ (n : Told). n.seen ≡ c.loop-other.caller.account.log.seen)) c.unwrap-told.ensures c.note.ensures.seen
    ∙ ap (λ (y : Seated). y.account.log.seen) c.loop-other.invariant.same in
    let next = tell_one x c.hear.new.caller c.unwrap-told.result.seen S less told c.hear.ensures.after in
    record {
      same = c.note.ensures.same ∙ c.loop-other.invariant.same;
      told = map-set (λ w. w.caller) c.loop-other.others i (record { caller = c.hear.new.caller; gate = (get_or c.loop-other.others i d).gate })
          ∙ ap (λ l. set l i c.hear.new.caller) c.loop-other.invariant.told
          ∙ turn_next (seen_at S) i cs c.hear.new.caller d.caller below (next ∙ ap (λ (y : Seated). seen_at S y) at);
      gates = map-set_same (λ w. w.gate) c.loop-other.others i (record { caller = c.hear.new.caller; gate = (get_or c.loop-other.others i d).gate }) d refl ∙ c.loop-other.invariant.gates;
    }

pub returns-clause-same : goal.returns-clause-same
returns-clause-same g c = c.loop-other.invariant.same

pub returns-clause-after : goal.returns-clause-after
returns-clause-after g c = c.loop-other.invariant.told
    ∙ turned_all (seen_at c.args.caller.now.account.log.seen) c.loop-other.other-index (map (λ w. w.caller) c.args.others.now)
    (omega (arith, as_many (λ w. w.caller) c.args.others.now, c.loop-other-test.false))

pub returns-clause-gates : goal.returns-clause-gates
returns-clause-gates g c = c.loop-other.invariant.gates
