use Rattle.std.proofs.Common.{◌≡◌, ◌<◌, map, length, IfOk, get_or, refl, sym, ap, subst, ◌∙◌, arith}
use Rattle.std.proofs.lemmas.List.{take_all}
use lib.Seq.{map-set_same}
use Rattle.board.specs.Seated.{Seated, IsOf, Told}
use Rattle.script_run.specs.Meeting.{seen_at}
use Rattle.script_run.proofs.Meets.{as_many, hear_next, is_most, most_seen, read_at, read_same}
use Rattle.script_run.proofs.meet.hear_all.Goals as goal

pub loop-other-init : goal.loop-other-init
loop-other-init g c = record { heard = refl; same = refl; gates = refl }

pub note-requires : goal.note-requires
note-requires g c =
    let i = c.loop-other.other-index in
    let cs = map (λ w. w.caller) c.args.others.now in
    let d = c.other-item.result in
    let at = read_at (λ w. w.caller) c.loop-other.others cs i d c.loop-other.invariant.same in
    record { fits = subst (λ (x : Seated). IsOf c.args.board.now x) (sym at) (c.requires.others i d.caller (omega (arith, as_many (λ w. w.caller) c.args.others.now, c.loop-other-test.true))) }

pub hear-requires-clause-fits : goal.hear-requires-clause-fits
hear-requires-clause-fits g c = subst (λ (x : Seated). IsOf c.args.board.now x) (sym c.loop-other.invariant.heard) (record { table = c.requires.fits.table; shape = c.requires.fits.shape })

pub loop-other-preserved : goal.loop-other-preserved
loop-other-preserved g c =
    let i = c.loop-other.other-index in
    let cs = map (λ w. w.caller) c.args.others.now in
    let d = c.other-item.result in
    let x = (get_or c.loop-other.others i d).caller in
    let item : d.caller ≡ x = ap (λ w. w.caller) c.other-item.is in
    let at : x ≡ get_or cs i x = read_at (λ w. w.caller) c.loop-other.others cs i d c.loop-other.invariant.same ∙ ap (λ (y : Seated). get_or cs i y) item in
    let below : i < length cs = omega (arith, as_many (λ w. w.caller) c.args.others.now, c.loop-other-test.true) in
    let told : c.unwrap-told.result.seen ≡ x.account.log.seen = subst (λ r. IfOk r (λ (n : Told). n.seen ≡ x.account.log.seen)) c.unwrap-told.ensures c.note.ensures.seen in
    record {
      heard = hear_next c.args.caller.now c.loop-other.caller c.hear.new.caller x cs i c.unwrap-told.result.seen below at told c.loop-other.invariant.heard c.hear.ensures.after;
      same = read_same (λ w. w.caller) c.loop-other.others cs i (record { caller = c.note.new.caller; gate = (get_or c.loop-other.others i d).gate }) d c.loop-other.invariant.same c.note.ensures.same;
      gates = map-set_same (λ w. w.gate) c.loop-other.others i (record { caller = c.note.new.caller; gate = (get_or c.loop-other.others i d).gate }) d refl ∙ c.loop-other.invariant.gates;
    }

pub returns-clause-after : goal.returns-clause-after
returns-clause-after g c =
    let cs = map (λ w. w.caller) c.args.others.now in
    let front = c.args.caller.now.account.log.seen in (
      most_seen front cs,
      is_most front cs,
      c.loop-other.invariant.heard
          ∙ ap (λ l. seen_at (most_seen front l) c.args.caller.now)
          (take_all c.loop-other.other-index cs (omega (arith, as_many (λ w. w.caller) c.args.others.now, c.loop-other-test.false))),
    )

pub returns-clause-same : goal.returns-clause-same
returns-clause-same g c = c.loop-other.invariant.same

pub returns-clause-gates : goal.returns-clause-gates
returns-clause-gates g c = c.loop-other.invariant.gates
