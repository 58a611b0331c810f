use Rattle.std.proofs.Common.{◌≡◌, refl, sym, subst, ◌∙◌}
use Rattle.htss_defs.specs.declared.record.NamedMol.{NamedMol}
use Rattle.report_rules.specs.Answers.{taken, not_accepted}
use Rattle.board.specs.Seated.{Seated}
use Rattle.board_jobs.specs.Calls.{AreLoaded, GoesOn, HaveBegun}
use Rattle.board_jobs.proofs.Chained.{goes_on-both, loader_stays, on_err}
use Rattle.board_jobs.proofs.Loading.{begun-loaded, begun-more, loaded-more, refused-answers}
use Rattle.board_jobs.proofs.load.publish_read.Goals as goal
use Rattle.board_jobs.proofs.load.publish_read.Goals.{in-Accepted, in-Refused}

pub returns-in_err-push-clause-goes_on : goal.returns-in_err-push-clause-goes_on
returns-in_err-push-clause-goes_on g c = elim c.match-branch-2.branch [
  | in-Accepted w ↦ subst (λ (x : Seated). GoesOn c.args.board.now c.args.caller.now x) (sym w.caller-is)
      (goes_on-both c.args.board.now c.args.caller.now c.loop-place.caller w.publish_one-line.new.caller c.loop-place.invariant.goes_on w.publish_one-line.ensures.goes_on)
  | in-Refused w ↦ subst (λ (x : Seated). GoesOn c.args.board.now c.args.caller.now x) (sym w.caller-is) c.loop-place.invariant.goes_on
]

pub loop-place-preserved : goal.loop-place-preserved
loop-place-preserved g c =
    let so_far = c.loop-place.invariant in
    let kept = c.next_record.ensures.kept in
    elim c.match-branch-2.branch [
      | in-Accepted w ↦
          let on = goes_on-both c.args.board.now c.args.caller.now c.loop-place.caller w.publish_one-line.new.caller so_far.goes_on w.publish_one-line.ensures.goes_on in
          record {
            finished = kept.1 ∙ so_far.finished;
            fed = kept.0 ∙ so_far.fed;
            goes_on = subst (λ (x : Seated). GoesOn c.args.board.now c.args.caller.now x) (sym w.caller-is) on;
            loader = loader_stays c.args.caller.now c.match-branch-2.caller (subst (λ (x : Seated). x.account.who ≡ c.args.caller.now.account.who) (sym w.caller-is) on.who) c.requires.loader;
            loaded = λ start stream before.
                let took = rw w.in-Accepted.is at c.in_ok-place.ensures.taken in
                let reads = rw w.in-Accepted.is at c.in_ok-place.ensures.read in
                let one : NamedMol = record { name = w.in-Accepted.name; mol = w.in-Accepted.mol } in
                let step = w.publish_one-line.ensures.taken in
                subst (λ (x : Seated). AreLoaded c.args.board.now.shape start x.account stream c.next_record.new.self c.push.new.self.items) (sym w.caller-is)
                (loaded-more c.args.board.now.shape start c.loop-place.caller.account w.publish_one-line.new.caller.account stream c.loop-place.reader c.next_record.new.self
                c.loop-place.lines.items c.push.new.self.items c.match-branch-2.line w.in-Accepted.place (taken one step.fate)
                c.in_ok-push.ensures.items (took.0 ∙ took.1.place) reads (w.line-is ∙ step.line_is) w.publish_one-line.ensures.goes_on.who step.answers (so_far.loaded start stream before));
          }
      | in-Refused w ↦ record {
        finished = kept.1 ∙ so_far.finished;
        fed = kept.0 ∙ so_far.fed;
        goes_on = subst (λ (x : Seated). GoesOn c.args.board.now c.args.caller.now x) (sym w.caller-is) so_far.goes_on;
        loader = loader_stays c.args.caller.now c.match-branch-2.caller (subst (λ (x : Seated). x.account.who ≡ c.args.caller.now.account.who) (sym w.caller-is) so_far.goes_on.who) c.requires.loader;
        loaded = λ start stream before.
            let took = rw w.in-Refused.is at c.in_ok-place.ensures.taken in
            let reads = rw w.in-Refused.is at c.in_ok-place.ensures.read in
            let one = not_accepted w.in-Refused.line w.in-Refused.code in
            subst (λ (x : Seated). AreLoaded c.args.board.now.shape start x.account stream c.next_record.new.self c.push.new.self.items) (sym w.caller-is)
            (loaded-more c.args.board.now.shape start c.loop-place.caller.account c.loop-place.caller.account stream c.loop-place.reader c.next_record.new.self
            c.loop-place.lines.items c.push.new.self.items c.match-branch-2.line w.in-Refused.place one
            c.in_ok-push.ensures.items (took.0 ∙ took.1.place) reads w.line-is refl
            (refused-answers c.args.board.now.shape c.loop-place.caller.account w.in-Refused.line w.in-Refused.code) (so_far.loaded start stream before));
      }
    ]

pub returns-in_err-place-clause-broken : goal.returns-in_err-place-clause-broken
returns-in_err-place-clause-broken g c =
    on_err c.from_residual.result
    (λ start stream before. begun-loaded c.args.board.now.shape start c.loop-place.caller.account stream c.loop-place.reader c.loop-place.lines.items c.args.reader.now.finished
    c.loop-place.invariant.finished (c.loop-place.invariant.loaded start stream before))

pub returns-in_err-push-clause-broken : goal.returns-in_err-push-clause-broken
returns-in_err-push-clause-broken g c =
    let so_far = c.loop-place.invariant in
    on_err c.from_residual-in_err-push.result
    (λ start stream before. elim c.match-branch-2.branch [
      | in-Accepted w ↦
          let reads = rw w.in-Accepted.is at c.in_ok-place.ensures.read in
          let one : NamedMol = record { name = w.in-Accepted.name; mol = w.in-Accepted.mol } in
          let step = w.publish_one-line.ensures.taken in
          subst (λ (x : Seated). HaveBegun c.args.board.now.shape start x.account stream c.args.reader.now.finished) (sym w.caller-is)
          (begun-more c.args.board.now.shape start c.loop-place.caller.account w.publish_one-line.new.caller.account stream c.loop-place.reader c.next_record.new.self
          c.loop-place.lines.items (taken one step.fate) c.args.reader.now.finished (c.next_record.ensures.kept.1 ∙ so_far.finished) reads step.answers (so_far.loaded start stream before))
      | in-Refused w ↦
          let reads = rw w.in-Refused.is at c.in_ok-place.ensures.read in
          let one = not_accepted w.in-Refused.line w.in-Refused.code in
          subst (λ (x : Seated). HaveBegun c.args.board.now.shape start x.account stream c.args.reader.now.finished) (sym w.caller-is)
          (begun-more c.args.board.now.shape start c.loop-place.caller.account c.loop-place.caller.account stream c.loop-place.reader c.next_record.new.self
          c.loop-place.lines.items one c.args.reader.now.finished (c.next_record.ensures.kept.1 ∙ so_far.finished) reads (refused-answers c.args.board.now.shape c.loop-place.caller.account w.in-Refused.line w.in-Refused.code) (so_far.loaded start stream before))
    ])
