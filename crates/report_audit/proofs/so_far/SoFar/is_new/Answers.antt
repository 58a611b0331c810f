use Rattle.std.proofs.Common.{◌∙◌, Bool, List, sym, subst}
use Rattle.report_audit.specs.SoFars.{IsFree}
use Rattle.std.proofs.lemmas.Bool.{false≢true}
use Rattle.report_audit.proofs.Taking.{never_both}
use Rattle.report_audit.proofs.so_far.SoFar.is_new.Goals as goal

pub returns-then-not-is_free-clause-old : goal.returns-then-not-is_free-clause-old
returns-then-not-is_free-clause-old c = λ no lines line next so_far some within new.
    never_both lines c.args.number new.once (so_far.taken.held c.args.number some within (λ free. false≢true (sym c.if-not-is_free.true ∙ c.is_free.ensures.1 (subst (λ (l : List Bool). IsFree l c.args.number) (sym c.deref.ensures.value) free))))

pub returns-clause-new : goal.returns-clause-new
returns-clause-new c = λ yes lines line next so_far.
    c.is_new.ensures.new yes lines line next so_far.tally (so_far.taken.free c.args.number (subst (λ (l : List Bool). IsFree l c.args.number) c.deref.ensures.value (c.is_free.ensures.0 c.if-not-is_free.false)))

pub returns-clause-old : goal.returns-clause-old
returns-clause-old c = λ no lines line next so_far some within new. c.is_new.ensures.old no lines line next so_far.tally new
