use Rattle.std.proofs.Common.{ap, sym, subst, ◌∙◌}
use Rattle.htss_defs.specs.Screened.{IsPivot}
use Rattle.htss_defs.specs.Needs.{need_at}
use Rattle.env_cover.specs.Screening.{Screens}
use Rattle.env_cover.proofs.Screening.{screens-made}
use Rattle.screen.proofs.screener.Screener.new.Goals as goal

pub invariant_of-result : goal.invariant_of-result
invariant_of-result c =
    let q = c.args.query.now in
    let p = c.pivot-pivot.result in
    let made : Screens q p c.need.result =
    screens-made q p c.need.result c.law_of_cover.ensures.screen c.bonds-bonds.ensures.valid c.bonds-bonds.ensures.marked (subst (λ x. IsPivot x p) c.new-needs.ensures c.pivot-pivot.ensures) (c.need.ensures ∙ ap (λ x. need_at x p) c.new-needs.ensures) in
    subst (λ x. Screens x p c.need.result) (sym c.new.ensures) made
