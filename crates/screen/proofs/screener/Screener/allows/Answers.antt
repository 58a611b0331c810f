use Rattle.std.proofs.Common.{◌≡◌, sym, subst, ◌∙◌}
use Rattle.std.proofs.lemmas.Bool.{false≢true}
use Rattle.htss_defs.specs.Embedding.{NoEmbedding}
use Rattle.htss_defs.specs.Molecule.{Molecule}
use Rattle.htss_defs.specs.QueryGraph.{QueryGraph}
use Rattle.htss_defs.specs.Screened.{IsScreened}
use Rattle.env_cover.proofs.Screening.{screened-uncovered}
use Rattle.screen.proofs.Unmarked.{none_allowed}
use Rattle.screen.proofs.screener.Screener.allows.Goals as goal

pub returns : goal.returns
returns c = record {
  none = λ no marked valid is same.
      let t = c.self.inside in
      let uncovered = none_allowed t.need c.args.mol.now marked valid same (λ has. false≢true (sym no ∙ c.allows_some.ensures.allowed.1 has)) in
      let unscreened = screened-uncovered t.matcher t.pivot t.need marked c.self.invariant uncovered in
      subst (λ (q : QueryGraph). (IsScreened q marked → ⊥) × NoEmbedding q marked) c.self.view_is (unscreened, c.self.invariant.none marked valid is unscreened);
}
