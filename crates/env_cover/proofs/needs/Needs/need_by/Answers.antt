use Rattle.std.proofs.Common.{◌≤◌, List, ℕ, [], ◌∷◌, length, get_or, map, sym, ap, subst, ◌∙◌, arith}
use Rattle.htss_defs.specs.declared.query.AtomTest.{AtomTest}
use Rattle.htss_defs.specs.declared.needs.Need.{Need}
use Rattle.htss_defs.specs.Graph.{Graph}
use Rattle.htss_defs.specs.Adjacency.{IsGraph}
use Rattle.htss_defs.specs.QueryGraph.{QueryGraph}
use Rattle.htss_defs.specs.Needs.{test_at, need_at}
use Rattle.env_cover.specs.Sure.{sure_bond}
use Rattle.env_cover.proofs.Asked.{IsGraph-query, needs-are, test-at}
use Rattle.env_cover.proofs.needs.Needs.need_by.Goals as goal

pub near_words-near-requires-clause-valid : goal.near_words-near-requires-clause-valid
near_words-near-requires-clause-valid c = subst (λ (g : Graph). IsGraph g) (sym c.self.invariant.graph) (IsGraph-query _ c.self.invariant.query)

need_of : AtomTest → List ℕ → Need
need_of test words = record { test = test; words = words }

pub returns : goal.returns
unfolding need_of
returns c =
    let q : QueryGraph = c.self.inside.query.now in
    let near : List ℕ = c.near_words-near.result in
    let got : List ℕ = c.word-own.result ∷ get_or near 0 0 ∷ get_or near 1 0 ∷ get_or near 2 0 ∷ get_or near 3 0 ∷ [] in
    let words = needs-are q c.self.inside.bonds c.self.inside.lanes c.args.atom c.word-own.result near c.self.invariant.graph c.self.invariant.lanes
    (c.word-own.ensures (map sure_bond q.bonds) c.self.invariant.counted) c.near_words-near.ensures in
    let within : c.args.atom ≤ length q.atoms = omega (arith, ap (λ (p : QueryGraph). length p.atoms) c.self.view_is) in
    let test = test-at q c.atoms.result.now c.args.atom _ c.atoms.ensures.items c.requires.some within in
    ap (λ (t : AtomTest). need_of t got) test ∙ ap (need_of (test_at q c.args.atom)) words ∙ ap (λ (p : QueryGraph). need_at p c.args.atom) c.self.view_is
