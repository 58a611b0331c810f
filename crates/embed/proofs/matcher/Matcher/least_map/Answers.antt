use Rattle.std.proofs.Common.{rules}
use Rattle.embed.proofs.Bridge.{IsLeastEmbedding-from, NoEmbedding-from}
use Rattle.embed.proofs.matcher.Matcher.least_map.Goals as goal
use Rattle.embed.proofs.matcher.Matcher.least_map.Goals.{then-eq, else-eq}

pub returns-clause-yes : goal.returns-clause-yes
returns-clause-yes c = λ found. elim c.if-eq.branch [
  | then-eq w ↦ rw (w.map-is, w.write_to.ensures) (IsLeastEmbedding-from _ _ _ _ _ c.self.view_is c.requires.marked
      c.new-placed.ensures (c.search-found.ensures.found found))
  | else-eq w ↦ absurd (search rules)
]

pub returns-clause-no : goal.returns-clause-no
returns-clause-no c = λ none. NoEmbedding-from _ _ _ _ c.self.view_is c.requires.marked c.new-placed.ensures
    (c.search-found.ensures.stuck none)
