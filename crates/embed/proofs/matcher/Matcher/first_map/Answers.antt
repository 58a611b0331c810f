use Rattle.embed.proofs.Bridge.{IsLeastEmbedding-from, NoEmbedding-from}
use Rattle.embed.proofs.matcher.Matcher.first_map.Goals as goal
use Rattle.embed.proofs.matcher.Matcher.first_map.Goals.{in-Yes, in-No}
use Rattle.std.proofs.Common.{rules}

pub returns-clause-least : goal.returns-clause-least
returns-clause-least c = λ found. elim c.match-search.branch [
  | in-Yes w ↦ rw (w.map-is, w.write_to.ensures) (IsLeastEmbedding-from _ _ _ _ _ c.self.view_is c.requires.marked
      c.new-placed.ensures (w.in-Yes.ensures.found (search rules)))
  | in-No w ↦ absurd cc
]

pub returns-clause-none : goal.returns-clause-none
returns-clause-none c = λ none. elim c.match-search.branch [
  | in-Yes w ↦ absurd cc
  | in-No w ↦ NoEmbedding-from _ _ _ _ c.self.view_is c.requires.marked c.new-placed.ensures
      (w.in-No.ensures.stuck (search rules))
]
