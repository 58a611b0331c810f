use Rattle.std.proofs.Common.{refl}
use Rattle.std.proofs.lemmas.Bool.{both_ways}
use Rattle.env_code.specs.Walks.{seen_at}
use Rattle.env_code.proofs.walk.Walk.reach.Goals as goal

pub returns-then-not-self-place : goal.returns-then-not-self-place
unfolding seen_at
returns-then-not-self-place c = record { unseen = λ _. c.visit.ensures; seen = λ seen. absurd (both_ways _ c.if-not-self-place.true seen) }

pub returns-else-not-self-place : goal.returns-else-not-self-place
unfolding seen_at
returns-else-not-self-place c = record { unseen = λ unseen. absurd (both_ways _ unseen c.if-not-self-place.false); seen = λ _. refl }
