use Rattle.std.proofs.Common.{◌≡◌, ℕ, ◌<◌, [], get_or}
use Rattle.htss_defs.proofs.adjacency.Adjacency.restart.Given as goal

abbrev pub invariant-loop-x : goal.invariant-loop-x
invariant-loop-x l = record {
  atoms : l.self-inside.atoms ≡ l.fn.atoms;
  none : l.self-inside.ends.items ≡ [];
  cleared : (x : ℕ) → x < l.x → get_or l.self-inside.last x 0 ≡ 0;
}
