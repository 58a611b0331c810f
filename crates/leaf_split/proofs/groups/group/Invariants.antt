use Rattle.std.proofs.Common.{◌≡◌, get_or, length}
use Rattle.leaf_split.specs.Groups.{entry_of, AreGroups}
use Rattle.leaf_split.proofs.groups.group.Given as goal

abbrev pub invariant-loop-a : goal.invariant-loop-a
invariant-loop-a l = record {
  codes_len : length l.codes ≡ 14;
  held_len : length l.held ≡ 14;
  entries_len : length l.entries ≡ 196;
  groups : AreGroups (λ i. get_or l.rows i 0) (λ i. get_or l.nexts i 0) l.a l.count (λ i. get_or l.codes i 0) (λ i. get_or l.held i 0) (entry_of l.entries);
}
