use Rattle.std.proofs.Common.{◌≡◌, get_or}
use Rattle.leaf_split.specs.Groups.{entry_of}
use Rattle.leaf_split.specs.Pages.{word_of}
use Rattle.class_tree.specs.Splitting.{AreStored, StoresOnly}
use Rattle.class_tree.proofs.fill.fill_page.Given as goal

abbrev pub invariant-loop-place : goal.invariant-loop-place
invariant-loop-place l = record {
  only : StoresOnly l.fn.caller l.caller (λ q. q ≡ get_or l.pages l.page 0);
  stored : AreStored l.caller.account.pool.own (get_or l.pages l.page 0) (word_of l.depth l.groups.count (λ i. get_or l.groups.codes i 0) (entry_of l.groups.entries) (λ i. get_or l.pages i 0) l.page) l.place;
}
