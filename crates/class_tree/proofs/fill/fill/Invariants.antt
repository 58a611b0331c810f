use Rattle.std.proofs.Common.{◌≡◌, ℕ, ◌<◌, get_or}
use Rattle.leaf_split.specs.Groups.{entry_of}
use Rattle.leaf_split.specs.Pages.{word_of}
use Rattle.class_tree.specs.Splitting.{AreFilled, StoresOnly}
use Rattle.class_tree.proofs.fill.fill.Given as goal

abbrev pub invariant-loop-page : goal.invariant-loop-page
invariant-loop-page l = record {
  only : StoresOnly l.fn.caller l.caller (λ q. (t : ℕ) × (t < l.page) × (get_or l.pages t 0 ≡ q));
  filled : AreFilled l.caller.account.pool.own l.pages (word_of l.depth l.groups.count (λ i. get_or l.groups.codes i 0) (entry_of l.groups.entries) (λ i. get_or l.pages i 0)) l.page;
}
