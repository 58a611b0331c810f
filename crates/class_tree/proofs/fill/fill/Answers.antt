use Rattle.std.proofs.Common.{◌≡◌, ◌<◌, arith, sym, length}
use Rattle.leaf_split.specs.Pages.{pages_of}
use Rattle.class_tree.proofs.Filling.{only_then, only_wider, pages_more}
use Rattle.class_tree.proofs.fill.fill.Goals as goal

pub loop-page-preserved : goal.loop-page-preserved
loop-page-preserved c =
    let size : length c.args.pages.now ≡ pages_of c.args.groups.now.count = c.requires.size in record {
      only = only_then _ c.loop-page.caller _ _ _ _ c.loop-page.invariant.only c.fill_page.ensures.only (λ q h. let l : h.0 < c.loop-page.page = h.1 in (h.0, omega arith, h.2)) (λ q y. (c.loop-page.page, omega arith, sym y));
      filled = pages_more c.loop-page.caller _ _ _ _ c.loop-page.invariant.filled c.fill_page.ensures.stored c.fill_page.ensures.only
          (λ t l e. let same : t ≡ c.loop-page.page = c.requires.apart t c.loop-page.page (omega arith) (omega arith) e in omega arith);
    }

pub returns-clause-only : goal.returns-clause-only
returns-clause-only c =
    let size : length c.args.pages.now ≡ pages_of c.args.groups.now.count = c.requires.size in
    let most = c.loop-page.auto.page-end in
    only_wider _ _ _ _ c.loop-page.invariant.only (λ q h. let l : h.0 < c.loop-page.page = h.1 in (h.0, omega arith, h.2))
