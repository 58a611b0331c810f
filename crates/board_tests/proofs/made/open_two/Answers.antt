use Rattle.std.proofs.Common.{◌+◌, refl, ap}
use Rattle.htss_defs.specs.declared.shape.Shape.{Shape}
use Rattle.board_jobs.proofs.Chained.{new_ready}
use Rattle.board_tests.proofs.Opened.{new_rests, new_loader, new_at_work, two_new}
use Rattle.board_tests.proofs.made.open_two.Goals as goal

pub returns : goal.returns
returns c =
    let opened = c.in_ok-board.ensures in
    let loaders = ap (λ (k : Shape). k.loaders) opened.shape in
    let count = ap (λ (k : Shape). k.loaders + k.searchers) opened.shape in
    let two = two_new _ _ _ _ _ _ opened.count count c.remove-loader.ensures.value c.remove-loader.ensures.items c.remove-searcher.ensures.value c.remove-searcher.ensures.items opened.callers in record {
      loader = (new_rests _ _ _ two.first, (new_loader _ 0 1 _ loaders refl two.first, (new_ready _ _ _ two.first).stocked));
      searcher = new_rests _ _ _ two.second;
      work = (new_at_work _ _ _ two.first, new_at_work _ _ _ two.second);
      all = two.all;
      count = count;
    }
