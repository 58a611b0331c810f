use Rattle.std.proofs.Common.{refl, ap}
use Rattle.htss_defs.specs.declared.shape.Shape.{Shape}
use Rattle.board_jobs.proofs.Chained.{new_ready}
use Rattle.board_tests.proofs.Opened.{new_rests, new_loader, three_new}
use Rattle.board_tests.proofs.made.open_three.Goals as goal

pub returns : goal.returns
returns c =
    let opened = c.in_ok-board.ensures in
    let loaders = ap (λ (k : Shape). k.loaders) opened.shape in
    let three = three_new _ _ _ _ _ _ _ _ opened.count c.remove-first.ensures.value c.remove-first.ensures.items c.remove-second.ensures.value c.remove-second.ensures.items
    c.remove-searcher.ensures.value c.remove-searcher.ensures.items opened.callers in record {
      first = (new_rests _ _ _ three.first, (new_loader _ 0 2 _ loaders refl three.first, (new_ready _ _ _ three.first).stocked));
      second = (new_rests _ _ _ three.second, (new_loader _ 1 2 _ loaders refl three.second, (new_ready _ _ _ three.second).stocked));
      searcher = new_rests _ _ _ three.third;
    }
