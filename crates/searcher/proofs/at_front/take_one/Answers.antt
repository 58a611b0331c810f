use Rattle.std.proofs.Common.{◌≡◌, refl, sym, ◌∙◌}
use Rattle.std.proofs.lemmas.Result.{err_from_is_err_and}
use Rattle.searcher.specs.declared.live.Live.{Live}
use Rattle.searcher.specs.Walking.{IsReadLive}
use Rattle.searcher.proofs.Walks.{takes_live, takes_none, spends_live, some_read, none_read}
use Rattle.searcher.proofs.at_front.take_one.Goals as goal

pub returns-in_err-take-clause-over : goal.returns-in_err-take-clause-over
returns-in_err-take-clause-over c = λ at e.
    let q = err_from_is_err_and c.from_residual.result c.from_residual.ensures.1 in
    let told = c.in_err-take.ensures.over at (rw (sym q.2) (sym q.1 ∙ e)) in
    let k = c.args.board.now.shape in
    let b = c.load_live.new.caller.account in
    let s = c.args.search.now in
    let read = some_read c.in-Ok.read c.in-Some.live (λ (one : Live). IsReadLive k b c.args.front c.args.number one.name one.mol) c.in-Some.is c.in-Ok.ensures.live in (
      told.0,
      spends_live k b c.args.front c.args.number s.matcher s.left s.records c.args.hits.now.hits c.in-Some.live.name c.in-Some.live.mol read told.1,
    )

pub returns-in_ok-take-clause-takes : goal.returns-in_ok-take-clause-takes
returns-in_ok-take-clause-takes c =
    let k = c.args.board.now.shape in
    let b = c.load_live.new.caller.account in
    let s = c.args.search.now in
    let t = c.take.new.self in
    let read = some_read c.in-Ok.read c.in-Some.live (λ (one : Live). IsReadLive k b c.args.front c.args.number one.name one.mol) c.in-Some.is c.in-Ok.ensures.live in
    takes_live k b c.args.front c.args.number s.matcher s.left s.records c.args.hits.now.hits t.left t.records c.take.new.hits.hits c.in-Some.live.name c.in-Some.live.mol read c.in_ok-take.ensures.found

pub returns-in_default-read-clause-takes : goal.returns-in_default-read-clause-takes
returns-in_default-read-clause-takes c =
    let s = c.args.search.now in
    takes_none c.args.board.now.shape c.load_live.new.caller.account c.args.front c.args.number s.matcher s.left s.records c.args.hits.now.hits (c.in-Ok.ensures.none (none_read c.in-Ok.read c.in_default-read.is))
