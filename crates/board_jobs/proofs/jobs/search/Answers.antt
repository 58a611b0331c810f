use Rattle.std.proofs.lemmas.Result.{IfErr-weaker, IfOk-weaker}
use Rattle.board_jobs.specs.Calls.{IsSearched, QueryBroke, SearchBroke, TellsReply}
use Rattle.board_jobs.proofs.Chained.{if_err}
use Rattle.board_jobs.proofs.Searching.{broke-query, broke-same, searched-refused, searched-told}
use Rattle.board_jobs.proofs.jobs.search.Goals as goal

pub returns-in-Ok-clause-searched : goal.returns-in-Ok-clause-searched
returns-in-Ok-clause-searched c =
    IfOk-weaker c.search_for.result
    (λ line. TellsReply c.args.board.now.shape c.args.caller.now.account c.search_for.new.caller.account c.in-Ok.query c.args.budget line)
    (λ line. IsSearched c.args.board.now.shape c.args.caller.now.account c.search_for.new.caller.account c.args.bytes.now c.args.budget line)
    (λ line told. searched-told c.args.board.now.shape c.args.caller.now.account c.search_for.new.caller.account c.args.bytes.now c.in-Ok.query c.args.budget line (rw c.in-Ok.is at c.in_ok-query.ensures) told)
    c.search_for.ensures.told

pub returns-in-Err-clause-searched : goal.returns-in-Err-clause-searched
returns-in-Err-clause-searched c =
    searched-refused c.args.board.now.shape c.args.caller.now.account c.args.bytes.now c.args.budget c.in-Err.refusal.line c.in-Err.refusal.code (rw c.in-Err.is at c.in_ok-query.ensures)

pub returns-in_err-query-clause-broken : goal.returns-in_err-query-clause-broken
returns-in_err-query-clause-broken c = if_err c.from_residual.result (broke-same c.args.board.now.shape c.args.caller.now.account c.args.bytes.now c.args.budget)

pub returns-in-Ok-clause-broken : goal.returns-in-Ok-clause-broken
returns-in-Ok-clause-broken c =
    IfErr-weaker c.search_for.result
    (λ _. QueryBroke c.args.board.now.shape c.args.caller.now.account c.search_for.new.caller.account c.in-Ok.query c.args.budget)
    (λ _. SearchBroke c.args.board.now.shape c.args.caller.now.account c.search_for.new.caller.account c.args.bytes.now c.args.budget)
    (λ _ broke. broke-query c.args.board.now.shape c.args.caller.now.account c.search_for.new.caller.account c.args.bytes.now c.in-Ok.query c.args.budget (rw c.in-Ok.is at c.in_ok-query.ensures) broke)
    c.search_for.ensures.broken
