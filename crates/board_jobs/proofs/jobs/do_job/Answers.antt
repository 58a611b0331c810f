use Rattle.std.proofs.Common.{sym, subst, ◌∙◌}
use Rattle.board_jobs.specs.Calls.{IsLoaded}
use Rattle.board_jobs.proofs.Chained.{if_err}
use Rattle.board_jobs.proofs.Loading.{begun-none}
use Rattle.board_jobs.proofs.Ordering.{job-loaded, job-searched, job-withdrawn, load-broken, own_or, search-broken}
use Rattle.board_jobs.proofs.Searching.{broke-same}
use Rattle.board_jobs.proofs.jobs.do_job.Goals as goal

pub returns-in_ok-answers-in-Load-clause-done : goal.returns-in_ok-answers-in-Load-clause-done
returns-in_ok-answers-in-Load-clause-done g c =
    job-loaded c.args.board.now.shape c.args.files.now c.args.budget c.args.job.now c.args.caller.now.account c.load_file.new.caller.account
    c.in-Load.file c.in_ok-file-in-Load.file c.at-bytes.result.now c.new-answers.result
    c.in-Load.is c.at-bytes.ensures.bytes c.in_ok-file-in-Load.ensures
    (subst (λ lines. IsLoaded c.args.board.now.shape c.args.caller.now.account c.load_file.new.caller.account c.at-bytes.result.now lines) (sym c.new-answers.ensures) c.in_ok-answers-in-Load.ensures.loaded)

pub returns-in-Withdraw-clause-done : goal.returns-in-Withdraw-clause-done
returns-in-Withdraw-clause-done g c =
    job-withdrawn c.args.board.now.shape c.args.files.now c.args.budget c.args.job.now c.args.caller.now.account c.withdraw-answer.new.caller.account
    c.in-Withdraw.number c.withdraw-answer.result c.in-Withdraw.is c.withdraw-answer.ensures.answered

pub returns-in_ok-answer-in-Search-clause-done : goal.returns-in_ok-answer-in-Search-clause-done
returns-in_ok-answer-in-Search-clause-done g c =
    job-searched c.args.board.now.shape c.args.files.now c.args.budget c.args.job.now c.args.caller.now.account c.search.new.caller.account
    c.in-Search.file c.in_ok-file-in-Search.file c.at-bytes-in-Search.result.now c.in-Search.own c.unwrap_or-budget.result c.in_ok-answer-in-Search.answer
    c.in-Search.is c.at-bytes-in-Search.ensures.bytes c.in_ok-file-in-Search.ensures (c.unwrap_or-budget.ensures ∙ own_or c.args.budget c.in-Search.own) c.in_ok-answer-in-Search.ensures.searched

pub returns-in_err-file-in-Load-clause-broken : goal.returns-in_err-file-in-Load-clause-broken
returns-in_err-file-in-Load-clause-broken g c =
    if_err c.from_residual.result
    (load-broken c.args.board.now.shape c.args.files.now c.args.budget c.args.job.now c.args.caller.now.account c.args.caller.now.account
    c.in-Load.file c.at-bytes.result.now c.in-Load.is c.at-bytes.ensures.bytes (begun-none c.args.board.now.shape c.args.caller.now.account c.at-bytes.result.now))

pub returns-in_err-answers-in-Load-clause-broken : goal.returns-in_err-answers-in-Load-clause-broken
returns-in_err-answers-in-Load-clause-broken g c =
    if_err c.from_residual-in_err-answers-in-Load.result
    (load-broken c.args.board.now.shape c.args.files.now c.args.budget c.args.job.now c.args.caller.now.account c.load_file.new.caller.account
    c.in-Load.file c.at-bytes.result.now c.in-Load.is c.at-bytes.ensures.bytes c.in_err-answers-in-Load.ensures.broken)

pub returns-in_err-file-in-Search-clause-broken : goal.returns-in_err-file-in-Search-clause-broken
returns-in_err-file-in-Search-clause-broken g c =
    if_err c.from_residual-in_err-file-in-Search.result
    (search-broken c.args.board.now.shape c.args.files.now c.args.budget c.args.job.now c.args.caller.now.account c.args.caller.now.account
    c.in-Search.file c.at-bytes-in-Search.result.now c.in-Search.own c.unwrap_or-budget.result c.in-Search.is c.at-bytes-in-Search.ensures.bytes
    (c.unwrap_or-budget.ensures ∙ own_or c.args.budget c.in-Search.own)
    (broke-same c.args.board.now.shape c.args.caller.now.account c.at-bytes-in-Search.result.now c.unwrap_or-budget.result))

pub returns-in_err-answer-in-Search-clause-broken : goal.returns-in_err-answer-in-Search-clause-broken
returns-in_err-answer-in-Search-clause-broken g c =
    if_err c.from_residual-in_err-answer-in-Search.result
    (search-broken c.args.board.now.shape c.args.files.now c.args.budget c.args.job.now c.args.caller.now.account c.search.new.caller.account
    c.in-Search.file c.at-bytes-in-Search.result.now c.in-Search.own c.unwrap_or-budget.result c.in-Search.is c.at-bytes-in-Search.ensures.bytes
    (c.unwrap_or-budget.ensures ∙ own_or c.args.budget c.in-Search.own) c.in_err-answer-in-Search.ensures.broken)
