use Rattle.std.proofs.Common.{inl, inr, ◌∙◌, [], ap, arith}
use Rattle.board_core.specs.declared.log.LogAccount.{LogAccount}
use Rattle.searcher.proofs.Read.{reads_shown, reads_mark, reads_trans}
use Rattle.searcher.proofs.Once.{loads_shown, loads_mark, loads_both}
use Rattle.searcher.proofs.Living.{withdrawal_none, publication_loaded, ended_none, still_open}
use Rattle.searcher.proofs.live.open_block.Goals.{else-mark-gt0-via-then-mark-gt0+else-mark-front, else-mark-gt0-via-else-mark-gt0}
use Rattle.searcher.proofs.live.open_block.Goals as goal

pub returns-then-word-eq2-clause-reads : goal.returns-then-word-eq2-clause-reads
returns-then-word-eq2-clause-reads c = reads_shown c.args.caller.now c.load_log_word-word.new.caller _ _ c.load_log_word-word.ensures.after

pub returns-then-word-eq2-clause-none : goal.returns-then-word-eq2-clause-none
returns-then-word-eq2-clause-none c = λ _. let within = c.requires.number.1 in let front = c.requires.front in
    withdrawal_none c.args.board.now.shape c.args.caller.now c.load_log_word-word.new.caller c.args.number c.load_log_word-word.result c.args.front c.load_log_word-word.ensures.after c.requires.number.0 (omega arith) c.requires.seen c.if-word-eq2.true

pub load_mark-mark-requires-clause-known : goal.load_mark-mark-requires-clause-known
load_mark-mark-requires-clause-known c = let within = c.requires.number.1 in let front = c.requires.front in
    (c.args.number, publication_loaded c.args.board.now.shape c.args.caller.now c.load_log_word-word.new.caller c.args.number c.load_log_word-word.result c.load_log_word-word.ensures.after c.requires.number.0 (omega arith) c.if-word-eq2.false)

pub returns-then-mark-front-clause-reads : goal.returns-then-mark-front-clause-reads
returns-then-mark-front-clause-reads c = reads_trans c.args.caller.now.account c.load_log_word-word.new.caller.account c.load_mark-mark.new.caller.account
    (reads_shown c.args.caller.now c.load_log_word-word.new.caller _ _ c.load_log_word-word.ensures.after)
    (reads_mark c.load_log_word-word.new.caller c.load_mark-mark.new.caller _ _ c.load_mark-mark.ensures)

pub returns-then-mark-front-clause-none : goal.returns-then-mark-front-clause-none
returns-then-mark-front-clause-none c = λ _. let within = c.requires.number.1 in let front = c.requires.front in
    let shown = reads_shown c.args.caller.now c.load_log_word-word.new.caller _ _ c.load_log_word-word.ensures.after in
    ended_none c.args.board.now.shape c.load_log_word-word.new.caller c.load_mark-mark.new.caller c.args.number _ c.args.front c.load_mark-mark.result c.load_mark-mark.ensures
    (publication_loaded c.args.board.now.shape c.args.caller.now c.load_log_word-word.new.caller c.args.number c.load_log_word-word.result c.load_log_word-word.ensures.after c.requires.number.0 (omega arith) c.if-word-eq2.false)
    (ap (λ (l : LogAccount). l.seen) shown.log ∙ c.requires.seen) c.if-mark-gt0.true c.if-mark-front.true

pub returns-clause-reads : goal.returns-clause-reads
returns-clause-reads c = reads_trans c.args.caller.now.account c.load_log_word-word.new.caller.account c.load_mark-mark.new.caller.account
    (reads_shown c.args.caller.now c.load_log_word-word.new.caller _ _ c.load_log_word-word.ensures.after)
    (reads_mark c.load_log_word-word.new.caller c.load_mark-mark.new.caller _ _ c.load_mark-mark.ensures)

pub returns-clause-block : goal.returns-clause-block
returns-clause-block c = let within = c.requires.number.1 in let front = c.requires.front in
    let shown = reads_shown c.args.caller.now c.load_log_word-word.new.caller _ _ c.load_log_word-word.ensures.after in
    still_open c.args.board.now.shape c.load_log_word-word.new.caller c.load_mark-mark.new.caller c.args.number _ c.args.front c.load_mark-mark.result c.load_mark-mark.ensures
    (publication_loaded c.args.board.now.shape c.args.caller.now c.load_log_word-word.new.caller c.args.number c.load_log_word-word.result c.load_log_word-word.ensures.after c.requires.number.0 (omega arith) c.if-word-eq2.false)
    (c.load_log_word-word.ensures.block c.if-word-eq2.false)
    (ap (λ (l : LogAccount). l.seen) shown.log ∙ c.requires.seen)
    (elim c.else-mark-gt0.branch [
      | else-mark-gt0-via-then-mark-gt0+else-mark-front w ↦ inr w.if-mark-front.false
      | else-mark-gt0-via-else-mark-gt0 w ↦ (let none = w.if-mark-gt0.false in inl (omega arith))
    ])

pub returns-then-word-eq2-clause-once : goal.returns-then-word-eq2-clause-once
returns-then-word-eq2-clause-once c = (0, omega arith, loads_shown c.args.caller.now c.load_log_word-word.new.caller _ _ c.load_log_word-word.ensures.after)

pub returns-then-mark-front-clause-once : goal.returns-then-mark-front-clause-once
returns-then-mark-front-clause-once c = (
  1,
  omega arith,
  loads_both c.args.caller.now.account c.load_log_word-word.new.caller.account c.load_mark-mark.new.caller.account 1 0 0 1 0 0 [] []
      (loads_shown c.args.caller.now c.load_log_word-word.new.caller _ _ c.load_log_word-word.ensures.after)
      (loads_mark c.load_log_word-word.new.caller c.load_mark-mark.new.caller _ _ c.load_mark-mark.ensures),
)

pub returns-clause-once : goal.returns-clause-once
returns-clause-once c = (
  1,
  omega arith,
  loads_both c.args.caller.now.account c.load_log_word-word.new.caller.account c.load_mark-mark.new.caller.account 1 0 0 1 0 0 [] []
      (loads_shown c.args.caller.now c.load_log_word-word.new.caller _ _ c.load_log_word-word.ensures.after)
      (loads_mark c.load_log_word-word.new.caller c.load_mark-mark.new.caller _ _ c.load_mark-mark.ensures),
)
