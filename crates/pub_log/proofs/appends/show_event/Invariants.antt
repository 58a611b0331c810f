use Rattle.board_core.specs.LogRule.{word_or_0}
use Rattle.board_core.specs.Steps.{event_by}
use Rattle.pub_log.proofs.appends.show_event.Given as goal

abbrev pub ghosts-advance_front : goal.ghosts-advance_front
ghosts-advance_front a = record { event = event_by a.board.now.shape a.caller.now.account (word_or_0 a.caller.now.account.log.pending.logged) }
