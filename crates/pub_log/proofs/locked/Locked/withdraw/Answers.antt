use Rattle.std.proofs.Common.{ℕ, ◌+◌, ◌%◌, ◌^◌, ◌<◌, [], ◌∷◌, ap, inl, inr, arith, sym, subst}
use Rattle.htss_defs.specs.declared.shape.Shape.{Shape}
use Rattle.board_core.specs.declared.entry.Entry.TheVariants.{LogFull}
use Rattle.board_core.specs.Loaded.{IsOpenMark}
use Rattle.pub_log.specs.Locking.{IsHeld}
use Rattle.pub_log.proofs.Calls.{read_nothing, read_word, still_held, called_unknown, called_freed, called_full, called_ended, grows_freed}
use Rattle.pub_log.proofs.Reasons.{outside, in_front, in_log, past_mark, log_full, log_room, past_told, withdrawal_told, block_loaded, both_loaded, gone_told, may_end, known_open, unknown_at, full_at}
use Rattle.pub_log.proofs.locked.Locked.withdraw.Goals.{else-mark-ne0-via-then-mark-ne0+else-mark-front, else-mark-ne0-via-else-mark-ne0}
use Rattle.pub_log.proofs.locked.Locked.withdraw.Goals as goal

pub free_unknown-requires-clause-unknown : goal.free_unknown-requires-clause-unknown
free_unknown-requires-clause-unknown c = past_told _ _ _ (outside _ _ _ _ c.requires.held.seen c.self.view_is c.then-number-eq0.either)

pub returns-then-number-eq0-clause-refused : goal.returns-then-number-eq0-clause-refused
returns-then-number-eq0-clause-refused c = (c.self.view_is, called_unknown _ c.args.caller.now _ _ _ _ _ c.self.view_is (read_nothing c.args.caller.now.account) c.requires.held c.free_unknown.ensures.after)

pub free_unknown-requires-then-word-eq2-clause-unknown : goal.free_unknown-requires-then-word-eq2-clause-unknown
free_unknown-requires-then-word-eq2-clause-unknown c = let above : 0 < c.args.number = omega (arith, c.if-number-eq0.false) in
    withdrawal_told _ _ _ _ _ c.load_log_word-word.ensures.after above (in_log _ _ _ _ c.self.view_is c.if-number-front.false c.requires.held.in_log) c.if-word-eq2.true

pub returns-then-word-eq2-clause-refused : goal.returns-then-word-eq2-clause-refused
returns-then-word-eq2-clause-refused c = (c.self.view_is, called_unknown _ c.args.caller.now _ _ _ _ _ c.self.view_is (read_word _ _ _ _ c.load_log_word-word.ensures.after) c.requires.held c.free_unknown-then-word-eq2.ensures.after)

pub load_mark-mark-requires-clause-known : goal.load_mark-mark-requires-clause-known
load_mark-mark-requires-clause-known c = let above : 0 < c.args.number = omega (arith, c.if-number-eq0.false) in
    (c.args.number, block_loaded _ _ _ _ _ c.load_log_word-word.ensures.after above (in_log _ _ _ _ c.self.view_is c.if-number-front.false c.requires.held.in_log) c.if-word-eq2.false)

pub free_gone-requires-clause-gone : goal.free_gone-requires-clause-gone
free_gone-requires-clause-gone c =
    let above : 0 < c.args.number = omega (arith, c.if-number-eq0.false) in
    let both = both_loaded _ _ _ _ _ _ _ _ c.requires.held above (in_front _ _ _ c.self.view_is c.if-number-front.false) c.if-word-eq2.false c.load_log_word-word.ensures.after c.load_mark-mark.ensures in
    let some : 0 < c.load_mark-mark.result = omega (arith, c.if-mark-ne0.true) in
    gone_told _ _ _ _ _ _ _ both some (in_front _ _ _ c.self.view_is c.if-mark-front.true)

pub returns-then-mark-front-clause-refused : goal.returns-then-mark-front-clause-refused
returns-then-mark-front-clause-refused c =
    let above : 0 < c.args.number = omega (arith, c.if-number-eq0.false) in
    let both = both_loaded _ _ _ _ _ _ _ _ c.requires.held above (in_front _ _ _ c.self.view_is c.if-number-front.false) c.if-word-eq2.false c.load_log_word-word.ensures.after c.load_mark-mark.ensures in
    (in_front _ _ _ c.self.view_is c.if-mark-front.true, called_freed _ c.args.caller.now _ _ _ _ both.read c.requires.held c.free_gone.ensures.after)

pub returns-then-front-shape-clause-refused : goal.returns-then-front-shape-clause-refused
returns-then-front-shape-clause-refused c =
    let above : 0 < c.args.number = omega (arith, c.if-number-eq0.false) in
    let both = both_loaded _ _ _ _ _ _ _ _ c.requires.held above (in_front _ _ _ c.self.view_is c.if-number-front.false) c.if-word-eq2.false c.load_log_word-word.ensures.after c.load_mark-mark.ensures in
    let free : IsOpenMark c.args.self c.load_mark-mark.result = elim c.else-mark-ne0.branch [ else-mark-ne0-via-then-mark-ne0+else-mark-front w ↦ inr (past_mark _ _ _ c.self.view_is w.if-mark-front.false) | else-mark-ne0-via-else-mark-ne0 w ↦ inl w.if-mark-ne0.false ] in (
      (c.self.view_is, log_full _ _ _ _ c.self.view_is (ap (λ (k : Shape). k.log) c.shape.ensures.value) c.if-front-shape.true c.requires.held.in_log, known_open _ _ _ _ _ _ _ both _ (grows_freed _ _ (LogFull c.load_mark-mark.new.caller.account.log.seen ∷ []) c.free_full.ensures.after) free),
      called_full _ c.args.caller.now _ _ _ _ c.self.view_is both.read c.requires.held c.free_full.ensures.after,
    )

pub append_withdrawal-requires-clause-may : goal.append_withdrawal-requires-clause-may
append_withdrawal-requires-clause-may c =
    let above : 0 < c.args.number = omega (arith, c.if-number-eq0.false) in
    let both = both_loaded _ _ _ _ _ _ _ _ c.requires.held above (in_front _ _ _ c.self.view_is c.if-number-front.false) c.if-word-eq2.false c.load_log_word-word.ensures.after c.load_mark-mark.ensures in
    let free : IsOpenMark c.args.self c.load_mark-mark.result = elim c.else-mark-ne0.branch [ else-mark-ne0-via-then-mark-ne0+else-mark-front w ↦ inr (past_mark _ _ _ c.self.view_is w.if-mark-front.false) | else-mark-ne0-via-else-mark-ne0 w ↦ inl w.if-mark-ne0.false ] in
    may_end _ _ _ _ _ _ _ both (log_room _ _ _ _ c.self.view_is (ap (λ (k : Shape). k.log) c.shape.ensures.value) c.if-front-shape.false) free

pub returns-clause-ok : goal.returns-clause-ok
returns-clause-ok c =
    let above : 0 < c.args.number = omega (arith, c.if-number-eq0.false) in
    let both = both_loaded _ _ _ _ _ _ _ _ c.requires.held above (in_front _ _ _ c.self.view_is c.if-number-front.false) c.if-word-eq2.false c.load_log_word-word.ensures.after c.load_mark-mark.ensures in (
      ap (λ (n : ℕ). n + 1) c.self.view_is,
      log_room _ _ _ _ c.self.view_is (ap (λ (k : Shape). k.log) c.shape.ensures.value) c.if-front-shape.false,
      called_ended _ c.args.caller.now _ _ _ (record { target = c.args.number; block = c.load_log_word-word.result % 2 ^ 40 }) both.read (subst (IsHeld _ _) (sym c.self.view_is) c.requires.held) c.append_withdrawal.ensures,
    )

pub returns-then-number-eq0-clause-told : goal.returns-then-number-eq0-clause-told
returns-then-number-eq0-clause-told c = unknown_at c.args.board.now.shape c.args.caller.now.account c.free_unknown.new.caller.account _ _ _ c.requires.held.seen c.self.view_is c.free_unknown.ensures.told

pub returns-then-word-eq2-clause-told : goal.returns-then-word-eq2-clause-told
returns-then-word-eq2-clause-told c =
    let read = c.load_log_word-word.new.caller.account in
    let held = still_held c.args.board.now.shape c.args.caller.now.account read _ (read_word c.args.caller.now c.load_log_word-word.new.caller _ _ c.load_log_word-word.ensures.after) c.requires.held in
    unknown_at c.args.board.now.shape read c.free_unknown-then-word-eq2.new.caller.account _ _ _ held.seen c.self.view_is c.free_unknown-then-word-eq2.ensures.told

pub returns-then-front-shape-clause-told : goal.returns-then-front-shape-clause-told
returns-then-front-shape-clause-told c =
    let above : 0 < c.args.number = omega (arith, c.if-number-eq0.false) in
    let both = both_loaded _ _ _ _ _ _ _ _ c.requires.held above (in_front _ _ _ c.self.view_is c.if-number-front.false) c.if-word-eq2.false c.load_log_word-word.ensures.after c.load_mark-mark.ensures in
    full_at c.args.board.now.shape c.load_mark-mark.new.caller.account c.free_full.new.caller.account _ _ both.held.seen c.self.view_is c.free_full.ensures.told
