use Rattle.std.proofs.Common.{◌≡◌, ◌∙◌, ℕ, List, inl, inr, refl, sym, ap, subst, map, length}
use Rattle.std.specs.Prelude.{Some}
use Rattle.std.proofs.lemmas.Bool.{false≢true}
use Rattle.script_text.specs.declared.script.Job.{Job}
use Rattle.script_text.specs.FilesByLine.{bytes_at}
use Rattle.report_text.specs.declared.report.Block.{Block}
use Rattle.report_text.specs.declared.report.LoadLine.{LoadLine}
use Rattle.report_text.specs.declared.report.Block.TheVariants as block
use Rattle.report_rules.specs.Faults.{IsBlockFault, IsBlockFor, own_budget}
use Rattle.report_audit.specs.BlockChecks.{AreKeptLines, IsFaultyLine, IsFaultySearch, IsFaultyTurn, IsFaultyWithdrawal, IsKeptBlock, IsKeptSearch, IsKeptTurn, IsKeptWithdrawal}
use Rattle.told_history.specs.Named.{records_in}
use Rattle.told_history.specs.Reads.{outcome_of}
use Rattle.told_history.specs.declared.records.RecordRead.{RecordRead}
use Rattle.report_audit.proofs.BlockKept.{kept_load, load_of}
use Rattle.report_audit.proofs.Founds.{none_map, some_map, ok_none, ok_some}
use Rattle.report_audit.proofs.blocks.take_block.Goals as goal

pub returns-then-not-is_block_for-clause-fault : goal.returns-then-not-is_block_for-clause-fault
returns-then-not-is_block_for-clause-fault c = λ s earlier one shape budget job turn.
    inl (refl, λ mine head. false≢true (sym c.if-not-is_block_for.true ∙ c.is_block_for.ensures.1 (subst (λ (j : Job). IsBlockFor j.line j.order c.args.here.now) job mine)))

pub returns-in-Load-clause-kept : goal.returns-in-Load-clause-kept
returns-in-Load-clause-kept c = none_map c.take_lines.result
    (AreKeptLines c.args.told.now c.args.so_far.now c.take_lines.new.so_far c.args.turns.now.shape c.args.caller (map outcome_of c.records_of.result.now) c.as_slice.result.now)
    (IsKeptTurn c.args.told.now c.args.so_far.now c.take_lines.new.so_far c.args.turns.now c.args.caller c.args.job.now c.args.read.now c.args.here.now)
    (λ has s earlier one shape budget job turn.
    let mine = subst (λ (b : Block). IsBlockFor one.job.line one.job.order b) c.in-Load.is
    (subst (λ (j : Job). IsBlockFor j.line j.order c.args.here.now) (sym job) (c.is_block_for.ensures.0 c.if-not-is_block_for.false)) in
    let lines = subst (λ (ls : List LoadLine). AreKeptLines c.args.told.now c.args.so_far.now c.take_lines.new.so_far c.args.turns.now.shape c.args.caller (map outcome_of c.records_of.result.now) ls) c.as_slice.ensures has in
    let all = subst (λ (rs : List RecordRead). AreKeptLines c.args.told.now c.args.so_far.now c.take_lines.new.so_far c.args.turns.now.shape c.args.caller (map outcome_of rs) c.in-Load.answers) c.records_of.ensures lines in
    let (loaded, long) = all s earlier one shape turn.next in
    subst (λ (b : Block). IsKeptBlock c.args.told.now c.take_lines.new.so_far s earlier one b) (sym c.in-Load.is)
    (kept_load c.args.told.now c.take_lines.new.so_far c.args.caller s earlier one c.in-Load.line c.in-Load.file c.in-Load.answers c.args.read.now mine turn.read_is loaded long))
    c.take_lines.ensures.kept

pub returns-in-Load-clause-fault : goal.returns-in-Load-clause-fault
returns-in-Load-clause-fault c = some_map c.take_lines.result
    (IsFaultyLine c.args.told.now c.args.so_far.now c.args.turns.now.shape c.args.caller (map outcome_of c.records_of.result.now) c.as_slice.result.now)
    (IsFaultyTurn c.args.told.now c.args.so_far.now c.args.turns.now c.args.caller c.args.job.now c.args.read.now c.args.here.now)
    (λ offset has s earlier one shape budget job turn.
    let mine = subst (λ (b : Block). IsBlockFor one.job.line one.job.order b) c.in-Load.is
    (subst (λ (j : Job). IsBlockFor j.line j.order c.args.here.now) (sym job) (c.is_block_for.ensures.0 c.if-not-is_block_for.false)) in
    let lines = subst (λ (ls : List LoadLine). IsFaultyLine c.args.told.now c.args.so_far.now c.args.turns.now.shape c.args.caller (map outcome_of c.records_of.result.now) ls offset) c.as_slice.ensures has in
    let all = subst (λ (rs : List RecordRead). IsFaultyLine c.args.told.now c.args.so_far.now c.args.turns.now.shape c.args.caller (map outcome_of rs) c.in-Load.answers offset) c.records_of.ensures lines in
    let (line_is, bytes, there, list) = load_of (bytes_at s.files one.job.line) one.job.line c.in-Load.line c.in-Load.file c.in-Load.answers one.job.order c.args.read.now mine turn.read_is in
    subst (λ (b : Block). IsBlockFault s earlier (Some one) (Some b) offset) (sym c.in-Load.is)
    (inr (mine, tt, all s earlier one shape turn.next c.in-Load.line bytes (ap (bytes_at s.files) line_is ∙ there) list)))
    c.take_lines.ensures.fault

pub returns-in-Withdraw-clause-kept : goal.returns-in-Withdraw-clause-kept
returns-in-Withdraw-clause-kept c = none_map c.take_withdrawal.result
    (IsKeptWithdrawal c.args.told.now c.args.so_far.now c.take_withdrawal.new.so_far c.args.turns.now.shape c.args.caller c.in-Withdraw.number c.in-Withdraw.answer)
    (IsKeptTurn c.args.told.now c.args.so_far.now c.take_withdrawal.new.so_far c.args.turns.now c.args.caller c.args.job.now c.args.read.now c.args.here.now)
    (λ has s earlier one shape budget job turn.
    let mine = subst (λ (j : Job). IsBlockFor j.line j.order c.args.here.now) (sym job) (c.is_block_for.ensures.0 c.if-not-is_block_for.false) in
    subst (λ (b : Block). IsKeptBlock c.args.told.now c.take_withdrawal.new.so_far s earlier one b) (sym c.in-Withdraw.is)
    (has s earlier one c.args.read.now c.in-Withdraw.line shape turn (subst (λ (b : Block). IsBlockFor one.job.line one.job.order b) c.in-Withdraw.is mine)))
    c.take_withdrawal.ensures.kept

pub returns-in-Withdraw-clause-fault : goal.returns-in-Withdraw-clause-fault
returns-in-Withdraw-clause-fault c = some_map c.take_withdrawal.result
    (IsFaultyWithdrawal c.args.told.now c.args.so_far.now c.args.turns.now.shape c.args.caller c.in-Withdraw.number c.in-Withdraw.answer)
    (IsFaultyTurn c.args.told.now c.args.so_far.now c.args.turns.now c.args.caller c.args.job.now c.args.read.now c.args.here.now)
    (λ offset has s earlier one shape budget job turn.
    subst (λ (b : Block). IsBlockFault s earlier (Some one) (Some b) offset) (sym c.in-Withdraw.is) (has s earlier one c.args.read.now c.in-Withdraw.line shape turn))
    c.take_withdrawal.ensures.fault

pub returns-in-Search-clause-kept : goal.returns-in-Search-clause-kept
returns-in-Search-clause-kept c = ok_none c.take_search.result
    (IsKeptSearch c.args.told.now c.args.so_far.now c.take_search.new.so_far c.args.caller c.budget_of.result c.args.read.now c.in-Search.answer)
    (IsKeptTurn c.args.told.now c.args.so_far.now c.take_search.new.so_far c.args.turns.now c.args.caller c.args.job.now c.args.read.now c.args.here.now)
    (λ has s earlier one shape budget job turn.
    let mine = subst (λ (j : Job). IsBlockFor j.line j.order c.args.here.now) (sym job) (c.is_block_for.ensures.0 c.if-not-is_block_for.false) in
    subst (λ (b : Block). IsKeptBlock c.args.told.now c.take_search.new.so_far s earlier one b) (sym c.in-Search.is)
    (has s earlier one c.in-Search.line c.in-Search.file (ap (λ (j : Job). own_budget s j.order) job ∙ c.budget_of.ensures s budget) turn
    (subst (λ (b : Block). IsBlockFor one.job.line one.job.order b) c.in-Search.is mine)))
    c.take_search.ensures.kept

pub returns-in-Search-clause-fault : goal.returns-in-Search-clause-fault
returns-in-Search-clause-fault c = ok_some c.take_search.result
    (IsFaultySearch c.args.told.now c.args.so_far.now c.args.caller c.budget_of.result c.args.read.now c.in-Search.answer)
    (IsFaultyTurn c.args.told.now c.args.so_far.now c.args.turns.now c.args.caller c.args.job.now c.args.read.now c.args.here.now)
    (λ offset has s earlier one shape budget job turn.
    let mine = subst (λ (j : Job). IsBlockFor j.line j.order c.args.here.now) (sym job) (c.is_block_for.ensures.0 c.if-not-is_block_for.false) in
    subst (λ (b : Block). IsBlockFault s earlier (Some one) (Some b) offset) (sym c.in-Search.is)
    (has s earlier one c.in-Search.line c.in-Search.file (ap (λ (j : Job). own_budget s j.order) job ∙ c.budget_of.ensures s budget) turn
    (subst (λ (b : Block). IsBlockFor one.job.line one.job.order b) c.in-Search.is mine)))
    c.take_search.ensures.fault
