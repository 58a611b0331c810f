-- The entries of an account that the lines of a report print (this project's own).
use Rattle.std.specs.Prelude.{ℕ, List, [], ◌∷◌, map}
use Rattle.htss_defs.specs.declared.history.Event.TheVariants.{Publish, Withdraw}
use Rattle.htss_defs.specs.declared.record.NamedMol.{NamedMol}
use Rattle.report_text.specs.declared.report.WithdrawLine.{WithdrawLine}
use Rattle.report_text.specs.declared.report.WithdrawLine.TheVariants.{At, Unknown as IsUnknown, Gone as IsGone}
use Rattle.report_text.specs.declared.report.WithdrawLine.TheVariants.{LogFull as IsFull}
use Rattle.report_rules.specs.Answers.{Answer, to_record, to_search, to_withdrawal}
use Rattle.report_rules.specs.Answers.{Fate, published, no_room, no_page, chain_full, log_full}
use Rattle.report_rules.specs.Answers.{not_accepted, taken, SearchAnswer, not_read, hits_at, over_at}
use Rattle.report_rules.specs.Dealing.{Caller}
use Rattle.report_rules.specs.Rules.{caller_number}
use Rattle.board_core.specs.declared.account.Account.{Account}
use Rattle.board_core.specs.declared.entry.Entry.{Entry}
use Rattle.board_core.specs.Answers.{answers_in}
use Rattle.board_core.specs.declared.entry.Entry.TheVariants.{Published, Withdrawn, Answered, Unknown, Gone, LogFull}
use Rattle.board_core.specs.declared.entry.Entry.TheVariants.{DataFull, NoPage, ChainFull}
use Rattle.board_core.specs.declared.entry.Reply.TheVariants.{Hits, OverBudget}

-- what an account has answered, the rows that a search has come to set aside
abbrev pub entries_in : Account → List Entry
entries_in a = map (λ n. n.entry) (answers_in a.entries)

abbrev pub fate_entries : ℕ → NamedMol → Fate → List Entry
fate_entries loader one (published number) = Published number (Publish loader one.name one.mol) ∷ []
fate_entries loader one (no_room left need) = DataFull left need ∷ []
fate_entries loader one no_page = NoPage ∷ []
fate_entries loader one (chain_full pages) = ChainFull pages ∷ []
fate_entries loader one (log_full front) = LogFull front ∷ []

abbrev pub withdrawal_entries : ℕ → ℕ → WithdrawLine → List Entry
withdrawal_entries loader number (At event) = Withdrawn event (Withdraw loader number) ∷ []
withdrawal_entries loader number (IsUnknown front) = Unknown number front ∷ []
withdrawal_entries loader number (IsGone at) = Gone number at ∷ []
withdrawal_entries loader number (IsFull front) = LogFull front ∷ []

abbrev pub search_entries : SearchAnswer → List Entry
search_entries (not_read line code) = []
search_entries (hits_at asked budget front hits rows records) = Answered asked budget front (Hits hits) ∷ []
search_entries (over_at asked budget front) = Answered asked budget front OverBudget ∷ []

-- the entries that an answer of this caller prints: one, or none where a record or a query is refused by its own file
abbrev pub tells : Caller → Answer → List Entry
tells caller (to_record (not_accepted line code)) = []
tells caller (to_record (taken one fate)) = fate_entries (caller_number caller) one fate
tells caller (to_withdrawal number answer) = withdrawal_entries (caller_number caller) number answer
tells caller (to_search answer) = search_entries answer
