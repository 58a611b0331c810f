-- The rules that the lines of a report keep (this project's own).
use Rattle.std.specs.Prelude.{◌≡◌, ◌≢◌, ℕ, ◌+◌, ◌*◌, ◌/◌, ◌<◌, ◌≤◌, List, ◌++◌, length, take, All, sum_by, Bool, false}
use Rattle.std.specs.Prelude.{◌==◌, if◌then◌else◌}
use Rattle.htss_defs.specs.declared.history.Event.{Event}
use Rattle.htss_defs.specs.declared.history.Event.TheVariants.{Publish, Withdraw}
use Rattle.htss_defs.specs.declared.record.NamedMol.{NamedMol}
use Rattle.htss_defs.specs.declared.shape.Shape.{Shape}
use Rattle.htss_defs.specs.History.{HasEvent, Withdraws}
use Rattle.htss_defs.specs.Reply.{IsReply, found, over_budget}
use Rattle.reg_model.specs.Registries.{HasRecord, IsWithdrawn}
use Rattle.reg_model.specs.Searches.{Counts}
use Rattle.report_text.specs.declared.report.WithdrawLine.{WithdrawLine}
use Rattle.report_text.specs.declared.report.WithdrawLine.TheVariants.{At, Unknown, Gone, LogFull as NoEntry}
use Rattle.report_rules.specs.Answers.{Answer, to_record, to_search, to_withdrawal, fronts_of, numbers_of, own_number}
use Rattle.report_rules.specs.Answers.{Fate, published, no_room, no_page, chain_full, log_full}
use Rattle.report_rules.specs.Answers.{not_accepted, taken, SearchAnswer, not_read, hits_at, over_at}
use Rattle.report_rules.specs.Dealing.{Caller, loader, searcher}

-- a line that answers, with the group and the caller of its job
pub record Line : Type 0 where
  pub group : ℕ
  pub caller : Caller
  pub answer : Answer

abbrev pub caller_number : Caller → ℕ
caller_number (loader number) = number
caller_number (searcher number) = number

-- the event numbers and the fronts that a line carries
abbrev pub marks : Line → List ℕ
marks line = numbers_of line.answer ++ fronts_of line.answer

-- ---- what a mark owes to the lines before it

-- a new event comes after all that its loader's earlier lines and all lines of earlier groups carry, and no line has it
-- yet
pub record IsNew (earlier : List Line) (line : Line) (number : ℕ) : Type 0 where
  pub loader : All (λ one. one.caller ≡ line.caller → All (λ mark. mark < number) (marks one)) earlier
  pub groups : All (λ one. one.group < line.group → All (λ mark. mark < number) (marks one)) earlier
  pub once : All (λ one. All (λ own. own ≢ number) (own_number one.answer)) earlier

-- a front that refuses is no shorter than the log at the end of the group before, and than what its loader's earlier
-- lines carry
pub record IsRefusingFront (earlier : List Line) (line : Line) (front : ℕ) : Type 0 where
  pub loader : All (λ one. one.caller ≡ line.caller → All (λ mark. mark ≤ front) (marks one)) earlier
  pub groups : All (λ one. one.group < line.group → All (λ own. own ≤ front) (own_number one.answer)) earlier

-- a search's front is no shorter than what earlier groups carry, and than the fronts of its searcher's earlier lines
pub record IsSearchFront (earlier : List Line) (line : Line) (front : ℕ) : Type 0 where
  pub searcher : All (λ one. one.caller ≡ line.caller → All (λ mark. mark ≤ front) (fronts_of one.answer)) earlier
  pub groups : All (λ one. one.group < line.group → All (λ mark. mark ≤ front) (marks one)) earlier

-- ---- room

-- the words of a record's block
abbrev pub block_words : NamedMol → ℕ
block_words one = 3 + (length one.name + 7) / 8 + 6 * length one.mol.atoms + length one.mol.bonds

-- the words of the block that a record has in its loader's region
abbrev pub fate_words : NamedMol → Fate → ℕ
fate_words one (no_room left need) = 0
fate_words one _ = block_words one

abbrev pub words_used : Answer → ℕ
words_used (to_record (taken one fate)) = fate_words one fate
words_used _ = 0

abbrev pub is_same : Caller → Caller → Bool
is_same (loader number) (loader other) = number == other
is_same (searcher number) (searcher other) = number == other
is_same _ _ = false

-- the words of the caller's region that a line has used up
abbrev pub used_by : Caller → Line → ℕ
used_by caller line = if is_same line.caller caller then words_used line.answer else 0

-- the region of the line's loader has so many words left
abbrev pub IsRoomLeft : Shape → List Line → Line → ℕ → Type 0
IsRoomLeft shape earlier line left = left + sum_by (used_by line.caller) earlier ≡ shape.room

-- ---- what a line says of the history

abbrev pub KeepsFate : Shape → List Event → List Line → Line → NamedMol → Fate → Type 0
KeepsFate shape history earlier line one (published number) =
    HasEvent history number (Publish (caller_number line.caller) one.name one.mol) × IsNew earlier line number
KeepsFate shape history earlier line one (no_room left need) =
    (need ≡ block_words one) × (left < need) × IsRoomLeft shape earlier line left
KeepsFate shape history earlier line one no_page = Unit {0}
KeepsFate shape history earlier line one (chain_full pages) = pages ≡ shape.chain
KeepsFate shape history earlier line one (log_full front) =
    (front ≡ shape.log) × (front ≤ length history) × IsRefusingFront earlier line front

abbrev pub KeepsWithdrawal : Shape → List Event → List Line → Line → ℕ → WithdrawLine → Type 0
KeepsWithdrawal shape history earlier line number (At event) =
    HasEvent history event (Withdraw (caller_number line.caller) number) × IsNew earlier line event
KeepsWithdrawal shape history earlier line number (Unknown front) =
    (front ≤ length history) × (HasRecord (take front history) number → ⊥) × IsRefusingFront earlier line front
KeepsWithdrawal shape history earlier line number (Gone at) = Withdraws history at number
KeepsWithdrawal shape history earlier line number (NoEntry front) =
    (front ≡ shape.log) × (front ≤ length history) × HasRecord (take front history) number
    × (IsWithdrawn (take front history) number → ⊥) × IsRefusingFront earlier line front

abbrev pub KeepsSearch : List Event → List Line → Line → SearchAnswer → Type 0
KeepsSearch history earlier line (not_read at code) = Unit {0}
KeepsSearch history earlier line (hits_at asked budget front hits rows records) =
    (front ≤ length history) × IsReply asked budget (take front history) (found hits)
    × Counts asked (take front history) records
    × IsSearchFront earlier line front
KeepsSearch history earlier line (over_at asked budget front) =
    (front ≤ length history) × IsReply asked budget (take front history) over_budget × IsSearchFront earlier line front

abbrev pub KeepsAnswer : Shape → List Event → List Line → Line → Answer → Type 0
KeepsAnswer shape history earlier line (to_record (not_accepted at code)) = Unit {0}
KeepsAnswer shape history earlier line (to_record (taken one fate)) = KeepsFate shape history earlier line one fate
KeepsAnswer shape history earlier line (to_withdrawal number answer) =
    KeepsWithdrawal shape history earlier line number answer
KeepsAnswer shape history earlier line (to_search answer) = KeepsSearch history earlier line answer

-- the line keeps its rule in this history, after these lines
abbrev pub KeepsRule : Shape → List Event → List Line → Line → Type 0
KeepsRule shape history earlier line = KeepsAnswer shape history earlier line line.answer
