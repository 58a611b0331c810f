-- What an answer does to the account of its caller.
use Rattle.std.specs.Prelude.{◌≡◌, ℕ, ◌+◌, ◌<◌, ◌≤◌, List, [], ◌∷◌, ◌++◌, length, take, All}
use Rattle.htss_defs.specs.declared.shape.Shape.{Shape}
use Rattle.htss_defs.specs.declared.record.NamedMol.{NamedMol}
use Rattle.htss_defs.specs.QueryGraph.{QueryGraph}
use Rattle.reg_model.specs.Searches.{Counts}
use Rattle.report_text.specs.declared.report.WithdrawLine.{WithdrawLine}
use Rattle.report_text.specs.declared.report.WithdrawLine.TheVariants.{At, Unknown, Gone, LogFull}
use Rattle.report_rules.specs.Answers.{Answer, to_record, to_search, to_withdrawal, fronts_of, numbers_of, own_number}
use Rattle.report_rules.specs.Answers.{Fate, published, no_room, no_page, chain_full, log_full}
use Rattle.report_rules.specs.Answers.{not_accepted, taken, SearchAnswer, not_read, hits_at, over_at}
use Rattle.report_rules.specs.Dealing.{Caller, loader, searcher}
use Rattle.report_rules.specs.Rules.{block_words, words_used}
use Rattle.board_core.specs.declared.account.Account.{Account}
use Rattle.board_core.specs.declared.account.Who.{Who}
use Rattle.board_core.specs.declared.account.Who.TheVariants.{Loader, Searcher}
use Rattle.board_core.specs.Words.{Parts}
use Rattle.board_core.specs.Histories.{history_of, IsOpen}
use Rattle.board_core.specs.Steps.{MayBe}
use Rattle.board_core.specs.Loaded.{Grows}
use Rattle.board_core.specs.After.{noted}
use Rattle.board_core.specs.Answers.{answers_in}
use Rattle.board_core.specs.CountRule.{insertions_of}
use Rattle.searcher.specs.Finding.{LoadsPruned}
use Rattle.searcher.specs.Records.{ReadsAllScreened, ReadsScreened}
use Rattle.board_jobs.specs.Telling.{tells}
use Rattle.board_jobs.specs.Begun.{atoms_taken}

abbrev pub who_of : Caller → Who
who_of (loader number) = Loader number
who_of (searcher number) = Searcher number

-- so many of the screened records are told of, whatever the board is by what the account has loaded
abbrev pub AreCounted : Shape → Account → QueryGraph → ℕ → ℕ → Type 0
AreCounted k a asked front records = (p : Parts) → MayBe k p a → Counts asked (take front (history_of k p)) records

-- the number could be withdrawn at this front, whatever the board is
abbrev pub WasOpen : Shape → Account → ℕ → ℕ → Type 0
WasOpen k a front number = (p : Parts) → MayBe k p a → IsOpen (take front (history_of k p)) number

-- past so many words the region has room for the record's block
abbrev pub HasRoomFor : Shape → ℕ → NamedMol → Type 0
HasRoomFor k used one = used + block_words one ≤ k.room

-- what an answer says beyond its entry: the loader had `used` words of its region in use before
abbrev pub SaysOfFate : Shape → ℕ → NamedMol → Fate → Type 0
SaysOfFate k used one (published number) = HasRoomFor k used one
SaysOfFate k used one (no_room left need) = (need ≡ block_words one) × (left < need) × (left + used ≡ k.room)
SaysOfFate k used one no_page = HasRoomFor k used one
SaysOfFate k used one (chain_full pages) = (pages ≡ k.chain) × HasRoomFor k used one
SaysOfFate k used one (log_full front) = (front ≡ k.log) × HasRoomFor k used one

abbrev pub SaysOfWithdrawal : Shape → Account → ℕ → WithdrawLine → Type 0
SaysOfWithdrawal k after number (At event) = Unit {0}
SaysOfWithdrawal k after number (Unknown front) = Unit {0}
SaysOfWithdrawal k after number (Gone at) = Unit {0}
SaysOfWithdrawal k after number (LogFull front) = (front ≡ k.log) × WasOpen k after front number

abbrev pub SaysOfSearch : Shape → Account → SearchAnswer → Type 0
SaysOfSearch k after (not_read line code) = Unit {0}
SaysOfSearch k after (hits_at asked budget front hits rows records) = AreCounted k after asked front records
SaysOfSearch k after (over_at asked budget front) = Unit {0}

abbrev pub Says : Shape → ℕ → Account → Answer → Type 0
Says k used after (to_record (not_accepted line code)) = Unit {0}
Says k used after (to_record (taken one fate)) = SaysOfFate k used one fate
Says k used after (to_withdrawal number answer) = SaysOfWithdrawal k after number answer
Says k used after (to_search answer) = SaysOfSearch k after answer

-- the code words that a search has loaded from a to b are pruned, and it tells of as many rows as it loaded; for a
-- query that is refused nothing is loaded. No refusal has the code 0: it stands for a search that memory ran out for
abbrev pub LoadsRows : Account → Account → Answer → Type 0
LoadsRows a b (to_record answer) = Unit {0}
LoadsRows a b (to_withdrawal number answer) = Unit {0}
LoadsRows a b (to_search (not_read line code)) = 0 < code → b.loads ≡ a.loads
LoadsRows a b (to_search (hits_at asked budget front hits rows records)) = LoadsPruned asked a b rows
LoadsRows a b (to_search (over_at asked budget front)) = (rows : ℕ) × LoadsPruned asked a b rows

-- the names, atoms and bonds that a search has loaded from a to b are those of records screened at its front; and where
-- it has hits, each of these was loaded whole
abbrev pub ReadsRecords : Shape → Account → Account → Answer → Type 0
ReadsRecords k a b (to_record answer) = Unit {0}
ReadsRecords k a b (to_withdrawal number answer) = Unit {0}
ReadsRecords k a b (to_search (not_read line code)) = Unit {0}
ReadsRecords k a b (to_search (hits_at asked budget front hits rows records)) =
    ReadsScreened k asked front a b × ReadsAllScreened k asked front a b
ReadsRecords k a b (to_search (over_at asked budget front)) = ReadsScreened k asked front a b

-- one answer: it adds the entries that it prints; its marks are seen afterwards; its own event comes after all that was
-- seen before, and its front is no shorter. Each of its entries has the lengths that the lists of loads had at its end.
-- At most one insertion is begun for each atom of a record
pub record IsAnswered (k : Shape) (caller : Caller) (a b : Account) (answer : Answer) : Type 0 where
  pub who : b.who ≡ a.who
  pub noted_are : answers_in b.entries ≡ answers_in a.entries ++ noted b.loads (tells caller answer)
  pub seen : a.log.seen ≤ b.log.seen
  pub marks : All (λ mark. mark ≤ b.log.seen) (numbers_of answer ++ fronts_of answer)
  pub fresh : All (λ number. a.log.seen < number) (own_number answer)
  pub fronts : All (λ front. a.log.seen ≤ front) (fronts_of answer)
  pub used : length b.room.used ≡ length a.room.used + words_used answer
  pub says : Says k (length a.room.used) b answer
  pub rows : LoadsRows a b answer
  pub read : ReadsRecords k a b answer
  pub begun : insertions_of b ≤ insertions_of a + atoms_taken answer
  pub grows : Grows a b

-- answers of one caller, one after the other
abbrev pub AreAnswered : Shape → Caller → Account → Account → List Answer → Type 0
AreAnswered k caller a b [] = b ≡ a
AreAnswered k caller a b (answer ∷ answers) = (between : Account) × IsAnswered k caller a between answer
    × AreAnswered k caller between b answers
