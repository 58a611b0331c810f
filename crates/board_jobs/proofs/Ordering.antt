-- A job, answered with its block.
use Rattle.std.proofs.Common.{◌≡◌, ℕ, ◌≤◌, List, [], ◌∷◌, length, map, sym, ap, subst, refl}
use Rattle.std.specs.Prelude.{Option, Some, None}
use Rattle.std.specs.Option.{unwrap_or}
use Rattle.htss_defs.specs.declared.shape.Shape.{Shape}
use Rattle.script_text.specs.declared.script.Job.{Job}
use Rattle.script_text.specs.declared.script.Order.{Order}
use Rattle.script_text.specs.declared.script.Order.TheVariants as order
use Rattle.script_text.specs.FilesByLine.{bytes_at}
use Rattle.report_text.specs.declared.report.Block.TheVariants.{Load, Withdraw, Search}
use Rattle.report_text.specs.declared.report.LoadLine.{LoadLine}
use Rattle.report_text.specs.declared.report.WithdrawLine.{WithdrawLine}
use Rattle.report_text.specs.declared.report.SearchLine.{SearchLine}
use Rattle.report_rules.specs.Answers.{loaded, withdrew, searched, to_record, to_withdrawal, to_search}
use Rattle.report_rules.specs.Dealing.{Caller, loader, searcher}
use Rattle.report_rules.specs.Reports.{IsAnswerTo, IsSearchFor, budget_or}
use Rattle.board_core.specs.declared.account.Account.{Account}
use Rattle.board_core.specs.declared.account.Who.{Who}
use Rattle.board_core.specs.declared.account.Who.TheVariants.{Loader}
use Rattle.board.specs.Seated.{Place, Seated, IsOf, IsLoader, number_in}
use Rattle.board_jobs.specs.Answering.{who_of}
use Rattle.board_jobs.specs.Jobs.{IsReady, IsFor, IsJobDone, IsJobBroken, IsQuietOrFor, AreBegun}
use Rattle.board_jobs.specs.Calls.{IsAtWork, IsBegun, IsLoaded, IsOrderOf, IsSearched, IsWithdrawal, SearchBroke}
use Rattle.board_jobs.proofs.Chained.{answered_one}

-- a script's caller that an order is for may do it
pub order_of : (c : Seated) (o : Order) (d : Caller) → who_of d ≡ c.account.who → IsFor d o → IsOrderOf c o
order_of c (order.Load file) (loader n) same is = subst (λ (w : Who). w ≡ Loader (number_in w)) same refl
order_of c (order.Load file) (searcher n) same is = absurd is
order_of c (order.Withdraw target) (loader n) same is = subst (λ (w : Who). w ≡ Loader (number_in w)) same refl
order_of c (order.Withdraw target) (searcher n) same is = absurd is
order_of c (order.Search file own) d same is = tt

pub loader_loads : (c : Seated) (o : Order) (file : List ℕ) → o ≡ order.Load file → IsOrderOf c o → IsLoader c
loader_loads c o file is own = subst (IsOrderOf c) is own

pub loader_withdraws : (c : Seated) (o : Order) (number : ℕ) → o ≡ order.Withdraw number → IsOrderOf c o → IsLoader c
loader_withdraws c o number is own = subst (IsOrderOf c) is own

pub job-loaded : (k : Shape) (files : List (ℕ × List ℕ)) (budget : ℕ) (job : Job) (a b : Account) (file copy bytes : List ℕ) (lines : List LoadLine)
    → job.order ≡ order.Load file → bytes_at files job.line ≡ Some bytes → copy ≡ file → IsLoaded k a b bytes lines
    → (c : Caller) → who_of c ≡ a.who → IsJobDone k files budget c a b job (Load job.line copy lines)
job-loaded k files budget job a b file copy bytes lines is has same load c who =
    let answer = loaded copy load.records in
    record {
      answer = answer;
      by_file = subst (λ o. IsAnswerTo (bytes_at files job.line) budget o answer) (sym is)
          (subst (λ found. IsAnswerTo found budget (order.Load file) answer) (sym has) (same, load.are_all));
      block_is = ap (λ told. Load job.line copy told) load.lines_are;
      answered = load.answers c who;
    }

withdrawn-answer : (found : Option (List ℕ)) (budget number : ℕ) (line : WithdrawLine) → IsAnswerTo found budget (order.Withdraw number) (withdrew number line)
withdrawn-answer None budget number line = refl
withdrawn-answer (Some bytes) budget number line = refl

pub job-withdrawn : (k : Shape) (files : List (ℕ × List ℕ)) (budget : ℕ) (job : Job) (a b : Account) (number : ℕ) (line : WithdrawLine)
    → job.order ≡ order.Withdraw number → IsWithdrawal k a b number line
    → (c : Caller) → who_of c ≡ a.who → IsJobDone k files budget c a b job (Withdraw job.line number line)
job-withdrawn k files budget job a b number line is withdrawal c who = record {
  answer = withdrew number line;
  by_file = subst (λ o. IsAnswerTo (bytes_at files job.line) budget o (withdrew number line)) (sym is) (withdrawn-answer (bytes_at files job.line) budget number line);
  block_is = refl;
  answered = answered_one k c a b (to_withdrawal number line) (withdrawal.answers c who);
}

pub own_or : (budget : ℕ) (own : Option ℕ) → unwrap_or own budget ≡ budget_or budget own
own_or budget None = refl
own_or budget (Some own) = refl

pub job-searched : (k : Shape) (files : List (ℕ × List ℕ)) (budget : ℕ) (job : Job) (a b : Account) (file copy bytes : List ℕ) (own : Option ℕ) (used : ℕ) (line : SearchLine)
    → job.order ≡ order.Search file own → bytes_at files job.line ≡ Some bytes → copy ≡ file → used ≡ budget_or budget own → IsSearched k a b bytes used line
    → (c : Caller) → who_of c ≡ a.who → IsJobDone k files budget c a b job (Search job.line copy line)
job-searched k files budget job a b file copy bytes own used line is has same under told c who =
    let answer = searched copy told.answer in
    record {
      answer = answer;
      by_file = subst (λ o. IsAnswerTo (bytes_at files job.line) budget o answer) (sym is)
          (subst (λ found. IsAnswerTo found budget (order.Search file own) answer) (sym has) (same, subst (λ most. IsSearchFor bytes most told.answer) under told.searched));
      block_is = ap (λ shown. Search job.line copy shown) told.line_is;
      answered = answered_one k c a b (to_search told.answer) (told.answers c who);
    }

-- ---- memory ran out

pub load-broken : (k : Shape) (files : List (ℕ × List ℕ)) (budget : ℕ) (job : Job) (a b : Account) (file bytes : List ℕ) → job.order ≡ order.Load file → bytes_at files job.line ≡ Some bytes → IsBegun k a b bytes
    → (c : Caller) → who_of c ≡ a.who → IsJobBroken k files budget c a b job
load-broken k files budget job a b file bytes is has begun c who =
    let answers = map to_record begun.records in
    record {
      answers = answers;
      begun = subst (λ o. AreBegun (bytes_at files job.line) budget o answers) (sym is)
          (subst (λ found. AreBegun found budget (order.Load file) answers) (sym has) (begun.records, begun.first, refl));
      answered = begun.answers c who;
    }

pub search-broken : (k : Shape) (files : List (ℕ × List ℕ)) (budget : ℕ) (job : Job) (a b : Account) (file bytes : List ℕ) (own : Option ℕ) (used : ℕ) → job.order ≡ order.Search file own → bytes_at files job.line ≡ Some bytes
    → used ≡ budget_or budget own → SearchBroke k a b bytes used → (c : Caller) → who_of c ≡ a.who → IsJobBroken k files budget c a b job
search-broken k files budget job a b file bytes own used is has under broke c who =
    let answers = to_search broke.answer ∷ [] in
    record {
      answers = answers;
      begun = subst (λ o. AreBegun (bytes_at files job.line) budget o answers) (sym is)
          (subst (λ found. AreBegun found budget (order.Search file own) answers) (sym has) (broke.answer, subst (λ most. IsQuietOrFor bytes most broke.answer) under broke.said, refl));
      answered = answered_one k c a b (to_search broke.answer) (broke.answers c who);
    }
