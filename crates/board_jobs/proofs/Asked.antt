-- What a searcher answers: searches alone, and a query that is refused has the code of a refusal.
use Rattle.std.proofs.Common.{◌≡◌, ℕ, zero, suc, ◌+◌, ◌%◌, ◌<◌, List, [], ◌∷◌, map, refl, sym, ap, subst, All, arith}
use Rattle.std.specs.Prelude.{Option, Some, None, Err}
use Rattle.std.proofs.lemmas.List.Elements.{All-head, All-tail}
use Rattle.htss_defs.specs.declared.shape.Shape.{Shape}
use Rattle.query_mol.specs.QueryOutcome.{IsFirstQueryOutcome}
use Rattle.script_text.specs.FilesByLine.{bytes_at}
use Rattle.script_text.specs.declared.script.Job.{Job}
use Rattle.script_text.specs.declared.script.Order.{Order}
use Rattle.script_text.specs.declared.script.Order.TheVariants.{Load, Withdraw, Search}
use Rattle.report_text.specs.Values.{HasWord}
use Rattle.report_rules.specs.Answers.{Answer, RecordAnswer, JobAnswer, SearchAnswer, loaded, withdrew, searched, to_record, to_search, to_withdrawal, not_read, hits_at, over_at, answers_of}
use Rattle.report_rules.specs.Dealing.{Caller, loader, searcher, Dealt, caller_in_turn, dealt_from, loads_in, searches_in}
use Rattle.report_rules.specs.Reports.{Done, IsAnswerTo, IsByItsFile, IsSearchFor, budget_or}
use Rattle.report_rules.proofs.CodeWords.{query_has}

abbrev pub IsAskedSearch : SearchAnswer → Type 0
IsAskedSearch (not_read line code) = 0 < code
IsAskedSearch (hits_at query budget front hits rows records) = Unit {0}
IsAskedSearch (over_at query budget front) = Unit {0}

abbrev pub IsAsked : Caller → Answer → Type 0
IsAsked (loader number) answer = Unit {0}
IsAsked (searcher number) (to_record answer) = ⊥
IsAsked (searcher number) (to_withdrawal target answer) = ⊥
IsAsked (searcher number) (to_search answer) = IsAskedSearch answer

abbrev pub AreAsked : Caller → List Answer → Type 0
AreAsked caller [] = Unit {0}
AreAsked caller (answer ∷ answers) = IsAsked caller answer × AreAsked caller answers

abbrev pub AllAsked : List Done → Type 0
AllAsked [] = Unit {0}
AllAsked (one ∷ more) = AreAsked one.dealt.caller (answers_of one.answer) × AllAsked more

-- 0 is no code of a refusal
code_above : (code : ℕ) → HasWord code → 0 < code
code_above zero has = absurd (has refl)
code_above (suc code) has = omega arith

asked_for : (bytes : List ℕ) (budget : ℕ) (answer : SearchAnswer) → IsSearchFor bytes budget answer → IsAskedSearch answer
asked_for bytes budget (not_read line code) is = code_above code (query_has bytes line code is)
asked_for bytes budget (hits_at query own front hits rows records) is = tt
asked_for bytes budget (over_at query own front) is = tt

-- a loader may answer anything
asked_free : (number : ℕ) (answers : List Answer) → AreAsked (loader number) answers
asked_free number [] = tt
asked_free number (answer ∷ answers) = (tt, asked_free number answers)

asked_search : (bytes : Option (List ℕ)) (budget number : ℕ) (file : List ℕ) (own : Option ℕ) (answer : JobAnswer) → IsAnswerTo bytes budget (Search file own) answer → AreAsked (searcher number) (answers_of answer)
asked_search None budget number file own (loaded named answers) is = absurd is
asked_search None budget number file own (withdrew target answer) is = absurd is
asked_search None budget number file own (searched named answer) is = absurd is
asked_search (Some bytes) budget number file own (loaded named answers) is = absurd is
asked_search (Some bytes) budget number file own (withdrew target answer) is = absurd is
asked_search (Some bytes) budget number file own (searched named answer) is = (asked_for bytes (budget_or budget own) answer is.1, tt)

asked_as_dealt : (k : Shape) (loads searches : ℕ) (bytes : Option (List ℕ)) (budget : ℕ) (order : Order) (answer : JobAnswer) → IsAnswerTo bytes budget order answer → AreAsked (caller_in_turn k loads searches order) (answers_of answer)
asked_as_dealt k loads searches bytes budget (Load file) answer is = asked_free (1 + loads % k.loaders) (answers_of answer)
asked_as_dealt k loads searches bytes budget (Withdraw number) answer is = asked_free (1 + loads % k.loaders) (answers_of answer)
asked_as_dealt k loads searches bytes budget (Search file own) answer is = asked_search bytes budget (1 + searches % k.searchers) file own answer is

head_same : (x y : Dealt) (xs ys : List Dealt) → x ∷ xs ≡ y ∷ ys → x ≡ y
head_same x y xs ys e = cc

tail_same : (x y : Dealt) (xs ys : List Dealt) → x ∷ xs ≡ y ∷ ys → xs ≡ ys
tail_same x y xs ys e = cc

module _ (k : Shape) (files : List (ℕ × List ℕ)) (budget group : ℕ) where
  one_asked : (loads searches : ℕ) (job : Job) (one : Done) → one.dealt ≡ record { group = group; caller = caller_in_turn k loads searches job.order; job = job } → IsByItsFile files budget one → AreAsked one.dealt.caller (answers_of one.answer)
  one_asked loads searches job one is by =
      let caller : one.dealt.caller ≡ caller_in_turn k loads searches job.order = ap (λ (d : Dealt). d.caller) is in
      let order : one.dealt.job.order ≡ job.order = ap (λ (d : Dealt). d.job.order) is in
      subst (λ c. AreAsked c (answers_of one.answer)) (sym caller)
      (asked_as_dealt k loads searches (bytes_at files one.dealt.job.line) budget job.order one.answer (subst (λ o. IsAnswerTo (bytes_at files one.dealt.job.line) budget o one.answer) order by))

  -- the jobs of a group, as they are dealt
  pub all_asked : (loads searches : ℕ) (jobs : List Job) (done : List Done) → map (λ one. one.dealt) done ≡ dealt_from k group loads searches jobs → All (IsByItsFile files budget) done → AllAsked done
  all_asked loads searches jobs [] are by = tt
  all_asked loads searches [] (one ∷ more) are by = absurd cc
  all_asked loads searches (job ∷ jobs) (one ∷ more) are by =
      let first : Dealt = record { group = group; caller = caller_in_turn k loads searches job.order; job = job } in
      let rest : List Dealt = dealt_from k group (loads + loads_in job.order) (searches + searches_in job.order) jobs in (
        one_asked loads searches job one (head_same one.dealt first (map (λ (d : Done). d.dealt) more) rest are) (All-head (IsByItsFile files budget) one more by),
        all_asked (loads + loads_in job.order) (searches + searches_in job.order) jobs more (tail_same one.dealt first (map (λ (d : Done). d.dealt) more) rest are) (All-tail (IsByItsFile files budget) one more by),
      )
