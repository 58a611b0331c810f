-- Jobs as they are dealt: their callers are callers of the board, and only loaders add events.
use Rattle.std.proofs.Common.{◌≡◌, ℕ, ◌+◌, ◌%◌, ◌≤◌, true, false, List, [], ◌∷◌, map, refl, sym, ap, subst, All, arith, eq-eqb, ne_eqb}
use Rattle.std.specs.Prelude.{Option, Some, None}
use Rattle.std.proofs.lemmas.Nat.{mod_below}
use Rattle.std.proofs.lemmas.List.Elements.{All-cons, All-head, All-nil, All-tail}
use Rattle.htss_defs.specs.declared.shape.Shape.{Shape}
use Rattle.htss_defs.specs.declared.shape.Field.TheVariants.{Loaders, Searchers}
use Rattle.htss_defs.specs.Shapes.{IsShape}
use Rattle.script_text.specs.FilesByLine.{bytes_at}
use Rattle.script_text.specs.declared.script.Job.{Job}
use Rattle.script_text.specs.declared.script.Order.{Order}
use Rattle.script_text.specs.declared.script.Order.TheVariants.{Load, Withdraw, Search}
use Rattle.report_rules.specs.Answers.{Answer, JobAnswer, loaded, withdrew, searched, to_search, answers_of}
use Rattle.report_rules.specs.Dealing.{Caller, loader, searcher, Dealt, caller_in_turn, dealt_from, loads_in, searches_in}
use Rattle.report_rules.specs.Reports.{Done, IsAnswerTo, IsByItsFile}
use Rattle.report_rules.specs.Rules.{is_same}
use Rattle.board_jobs.specs.Groups.{place_of}
use Rattle.board_jobs.proofs.Keeping.{MayOwn}

-- ---- callers

abbrev pub IsCaller : Shape → Caller → Type 0
IsCaller k (loader number) = (1 ≤ number) × (number ≤ k.loaders)
IsCaller k (searcher number) = (1 ≤ number) × (number ≤ k.searchers)

-- each has a place of its own
pub one_place : (k : Shape) (a b : Caller) → IsCaller k a → IsCaller k b → place_of k a ≡ place_of k b → a ≡ b
one_place k (loader m) (loader n) (low, high) (least, most) same = let e : m ≡ n = omega (arith, low, least, same) in ap loader e
one_place k (loader m) (searcher n) (low, high) (least, most) same = absurd (omega (arith, low, high, same))
one_place k (searcher m) (loader n) (low, high) (least, most) same = absurd (omega (arith, least, most, same))
one_place k (searcher m) (searcher n) (low, high) (least, most) same = let e : m ≡ n = omega (arith, low, least, same) in ap searcher e

pub same_caller : (a : Caller) → is_same a a ≡ true
same_caller (loader n) = eq-eqb n n refl
same_caller (searcher n) = eq-eqb n n refl

pub other_caller : (a b : Caller) → ¬ (a ≡ b) → is_same a b ≡ false
other_caller (loader m) (loader n) other = ne_eqb m n (λ e. other (ap loader e))
other_caller (loader m) (searcher n) other = refl
other_caller (searcher m) (loader n) other = refl
other_caller (searcher m) (searcher n) other = ne_eqb m n (λ e. other (ap searcher e))

-- ---- the jobs of a group

pub record Fits (k : Shape) (group : ℕ) (one : Done) : Type 0 where
  pub here : one.dealt.group ≡ group
  pub is : IsCaller k one.dealt.caller
  pub owns : All (MayOwn one.dealt.caller) (answers_of one.answer)

abbrev pub AllFit : Shape → ℕ → List Done → Type 0
AllFit k group [] = Unit {0}
AllFit k group (one ∷ more) = Fits k group one × AllFit k group more

caller_is : (k : Shape) (loads searches : ℕ) (order : Order) → IsShape k → IsCaller k (caller_in_turn k loads searches order)
caller_is k loads searches (Load file) shape = let some = (shape Loaders).0 in let below = mod_below loads k.loaders some in (omega arith, omega arith)
caller_is k loads searches (Withdraw number) shape = let some = (shape Loaders).0 in let below = mod_below loads k.loaders some in (omega arith, omega arith)
caller_is k loads searches (Search file budget) shape = let some = (shape Searchers).0 in let below = mod_below searches k.searchers some in (omega arith, omega arith)

free : (number : ℕ) (answers : List Answer) → All (MayOwn (loader number)) answers
free number answers i d within = tt

searched_none : (bytes : Option (List ℕ)) (budget number : ℕ) (file : List ℕ) (own : Option ℕ) (answer : JobAnswer) → IsAnswerTo bytes budget (Search file own) answer → All (MayOwn (searcher number)) (answers_of answer)
searched_none None budget number file own (loaded named answers) is = absurd is
searched_none None budget number file own (withdrew target answer) is = absurd is
searched_none None budget number file own (searched named answer) is = absurd is
searched_none (Some bytes) budget number file own (loaded named answers) is = absurd is
searched_none (Some bytes) budget number file own (withdrew target answer) is = absurd is
searched_none (Some bytes) budget number file own (searched named answer) is = All-cons (MayOwn (searcher number)) (to_search answer) [] refl (All-nil (MayOwn (searcher number)))

owns_as_dealt : (k : Shape) (loads searches : ℕ) (bytes : Option (List ℕ)) (budget : ℕ) (order : Order) (answer : JobAnswer) → IsAnswerTo bytes budget order answer → All (MayOwn (caller_in_turn k loads searches order)) (answers_of answer)
owns_as_dealt k loads searches bytes budget (Load file) answer is = free (1 + loads % k.loaders) (answers_of answer)
owns_as_dealt k loads searches bytes budget (Withdraw number) answer is = free (1 + loads % k.loaders) (answers_of answer)
owns_as_dealt k loads searches bytes budget (Search file own) answer is = searched_none bytes budget (1 + searches % k.searchers) file own answer is

head_same : (x y : Dealt) (xs ys : List Dealt) → x ∷ xs ≡ y ∷ ys → x ≡ y
head_same x y xs ys e = cc

tail_same : (x y : Dealt) (xs ys : List Dealt) → x ∷ xs ≡ y ∷ ys → xs ≡ ys
tail_same x y xs ys e = cc

module _ (k : Shape) (files : List (ℕ × List ℕ)) (budget group : ℕ) (shape : IsShape k) where
  -- a job that was dealt, and is done by its file
  one_fits : (loads searches : ℕ) (job : Job) (one : Done) → one.dealt ≡ record { group = group; caller = caller_in_turn k loads searches job.order; job = job } → IsByItsFile files budget one → Fits k group one
  one_fits loads searches job one is by =
      let caller : one.dealt.caller ≡ caller_in_turn k loads searches job.order = ap (λ (d : Dealt). d.caller) is in
      let order : one.dealt.job.order ≡ job.order = ap (λ (d : Dealt). d.job.order) is in
      record {
        here = ap (λ (d : Dealt). d.group) is;
        is = subst (IsCaller k) (sym caller) (caller_is k loads searches job.order shape);
        owns = subst (λ c. All (MayOwn c) (answers_of one.answer)) (sym caller)
            (owns_as_dealt k loads searches (bytes_at files one.dealt.job.line) budget job.order one.answer (subst (λ o. IsAnswerTo (bytes_at files one.dealt.job.line) budget o one.answer) order by));
      }

  pub all_fit : (loads searches : ℕ) (jobs : List Job) (done : List Done) → map (λ one. one.dealt) done ≡ dealt_from k group loads searches jobs → All (IsByItsFile files budget) done → AllFit k group done
  all_fit loads searches jobs [] are by = tt
  all_fit loads searches [] (one ∷ more) are by = absurd cc
  all_fit loads searches (job ∷ jobs) (one ∷ more) are by =
      let first : Dealt = record { group = group; caller = caller_in_turn k loads searches job.order; job = job } in
      let rest : List Dealt = dealt_from k group (loads + loads_in job.order) (searches + searches_in job.order) jobs in (
        one_fits loads searches job one (head_same one.dealt first (map (λ (d : Done). d.dealt) more) rest are) (All-head (IsByItsFile files budget) one more by),
        all_fit (loads + loads_in job.order) (searches + searches_in job.order) jobs more (tail_same one.dealt first (map (λ (d : Done). d.dealt) more) rest are) (All-tail (IsByItsFile files budget) one more by),
      )
