-- What each caller's account keeps along the answers of groups, with the lines of that caller.
use Rattle.std.proofs.Common.{◌≡◌, ⊎_elim, ℕ, ◌+◌, ◌≤◌, Bool, cond, List, [], ◌∷◌, ◌++◌, map, set, sym, ap, subst, ◌∙◌, append_assoc, append-nil}
use Rattle.std.specs.List.{flat_map}
use Rattle.std.proofs.lemmas.Grind.{flat_map-append}
use Rattle.std.proofs.lemmas.List.Concat.{flat_map-cons}
use Rattle.std.proofs.lemmas.List.Elements.{filter-append}
use mathlib.Core.Option.{some}
use lib.ListN.{get_elem?}
use Rattle.htss_defs.specs.declared.shape.Shape.{Shape}
use Rattle.htss_defs.specs.Shapes.{IsShape}
use Rattle.script_text.specs.declared.script.Group.{Group}
use Rattle.report_rules.specs.Answers.{Answer, answers_of}
use Rattle.report_rules.specs.Dealing.{Caller}
use Rattle.report_rules.specs.Reports.{Done, done_lines}
use Rattle.report_rules.specs.Rules.{Line, is_same}
use Rattle.board_core.specs.declared.account.Account.{Account}
use Rattle.board_core.proofs.Lists.{inside}
use Rattle.board_jobs.specs.Answering.{IsAnswered, AreAnswered}
use Rattle.board_jobs.specs.Groups.{place_of, with_seen, AreDone, HaveMet, AreGroupsDone}
use Rattle.board_jobs.specs.Printed.{lines_by}
use Rattle.board_jobs.proofs.Asked.{IsAsked, AreAsked, AllAsked, all_asked}
use Rattle.board_jobs.proofs.Fits.{IsCaller, AllFit, all_fit, one_place, same_caller, other_caller}
use Rattle.board_jobs.proofs.Places.{at_set, map_back, set_here, set_same, set_twice}

abbrev pub line_of : ℕ → Caller → Answer → Line
line_of group caller answer = record { group = group; caller = caller; answer = answer }

-- the lines of a caller among more
lines_both : (caller : Caller) (xs ys : List Line) → lines_by caller (xs ++ ys) ≡ lines_by caller xs ++ lines_by caller ys
lines_both caller xs ys = filter-append (λ (line : Line). is_same line.caller caller) xs ys

lines_own : (line : Line) → lines_by line.caller (line ∷ []) ≡ line ∷ []
lines_own line = ap (λ (b : Bool). cond b (line ∷ []) []) (same_caller line.caller)

lines_none : (caller : Caller) (line : Line) → ¬ (line.caller ≡ caller) → lines_by caller (line ∷ []) ≡ []
lines_none caller line other = ap (λ (b : Bool). cond b (line ∷ []) []) (other_caller line.caller caller other)

-- each caller's account keeps this, with the caller's lines
module _ (k : Shape) (Keeps : Caller → List Line → Account → Type 0) where
  abbrev pub AllKeep : List Account → List Line → Type 0
  AllKeep accounts lines = (caller : Caller) → IsCaller k caller → (a : Account) → get_elem? accounts (place_of k caller) ≡ some a → Keeps caller (lines_by caller lines) a

-- it is kept by an answer, and where callers meet
module _ (k : Shape) (Keeps : Caller → List Line → Account → Type 0)
    (seen : (c : Caller) (lines : List Line) (front : ℕ) (a : Account) → a.log.seen ≤ front → Keeps c lines a
    → Keeps c lines (with_seen front a))
    (step : (c : Caller) (group : ℕ) (answer : Answer) (lines : List Line) (a b : Account) → IsAnswered k c a b answer → IsAsked c answer → Keeps c lines a → Keeps c (lines ++ line_of group c answer ∷ []) b) where
  -- a line by another caller changes the account at another place
  along_answer : (accounts : List Account) (lines : List Line) (group : ℕ) (by : Caller) (answer : Answer) (a b : Account) → IsCaller k by → get_elem? accounts (place_of k by) ≡ some a → IsAnswered k by a b answer → IsAsked by answer
      → AllKeep k Keeps accounts lines → AllKeep k Keeps (set accounts (place_of k by) b) (lines ++ line_of group by answer ∷ [])
  along_answer accounts lines group by answer a b is at answered asked all caller one x there =
      let line : Line = line_of group by answer in
      ⊎_elim
      (λ (t : (place_of k caller ≡ place_of k by) × (b ≡ x)).
      let same : by ≡ caller = sym (one_place k caller by one is t.0) in
      let now = step by group answer (lines_by by lines) a b answered asked (all by is a at) in
      let mine : lines_by by lines ++ line ∷ [] ≡ lines_by by (lines ++ line ∷ []) = sym (lines_both by lines (line ∷ []) ∙ ap (λ (l : List Line). lines_by by lines ++ l) (lines_own line)) in
      subst (λ (c : Caller). Keeps c (lines_by c (lines ++ line ∷ [])) x) same (subst (λ (l : List Line). Keeps by l x) mine (subst (Keeps by (lines_by by lines ++ line ∷ [])) t.1 now)))
      (λ (t : ¬ (place_of k caller ≡ place_of k by) × (get_elem? accounts (place_of k caller) ≡ some x)).
      let none = lines_none caller line (λ (e : by ≡ caller). t.0 (ap (place_of k) (sym e))) in
      let still : lines_by caller (lines ++ line ∷ []) ≡ lines_by caller lines = lines_both caller lines (line ∷ []) ∙ (ap (λ (l : List Line). lines_by caller lines ++ l) none ∙ append-nil (lines_by caller lines)) in
      subst (λ (l : List Line). Keeps caller l x) (sym still) (all caller one x t.1))
      (at_set accounts (place_of k by) (place_of k caller) b x there)

  -- ---- the answers of a job

  along_answers : (group : ℕ) (by : Caller) (answers : List Answer) (accounts : List Account) (lines : List Line) (a b : Account) → IsCaller k by → get_elem? accounts (place_of k by) ≡ some a → AreAnswered k by a b answers → AreAsked by answers
      → AllKeep k Keeps accounts lines → AllKeep k Keeps (set accounts (place_of k by) b) (lines ++ map (line_of group by) answers)
  along_answers group by [] accounts lines a b is at same asked all =
      let still : set accounts (place_of k by) b ≡ accounts = set_same accounts (place_of k by) b (at ∙ ap some (sym same)) in
      subst (λ (l : List Account). AllKeep k Keeps l (lines ++ [])) (sym still) (subst (λ (l : List Line). AllKeep k Keeps accounts l) (sym (append-nil lines)) all)
  along_answers group by (answer ∷ answers) accounts lines a b is at (between, one, rest) (asked, others) all =
      let place : ℕ = place_of k by in
      let line : Line = line_of group by answer in
      let next : AllKeep k Keeps (set accounts place between) (lines ++ line ∷ []) = along_answer accounts lines group by answer a between is at one asked all in
      let last = along_answers group by answers (set accounts place between) (lines ++ line ∷ []) between b is (set_here accounts place between (inside accounts place a at)) rest others next in
      subst (λ (l : List Account). AllKeep k Keeps l (lines ++ line ∷ map (line_of group by) answers)) (set_twice accounts place between b)
      (subst (λ (l : List Line). AllKeep k Keeps (set (set accounts place between) place b) l) (append_assoc lines (line ∷ []) (map (line_of group by) answers)) last)

  -- ---- the jobs of a group

  pub along_jobs : (group : ℕ) (done : List Done) (before after : List Account) (lines : List Line) → AreDone k before after done → AllFit k group done → AllAsked done → AllKeep k Keeps before lines → AllKeep k Keeps after (lines ++ flat_map done_lines done)
  along_jobs group [] before after lines same fit asked all =
      subst (λ (l : List Account). AllKeep k Keeps l (lines ++ [])) (sym same) (subst (λ (l : List Line). AllKeep k Keeps before l) (sym (append-nil lines)) all)
  along_jobs group (one ∷ more) before after lines (between, job, rest) (first, others) (asked, later) all =
      let next : AllKeep k Keeps (set before (place_of k one.dealt.caller) job.new) (lines ++ done_lines one) =
      along_answers one.dealt.group one.dealt.caller (answers_of one.answer) before lines job.old job.new first.is job.there job.answered asked all in
      let last = along_jobs group more between after (lines ++ done_lines one) rest others later (subst (λ (l : List Account). AllKeep k Keeps l (lines ++ done_lines one)) (sym job.after_is) next) in
      subst (λ (l : List Line). AllKeep k Keeps after l) (append_assoc lines (done_lines one) (flat_map done_lines more) ∙ ap (λ (l : List Line). lines ++ l) (sym (flat_map-cons done_lines one more))) last

  -- callers that meet have no lines
  pub along_met : (before after : List Account) (front : ℕ) (lines : List Line) → HaveMet before after front → AllKeep k Keeps before lines → AllKeep k Keeps after lines
  along_met before after front lines met all caller is x there =
      let back = map_back (with_seen front) before (place_of k caller) x (subst (λ (l : List Account). get_elem? l (place_of k caller) ≡ some x) met.after_is there) in
      subst (Keeps caller (lines_by caller lines)) back.2
      (seen caller (lines_by caller lines) front back.0 (met.most (place_of k caller) back.0 back.1)
      (all caller is back.0 back.1))

  -- ---- the groups

  pub along_groups : (files : List (ℕ × List ℕ)) (budget : ℕ) → IsShape k → (groups : List Group) (number : ℕ) (before after : List Account) (front : ℕ) (done : List Done) (lines : List Line) → AreGroupsDone k files budget number groups before after front done
      → AllKeep k Keeps before lines → AllKeep k Keeps after (lines ++ flat_map done_lines done)
  along_groups files budget shape [] number before after front done lines (same, none, _) all =
      let here : AllKeep k Keeps after lines = subst (λ (l : List Account). AllKeep k Keeps l lines) (sym same) all in
      subst (λ (l : List Line). AllKeep k Keeps after l) (sym (ap (λ (d : List Done). lines ++ flat_map done_lines d) none ∙ append-nil lines)) here
  along_groups files budget shape (group ∷ groups) number before after front done lines (middle, met, first, rest, one, more, parts) all =
      let mine : AllKeep k Keeps one.between (lines ++ flat_map done_lines first) =
      along_jobs number first before one.between lines one.jobs (all_fit k files budget number shape 0 0 group.jobs first one.dealt_are one.by_files) (all_asked k files budget number 0 0 group.jobs first one.dealt_are one.by_files) all in
      let next : AllKeep k Keeps middle (lines ++ flat_map done_lines first) = along_met one.between middle met (lines ++ flat_map done_lines first) one.met mine in
      let last = along_groups files budget shape groups (number + 1) middle after front rest (lines ++ flat_map done_lines first) more next in
      subst (λ (l : List Line). AllKeep k Keeps after l)
      (append_assoc lines (flat_map done_lines first) (flat_map done_lines rest) ∙ ap (λ (l : List Line). lines ++ l) (sym (flat_map-append done_lines first rest) ∙ ap (flat_map done_lines) (sym parts))) last
