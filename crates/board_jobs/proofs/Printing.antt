-- The entries of a caller's account are those that its lines print.
use Rattle.std.proofs.Common.{◌≡◌, ⊎_elim, ℕ, ◌+◌, ◌-◌, ◌<◌, Bool, cond, List, [], ◌∷◌, ◌++◌, length, map, set, sym, ap, subst, ◌∙◌, arith, append_assoc, append-nil, lt_of_not-le, lt-ltb}
use Rattle.std.specs.List.{flat_map}
use Rattle.std.proofs.lemmas.Bool.{le-ltb}
use Rattle.std.proofs.lemmas.Grind.{flat_map-append}
use Rattle.std.proofs.lemmas.List.{length-map, length-set}
use Rattle.std.proofs.lemmas.List.Concat.{flat_map-cons}
use Rattle.std.proofs.lemmas.List.Elements.{filter-append}
use mathlib.Core.Option.{some}
use mathlib.Core.Logic.{dite}
use native.Mathlib.Decide.{dec_le}
use lib.ListN.{get_elem?}
use Rattle.htss_defs.specs.declared.shape.Shape.{Shape}
use Rattle.htss_defs.specs.Shapes.{IsShape}
use Rattle.script_text.specs.declared.script.Group.{Group}
use Rattle.report_rules.specs.Answers.{Answer, answers_of}
use Rattle.report_rules.specs.Dealing.{Caller, loader, searcher}
use Rattle.report_rules.specs.Reports.{Done, done_lines}
use Rattle.report_rules.specs.Rules.{Line, is_same}
use Rattle.board_core.specs.declared.account.Account.{Account}
use Rattle.board_core.specs.declared.entry.Entry.{Entry}
use Rattle.board_core.proofs.Lists.{inside}
use Rattle.board_jobs.specs.Answering.{AreAnswered}
use Rattle.board_jobs.specs.Ends.{caller_at}
use Rattle.board_jobs.specs.Groups.{place_of, with_seen, AreDone, HaveMet, AreGroupsDone, AreNew}
use Rattle.board_jobs.specs.Printed.{lines_by, printed}
use Rattle.board_jobs.specs.Telling.{entries_in, tells}
use Rattle.board_jobs.proofs.Chained.{answered_entries}
use Rattle.board_jobs.proofs.Fits.{IsCaller, one_place, same_caller, other_caller, AllFit, all_fit}
use Rattle.board_jobs.proofs.Places.{at_set, map_back, set_here, set_same, set_twice}

-- ---- what the lines of a caller print

abbrev pub prints : Caller → List Line → List Entry
prints caller lines = printed (lines_by caller lines)

pub prints_both : (caller : Caller) (xs ys : List Line) → prints caller (xs ++ ys) ≡ prints caller xs ++ prints caller ys
prints_both caller xs ys =
    ap printed (filter-append (λ (line : Line). is_same line.caller caller) xs ys)
    ∙ flat_map-append (λ (line : Line). tells line.caller line.answer) (lines_by caller xs) (lines_by caller ys)

pub prints_own : (line : Line) → prints line.caller (line ∷ []) ≡ tells line.caller line.answer
prints_own line = ap (λ (b : Bool). printed (cond b (line ∷ []) [])) (same_caller line.caller) ∙ append-nil (tells line.caller line.answer)

prints_none : (caller : Caller) (line : Line) → ¬ (line.caller ≡ caller) → prints caller (line ∷ []) ≡ []
prints_none caller line other = ap (λ (b : Bool). printed (cond b (line ∷ []) [])) (other_caller line.caller caller other)

-- each account has the entries that the lines of its caller print
abbrev pub HavePrinted : Shape → List Account → List Line → Type 0
HavePrinted k accounts lines = (caller : Caller) → IsCaller k caller → (a : Account) → get_elem? accounts (place_of k caller) ≡ some a → entries_in a ≡ prints caller lines

-- ---- an answer

module _ (k : Shape) where
  -- a line by another caller changes the account at another place, and prints nothing here
  printed_answer : (accounts : List Account) (lines : List Line) (line : Line) (a b : Account) → IsCaller k line.caller → get_elem? accounts (place_of k line.caller) ≡ some a → entries_in b ≡ entries_in a ++ tells line.caller line.answer
      → HavePrinted k accounts lines → HavePrinted k (set accounts (place_of k line.caller) b) (lines ++ line ∷ [])
  printed_answer accounts lines line a b is at more all caller one x there = ⊎_elim
      (λ (t : (place_of k caller ≡ place_of k line.caller) × (b ≡ x)).
      let same : line.caller ≡ caller = sym (one_place k caller line.caller one is t.0) in
      let old : entries_in b ≡ prints line.caller lines ++ tells line.caller line.answer = more ∙ ap (λ (l : List Entry). l ++ tells line.caller line.answer) (all line.caller is a at) in
      let new : prints line.caller (lines ++ line ∷ []) ≡ prints line.caller lines ++ tells line.caller line.answer =
      prints_both line.caller lines (line ∷ []) ∙ ap (λ (l : List Entry). prints line.caller lines ++ l) (prints_own line) in
      sym (ap (λ (y : Account). entries_in y) t.1) ∙ (old ∙ (sym new ∙ ap (λ (c : Caller). prints c (lines ++ line ∷ [])) same)))
      (λ (t : ¬ (place_of k caller ≡ place_of k line.caller) × (get_elem? accounts (place_of k caller) ≡ some x)).
      let none = prints_none caller line (λ (e : line.caller ≡ caller). t.0 (ap (place_of k) (sym e))) in
      let new : prints caller (lines ++ line ∷ []) ≡ prints caller lines = prints_both caller lines (line ∷ []) ∙ (ap (λ (l : List Entry). prints caller lines ++ l) none ∙ append-nil (prints caller lines)) in
      all caller one x t.1 ∙ sym new)
      (at_set accounts (place_of k line.caller) (place_of k caller) b x there)

  -- ---- the answers of a job

  abbrev line_of : ℕ → Caller → Answer → Line
  line_of group caller answer = record { group = group; caller = caller; answer = answer }

  printed_answers : (group : ℕ) (caller : Caller) (answers : List Answer) (accounts : List Account) (lines : List Line) (a b : Account) → IsCaller k caller → get_elem? accounts (place_of k caller) ≡ some a → AreAnswered k caller a b answers
      → HavePrinted k accounts lines → HavePrinted k (set accounts (place_of k caller) b) (lines ++ map (line_of group caller) answers)
  printed_answers group caller [] accounts lines a b is at same all =
      let still : set accounts (place_of k caller) b ≡ accounts = set_same accounts (place_of k caller) b (at ∙ ap some (sym same)) in
      subst (λ (l : List Account). HavePrinted k l (lines ++ [])) (sym still) (subst (λ (l : List Line). HavePrinted k accounts l) (sym (append-nil lines)) all)
  printed_answers group caller (answer ∷ answers) accounts lines a b is at (between, one, rest) all =
      let place : ℕ = place_of k caller in
      let line : Line = line_of group caller answer in
      let next : HavePrinted k (set accounts place between) (lines ++ line ∷ []) = printed_answer accounts lines line a between is at (answered_entries k caller a between answer one) all in
      let last = printed_answers group caller answers (set accounts place between) (lines ++ line ∷ []) between b is (set_here accounts place between (inside accounts place a at)) rest next in
      subst (λ (l : List Account). HavePrinted k l (lines ++ line ∷ map (line_of group caller) answers)) (set_twice accounts place between b)
      (subst (λ (l : List Line). HavePrinted k (set (set accounts place between) place b) l) (append_assoc lines (line ∷ []) (map (line_of group caller) answers)) last)

  -- ---- the jobs of a group

  printed_jobs : (group : ℕ) (done : List Done) (before after : List Account) (lines : List Line) → AreDone k before after done → AllFit k group done → HavePrinted k before lines → HavePrinted k after (lines ++ flat_map done_lines done)
  printed_jobs group [] before after lines same fit all =
      subst (λ (l : List Account). HavePrinted k l (lines ++ [])) (sym same) (subst (λ (l : List Line). HavePrinted k before l) (sym (append-nil lines)) all)
  printed_jobs group (one ∷ more) before after lines (between, job, rest) (first, others) all =
      let next : HavePrinted k (set before (place_of k one.dealt.caller) job.new) (lines ++ done_lines one) =
      printed_answers one.dealt.group one.dealt.caller (answers_of one.answer) before lines job.old job.new first.is job.there job.answered all in
      let last = printed_jobs group more between after (lines ++ done_lines one) rest others (subst (λ (l : List Account). HavePrinted k l (lines ++ done_lines one)) (sym job.after_is) next) in
      subst (λ (l : List Line). HavePrinted k after l) (append_assoc lines (done_lines one) (flat_map done_lines more) ∙ ap (λ (l : List Line). lines ++ l) (sym (flat_map-cons done_lines one more))) last

  -- callers that meet print nothing
  printed_met : (before after : List Account) (front : ℕ) (lines : List Line) → HaveMet before after front → HavePrinted k before lines → HavePrinted k after lines
  printed_met before after front lines met all caller is x there =
      let back = map_back (with_seen front) before (place_of k caller) x (subst (λ (l : List Account). get_elem? l (place_of k caller) ≡ some x) met.after_is there) in
      sym (ap (λ (y : Account). entries_in y) back.2) ∙ all caller is back.0 back.1

  -- ---- the groups

  pub printed_groups : (files : List (ℕ × List ℕ)) (budget : ℕ) → IsShape k → (groups : List Group) (number : ℕ) (before after : List Account) (front : ℕ) (done : List Done) (lines : List Line) → AreGroupsDone k files budget number groups before after front done
      → HavePrinted k before lines → HavePrinted k after (lines ++ flat_map done_lines done)
  printed_groups files budget shape [] number before after front done lines (same, none, _) all =
      let here : HavePrinted k after lines = subst (λ (l : List Account). HavePrinted k l lines) (sym same) all in
      subst (λ (l : List Line). HavePrinted k after l) (sym (ap (λ (d : List Done). lines ++ flat_map done_lines d) none ∙ append-nil lines)) here
  printed_groups files budget shape (group ∷ groups) number before after front done lines (middle, met, first, rest, one, more, parts) all =
      let mine : HavePrinted k one.between (lines ++ flat_map done_lines first) =
      printed_jobs number first before one.between lines one.jobs (all_fit k files budget number shape 0 0 group.jobs first one.dealt_are one.by_files) all in
      let next : HavePrinted k middle (lines ++ flat_map done_lines first) = printed_met one.between middle met (lines ++ flat_map done_lines first) one.met mine in
      let last = printed_groups files budget shape groups (number + 1) middle after front rest (lines ++ flat_map done_lines first) more next in
      subst (λ (l : List Line). HavePrinted k after l)
      (append_assoc lines (flat_map done_lines first) (flat_map done_lines rest) ∙ ap (λ (l : List Line). lines ++ l) (sym (flat_map-append done_lines first rest) ∙ ap (flat_map done_lines) (sym parts))) last

  pub printed_new : (before : List Account) → AreNew k before → HavePrinted k before []
  printed_new before new caller is a there = ap (λ (x : Account). entries_in x) (new.1 (place_of k caller) a there)

  -- ---- there are as many accounts as before

  jobs_count : (done : List Done) (before after : List Account) → AreDone k before after done → length after ≡ length before
  jobs_count [] before after same = ap length same
  jobs_count (one ∷ more) before after (between, job, rest) =
      jobs_count more between after rest ∙ (ap length job.after_is ∙ length-set before (place_of k one.dealt.caller) job.new)

  pub groups_count : (files : List (ℕ × List ℕ)) (budget : ℕ) (groups : List Group) (number : ℕ) (before after : List Account) (front : ℕ) (done : List Done) → AreGroupsDone k files budget number groups before after front done
      → length after ≡ length before
  groups_count files budget [] number before after front done (same, _, _) = ap length same
  groups_count files budget (group ∷ groups) number before after front done (middle, met, first, rest, one, more, _) =
      groups_count files budget groups (number + 1) middle after front rest more
      ∙ (ap length one.met.after_is ∙ (length-map one.between (with_seen met) ∙ jobs_count first before one.between one.jobs))

  -- ---- the caller of a place

  pub at_place : (i : ℕ) → i < k.loaders + k.searchers → IsCaller k (caller_at k i) × (place_of k (caller_at k i) ≡ i)
  at_place i within =
      let Is : Bool → Type 0 = λ b. IsCaller k (cond b (loader (i + 1)) (searcher (i + 1 - k.loaders))) × (place_of k (cond b (loader (i + 1)) (searcher (i + 1 - k.loaders))) ≡ i) in
      dite (dec_le k.loaders i)
      (λ past. subst Is (sym (le-ltb i k.loaders past)) ((omega (arith, past), omega (arith, past, within)), omega (arith, past)))
      (λ not_past. let before : i < k.loaders = lt_of_not-le not_past in subst Is (sym (lt-ltb i k.loaders before)) ((omega arith, omega (arith, before)), omega arith))

-- ---- the law

pub entries_printed : (k : Shape) (files : List (ℕ × List ℕ)) (budget : ℕ) (groups : List Group) (before middle : List Account) (front : ℕ) (done : List Done) → IsShape k → AreNew k before → AreGroupsDone k files budget 1 groups before middle front done
    → (i : ℕ) (a : Account) → get_elem? middle i ≡ some a → entries_in a ≡ printed (lines_by (caller_at k i) (flat_map done_lines done))
entries_printed k files budget groups before middle front done shape new are i a there =
    let below = inside middle i a there in
    let many = groups_count k files budget groups 1 before middle front done are in
    let count = new.0 in
    let (is, place) = at_place k i (omega (arith, below, many, count)) in
    printed_groups k files budget shape groups 1 before middle front done [] are (printed_new k before new) (caller_at k i) is a (ap (get_elem? middle) place ∙ there)
