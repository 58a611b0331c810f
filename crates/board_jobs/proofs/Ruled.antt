-- The rules of a report's lines follow from what the jobs did to the callers' accounts.
use Rattle.std.proofs.Common.{◌≡◌, ℕ, ◌+◌, ◌≤◌, List, [], ◌∷◌, ◌++◌, length, get_or, map, set, take, sym, ap, subst, ◌∙◌, All, arith, append_assoc}
use Rattle.std.specs.List.{flat_map}
use Rattle.std.proofs.lemmas.Grind.{flat_map-append}
use Rattle.std.proofs.lemmas.List.{append-nil}
use Rattle.std.proofs.lemmas.List.Concat.{flat_map-cons}
use Rattle.std.proofs.lemmas.List.Elements.{All-head, All-tail}
use mathlib.Core.Option.{some}
use lib.ListN.{get_elem?}
use Rattle.htss_defs.specs.declared.shape.Shape.{Shape}
use Rattle.htss_defs.specs.declared.shape.Field.TheVariants.{Loaders}
use Rattle.htss_defs.specs.Shapes.{IsShape}
use Rattle.script_text.specs.declared.script.Group.{Group}
use Rattle.report_rules.specs.Answers.{Answer, answers_of}
use Rattle.report_rules.specs.Dealing.{Caller}
use Rattle.report_rules.specs.Reports.{Done, done_lines}
use Rattle.report_rules.specs.Rules.{Line, KeepsRule}
use Rattle.board_core.specs.declared.account.Account.{Account}
use Rattle.board_core.specs.Each.{Each}
use Rattle.board_core.specs.Words.{Parts}
use Rattle.board_core.specs.Histories.{history_of}
use Rattle.board_core.proofs.Lists.{inside}
use Rattle.board_core.proofs.Shown.{history_counted}
use Rattle.board_jobs.specs.Answering.{AreAnswered}
use Rattle.board_jobs.specs.Groups.{place_of, AreDone, AreGroupsDone, AreNew}
use Rattle.board_jobs.specs.Ends.{HaveGoneOn, IsEnd}
use Rattle.board_jobs.specs.Rooms.{HaveHadRoom}
use Rattle.board_jobs.proofs.Places.{elem_at, set_here, set_same, set_twice}
use Rattle.board_jobs.proofs.Marks.{AreSeen, all_right}
use Rattle.board_jobs.proofs.Stand.{Stands, stands_all, stand_jobs, stand_met, stand_groups, stand_middle}
use Rattle.board_jobs.proofs.Keeping.{MayOwn}
use Rattle.board_jobs.proofs.Cut.{keeps_cut}
use Rattle.board_jobs.proofs.Fits.{IsCaller, AllFit, all_fit}
use Rattle.board_jobs.proofs.Kept.{HasSeen, Kept, kept_new, kept_answer, kept_met}

-- ---- the answers of a job

abbrev line_of : ℕ → Caller → Answer → Line
line_of group caller answer = record { group = group; caller = caller; answer = answer }

module _ (k : Shape) (p : Parts) where
  kept_answers : (group number : ℕ) (caller : Caller) (answers : List Answer) (accounts : List Account) (lines : List Line) (a b : Account) → number ≡ group → IsCaller k caller → get_elem? accounts (place_of k caller) ≡ some a
      → AreAnswered k caller a b answers → Stands k p b → All (MayOwn caller) answers → Kept k (history_of k p) group accounts lines → Kept k (history_of k p) group (set accounts (place_of k caller) b) (lines ++ map (line_of number caller) answers)
  kept_answers group number caller [] accounts lines a b here is at same stands may kept =
      let still : set accounts (place_of k caller) b ≡ accounts = set_same accounts (place_of k caller) b (at ∙ ap some (sym same)) in
      subst (λ (l : List Account). Kept k (history_of k p) group l (lines ++ [])) (sym still) (subst (λ (l : List Line). Kept k (history_of k p) group accounts l) (sym (append-nil lines)) kept)
  kept_answers group number caller (answer ∷ answers) accounts lines a b here is at (between, one, rest) stands may kept =
      let place : ℕ = place_of k caller in
      let line : Line = line_of number caller answer in
      let next : Kept k (history_of k p) group (set accounts place between) (lines ++ line ∷ []) =
      kept_answer k p group accounts lines kept line here is a between at one (stands_all k p caller answers between b rest stands) (All-head (MayOwn caller) answer answers may) in
      let all = kept_answers group number caller answers (set accounts place between) (lines ++ line ∷ []) between b here is (set_here accounts place between (inside accounts place a at)) rest stands (All-tail (MayOwn caller) answer answers may) next in
      subst (λ (l : List Account). Kept k (history_of k p) group l (lines ++ line ∷ map (line_of number caller) answers)) (set_twice accounts place between b)
      (subst (λ (l : List Line). Kept k (history_of k p) group (set (set accounts place between) place b) l) (append_assoc lines (line ∷ []) (map (line_of number caller) answers)) all)

  -- ---- the jobs of a group

  kept_jobs : (group : ℕ) (done : List Done) (before after : List Account) (lines : List Line) → AreDone k before after done → AllFit k group done → Each (Stands k p) after → Kept k (history_of k p) group before lines
      → Kept k (history_of k p) group after (lines ++ flat_map done_lines done)
  kept_jobs group [] before after lines same fit stand kept =
      subst (λ (l : List Account). Kept k (history_of k p) group l (lines ++ [])) (sym same) (subst (λ (l : List Line). Kept k (history_of k p) group before l) (sym (append-nil lines)) kept)
  kept_jobs group (one ∷ more) before after lines (between, job, rest) (first, others) stand kept =
      let place : ℕ = place_of k one.dealt.caller in
      let left : Each (Stands k p) (set before place job.new) = subst (Each (Stands k p)) job.after_is (stand_jobs k p more between after rest stand) in
      let new : Stands k p job.new = left place job.new (set_here before place job.new (inside before place job.old job.there)) in
      let next : Kept k (history_of k p) group (set before place job.new) (lines ++ done_lines one) =
      kept_answers group one.dealt.group one.dealt.caller (answers_of one.answer) before lines job.old job.new first.here first.is job.there job.answered new first.owns kept in
      let all = kept_jobs group more between after (lines ++ done_lines one) rest others stand (subst (λ (l : List Account). Kept k (history_of k p) group l (lines ++ done_lines one)) (sym job.after_is) next) in
      subst (λ (l : List Line). Kept k (history_of k p) group after l) (append_assoc lines (done_lines one) (flat_map done_lines more) ∙ ap (λ (l : List Line). lines ++ l) (sym (flat_map-cons done_lines one more))) all

  -- ---- the groups

  kept_groups : (files : List (ℕ × List ℕ)) (budget : ℕ) → IsShape k → (groups : List Group) (number : ℕ) (before after : List Account) (front : ℕ) (done : List Done) (lines : List Line) → AreGroupsDone k files budget number groups before after front done
      → Each (Stands k p) after → Kept k (history_of k p) number before lines → (last : ℕ) × Kept k (history_of k p) last after (lines ++ flat_map done_lines done)
  kept_groups files budget shape [] number before after front done lines (same, none, _) stand kept =
      let here : Kept k (history_of k p) number after lines = subst (λ (l : List Account). Kept k (history_of k p) number l lines) (sym same) kept in
      (number, subst (λ (l : List Line). Kept k (history_of k p) number after l) (sym (ap (λ (d : List Done). lines ++ flat_map done_lines d) none ∙ append-nil lines)) here)
  kept_groups files budget shape (group ∷ groups) number before after front done lines (middle, met, first, rest, one, more, parts) stand kept =
      let there : Each (Stands k p) middle = stand_groups k p files budget groups (number + 1) middle after front rest more stand in
      let mine : Kept k (history_of k p) number one.between (lines ++ flat_map done_lines first) =
      kept_jobs number first before one.between lines one.jobs (all_fit k files budget number shape 0 0 group.jobs first one.dealt_are one.by_files) (stand_met k p one.between middle met one.met there) kept in
      let next : Kept k (history_of k p) (number + 1) middle (lines ++ flat_map done_lines first) = kept_met k p number one.between (lines ++ flat_map done_lines first) mine middle met one.met in
      let all = kept_groups files budget shape groups (number + 1) middle after front rest (lines ++ flat_map done_lines first) more stand next in (
        all.0,
        subst (λ (l : List Line). Kept k (history_of k p) all.0 after l)
            (append_assoc lines (flat_map done_lines first) (flat_map done_lines rest) ∙ ap (λ (l : List Line). lines ++ l) (sym (flat_map-append done_lines first rest) ∙ ap (flat_map done_lines) (sym parts))) all.1,
      )

-- all have seen the front where they met last
pub front_seen : (k : Shape) (files : List (ℕ × List ℕ)) (budget : ℕ) (groups : List Group) (number : ℕ) (before after : List Account) (front : ℕ) (done : List Done) → AreGroupsDone k files budget number groups before after front done
    → Each (λ a. a.log.seen ≡ front) after
front_seen k files budget [] number before after front done (same, _, seen) = subst (Each (λ (a : Account). a.log.seen ≡ front)) (sym same) seen
front_seen k files budget (group ∷ groups) number before after front done (middle, met, first, rest, one, more, _) = front_seen k files budget groups (number + 1) middle after front rest more

-- ---- the laws

module _ (k : Shape) (files : List (ℕ × List ℕ)) (budget : ℕ) (groups : List Group) (before middle last : List Account) (front : ℕ) (done : List Done) (p : Parts) where
  pub front_within : IsShape k → AreNew k before → AreGroupsDone k files budget 1 groups before middle front done → HaveGoneOn k middle last → IsEnd k p last → front ≤ length (history_of k p)
  front_within shape new are gone end =
      let some_loader = (shape Loaders).0 in
      let (a, there) = elem_at middle 0 (omega (arith, some_loader, gone.count, end.count)) in
      let seen : a.log.seen ≡ front = front_seen k files budget groups 1 before middle front done are 0 a there in
      let behind : a.log.seen ≤ p.log.front = (stand_middle k p middle last gone end 0 a there).may.agrees.seen in
      omega (arith, seen, behind, history_counted k p)

  all_kept : IsShape k → AreNew k before → AreGroupsDone k files budget 1 groups before middle front done → HaveGoneOn k middle last → IsEnd k p last
      → (number : ℕ) × Kept k (history_of k p) number middle (flat_map done_lines done)
  all_kept shape new are gone end = kept_groups k p files budget shape groups 1 before middle front done [] are (stand_middle k p middle last gone end) (kept_new k (history_of k p) before new)

  -- what each line has used had room
  pub roomed : IsShape k → AreNew k before → AreGroupsDone k files budget 1 groups before middle front done → HaveGoneOn k middle last → IsEnd k p last → HaveHadRoom k (flat_map done_lines done)
  roomed shape new are gone end = (all_kept shape new are gone end).1.rooms

  pub ruled : IsShape k → AreNew k before → AreGroupsDone k files budget 1 groups before middle front done → HaveGoneOn k middle last → IsEnd k p last
      → (earlier later : List Line) (line : Line) → flat_map done_lines done ≡ earlier ++ line ∷ later → KeepsRule k (take front (history_of k p)) earlier line
  ruled shape new are gone end earlier later line split =
      let kept = (all_kept shape new are gone end).1 in
      let seen : HasSeen k middle line = All-head (HasSeen k middle) line later (all_right (HasSeen k middle) earlier (line ∷ later) (subst (All (HasSeen k middle)) split kept.own)) in
      let here : seen.by.log.seen ≡ front = front_seen k files budget groups 1 before middle front done are (place_of k line.caller) seen.by seen.there in
      keeps_cut k (history_of k p) front (front_within shape new are gone end) earlier line line.answer (subst (λ (n : ℕ). AreSeen n line) here seen.seen) (kept.rules earlier later line split)
