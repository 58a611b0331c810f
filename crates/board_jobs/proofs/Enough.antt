-- A line tells that no page was left only where the pages are few, and that a chain was full only where many rows were loaded.
use Rattle.std.proofs.Common.{◌≡◌, ℕ, zero, suc, ◌+◌, ◌*◌, ◌-◌, ◌<◌, ◌≤◌, List, [], ◌∷◌, ◌++◌, length, map, refl, sym, ap, subst, ◌∙◌, All, arith, append_assoc}
use Rattle.std.specs.List.{flat_map}
use Rattle.std.proofs.lemmas.Grind.{flat_map-append}
use Rattle.std.proofs.lemmas.List.Concat.{flat_map-cons}
use Rattle.std.proofs.lemmas.List.Elements.{All-append, All-cons, All-head, All-nil}
use mathlib.Core.Option.{some}
use lib.ListN.{get_elem?}
use Rattle.htss_defs.specs.declared.record.NamedMol.{NamedMol}
use Rattle.htss_defs.specs.declared.shape.Shape.{Shape}
use Rattle.htss_defs.specs.Shapes.{IsShape}
use Rattle.script_text.specs.declared.script.Group.{Group}
use Rattle.report_rules.specs.Answers.{Answer, answers_of, to_record, taken, no_page, chain_full}
use Rattle.report_rules.specs.Dealing.{Caller, loader, searcher}
use Rattle.report_rules.specs.Reports.{Done, done_lines}
use Rattle.report_rules.specs.Rules.{Line}
use Rattle.board_core.specs.declared.account.Account.{Account}
use Rattle.board_core.specs.declared.entry.Entry.{Entry}
use Rattle.board_core.specs.declared.entry.Entry.TheVariants.{NoPage, ChainFull}
use Rattle.board_core.specs.declared.entry.Noted.{Noted}
use Rattle.board_core.specs.Answers.{answers_in, is_answer}
use Rattle.board_core.specs.CountRule.{pages_for}
use Rattle.board_core.specs.Each.{Each, In}
use Rattle.board.specs.Closed.{begun_in, AreFewPages, AreFewChains}
use Rattle.board_jobs.specs.Begun.{atoms_loaded}
use Rattle.board_jobs.specs.Enough.{TellsNoPage, ArePagesEnough, TellsChainFull, AreChainsEnough}
use Rattle.board_jobs.specs.Groups.{place_of, AreGroupsDone, AreNew}
use Rattle.board_jobs.specs.Telling.{entries_in, tells}
use Rattle.board_jobs.proofs.Begun.{few_begun}
use Rattle.board_jobs.proofs.Fits.{IsCaller, AllFit, all_fit}
use Rattle.board_jobs.proofs.Marks.{all_right}
use Rattle.board_jobs.proofs.Places.{each_filter, elem_at, map_back}
use Rattle.board_jobs.proofs.Printing.{groups_count, printed_groups, printed_new, prints, prints_both, prints_own}

-- ---- lists

-- a fact of each element that has others before and behind it
all_from : {A : Type 0} (F : A → Type 0) (before xs : List A) → ((earlier later : List A) (x : A) → before ++ xs ≡ earlier ++ x ∷ later → F x) → All F xs
all_from F before [] each_one = All-nil F
all_from F before (x ∷ xs) each_one = All-cons F x xs (each_one before xs x refl)
    (all_from F (before ++ x ∷ []) xs (λ earlier later y split. each_one earlier later y (sym (append_assoc before (x ∷ []) xs) ∙ split)))

at_middle : {A : Type 0} (xs ys : List A) (x : A) → get_elem? (xs ++ x ∷ ys) (length xs) ≡ some x
at_middle [] ys x = refl
at_middle (z ∷ xs) ys x = at_middle xs ys x

-- ---- the callers of lines

own_lines : (k : Shape) (one : Done) → IsCaller k one.dealt.caller → All (λ (line : Line). IsCaller k line.caller) (done_lines one)
own_lines k one is = answered (answers_of one.answer)
  where
    answered : (answers : List Answer) → All (λ (line : Line). IsCaller k line.caller) (map (λ answer. record { group = one.dealt.group; caller = one.dealt.caller; answer = answer }) answers)
    answered [] = All-nil (λ (line : Line). IsCaller k line.caller)
    answered (answer ∷ answers) = All-cons (λ (line : Line). IsCaller k line.caller) (record { group = one.dealt.group; caller = one.dealt.caller; answer = answer })
        (map (λ other. record { group = one.dealt.group; caller = one.dealt.caller; answer = other }) answers) is (answered answers)

jobs_lines : (k : Shape) (group : ℕ) (done : List Done) → AllFit k group done → All (λ (line : Line). IsCaller k line.caller) (flat_map done_lines done)
jobs_lines k group [] fit = All-nil (λ (line : Line). IsCaller k line.caller)
jobs_lines k group (one ∷ more) (first, others) = subst (All (λ (line : Line). IsCaller k line.caller)) (sym (flat_map-cons done_lines one more))
    (All-append (λ (line : Line). IsCaller k line.caller) (done_lines one) (flat_map done_lines more) (own_lines k one first.is) (jobs_lines k group more others))

groups_lines : (k : Shape) (files : List (ℕ × List ℕ)) (budget : ℕ) → IsShape k → (groups : List Group) (number : ℕ) (before after : List Account) (front : ℕ) (done : List Done) → AreGroupsDone k files budget number groups before after front done
    → All (λ (line : Line). IsCaller k line.caller) (flat_map done_lines done)
groups_lines k files budget shape [] number before after front done (same, none, _) = subst (λ (d : List Done). All (λ (line : Line). IsCaller k line.caller) (flat_map done_lines d)) (sym none) (All-nil (λ (line : Line). IsCaller k line.caller))
groups_lines k files budget shape (group ∷ groups) number before after front done (middle, met, first, rest, one, more, parts) =
    let mine = jobs_lines k number first (all_fit k files budget number shape 0 0 group.jobs first one.dealt_are one.by_files) in
    let later = groups_lines k files budget shape groups (number + 1) middle after front rest more in
    subst (All (λ (line : Line). IsCaller k line.caller)) (sym (flat_map-append done_lines first rest) ∙ ap (flat_map done_lines) (sym parts))
    (All-append (λ (line : Line). IsCaller k line.caller) (flat_map done_lines first) (flat_map done_lines rest) mine later)

place_within : (k : Shape) (caller : Caller) → IsCaller k caller → place_of k caller < k.loaders + k.searchers
place_within k (loader number) (low, high) = omega (arith, low, high)
place_within k (searcher number) (low, high) = omega (arith, low, high)

-- ---- what a line prints stands in its caller's account

-- the entries of the line's caller, where it prints this one
printed_here : (line : Line) (e : Entry) (earlier later : List Line) → tells line.caller line.answer ≡ e ∷ [] → prints line.caller (earlier ++ line ∷ later) ≡ prints line.caller earlier ++ e ∷ prints line.caller later
printed_here line e earlier later told =
    prints_both line.caller earlier (line ∷ later)
    ∙ ap (λ (l : List Entry). prints line.caller earlier ++ l)
    (prints_both line.caller (line ∷ []) later ∙ ap (λ (l : List Entry). l ++ prints line.caller later) (prints_own line ∙ told))

module _ (k : Shape) (files : List (ℕ × List ℕ)) (budget : ℕ) (groups : List Group) (before middle : List Account) (front : ℕ) (done : List Done)
    (shape : IsShape k) (new : AreNew k before) (are : AreGroupsDone k files budget 1 groups before middle front done) where
  -- a fact of each entry of each account holds of what a line prints
  pub of_printed : (F : Entry → Type 0) (line : Line) (e : Entry) (earlier later : List Line) → flat_map done_lines done ≡ earlier ++ line ∷ later → tells line.caller line.answer ≡ e ∷ [] → Each (λ a. Each (λ n. F n.entry) a.entries) middle → F e
  of_printed F line e earlier later split told facts =
      let caller : Caller = line.caller in
      let is : IsCaller k caller = All-head (λ (one : Line). IsCaller k one.caller) line later
      (all_right (λ (one : Line). IsCaller k one.caller) earlier (line ∷ later) (subst (All (λ (one : Line). IsCaller k one.caller)) split (groups_lines k files budget shape groups 1 before middle front done are))) in
      let within = place_within k caller is in
      let many = groups_count k files budget groups 1 before middle front done are in
      let count = new.0 in
      let (a, there) = elem_at middle (place_of k caller) (omega (arith, within, many, count)) in
      let entries : entries_in a ≡ prints caller earlier ++ e ∷ prints caller later =
      printed_groups k files budget shape groups 1 before middle front done [] are (printed_new k before new) caller is a there ∙ ap (prints caller) split ∙ printed_here line e earlier later told in
      let here : get_elem? (entries_in a) (length (prints caller earlier)) ≡ some e = ap (λ (l : List Entry). get_elem? l (length (prints caller earlier))) entries ∙ at_middle (prints caller earlier) (prints caller later) e in
      let (n, at, same) = map_back (λ (n : Noted). n.entry) (answers_in a.entries) (length (prints caller earlier)) e here in
      subst F same (each_filter (λ (m : Noted). F m.entry) (λ (m : Noted). is_answer m.entry) a.entries (facts (place_of k caller) a there) (length (prints caller earlier)) n at)

  pub pages_enough : AreFewPages k middle → ArePagesEnough k (flat_map done_lines done)
  pages_enough few = all_from (λ line. TellsNoPage line → k.pages ≤ pages_for (atoms_loaded (flat_map done_lines done)) k.loaders) [] (flat_map done_lines done)
      (λ earlier later line split (one, is).
      let most : k.pages ≤ pages_for (begun_in middle) k.loaders =
      of_printed (λ e. e ≡ NoPage → k.pages ≤ pages_for (begun_in middle) k.loaders) line NoPage earlier later split (ap (λ (answer : Answer). tells line.caller answer) is) few refl in
      let begun = few_begun k files budget groups before middle front done new are in omega (arith, most, begun))

  pub chains_enough : AreFewChains k middle → AreChainsEnough k (flat_map done_lines done)
  chains_enough few = all_from (λ line. TellsChainFull line → 7 * k.chain ≤ atoms_loaded (flat_map done_lines done)) [] (flat_map done_lines done)
      (λ earlier later line split (one, pages, is).
      let most : 7 * k.chain ≤ begun_in middle =
      of_printed (λ e. (n : ℕ) → e ≡ ChainFull n → 7 * k.chain ≤ begun_in middle) line (ChainFull pages) earlier later split (ap (λ (answer : Answer). tells line.caller answer) is) few pages refl in
      let begun = few_begun k files budget groups before middle front done new are in omega (arith, most, begun))
