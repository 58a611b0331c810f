-- Where no line is at fault, the report is one of its own log.
use Rattle.std.proofs.Common.{◌≡◌, inl, inr, ℕ, suc, ◌+◌, ◌-◌, ◌≤◌, ◌<◌, List, [], ◌∷◌, ◌++◌, length, map, take, refl, sym, ap, ◌∙◌, subst, All, arith}
use Rattle.std.specs.Prelude.{Some, Contains, slice_get}
use Rattle.std.specs.List.{flat_map}
use Rattle.std.proofs.lemmas.List.{length-map}
use Rattle.std.proofs.lemmas.List.Concat.{flat_map-cons}
use Rattle.std.proofs.lemmas.List.Elements.{All-contains, Contains-append_cases}
use Rattle.htss_defs.specs.Molecule.{Molecule}
use Rattle.htss_defs.specs.declared.history.Event.{Event}
use Rattle.htss_defs.specs.Shapes.{IsShape}
use Rattle.htss_defs.specs.History.{IsLegal}
use Rattle.script_text.specs.declared.script.Group.{Group}
use Rattle.report_text.specs.declared.report.Report.{Report}
use Rattle.report_text.specs.Values.{IsInGrammar}
use Rattle.report_text.specs.declared.report.LogLine.{LogLine}
use Rattle.report_rules.specs.Answers.{own_number}
use Rattle.report_rules.specs.Dealing.{dealt}
use Rattle.report_rules.specs.Rules.{Line}
use Rattle.report_rules.specs.Reports.{Done, done_lines, log_line, IsByItsLoader, IsReport}
use Rattle.report_rules.specs.Faults.{IsTold, IsLogUpTo, AreKept, IsAsLogged, names, setting_of, told_from}

-- ---- a line that names an event

own_of : Line → List ℕ
own_of line = own_number line.answer

pub record IsNamer (lines : List Line) (number : ℕ) (line : Line) : Type 0 where
  pub earlier : List Line
  pub later : List Line
  pub split : lines ≡ earlier ++ line ∷ later
  pub has : Contains (own_number line.answer) number

namer : (lines : List Line) (number : ℕ) → Contains (flat_map (λ line. own_number line.answer) lines) number → (line : Line) × IsNamer lines number line
namer [] number (k, within, at) = absurd (omega arith)
namer (line ∷ lines) number has =
    let split = Contains-append_cases (own_number line.answer) (flat_map (λ line. own_number line.answer) lines) number
    (subst (λ l. Contains l number) (flat_map-cons (λ (x : Line). own_number x.answer) line lines) has) in
    elim split [
      | inl here ↦ (line, record { earlier = []; later = lines; split = refl; has = here })
      | inr more ↦ (
          let (one, is) = namer lines number more in
          (one, record { earlier = line ∷ is.earlier; later = is.later; split = ap (λ l. line ∷ l) is.split; has = is.has }))
    ]

-- ---- the log

length_told : (named : List (ℕ × Molecule)) (first : ℕ) (lines : List LogLine) → length (told_from named first lines) ≡ length lines
length_told named first [] = refl
length_told named first (line ∷ lines) = ap suc (length_told named (first + 1) lines)

same_lists : (xs ys : List LogLine) → length xs ≡ length ys → ((i : ℕ) → i < length xs → slice_get xs i ≡ slice_get ys i) → xs ≡ ys
same_lists [] [] long each = refl
same_lists [] (y ∷ ys) long each = absurd (omega (arith, long))
same_lists (x ∷ xs) [] long each = absurd (omega (arith, long))
same_lists (x ∷ xs) (y ∷ ys) long each =
    let first : Some x ≡ Some y = each 0 (omega arith) in
    let here : x ≡ y = cc first in
    let rest = same_lists xs ys (omega (arith, long)) (λ i within. each (suc i) (omega (arith, within))) in
    cc (here, rest)

-- ---- the report

pub is_report : (script : List Group) (files : List (ℕ × List ℕ)) (report : Report) (history : List Event) (done : List Done) → IsInGrammar report → IsTold script files report history
    → IsShape report.shape → length report.events ≤ report.shape.log → IsLogUpTo report.shape history (length history)
    → AreKept (setting_of files report history) (dealt report.shape 1 script) report.blocks done → length done ≡ length (dealt report.shape 1 script) → length done ≡ length report.blocks
    → ((number : ℕ) → 1 ≤ number → number ≤ length history → Contains (names done) number)
    → IsReport script files report.shape report.budget report
is_report script files report history done grammar told shape short legal kept jobs blocks named = record {
  in_grammar = grammar;
  in_limits = shape;
  shape_is = refl;
  budget_is = refl;
  history = history;
  within = omega (arith, long, short);
  legal = subst IsLegal (all_taken history) legal.0;
  loaders = subst (All (IsByItsLoader report.shape)) (all_taken history) legal.1;
  log = sym log_is;
  told = record {
    done = done;
    jobs = kept.of_jobs ∙ ap (λ n. take n (dealt report.shape 1 script)) jobs ∙ all_taken (dealt report.shape 1 script);
    by_files = kept.by_files;
    blocks_are = sym (kept.blocks_are ∙ ap (λ n. take n report.blocks) blocks ∙ all_taken report.blocks);
    rules = λ earlier later line split. (kept.rules earlier later line split).rule;
    named = named;
  };
}
  where
    all_taken : {X : Type 0} (xs : List X) → take (length xs) xs ≡ xs
    all_taken [] = refl
    all_taken (x ∷ xs) = ap (λ l. x ∷ l) (all_taken xs)

    long : length history ≡ length report.events
    long = ap length told.history_is ∙ length_told told.named 1 report.events

    logged : (number : ℕ) → 1 ≤ number → number ≤ length history → IsAsLogged report.events history number
    logged number some within =
        let (line, is) = namer (flat_map done_lines done) number (named number some within) in
        All-contains (IsAsLogged report.events history) (own_number line.answer) number (kept.rules is.earlier is.later line is.split).logged is.has

    log_is : map log_line history ≡ report.events
    log_is = same_lists (map log_line history) report.events (length-map history log_line ∙ long) (λ i within.
        let e : i + 1 - 1 ≡ i = omega arith in
        subst (λ n. slice_get (map log_line history) n ≡ slice_get report.events n) e
        (logged (i + 1) (omega arith) (omega (arith, within, length-map history log_line))))
