-- The text of a report of its own log has no line at fault, and other bytes have one first.
use Rattle.std.proofs.Common.{◌≡◌, inl, inr, ℕ, zero, suc, ◌-◌, ◌<◌, ◌≤◌, List, [], ◌∷◌, take, refl, sym, ap, ◌∙◌, subst, arith}
use Rattle.std.specs.Prelude.{Some, slice_get}
use Rattle.std.proofs.lemmas.Bool.{cases_eq, cases_lt}
use Rattle.script_text.specs.declared.script.Group.{Group}
use Rattle.report_text.specs.declared.report.Report.{Report}
use Rattle.report_read.specs.Faults as text
use Rattle.report_read.proofs.Complete.{no_fault, one_report}
use Rattle.report_rules.specs.Faults as rules
use Rattle.report_rules.proofs.NoFault.{no_line}
use Rattle.report_rules.proofs.OneFault.{one_fault}
use Rattle.command_ends.specs.AuditText.{BreaksRule, IsFirstAtFault, IsReportText}

pub held_is_sound : (groups : List Group) (files : List (ℕ × List ℕ)) (bytes : List ℕ) (report : Report) (line : ℕ) → IsReportText groups files bytes report → IsFirstAtFault groups files bytes line → ⊥
held_is_sound groups files bytes report line held (inl first) =
    no_fault report line held.is.in_grammar (subst (λ (b : List ℕ). text.IsFirstFault (text.cut_lines b) line) (sym held.text_is) first)
held_is_sound groups files bytes report line held (inr broken) =
    let same : broken.report ≡ report = one_report broken.report report broken.in_grammar held.is.in_grammar (broken.text_is ∙ sym held.text_is) in
    no_line groups files report line held.is (subst (λ (r : Report). rules.IsFirstFault groups files r line) same broken.first)

-- ---- one first line at fault

alike_at : {X : Type 0} (n i : ℕ) (xs ys : List X) → i < n → take n xs ≡ take n ys → slice_get xs i ≡ slice_get ys i
alike_at zero i xs ys lt same = absurd (omega arith)
alike_at (suc n) i [] [] lt same = refl
alike_at (suc n) i [] (y ∷ ys) lt same = absurd cc
alike_at (suc n) i (x ∷ xs) [] lt same = absurd cc
alike_at (suc n) zero (x ∷ xs) (y ∷ ys) lt same =
    let here : x ≡ y = cc in
    ap (λ z. Some z) here
alike_at (suc n) (suc i) (x ∷ xs) (y ∷ ys) lt same =
    let rest : take n xs ≡ take n ys = cc in
    alike_at n i xs ys (omega arith) rest

alike_less : {X : Type 0} (n m : ℕ) (xs ys : List X) → m ≤ n → take n xs ≡ take n ys → take m xs ≡ take m ys
alike_less n zero xs ys le same = refl
alike_less zero (suc m) xs ys le same = absurd (omega arith)
alike_less (suc n) (suc m) [] [] le same = refl
alike_less (suc n) (suc m) [] (y ∷ ys) le same = absurd cc
alike_less (suc n) (suc m) (x ∷ xs) [] le same = absurd cc
alike_less (suc n) (suc m) (x ∷ xs) (y ∷ ys) le same =
    let here : x ≡ y = cc in
    let rest : take n xs ≡ take n ys = cc in
    let more = alike_less n m xs ys (omega arith) rest in
    cc (here, more)

-- no report has the earlier line there, and one has the lines before the later one
not_before : (lines : List (List ℕ)) (a b : ℕ) → a < b → text.IsFirstFault lines a → text.IsFirstFault lines b → ⊥
not_before lines a b less first later =
    let some = first.within.0 in
    let alike = later.before in
    first.here later.begun (alike.0, alike_less (b - 1) (a - 1) (text.lines_of later.begun) lines (omega (arith, less)) alike.1)
    (alike_at (b - 1) (a - 1) (text.lines_of later.begun) lines (omega (arith, less, some)) alike.1)

one_text_fault : (lines : List (List ℕ)) (a b : ℕ) → text.IsFirstFault lines a → text.IsFirstFault lines b → a ≡ b
one_text_fault lines a b first second = elim (cases_eq a b) [
  | inl same ↦ same
  | inr other ↦ elim (cases_lt a b) [
    | inl less ↦ absurd (not_before lines a b less first second)
    | inr more ↦ absurd (not_before lines b a (omega (arith, more, other)) second first)
  ]
]

-- bytes that are a report's text leave off nowhere
not_both : (groups : List Group) (files : List (ℕ × List ℕ)) (bytes : List ℕ) (line other : ℕ) → text.IsFirstFault (text.cut_lines bytes) line → BreaksRule groups files bytes other → ⊥
not_both groups files bytes line other first broken =
    no_fault broken.report line broken.in_grammar (subst (λ (b : List ℕ). text.IsFirstFault (text.cut_lines b) line) (sym broken.text_is) first)

pub one_first : (groups : List Group) (files : List (ℕ × List ℕ)) (bytes : List ℕ) (a b : ℕ) → IsFirstAtFault groups files bytes a → IsFirstAtFault groups files bytes b → a ≡ b
one_first groups files bytes a b (inl first) (inl second) = one_text_fault (text.cut_lines bytes) a b first second
one_first groups files bytes a b (inl first) (inr second) = absurd (not_both groups files bytes a b first second)
one_first groups files bytes a b (inr first) (inl second) = absurd (not_both groups files bytes b a second first)
one_first groups files bytes a b (inr first) (inr second) =
    let same : first.report ≡ second.report = one_report first.report second.report first.in_grammar second.in_grammar (first.text_is ∙ sym second.text_is) in
    one_fault groups files second.report a b (subst (λ (r : Report). rules.IsFirstFault groups files r a) same first.first) second.first
