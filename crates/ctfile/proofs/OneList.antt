-- Bytes have one record list.
use Rattle.std.proofs.Common.{◌≡◌, ℕ, suc, ◌+◌, ◌<◌, ◌≤◌, ◌⊎◌, inl, inr, Bool, true, false, cond, List, [], ◌∷◌, ◌++◌, length, map, take, drop, refl, sym, ap, subst, ◌∙◌, arith}
use Rattle.std.specs.Prelude.{Option, Some, None}
use Rattle.std.proofs.lemmas.List.{length-append, length-take, length-drop, length-map}
use Rattle.std.proofs.lemmas.List.Elements.{All-head, All-tail, All-same}
use Rattle.std.proofs.lemmas.Bool.{false≢true, cases_lt}
use Rattle.std.proofs.lemmas.Option.{slice_get_within}
use lib.Chars.{codes}
use Rattle.mol_section.specs.Lines.{lines_of, ends_section}
use Rattle.mol_section.specs.Fields.{begins}
use Rattle.mol_section.specs.SectionLines.{end_mark, after_end, passed_over, property, passes_next, kinds_after, block_kinds, kinds_of, refusal}
use Rattle.mol_section.specs.SectionRecord.{Outcome, accepted, refused, LineRefusal, IsAccepted, IsRefusedAt, HasNoEnd, IsOutcome}
use Rattle.htss_defs.specs.Molecule.{Molecule}
use Rattle.ctfile.specs.RecordList.{AreSections, last_sections, AreOutcomes, IsRecordList}
use Rattle.ctfile.specs.Cut.{NoneEnds}
use Rattle.ctfile.proofs.Looked.{middle}
use Rattle.ctfile.proofs.MarkedOnes.{one_molecule}

-- ---- one list of sections

one_cut : (section other : List (List ℕ)) (end last : List ℕ) (rest more : List (List ℕ)) → NoneEnds section → NoneEnds other → ends_section end ≡ true → ends_section last ≡ true
    → section ++ end ∷ rest ≡ other ++ last ∷ more → (section ≡ other) × (rest ≡ more)
one_cut [] [] end last rest more a b e f same = (refl, cc)
one_cut [] (o ∷ os) end last rest more a b e f same =
    let first : end ≡ o = cc in
    absurd (false≢true (sym (All-head (λ x. ends_section x ≡ false) o os b) ∙ ap ends_section (sym first) ∙ e))
one_cut (s ∷ ss) [] end last rest more a b e f same =
    let first : s ≡ last = cc in
    absurd (false≢true (sym (All-head (λ x. ends_section x ≡ false) s ss a) ∙ ap ends_section first ∙ f))
one_cut (s ∷ ss) (o ∷ os) end last rest more a b e f same =
    let first : s ≡ o = cc in
    let tails : ss ++ end ∷ rest ≡ os ++ last ∷ more = cc in
    let again = one_cut ss os end last rest more (All-tail (λ x. ends_section x ≡ false) s ss a) (All-tail (λ x. ends_section x ≡ false) o os b) e f tails in
    let whole : s ∷ ss ≡ o ∷ os = cc (first, again.0) in
    (whole, again.1)

no_end : (lines section : List (List ℕ)) (end : List ℕ) (rest : List (List ℕ)) → NoneEnds lines → ends_section end ≡ true → lines ≡ section ++ end ∷ rest → ⊥
no_end lines section end rest none ends same = false≢true (sym (middle section end rest (All-same (λ x. ends_section x ≡ false) _ _ (sym same) none)) ∙ ends)

one_sections : (sections others : List (List (List ℕ))) (lines last other : List (List ℕ)) → AreSections lines sections last → AreSections lines others other → (sections ≡ others) × (last ≡ other)
one_sections [] [] lines last other a b = (refl, sym a.0 ∙ b.0)
one_sections [] (o ∷ os) lines last other a b = absurd (no_end last o b.0 b.1 a.1 b.2 (sym a.0 ∙ b.4))
one_sections (s ∷ ss) [] lines last other a b = absurd (no_end other s a.0 a.1 b.1 a.2 (sym b.0 ∙ a.4))
one_sections (s ∷ ss) (o ∷ os) lines last other a b =
    let first = one_cut s o a.0 b.0 a.1 b.1 a.3 b.3 a.2 b.2 (sym a.4 ∙ b.4) in
    let rest = one_sections ss os b.1 last other (subst (λ (r : List (List ℕ)). AreSections r ss last) first.1 a.5) b.5 in
    let whole : s ∷ ss ≡ o ∷ os = cc (first.0, rest.0) in
    (whole, rest.1)

-- ---- one outcome of a section

length-kinds_after : (passed : Bool) (lines : List (List ℕ)) → length (kinds_after passed lines) ≡ length lines
length-kinds_after passed [] = refl
length-kinds_after true (line ∷ rest) = ap suc (length-kinds_after false rest)
length-kinds_after false (line ∷ rest) =
    let over = length-kinds_after true rest in
    let on = length-kinds_after false rest in
    elim (begins line (codes "M  END")) as (λ v. length (cond v (end_mark ∷ map (λ _. after_end) rest) (cond (passes_next line) (passed_over ∷ kinds_after true rest) (property ∷ kinds_after false rest))) ≡ suc (length rest)) [
      | true ↦ ap suc (length-map rest (λ _. after_end))
      | false ↦ elim (passes_next line) as (λ v. length (cond v (passed_over ∷ kinds_after true rest) (property ∷ kinds_after false rest)) ≡ suc (length rest)) [ true ↦ ap suc over | false ↦ ap suc on ]
    ]

-- each line has a kind
length-kinds_of : (lines : List (List ℕ)) → length (kinds_of lines) ≡ length lines
length-kinds_of lines =
    let blocks = block_kinds lines in
    omega (arith, length-append (take (length lines) (block_kinds lines)) (kinds_after false (drop (length (block_kinds lines)) lines)), length-take (length lines) (block_kinds lines), length-kinds_after false (drop (length (block_kinds lines)) lines), length-drop (length (block_kinds lines)) lines)

one_refusal : (lines : List (List ℕ)) (i : ℕ) (x y : Option ℕ) → LineRefusal lines i x → LineRefusal lines i y → x ≡ y
one_refusal lines i x y a b =
    let both : Some a.0 ≡ Some b.0 = sym a.1 ∙ b.1 in
    let kinds : a.0 ≡ b.0 = cc both in
    sym a.2 ∙ ap (refusal lines i) kinds ∙ b.2

refused_within : (lines : List (List ℕ)) (i : ℕ) (x : Option ℕ) → LineRefusal lines i x → i < length lines
refused_within lines i x a = omega (arith, slice_get_within (kinds_of lines) i a.0 a.1, length-kinds_of lines)

not_both : (lines : List (List ℕ)) (i code : ℕ) → LineRefusal lines i None → LineRefusal lines i (Some code) → ⊥
not_both lines i code a b =
    let same : None ≡ Some code = one_refusal lines i None (Some code) a b in
    cc same

one_place : (lines : List (List ℕ)) (i j code other : ℕ) → IsRefusedAt lines i code ⊎ HasNoEnd lines i code → IsRefusedAt lines j other ⊎ HasNoEnd lines j other → (i ≡ j) × (code ≡ other)
one_place lines i j code other (inl a) (inr b) = absurd (not_both lines i code (b.passes i (refused_within lines i (Some code) a.here)) a.here)
one_place lines i j code other (inr a) (inl b) = absurd (not_both lines j other (a.passes j (refused_within lines j (Some other) b.here)) b.here)
one_place lines i j code other (inr a) (inr b) = (a.at ∙ sym b.at, a.code_is ∙ sym b.code_is)
one_place lines i j code other (inl a) (inl b) = cases (cases_lt i j) (cases_lt j i)
  where
    cases : (i < j) ⊎ (j ≤ i) → (j < i) ⊎ (i ≤ j) → (i ≡ j) × (code ≡ other)
    cases (inl lt) q = absurd (not_both lines i code (b.before i lt) a.here)
    cases (inr ge) (inl lt) = absurd (not_both lines j other (a.before j lt) b.here)
    cases (inr ge) (inr le) =
        let same : i ≡ j = omega (arith, ge, le) in
        let here : Some code ≡ Some other = one_refusal lines i (Some code) (Some other) a.here (subst (λ (k : ℕ). LineRefusal lines k (Some other)) (sym same) b.here) in
        let codes_same : code ≡ other = cc here in
        (same, codes_same)

not_accepted : (lines : List (List ℕ)) (name : List ℕ) (i code : ℕ) (mol : Molecule) → IsAccepted lines name mol → IsRefusedAt lines i code ⊎ HasNoEnd lines i code → ⊥
not_accepted lines name i code mol a (inl b) = not_both lines i code (a.passes i (refused_within lines i (Some code) b.here)) b.here
not_accepted lines name i code mol a (inr b) = b.none a.ends

one_outcome : (first : ℕ) (lines : List (List ℕ)) (x y : Outcome) → IsOutcome first lines x → IsOutcome first lines y → x ≡ y
one_outcome first lines (accepted name mol) (accepted other one) a b =
    let names : name ≡ other = a.name_is ∙ sym b.name_is in
    ap (λ (x : List ℕ). accepted x mol) names ∙ ap (accepted other) (one_molecule mol one (a.mol_is ∙ sym b.mol_is) a.marked b.marked)
one_outcome first lines (accepted name mol) (refused line code) a b = absurd (not_accepted lines name b.0 code mol a b.2)
one_outcome first lines (refused line code) (accepted name mol) a b = absurd (not_accepted lines name a.0 code mol b a.2)
one_outcome first lines (refused line code) (refused at other) a b =
    let same = one_place lines a.0 b.0 code other a.2 b.2 in
    let at_same : line ≡ at = a.1 ∙ ap (λ (i : ℕ). first + i) same.0 ∙ sym b.1 in
    cc (at_same, same.1)

one_outcomes : (first : ℕ) (sections : List (List (List ℕ))) (xs ys : List Outcome) → AreOutcomes first sections xs → AreOutcomes first sections ys → xs ≡ ys
one_outcomes first [] xs ys a b = a ∙ sym b
one_outcomes first (s ∷ ss) [] ys a b = absurd a
one_outcomes first (s ∷ ss) (x ∷ xs) [] a b = absurd b
one_outcomes first (s ∷ ss) (x ∷ xs) (y ∷ ys) a b =
    let here = one_outcome first s x y a.0 b.0 in
    let rest = one_outcomes (first + length s + 1) ss xs ys a.1 b.1 in
    cc (here, rest)

pub one_record_list : (bytes : List ℕ) (outcomes others : List Outcome) → IsRecordList bytes outcomes → IsRecordList bytes others → outcomes ≡ others
one_record_list bytes outcomes others x y =
    let same = one_sections x.sections y.sections (lines_of bytes) x.last y.last x.are_sections y.are_sections in
    let sections : x.sections ++ last_sections x.last ≡ y.sections ++ last_sections y.last = cc (same.0, same.1) in
    one_outcomes 1 (x.sections ++ last_sections x.last) outcomes others x.are_outcomes (subst (λ (s : List (List (List ℕ))). AreOutcomes 1 s others) (sym sections) y.are_outcomes)
