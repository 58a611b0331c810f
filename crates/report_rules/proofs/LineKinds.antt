-- Each line of a section has a kind.
use Rattle.std.proofs.Common.{◌≡◌, ℕ, suc, Bool, true, false, cond, List, [], ◌∷◌, length, map, take, drop, refl, ap, arith}
use Rattle.std.proofs.lemmas.List.{length-append, length-take, length-drop, length-map}
use lib.Chars.{codes}
use Rattle.mol_section.specs.Fields.{begins}
use Rattle.mol_section.specs.SectionLines.{end_mark, after_end, passed_over, property, passes_next, kinds_after, block_kinds, kinds_of}

length-kinds_after : (passed : Bool) (lines : List (List ℕ)) → length (kinds_after passed lines) ≡ length lines
length-kinds_after passed [] = refl
length-kinds_after true (line ∷ rest) = ap suc (length-kinds_after false rest)
length-kinds_after false (line ∷ rest) =
    let over = length-kinds_after true rest in
    let on = length-kinds_after false rest in
    elim (begins line (codes "M  END")) as (λ v. length (cond v (end_mark ∷ map (λ _. after_end) rest) (cond (passes_next line) (passed_over ∷ kinds_after true rest) (property ∷ kinds_after false rest))) ≡ suc (length rest)) [
      | true ↦ ap suc (length-map rest (λ _. after_end))
      | false ↦ elim (passes_next line) as (λ v. length (cond v (passed_over ∷ kinds_after true rest) (property ∷ kinds_after false rest)) ≡ suc (length rest)) [ true ↦ ap suc over | false ↦ ap suc on ]
    ]

pub length-kinds_of : (lines : List (List ℕ)) → length (kinds_of lines) ≡ length lines
length-kinds_of lines =
    let blocks = block_kinds lines in
    omega (arith, length-append (take (length lines) (block_kinds lines)) (kinds_after false (drop (length (block_kinds lines)) lines)), length-take (length lines) (block_kinds lines), length-kinds_after false (drop (length (block_kinds lines)) lines), length-drop (length (block_kinds lines)) lines)
