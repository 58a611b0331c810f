-- The lines of the codes of the first atoms of a molecule.
use Rattle.std.proofs.Common.{◌≡◌, ℕ, zero, suc, ◌+◌, List, [], ◌∷◌, ◌++◌, sym, ap, ◌∙◌, append_assoc, add-one, arith}
use Rattle.std.specs.List.{flat_map, range_with_len}
use Rattle.std.proofs.lemmas.List.{append-nil}
use Rattle.std.proofs.lemmas.Grind.{flat_map-append}
use Rattle.hit_report.specs.CodesLines.{codes_line}
use Rattle.htss_defs.specs.Codes.{codes_at}
use Rattle.htss_defs.specs.Molecule.{Molecule}

-- of the first n atoms
abbrev pub first_lines : Molecule → ℕ → List ℕ
first_lines mol n = flat_map (λ place. codes_line place (codes_at mol place)) (range_with_len 1 n)

range_more : (a n : ℕ) → range_with_len a (suc n) ≡ range_with_len a n ++ (a + n) ∷ []
range_more a zero = ap (λ (x : ℕ). x ∷ []) (omega arith)
range_more a (suc n) = ap (λ (x : List ℕ). a ∷ x) (range_more (a + 1) n ∙ ap (λ (x : ℕ). range_with_len (a + 1) n ++ x ∷ []) (omega arith))

one_more : (mol : Molecule) (n place : ℕ) → place ≡ n + 1 → first_lines mol place ≡ first_lines mol n ++ codes_line place (codes_at mol place)
one_more mol n place is =
    let line = λ (p : ℕ). codes_line p (codes_at mol p) in
    let range : range_with_len 1 place ≡ range_with_len 1 n ++ place ∷ [] =
    ap (range_with_len 1) (is ∙ add-one n) ∙ range_more 1 n ∙ ap (λ (x : ℕ). range_with_len 1 n ++ x ∷ []) (omega (arith, is)) in
    ap (flat_map line) range ∙ flat_map-append line (range_with_len 1 n) (place ∷ []) ∙ ap (λ (x : List ℕ). first_lines mol n ++ x) (append-nil (line place))

pub lines_more : (mol : Molecule) (n place : ℕ) (start old new : List ℕ) → old ≡ start ++ first_lines mol n → place ≡ n + 1 → new ≡ old ++ codes_line place (codes_at mol place) → new ≡ start ++ first_lines mol place
lines_more mol n place start old new so_far is grown =
    let line = codes_line place (codes_at mol place) in
    grown ∙ ap (λ (x : List ℕ). x ++ line) so_far ∙ append_assoc start (first_lines mol n) line ∙ ap (λ (x : List ℕ). start ++ x) (sym (one_more mol n place is))
