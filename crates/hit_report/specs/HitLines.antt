-- The text of hits (this project's own).
use Rattle.std.specs.Prelude.{ℕ, List, [], ◌∷◌, ◌++◌, length, decimal}
use Rattle.std.specs.List.{flat_map}
use lib.Chars.{codes}
use Rattle.htss_defs.specs.declared.history.Hit.{Hit}

-- a name with a space before it, nothing where it is empty
abbrev pub name_text : List ℕ → List ℕ
name_text [] = []
name_text (b ∷ bs) = 32 ∷ b ∷ bs

-- places joined by commas
abbrev pub map_text : List ℕ → List ℕ
map_text [] = []
map_text (p ∷ ps) = decimal p ++ flat_map (λ x. 44 ∷ decimal x) ps

unfoldable pub hit_line : Hit → List ℕ
hit_line hit = codes "hit " ++ decimal hit.number ++ 32 ∷ [] ++ map_text hit.map ++ name_text hit.name ++ 10 ∷ []

unfoldable pub count_line : ℕ → List ℕ
count_line n = codes "hits " ++ decimal n ++ 10 ∷ []

-- the line in place of hits that the budget does not allow
unfoldable pub overbudget_line : ℕ → List ℕ
overbudget_line budget = codes "overbudget " ++ decimal budget ++ 10 ∷ []

-- a line for each hit, and their number
abbrev pub hits_text : List Hit → List ℕ
hits_text hits = flat_map hit_line hits ++ count_line (length hits)
