-- A record that was stored had room in its loader's region (this project's own).
use Rattle.std.specs.Prelude.{◌≡◌, ◌+◌, ◌<◌, ◌≤◌, List, ◌∷◌, ◌++◌, sum_by}
use Rattle.htss_defs.specs.declared.shape.Shape.{Shape}
use Rattle.report_rules.specs.Rules.{Line, used_by, words_used}

-- where the line has used words of its loader's region, there was room for them past those that the loader's earlier
-- lines have used
abbrev pub HadRoom : Shape → List Line → Line → Type 0
HadRoom shape earlier line = 0 < words_used line.answer → sum_by (used_by line.caller) earlier + words_used line.answer
    ≤ shape.room

-- the same for each of the lines
abbrev pub HaveHadRoom : Shape → List Line → Type 0
HaveHadRoom shape lines = (earlier later : List Line) (line : Line) → lines ≡ earlier ++ line ∷ later
    → HadRoom shape earlier line
