-- The text of records and of refusals (this project's own).
use Rattle.std.specs.Prelude.{ℕ, List, [], ◌∷◌, ◌++◌, decimal, ◌==◌, if◌then◌else◌}
use lib.Chars.{codes}
use Rattle.hit_report.specs.HitLines.{name_text}

-- the word of a code of a refusal
abbrev pub code_word : ℕ → List ℕ
code_word code =
    if code == 1 then codes "Counts"
    else (if code == 2 then codes "Version"
    else (if code == 3 then codes "Stext"
    else (if code == 4 then codes "AtomLine"
    else (if code == 5 then codes "Symbol"
    else (if code == 6 then codes "Charge"
    else (if code == 7 then codes "BondLine"
    else (if code == 8 then codes "BondAtom"
    else (if code == 9 then codes "BondType"
    else (if code == 10 then codes "BondTwice"
    else (if code == 11 then codes "Property"
    else (if code == 12 then codes "NoEnd"
    else (if code == 13 then codes "LongLine"
    else (if code == 14 then codes "Empty"
    else (if code == 20 then codes "TooLarge"
    else (if code == 21 then codes "List"
    else (if code == 22 then codes "Topology"
    else []))))))))))))))))

-- a number with a space before it
abbrev pub spaced : ℕ → List ℕ
spaced n = 32 ∷ decimal n

unfoldable pub ok_line : ℕ → ℕ → ℕ → List ℕ → List ℕ
ok_line place atoms bonds name = codes "ok" ++ spaced place ++ spaced atoms ++ spaced bonds ++ name_text name ++ 10 ∷ []

-- where and why a record or a query is refused, at the end of a line
unfoldable pub refusal_text : ℕ → ℕ → List ℕ
refusal_text line code = spaced line ++ spaced code ++ 32 ∷ code_word code ++ 10 ∷ []

unfoldable pub refused_line : ℕ → ℕ → ℕ → List ℕ
refused_line place line code = codes "refused" ++ spaced place ++ refusal_text line code

-- the line of a query that is refused
unfoldable pub query_refused_line : ℕ → ℕ → List ℕ
query_refused_line line code = codes "query refused" ++ refusal_text line code

-- so many records, of which so many were accepted and so many refused
unfoldable pub records_line : ℕ → ℕ → ℕ → List ℕ
records_line records accepted refused = codes "records" ++ spaced records ++ codes " ok" ++ spaced accepted
    ++ codes " refused" ++ spaced refused ++ 10 ∷ []
