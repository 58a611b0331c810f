-- What the lines of a report carry, as a few numbers for each caller.
use Rattle.std.specs.Prelude.{◌≡◌, ◌≢◌, ℕ, ◌+◌, ◌-◌, ◌^◌, ◌≤◌, List, [], ◌∷◌, length, slice_index, All, max, min}
use Rattle.std.specs.Prelude.{sum_by, Bool, nat_lt, if◌then◌else◌}
use Rattle.report_rules.specs.Answers.{fronts_of, own_number}
use Rattle.report_rules.specs.Dealing.{Caller, loader, searcher}
use Rattle.report_rules.specs.Rules.{Line, is_same, marks, used_by, words_used}
use Rattle.report_audit.specs.declared.tally.Carried.{Carried}
use Rattle.report_audit.specs.declared.tally.Tally.{Tally}

-- the greatest, or 0
abbrev pub most : List ℕ → ℕ
most [] = 0
most (x ∷ xs) = max x (most xs)

abbrev pub fronts : Line → List ℕ
fronts line = fronts_of line.answer

abbrev pub owns : Line → List ℕ
owns line = own_number line.answer

-- the greatest of what the lines that pass carry
abbrev pub most_where : (Line → Bool) → (Line → List ℕ) → List Line → ℕ
most_where passes carried [] = 0
most_where passes carried (line ∷ lines) = max (if passes line then most (carried line) else 0)
    (most_where passes carried lines)

-- of what the caller's lines carry
abbrev pub most_by : Caller → (Line → List ℕ) → List Line → ℕ
most_by caller carried lines = most_where (λ line. is_same line.caller caller) carried lines

-- of what the lines of groups before this one carry
abbrev pub most_before : ℕ → (Line → List ℕ) → List Line → ℕ
most_before group carried lines = most_where (λ line. nat_lt line.group group) carried lines

-- the greatest of what any line carries
abbrev pub most_in : (Line → List ℕ) → List Line → ℕ
most_in carried [] = 0
most_in carried (line ∷ lines) = max (most (carried line)) (most_in carried lines)

-- one of at most sixteen loaders and sixteen searchers
abbrev pub IsCaller : Caller → Type 0
IsCaller (loader number) = (1 ≤ number) × (number ≤ 16)
IsCaller (searcher number) = (1 ≤ number) × (number ≤ 16)

-- its place among these
abbrev pub place_of : Caller → ℕ
place_of (loader number) = number - 1
place_of (searcher number) = 16 + (number - 1)

-- a number for each caller
pub record ArePer (of : Caller → ℕ) (numbers : List ℕ) : Type 0 where
  pub long : length numbers ≡ 32
  pub each : (caller : Caller) → IsCaller caller → slice_index numbers (place_of caller) ≡ of caller

-- what a line carries
pub record IsCarried (line : Line) (carried : Carried) : Type 0 where
  pub mark : carried.mark ≡ most (marks line)
  pub front : carried.front ≡ most (fronts line)
  pub own : carried.own ≡ most (owns line)
  pub words : carried.words ≡ words_used line.answer

-- the tally of these lines, of which none is of a later group
pub record IsTallyOf (lines : List Line) (t : Tally) : Type 0 where
  pub marks_are : ArePer (λ c. most_by c marks lines) t.marks
  pub fronts_are : ArePer (λ c. most_by c fronts lines) t.fronts
  pub words_are : ArePer (λ c. min (sum_by (used_by c) lines) (2 ^ 64 - 1)) t.words
  pub all : t.all ≡ most_in marks lines
  pub own : t.own ≡ most_in owns lines
  pub before : t.before ≡ most_before t.group marks lines
  pub own_before : t.own_before ≡ most_before t.group owns lines
  pub groups : All (λ one. one.group ≤ t.group) lines

-- no line has this event number
abbrev pub IsOnce : List Line → ℕ → Type 0
IsOnce lines number = All (λ one. All (λ own. own ≢ number) (own_number one.answer)) lines

-- the next line of the tally's group, by this caller
pub record IsNext (t : Tally) (caller : Caller) (line : Line) : Type 0 where
  pub by : line.caller ≡ caller
  pub in_group : line.group ≡ t.group
