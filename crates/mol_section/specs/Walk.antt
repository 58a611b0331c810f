-- A reader on its way through the lines of a section, whatever it makes of them.
use Rattle.std.specs.Prelude.{◌≡◌, ◌⊎◌, ℕ, ◌+◌, ◌-◌, ◌<◌, ◌≤◌, List, [], ◌∷◌, ◌++◌, length, take, drop, map, replicate}
use Rattle.std.specs.Prelude.{slice_get, Some, None, Option, Bool, true, false, nat_lt, if◌then◌else◌}
use Rattle.std.specs.List.{zip, filter_map}
use Rattle.htss_defs.specs.Graph.{Graph}
use Rattle.mol_section.specs.declared.counts.Counts.{Counts}
use Rattle.mol_section.specs.declared.draft.Part.{Part}
use Rattle.mol_section.specs.declared.draft.Part.TheVariants.{Atom, Bond, List as Lists, Property, End}
use Rattle.mol_section.specs.declared.draft.Stop.{Stop}
use Rattle.mol_section.specs.declared.draft.Stop.TheVariants.{Memory, Refused}
use Rattle.mol_section.specs.SectionLines.{Kind, atom, bond, atom_list, property, end_mark, after_end, kinds_of}
use Rattle.mol_section.specs.SectionLines.{block_kinds, kinds_after, line_at}
use Rattle.mol_section.specs.SectionLines.{counts_refusal, atom_count, bond_lines_before, ends_of}
use Rattle.mol_section.specs.SectionRecord.{HasEnd, kind_is}

-- what is wrong before a line is read: none is left, or it is too long
abbrev pub IsLineFault : List (List ℕ) → ℕ → Type 0
IsLineFault [] code = code ≡ 12
IsLineFault (line ∷ lines) code = (code ≡ 13) × (4096 < length line)

-- ---- the refusals

-- the refusal of a line of the section by its place and its kind, but for its length
abbrev pub Refusals : Type 0
Refusals = List (List ℕ) → ℕ → Kind → Option ℕ

-- each line up to the end mark, whatever it is, has at most 4096 bytes
abbrev pub bounded : Refusals → Refusals
bounded refusals lines i after_end = None
bounded refusals lines i kind = if nat_lt 4096 (length (line_at lines i)) then Some 13 else refusals lines i kind

-- the refusal of line i, counted from 0
abbrev pub IsRefusal : Refusals → List (List ℕ) → ℕ → Option ℕ → Type 0
IsRefusal refusals lines i code =
    (kind : Kind) × (slice_get (kinds_of lines) i ≡ Some kind) × (bounded refusals lines i kind ≡ code)

-- the first n lines are not refused
abbrev pub Accepts : Refusals → List (List ℕ) → ℕ → Type 0
Accepts refusals lines n = (i : ℕ) → i < n → IsRefusal refusals lines i None

-- the section is refused at line n: it is the first that is refused, or the lines run out before it
pub record IsStop (refusals : Refusals) (lines : List (List ℕ)) (n code : ℕ) : Type 0 where
  pub within : n ≤ length lines
  pub why : (Accepts refusals lines n × IsRefusal refusals lines n (Some code))
      ⊎ (Accepts refusals lines (length lines) × (HasEnd lines → ⊥) × (n ≡ length lines) × (code ≡ 12))

-- why a section has no draft
abbrev pub IsStopOf : Refusals → List (List ℕ) → Stop → Type 0
IsStopOf refusals lines Memory = Unit {0}
IsStopOf refusals lines (Refused line code) = IsStop refusals lines line code

-- why line n, which has this refusal, is not taken
abbrev pub IsStopAt : Option ℕ → ℕ → Stop → Type 0
IsStopAt refusal n Memory = Unit {0}
IsStopAt refusal n (Refused line code) = (line ≡ n) × (refusal ≡ Some code)

-- why the first of these lines, which is line n, cannot be read
abbrev pub IsFaultAt : List (List ℕ) → ℕ → Stop → Type 0
IsFaultAt lines n Memory = Unit {0}
IsFaultAt lines n (Refused line code) = (line ≡ n) × IsLineFault lines code

-- ---- what was read

-- lines of a section with so many atoms, by what they are
pub record Parts : Type 0 where
  pub size : ℕ
  pub atoms : List (List ℕ)
  pub bonds : List (List ℕ)
  pub lists : List (List ℕ)
  pub properties : List (List ℕ)

abbrev pub no_parts : ℕ → Parts
no_parts size = record { size = size; atoms = []; bonds = []; lists = []; properties = [] }

-- one line more
abbrev pub with_line : Kind → List ℕ → Parts → Parts
with_line atom line parts = record parts { atoms = parts.atoms ++ line ∷ [] }
with_line bond line parts = record parts { bonds = parts.bonds ++ line ∷ [] }
with_line atom_list line parts = record parts { lists = parts.lists ++ line ∷ [] }
with_line property line parts = record parts { properties = parts.properties ++ line ∷ [] }
with_line _ line parts = parts

abbrev pub is_list : Kind → Bool
is_list atom_list = true
is_list _ = false

-- the lines of some kinds among these
abbrev pub picked : (Kind → Bool) → List (List ℕ) → List Kind → List (List ℕ)
picked is_of lines kinds = filter_map (λ (line, is). if is_of is then Some line else None) (zip lines kinds)

abbrev pub parts_of : ℕ → List (List ℕ) → List Kind → Parts
parts_of size lines kinds = record {
  size = size;
  atoms = picked (kind_is atom) lines kinds;
  bonds = picked (kind_is bond) lines kinds;
  lists = picked is_list lines kinds;
  properties = picked (kind_is property) lines kinds;
}

-- the graph of these bond lines
pub record IsGraphOf (graph : Graph) (parts : Parts) : Type 0 where
  pub atoms : graph.atoms ≡ parts.size
  pub bonds_are : graph.bonds ≡ map ends_of parts.bonds

-- n lines are passed, none of them is refused and none is an end mark; these lines of these kinds are left
pub record IsPassed (refusals : Refusals) (lines : List (List ℕ)) (n : ℕ) (rest : List (List ℕ)) (left : List Kind)
    (parts : Parts) : Type 0 where
  pub front : List (List ℕ)
  pub kinds : List Kind
  pub lines_are : lines ≡ front ++ rest
  pub kinds_are : kinds_of lines ≡ kinds ++ left
  pub lines_count : length front ≡ n
  pub kinds_count : length kinds ≡ n
  pub accepted : Accepts refusals lines n
  pub no_end : (i : ℕ) → slice_get kinds i ≡ Some end_mark → ⊥
  pub parts_are : parts_of (atom_count lines) front kinds ≡ parts

-- ---- a line that is taken

abbrev pub kind_of : Part → Kind
kind_of Atom = atom
kind_of Bond = bond
kind_of Lists = atom_list
kind_of Property = property
kind_of End = end_mark

-- what is known where a line of this kind is due
abbrev pub IsDue : Part → List (List ℕ) → ℕ → Parts → Type 0
IsDue Atom lines n parts = (parts.lists ≡ []) × (parts.properties ≡ [])
IsDue Bond lines n parts = (bond_lines_before lines n ≡ parts.bonds) × (length parts.bonds < 999)
IsDue Lists lines n parts = (length parts.atoms ≡ parts.size) × (parts.properties ≡ [])
IsDue Property lines n parts = length parts.atoms ≡ parts.size
IsDue End lines n parts = parts_of (atom_count lines) lines (kinds_of lines) ≡ parts

-- line n is this one and is due, after these lines, whose graph this is
pub record IsHere (part : Part) (lines : List (List ℕ)) (n : ℕ) (line : List ℕ) (parts : Parts) (graph : Graph) : Type 0
  where
    pub here : line_at lines n ≡ line
    pub size_is : atom_count lines ≡ parts.size
    pub few : parts.size ≤ 999
    pub graph_is : IsGraphOf graph parts
    pub due : IsDue part lines n parts

-- wherever the line is due, it is not refused, and what is kept after it is right
abbrev pub Takes : Refusals → (Parts → Type 0) → (Parts → Type 0) → Part → List ℕ → Graph → Graph → Type 0
Takes refusals before after part line graph now =
    (lines : List (List ℕ)) (n : ℕ) (parts : Parts) → before parts → IsHere part lines n line parts graph
    → (refusals lines n (kind_of part) ≡ None) × after (with_line (kind_of part) line parts)
    × IsGraphOf now (with_line (kind_of part) line parts)

-- wherever the line is due, this is why it is not taken
abbrev pub Stops : Refusals → (Parts → Type 0) → Part → List ℕ → Graph → ℕ → Stop → Type 0
Stops refusals before part line graph at stop =
    (lines : List (List ℕ)) (n : ℕ) (parts : Parts) → before parts → IsHere part lines n line parts graph
    → IsStopAt (refusals lines n (kind_of part)) at stop

-- the counts line, which is line n, has these counts
pub record IsCounted (lines : List (List ℕ)) (n : ℕ) (sizes : Counts) : Type 0 where
  pub passes : counts_refusal (line_at lines n) ≡ None
  pub size_is : atom_count lines ≡ sizes.atoms

-- ---- on the way

-- the kinds of the lines that are left, where these of the blocks are still to come
abbrev pub kinds_left : List Kind → List (List ℕ) → List Kind
kinds_left todo rest = take (length rest) todo ++ kinds_after false (drop (length todo) rest)

abbrev pub blocks : Counts → List Kind
blocks sizes = replicate sizes.atoms atom ++ replicate sizes.bonds bond ++ replicate sizes.lists atom_list

-- line i after the counts line is of this kind
abbrev pub IsPart : Counts → ℕ → Part → Type 0
IsPart sizes i Atom = i < sizes.atoms
IsPart sizes i Bond = (sizes.atoms ≤ i) × (i < sizes.atoms + sizes.bonds)
IsPart sizes i Lists = (sizes.atoms + sizes.bonds ≤ i) × (i < sizes.atoms + sizes.bonds + sizes.lists)
IsPart sizes i _ = ⊥

pub record AreLimits (sizes : Counts) : Type 0 where
  pub some : 1 ≤ sizes.atoms
  pub few : sizes.atoms ≤ 999
  pub few_bonds : sizes.bonds ≤ 999

-- before line n of the header, and before the counts line
abbrev pub AtHeader : Refusals → List (List ℕ) → ℕ → List (List ℕ) → Type 0
AtHeader refusals lines n rest =
    IsPassed refusals lines n rest (kinds_left (drop n (block_kinds lines)) rest) (no_parts (atom_count lines))

-- before line i after the counts line
pub record AtBlocks (refusals : Refusals) (lines : List (List ℕ)) (sizes : Counts) (i n : ℕ) (rest : List (List ℕ))
    (graph : Graph) (holds : Parts → Type 0) : Type 0 where
  pub parts : Parts
  pub passed : IsPassed refusals lines n rest (kinds_left (drop i (blocks sizes)) rest) parts
  pub kept : holds parts
  pub graph_is : IsGraphOf graph parts
  pub limits : AreLimits sizes
  pub place : n ≡ 4 + i
  pub size : parts.size ≡ sizes.atoms
  pub atoms : length parts.atoms + (sizes.atoms - i) ≡ sizes.atoms
  pub bonds : length parts.bonds + (sizes.bonds - (i - sizes.atoms)) ≡ sizes.bonds
  pub before : i ≤ sizes.atoms + sizes.bonds → bond_lines_before lines n ≡ parts.bonds
  pub no_lists : i ≤ sizes.atoms + sizes.bonds → parts.lists ≡ []
  pub no_properties : parts.properties ≡ []

-- the numbers of atoms and bonds
pub record AreCounted (parts : Parts) : Type 0 where
  pub all_atoms : length parts.atoms ≡ parts.size
  pub some : 1 ≤ parts.size
  pub few : parts.size ≤ 999
  pub few_bonds : length parts.bonds ≤ 999

-- before a line after the blocks
pub record AtProperties (refusals : Refusals) (lines : List (List ℕ)) (n : ℕ) (passing : Bool) (rest : List (List ℕ))
    (graph : Graph) (holds : Parts → Type 0) : Type 0 where
  pub parts : Parts
  pub passed : IsPassed refusals lines n rest (kinds_after passing rest) parts
  pub kept : holds parts
  pub graph_is : IsGraphOf graph parts
  pub counted : AreCounted parts

-- no line is refused, the section ends, and what is kept is right for its lines
pub record IsRead (refusals : Refusals) (lines : List (List ℕ)) (graph : Graph) (holds : Parts → Type 0) : Type 0 where
  pub parts : Parts
  pub passes : Accepts refusals lines (length lines)
  pub ends : HasEnd lines
  pub end_passes : (n : ℕ) × (refusals lines n end_mark ≡ None)
  pub are : parts_of (atom_count lines) lines (kinds_of lines) ≡ parts
  pub kept : holds parts
  pub graph_is : IsGraphOf graph parts
  pub counted : AreCounted parts
