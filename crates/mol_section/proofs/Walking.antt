-- The walk over the lines of a section, whatever is made of them.
use Rattle.std.proofs.Common.{◌≡◌, ◌⊎◌, ℕ, zero, suc, ◌+◌, ◌-◌, ◌<◌, ◌≤◌, Bool, true, false, List, [], ◌∷◌, ◌++◌, length, take, drop, map, replicate, get_or, refl, sym, ap, subst, ◌∙◌, inl, inr, append_assoc, arith}
use Rattle.std.specs.Prelude.{Option, Some, None, unwrap_or}
use Rattle.std.proofs.lemmas.Bool.{cases_Bool, cases_lt}
use Rattle.std.proofs.lemmas.List.{append-nil, length-append, length-drop, length_push, drop_all, take_more, get_or-drop}
use lib.Chars.{codes}
use Rattle.htss_defs.specs.Graph.{Graph}
use Rattle.mol_section.specs.declared.counts.Counts.{Counts}
use Rattle.mol_section.specs.declared.draft.Part.{Part}
use Rattle.mol_section.specs.declared.draft.Part.TheVariants.{Atom, Bond, List as Lists, Property, End}
use Rattle.mol_section.specs.declared.draft.Stop.{Stop}
use Rattle.mol_section.specs.declared.draft.Stop.TheVariants.{Memory, Refused}
use Rattle.mol_section.specs.Fields.{begins}
use Rattle.mol_section.specs.SectionLines.{Kind, header, counts, atom, bond, atom_list, property, passed_over, end_mark, after_end, kinds_after, passes_next, line_at, counts_refusal, atoms_field, bonds_field, lists_field, atom_count, bond_count, list_count, bond_lines_before}
use Rattle.mol_section.specs.Walk.{IsLineFault, Refusals, bounded, IsStop, IsStopOf, IsStopAt, IsFaultAt, Parts, no_parts, with_line, IsPassed, IsGraphOf, IsDue, IsHere, Takes, Stops, IsCounted, kind_of, kinds_left, blocks, IsPart, AreLimits, AtHeader, AtBlocks, AtProperties, IsRead}
use Rattle.mol_section.proofs.Passing.{current, short_here, left_same, pass, stops, fits, too_long, runs_out, all_parts, whole}

-- ---- why the walk stops

-- every stop by a fault of line n is one of the section
pub fault_stop : {refusals : Refusals} {lines : List (List ℕ)} {n : ℕ} (rest : List (List ℕ)) (stop : Stop) → ((code : ℕ) → IsLineFault rest code → IsStop refusals lines n code) → IsFaultAt rest n stop → IsStopOf refusals lines stop
fault_stop rest Memory by fault = tt
fault_stop {refusals} {lines} rest (Refused line code) by fault = subst (λ (k : ℕ). IsStop refusals lines k code) (sym fault.0) (by code fault.1)

pub refused_stop : {refusals : Refusals} {lines : List (List ℕ)} {n : ℕ} {refusal : Option ℕ} (stop : Stop) → ((code : ℕ) → refusal ≡ Some code → IsStop refusals lines n code) → IsStopAt refusal n stop → IsStopOf refusals lines stop
refused_stop Memory by refused = tt
refused_stop {refusals} {lines} (Refused line code) by refused = subst (λ (k : ℕ). IsStop refusals lines k code) (sym refused.0) (by code refused.1)

-- a line of these kinds is missing or too long
fault_at : {refusals : Refusals} {lines : List (List ℕ)} {n code : ℕ} {parts : Parts} (rest : List (List ℕ)) (kind : Kind) (todo : List Kind)
    → IsPassed refusals lines n rest (kinds_left (kind ∷ todo) rest) parts → (4096 < length (line_at lines n) → bounded refusals lines n kind ≡ Some 13)
    → IsLineFault rest code → IsStop refusals lines n code
fault_at {refusals} {lines} {n} {code} [] kind todo p long fault =
    subst (λ (c : ℕ). IsStop refusals lines n c) (sym fault) (runs_out (left_same _ _ (ap (kinds_after false) (drop_all (length (kind ∷ todo)) (let none : List (List ℕ) = [] in none) (omega arith))) p))
fault_at {refusals} {lines} {n} {code} (line ∷ rest) kind todo p long fault =
    subst (λ (c : ℕ). IsStop refusals lines n c) (sym fault.0) (stops p (long (subst (λ (x : List ℕ). 4096 < length x) (sym (current p)) fault.1)))

-- ---- the header

pub header_start : (refusals : Refusals) (lines : List (List ℕ)) → AtHeader refusals lines 0 lines
header_start refusals lines = record {
  front = [];
  kinds = [];
  lines_are = refl;
  kinds_are = refl;
  lines_count = refl;
  kinds_count = refl;
  accepted = λ i lt. absurd (omega arith);
  no_end = λ i is. absurd cc;
  parts_are = refl;
}

pub header_line : (refusals : Refusals) (lines all rest : List (List ℕ)) (line : List ℕ) (n : ℕ) → ((i : ℕ) → refusals lines i header ≡ None)
    → all ≡ line ∷ rest → n < 3 → length line ≤ 4096 → AtHeader refusals lines n all → AtHeader refusals lines (n + 1) rest
header_line refusals lines all rest line n plain is lt short at = go n lt (subst (AtHeader refusals lines n) is at)
  where
    accepted : {n : ℕ} {left : List Kind} {parts : Parts} → IsPassed refusals lines n (line ∷ rest) (header ∷ left) parts → bounded refusals lines n header ≡ None
    accepted {n} p = fits (line_at lines n) (refusals lines n header) (short_here p short) ∙ plain n

    go : (n : ℕ) → n < 3 → AtHeader refusals lines n (line ∷ rest) → AtHeader refusals lines (n + 1) rest
    go zero lt p = pass p (accepted p) refl
    go (suc zero) lt p = pass p (accepted p) refl
    go (suc (suc zero)) lt p = pass p (accepted p) refl
    go (suc (suc (suc n))) lt p = absurd (omega arith)

pub header_fault : (refusals : Refusals) (lines rest : List (List ℕ)) (n code : ℕ) → n < 4 → AtHeader refusals lines n rest → IsLineFault rest code → IsStop refusals lines n code
header_fault refusals lines rest zero code lt p fault = fault_at rest _ _ p (too_long (line_at lines 0) (refusals lines 0 header)) fault
header_fault refusals lines rest (suc zero) code lt p fault = fault_at rest _ _ p (too_long (line_at lines 1) (refusals lines 1 header)) fault
header_fault refusals lines rest (suc (suc zero)) code lt p fault = fault_at rest _ _ p (too_long (line_at lines 2) (refusals lines 2 header)) fault
header_fault refusals lines rest (suc (suc (suc zero))) code lt p fault = fault_at rest _ _ p (too_long (line_at lines 3) (refusals lines 3 counts)) fault
header_fault refusals lines rest (suc (suc (suc (suc n)))) code lt p fault = absurd (omega arith)

-- ---- the counts line

pub counts_stop : (refusals : Refusals) (lines all rest : List (List ℕ)) (line : List ℕ) (code : ℕ) → all ≡ line ∷ rest → length line ≤ 4096 → AtHeader refusals lines 3 all
    → refusals lines 3 counts ≡ Some code → IsStop refusals lines 3 code
counts_stop refusals lines all rest line code is short at refused = go (subst (AtHeader refusals lines 3) is at)
  where
    go : AtHeader refusals lines 3 (line ∷ rest) → IsStop refusals lines 3 code
    go p = stops p (fits (line_at lines 3) (refusals lines 3 counts) (short_here p short) ∙ refused)

pub counts_line : (refusals : Refusals) (lines all rest : List (List ℕ)) (line : List ℕ) → all ≡ line ∷ rest → AtHeader refusals lines 3 all → line_at lines 3 ≡ line
counts_line refusals lines all rest line is at = current (subst (AtHeader refusals lines 3) is at)

pub is_counted : (refusals : Refusals) (lines all rest : List (List ℕ)) (line : List ℕ) (sizes : Counts) → all ≡ line ∷ rest → AtHeader refusals lines 3 all
    → counts_refusal line ≡ None → atoms_field line ≡ Some sizes.atoms → IsCounted lines 3 sizes
is_counted refusals lines all rest line sizes is at accepted fa =
    let here = counts_line refusals lines all rest line is at in
    record {
      passes = ap counts_refusal here ∙ accepted;
      size_is = ap (λ (x : List ℕ). unwrap_or (atoms_field x) 0) here ∙ ap (λ (o : Option ℕ). unwrap_or o 0) fa;
    }

before_none : (lines : List (List ℕ)) (n : ℕ) → n ≤ 4 + atom_count lines → bond_lines_before lines n ≡ []
before_none lines n le =
    let k : n - (4 + atom_count lines) ≡ 0 = omega arith in
    ap (λ (m : ℕ). take m (drop (4 + atom_count lines) lines)) k

todo_of : ℕ → ℕ → ℕ → List Kind
todo_of a b l = replicate a atom ++ replicate b bond ++ replicate l atom_list

pub blocks_start : (refusals : Refusals) (lines all rest : List (List ℕ)) (line : List ℕ) (sizes : Counts) (graph : Graph) (holds : Parts → Type 0)
    → all ≡ line ∷ rest → length line ≤ 4096 → AtHeader refusals lines 3 all → IsCounted lines 3 sizes → bonds_field line ≡ Some sizes.bonds → lists_field line ≡ Some sizes.lists
    → AreLimits sizes → refusals lines 3 counts ≡ None → holds (no_parts sizes.atoms) → graph ≡ record { atoms = sizes.atoms; bonds = [] }
    → AtBlocks refusals lines sizes 0 4 rest graph holds
unfolding todo_of
blocks_start refusals lines all rest line sizes graph holds is short at counted fb fl limits accepted kept empty = go (subst (AtHeader refusals lines 3) is at)
  where
    here : line_at lines 3 ≡ line
    here = counts_line refusals lines all rest line is at

    todo : todo_of (atom_count lines) (bond_count lines) (list_count lines) ≡ todo_of sizes.atoms sizes.bonds sizes.lists
    todo = ap (λ (k : ℕ). todo_of k (bond_count lines) (list_count lines)) counted.size_is
        ∙ ap (λ (k : ℕ). todo_of sizes.atoms k (list_count lines)) (ap (λ (x : List ℕ). unwrap_or (bonds_field x) 0) here ∙ ap (λ (o : Option ℕ). unwrap_or o 0) fb)
        ∙ ap (todo_of sizes.atoms sizes.bonds) (ap (λ (x : List ℕ). unwrap_or (lists_field x) 0) here ∙ ap (λ (o : Option ℕ). unwrap_or o 0) fl)

    go : AtHeader refusals lines 3 (line ∷ rest) → AtBlocks refusals lines sizes 0 4 rest graph holds
    go p =
        let passed : IsPassed refusals lines 4 rest (kinds_left (todo_of (atom_count lines) (bond_count lines) (list_count lines)) rest) (no_parts (atom_count lines)) =
        pass p (fits (line_at lines 3) (refusals lines 3 counts) (short_here p short) ∙ accepted) refl in
        record {
          parts = no_parts sizes.atoms;
          passed = subst (λ (k : ℕ). IsPassed refusals lines 4 rest (kinds_left (blocks sizes) rest) (no_parts k)) counted.size_is (left_same _ _ (ap (λ (x : List Kind). kinds_left x rest) todo) passed);
          kept = kept;
          graph_is = record { atoms = ap (λ (g : Graph). g.atoms) empty; bonds_are = ap (λ (g : Graph). g.bonds) empty };
          limits = limits;
          place = refl;
          size = refl;
          atoms = omega arith;
          bonds = omega arith;
          before = λ le. before_none lines 4 (omega arith);
          no_lists = λ le. refl;
          no_properties = refl;
        }

-- ---- the blocks

drop_in : (a : ℕ) (kind : Kind) (more : List Kind) (i : ℕ) → i < a → drop i (replicate a kind ++ more) ≡ kind ∷ drop (suc i) (replicate a kind ++ more)
drop_in zero kind more i lt = absurd (omega arith)
drop_in (suc a) kind more zero lt = refl
drop_in (suc a) kind more (suc i) lt = drop_in a kind more i (omega arith)

drop_past : (a : ℕ) (kind : Kind) (more : List Kind) (i : ℕ) → a ≤ i → drop i (replicate a kind ++ more) ≡ drop (i - a) more
drop_past zero kind more i le = let k : i - 0 ≡ i = omega arith in ap (λ (m : ℕ). drop m more) (sym k)
drop_past (suc a) kind more zero le = absurd (omega arith)
drop_past (suc a) kind more (suc i) le = drop_past a kind more i (omega arith) ∙ (let k : i - a ≡ suc i - suc a = omega arith in ap (λ (m : ℕ). drop m more) k)

blocks_are : (sizes : Counts) → blocks sizes ≡ replicate sizes.atoms atom ++ (replicate sizes.bonds bond ++ (replicate sizes.lists atom_list ++ []))
blocks_are sizes = append_assoc (replicate sizes.atoms atom) (replicate sizes.bonds bond) (replicate sizes.lists atom_list)
    ∙ ap (λ (x : List Kind). replicate sizes.atoms atom ++ (replicate sizes.bonds bond ++ x)) (sym (append-nil (replicate sizes.lists atom_list)))

after_atoms : (sizes : Counts) (i : ℕ) → sizes.atoms ≤ i → drop i (blocks sizes) ≡ drop (i - sizes.atoms) (replicate sizes.bonds bond ++ (replicate sizes.lists atom_list ++ []))
after_atoms sizes i le = ap (drop i) (blocks_are sizes) ∙ drop_past sizes.atoms atom _ i le

after_bonds : (sizes : Counts) (i : ℕ) → sizes.atoms + sizes.bonds ≤ i → drop i (blocks sizes) ≡ drop (i - sizes.atoms - sizes.bonds) (replicate sizes.lists atom_list ++ [])
after_bonds sizes i le = after_atoms sizes i (omega arith) ∙ drop_past sizes.bonds bond _ (i - sizes.atoms) (omega arith)

next_kind : (sizes : Counts) (i : ℕ) (part : Part) → IsPart sizes i part → drop i (blocks sizes) ≡ kind_of part ∷ drop (i + 1) (blocks sizes)
next_kind sizes i Atom is =
    let k : suc i ≡ i + 1 = omega arith in
    ap (drop i) (blocks_are sizes) ∙ drop_in sizes.atoms atom _ i is ∙ ap (λ (x : List Kind). atom ∷ drop (suc i) x) (sym (blocks_are sizes)) ∙ ap (λ (m : ℕ). atom ∷ drop m (blocks sizes)) k
next_kind sizes i Bond is =
    let k : suc (i - sizes.atoms) ≡ i + 1 - sizes.atoms = omega (arith, is.0) in
    after_atoms sizes i is.0 ∙ drop_in sizes.bonds bond _ (i - sizes.atoms) (omega (arith, is.0, is.1))
    ∙ ap (λ (x : List Kind). bond ∷ x) (ap (λ (m : ℕ). drop m (replicate sizes.bonds bond ++ (replicate sizes.lists atom_list ++ []))) k ∙ sym (after_atoms sizes (i + 1) (omega (arith, is.0))))
next_kind sizes i Lists is =
    let k : suc (i - sizes.atoms - sizes.bonds) ≡ i + 1 - sizes.atoms - sizes.bonds = omega (arith, is.0) in
    after_bonds sizes i is.0 ∙ drop_in sizes.lists atom_list [] (i - sizes.atoms - sizes.bonds) (omega (arith, is.0, is.1))
    ∙ ap (λ (x : List Kind). atom_list ∷ x) (ap (λ (m : ℕ). drop m (replicate sizes.lists atom_list ++ [])) k ∙ sym (after_bonds sizes (i + 1) (omega (arith, is.0))))
next_kind sizes i Property is = absurd is
next_kind sizes i End is = absurd is

some_part : (sizes : Counts) (i : ℕ) → i < sizes.atoms + sizes.bonds + sizes.lists → (part : Part) × IsPart sizes i part
some_part sizes i lt = go (cases_lt i sizes.atoms) (cases_lt i (sizes.atoms + sizes.bonds))
  where
    go : (i < sizes.atoms) ⊎ (sizes.atoms ≤ i) → (i < sizes.atoms + sizes.bonds) ⊎ (sizes.atoms + sizes.bonds ≤ i) → (part : Part) × IsPart sizes i part
    go (inl is) x = (Atom, is)
    go (inr le) (inl is) = (Bond, (le, is))
    go (inr le) (inr more) = (Lists, (more, lt))

take_nil : (m : ℕ) → take m (let none : List Kind = [] in none) ≡ []
take_nil zero = refl
take_nil (suc m) = refl

before_more : {refusals : Refusals} {lines rest : List (List ℕ)} {n : ℕ} {line : List ℕ} {left : List Kind} {parts : Parts} (earlier : List (List ℕ)) → IsPassed refusals lines n (line ∷ rest) left parts
    → 4 + atom_count lines ≤ n → bond_lines_before lines n ≡ earlier → bond_lines_before lines (n + 1) ≡ earlier ++ line ∷ []
before_more {lines = lines} {rest = rest} {n = n} {line = line} earlier p le before =
    let k : n + 1 - (4 + atom_count lines) ≡ n - (4 + atom_count lines) + 1 = omega arith in
    let at : 4 + atom_count lines + (n - (4 + atom_count lines)) ≡ n = omega arith in
    let long : length lines ≡ n + suc (length rest) = ap length p.lines_are ∙ length-append p.front (line ∷ rest) ∙ ap (λ (m : ℕ). m + suc (length rest)) p.lines_count in
    let within : n - (4 + atom_count lines) < length (drop (4 + atom_count lines) lines) = omega (arith, length-drop (4 + atom_count lines) lines) in
    let here : get_or (drop (4 + atom_count lines) lines) (n - (4 + atom_count lines)) [] ≡ line =
    get_or-drop (4 + atom_count lines) lines (n - (4 + atom_count lines)) [] ∙ ap (λ (m : ℕ). get_or lines m []) at ∙ current p in
    ap (λ (m : ℕ). take m (drop (4 + atom_count lines) lines)) k
    ∙ take_more (drop (4 + atom_count lines) lines) (n - (4 + atom_count lines)) [] within
    ∙ ap (λ (x : List ℕ). take (n - (4 + atom_count lines)) (drop (4 + atom_count lines) lines) ++ x ∷ []) here
    ∙ ap (λ (x : List (List ℕ)). x ++ line ∷ []) before

fits_part : (refusals : Refusals) (lines : List (List ℕ)) (n : ℕ) (part : Part) → length (line_at lines n) ≤ 4096 → bounded refusals lines n (kind_of part) ≡ refusals lines n (kind_of part)
fits_part refusals lines n Atom short = fits (line_at lines n) (refusals lines n atom) short
fits_part refusals lines n Bond short = fits (line_at lines n) (refusals lines n bond) short
fits_part refusals lines n Lists short = fits (line_at lines n) (refusals lines n atom_list) short
fits_part refusals lines n Property short = fits (line_at lines n) (refusals lines n property) short
fits_part refusals lines n End short = fits (line_at lines n) (refusals lines n end_mark) short

module _ {refusals : Refusals} {lines : List (List ℕ)} {sizes : Counts} {i n : ℕ} {graph : Graph} {holds : Parts → Type 0} where
  size_of : {rest : List (List ℕ)} (at : AtBlocks refusals lines sizes i n rest graph holds) → atom_count lines ≡ sizes.atoms
  size_of at = ap (λ (p : Parts). p.size) at.passed.parts_are ∙ at.size

  module _ {all rest : List (List ℕ)} {line : List ℕ} (part : Part) (is : all ≡ line ∷ rest) (of : IsPart sizes i part) (at : AtBlocks refusals lines sizes i n all graph holds) where
    passed : IsPassed refusals lines n (line ∷ rest) (kind_of part ∷ kinds_left (drop (i + 1) (blocks sizes)) rest) at.parts
    passed = subst (λ (x : List Kind). IsPassed refusals lines n (line ∷ rest) (kinds_left x (line ∷ rest)) at.parts) (next_kind sizes i part of)
        (subst (λ (x : List (List ℕ)). IsPassed refusals lines n x (kinds_left (drop i (blocks sizes)) x) at.parts) is at.passed)

    pub due_block : IsHere part lines n line at.parts graph
    due_block = record {
      here = current passed;
      size_is = ap (λ (p : Parts). p.size) at.passed.parts_are;
      few = omega (arith, at.size, at.limits.few);
      graph_is = at.graph_is;
      due = go part of;
    }
      where
        go : (part : Part) → IsPart sizes i part → IsDue part lines n at.parts
        go Atom of = (at.no_lists (omega (arith, of)), at.no_properties)
        go Bond of = (at.before (omega (arith, of.1)), omega (arith, of.0, of.1, at.bonds, at.limits.few_bonds))
        go Lists of = (omega (arith, of.0, at.atoms, at.size), at.no_properties)
        go Property of = absurd of
        go End of = absurd of

    pub block_stop : (stop : Stop) → length line ≤ 4096 → Stops refusals holds part line graph n stop → IsStopOf refusals lines stop
    block_stop stop short why = refused_stop stop (λ code refused. stops passed (fits_part refusals lines n part (short_here passed short) ∙ refused)) (why lines n at.parts at.kept due_block)

    pub block_line : {after : Parts → Type 0} {now : Graph} → length line ≤ 4096 → Takes refusals holds after part line graph now → AtBlocks refusals lines sizes (i + 1) (n + 1) rest now after
    block_line {after} {now} short takes = go part of passed refl (takes lines n at.parts at.kept due_block)
      where
        go : (p : Part) → IsPart sizes i p → IsPassed refusals lines n (line ∷ rest) (kind_of p ∷ kinds_left (drop (i + 1) (blocks sizes)) rest) at.parts → p ≡ part
            → (refusals lines n (kind_of p) ≡ None) × after (with_line (kind_of p) line at.parts) × IsGraphOf now (with_line (kind_of p) line at.parts) → AtBlocks refusals lines sizes (i + 1) (n + 1) rest now after
        go Atom of p same took = record {
          parts = with_line atom line at.parts;
          passed = pass p (fits_part refusals lines n Atom (short_here p short) ∙ took.0) refl;
          kept = took.1;
          graph_is = took.2;
          limits = at.limits;
          place = omega (arith, at.place);
          size = at.size;
          atoms = omega (arith, of, at.atoms, length_push at.parts.atoms line);
          bonds = omega (arith, of, at.bonds);
          before = λ le. before_none lines (n + 1) (omega (arith, of, at.place, size_of at)) ∙ sym (before_none lines n (omega (arith, of, at.place, size_of at))) ∙ at.before (omega (arith, of));
          no_lists = λ le. at.no_lists (omega (arith, of));
          no_properties = at.no_properties;
        }
        go Bond of p same took = record {
          parts = with_line bond line at.parts;
          passed = pass p (fits_part refusals lines n Bond (short_here p short) ∙ took.0) refl;
          kept = took.1;
          graph_is = took.2;
          limits = at.limits;
          place = omega (arith, at.place);
          size = at.size;
          atoms = omega (arith, of.0, at.atoms);
          bonds = omega (arith, of.0, of.1, at.bonds, length_push at.parts.bonds line);
          before = λ le. before_more at.parts.bonds p (omega (arith, of.0, at.place, size_of at)) (at.before (omega (arith, of.1)));
          no_lists = λ le. at.no_lists (omega (arith, of.1));
          no_properties = at.no_properties;
        }
        go Lists of p same took = record {
          parts = with_line atom_list line at.parts;
          passed = pass p (fits_part refusals lines n Lists (short_here p short) ∙ took.0) refl;
          kept = took.1;
          graph_is = took.2;
          limits = at.limits;
          place = omega (arith, at.place);
          size = at.size;
          atoms = omega (arith, of.0, at.atoms);
          bonds = omega (arith, of.0, at.bonds);
          before = λ le. absurd (omega (arith, of.0));
          no_lists = λ le. absurd (omega (arith, of.0));
          no_properties = at.no_properties;
        }
        go Property of p same took = absurd of
        go End of p same took = absurd of

  pub block_fault : {rest : List (List ℕ)} (stop : Stop) → i < sizes.atoms + sizes.bonds + sizes.lists → AtBlocks refusals lines sizes i n rest graph holds → IsFaultAt rest n stop → IsStopOf refusals lines stop
  block_fault {rest} stop lt at fault =
      let part = some_part sizes i lt in
      let p = subst (λ (x : List Kind). IsPassed refusals lines n rest (kinds_left x rest) at.parts) (next_kind sizes i part.0 part.1) at.passed in
      fault_stop rest stop (λ code. fault_at rest (kind_of part.0) (drop (i + 1) (blocks sizes)) p (long part.0)) fault
    where
      long : (part : Part) → 4096 < length (line_at lines n) → bounded refusals lines n (kind_of part) ≡ Some 13
      long Atom = too_long (line_at lines n) (refusals lines n atom)
      long Bond = too_long (line_at lines n) (refusals lines n bond)
      long Lists = too_long (line_at lines n) (refusals lines n atom_list)
      long Property = too_long (line_at lines n) (refusals lines n property)
      long End = too_long (line_at lines n) (refusals lines n end_mark)

  pub blocks_end : {rest : List (List ℕ)} → i ≡ sizes.atoms + sizes.bonds + sizes.lists → AtBlocks refusals lines sizes i n rest graph holds → AtProperties refusals lines n false rest graph holds
  blocks_end {rest} done at =
      let todo : drop i (blocks sizes) ≡ [] = after_bonds sizes i (omega arith) ∙ drop_past sizes.lists atom_list [] (i - sizes.atoms - sizes.bonds) (omega arith)
      ∙ drop_all (i - sizes.atoms - sizes.bonds - sizes.lists) (let none : List Kind = [] in none) (omega arith) in
      let left : kinds_left (drop i (blocks sizes)) rest ≡ kinds_after false rest = ap (λ (x : List Kind). kinds_left x rest) todo ∙ ap (λ (x : List Kind). x ++ kinds_after false rest) (take_nil (length rest)) in
      record {
        parts = at.parts;
        passed = left_same _ _ left at.passed;
        kept = at.kept;
        graph_is = at.graph_is;
        counted = record {
          all_atoms = omega (arith, at.atoms, at.size);
          some = omega (arith, at.size, at.limits.some);
          few = omega (arith, at.size, at.limits.few);
          few_bonds = omega (arith, at.bonds, at.limits.few_bonds);
        };
      }

-- ---- the lines after the blocks

nothing_after : (passing : Bool) → kinds_after passing [] ≡ []
nothing_after true = refl
nothing_after false = refl

property_kinds : (line : List ℕ) (rest : List (List ℕ)) → begins line (codes "M  END") ≡ false → passes_next line ≡ false → kinds_after false (line ∷ rest) ≡ property ∷ kinds_after false rest
property_kinds line rest other plain = rw (other, plain) refl

passing_kinds : (line : List ℕ) (rest : List (List ℕ)) → begins line (codes "M  END") ≡ false → passes_next line ≡ true → kinds_after false (line ∷ rest) ≡ passed_over ∷ kinds_after true rest
passing_kinds line rest other next = rw (other, next) refl

end_kinds : (line : List ℕ) (rest : List (List ℕ)) → begins line (codes "M  END") ≡ true → kinds_after false (line ∷ rest) ≡ end_mark ∷ map (λ _. after_end) rest
end_kinds line rest ends = rw ends refl

module _ {refusals : Refusals} {lines : List (List ℕ)} {n : ℕ} {graph : Graph} {holds : Parts → Type 0} where
  pub property_fault : {rest : List (List ℕ)} (passing : Bool) (stop : Stop) → AtProperties refusals lines n passing rest graph holds → IsFaultAt rest n stop → IsStopOf refusals lines stop
  property_fault {rest} passing stop at fault = fault_stop rest stop (λ code. go rest passing code at.passed) fault
    where
      go : (rest : List (List ℕ)) (passing : Bool) (code : ℕ) → IsPassed refusals lines n rest (kinds_after passing rest) at.parts → IsLineFault rest code → IsStop refusals lines n code
      go [] passing code p fault = subst (λ (c : ℕ). IsStop refusals lines n c) (sym fault) (runs_out (left_same _ _ (nothing_after passing) p))
      go (line ∷ rest) true code p fault =
          subst (λ (c : ℕ). IsStop refusals lines n c) (sym fault.0) (stops p (too_long (line_at lines n) (refusals lines n passed_over) (subst (λ (x : List ℕ). 4096 < length x) (sym (current p)) fault.1)))
      go (line ∷ rest) false code p fault = subst (λ (c : ℕ). IsStop refusals lines n c) (sym fault.0) (which (cases_Bool (begins line (codes "M  END"))) (cases_Bool (passes_next line)))
        where
          long : 4096 < length (line_at lines n)
          long = subst (λ (x : List ℕ). 4096 < length x) (sym (current p)) fault.1

          which : (begins line (codes "M  END") ≡ true) ⊎ (begins line (codes "M  END") ≡ false) → (passes_next line ≡ true) ⊎ (passes_next line ≡ false) → IsStop refusals lines n 13
          which (inl ends) x = stops (left_same _ _ (end_kinds line rest ends) p) (too_long (line_at lines n) (refusals lines n end_mark) long)
          which (inr other) (inl next) = stops (left_same _ _ (passing_kinds line rest other next) p) (too_long (line_at lines n) (refusals lines n passed_over) long)
          which (inr other) (inr plain) = stops (left_same _ _ (property_kinds line rest other plain) p) (too_long (line_at lines n) (refusals lines n property) long)

  module _ {all rest : List (List ℕ)} {line : List ℕ} (is : all ≡ line ∷ rest) where
    at_line : (passing : Bool) → AtProperties refusals lines n passing all graph holds → AtProperties refusals lines n passing (line ∷ rest) graph holds
    at_line passing at = subst (λ (x : List (List ℕ)). AtProperties refusals lines n passing x graph holds) is at

    over : (next : Bool) → refusals lines n passed_over ≡ None → length line ≤ 4096 → (at : AtProperties refusals lines n next all graph holds) → (passing : Bool) → kinds_after next (line ∷ rest) ≡ passed_over ∷ kinds_after passing rest
        → AtProperties refusals lines (n + 1) passing rest graph holds
    over next plain short at passing kinds =
        let a = at_line next at in
        let p = left_same _ _ kinds a.passed in
        record {
          parts = a.parts;
          passed = pass p (fits (line_at lines n) (refusals lines n passed_over) (short_here p short) ∙ plain) refl;
          kept = a.kept;
          graph_is = a.graph_is;
          counted = a.counted;
        }

    pub passed_line : refusals lines n passed_over ≡ None → length line ≤ 4096 → AtProperties refusals lines n true all graph holds → AtProperties refusals lines (n + 1) false rest graph holds
    passed_line plain short at = over true plain short at false refl

    pub passing_line : begins line (codes "M  END") ≡ false → passes_next line ≡ true → refusals lines n passed_over ≡ None → length line ≤ 4096
        → AtProperties refusals lines n false all graph holds → AtProperties refusals lines (n + 1) true rest graph holds
    passing_line other next plain short at = over false plain short at true (passing_kinds line rest other next)

    module _ (other : begins line (codes "M  END") ≡ false) (plain : passes_next line ≡ false) (at : AtProperties refusals lines n false all graph holds) where
      property_passed : IsPassed refusals lines n (line ∷ rest) (property ∷ kinds_after false rest) at.parts
      property_passed = left_same _ _ (property_kinds line rest other plain) (subst (λ (x : List (List ℕ)). IsPassed refusals lines n x (kinds_after false x) at.parts) is at.passed)

      pub due_property : IsHere Property lines n line at.parts graph
      due_property = record {
        here = current property_passed;
        size_is = ap (λ (p : Parts). p.size) at.passed.parts_are;
        few = at.counted.few;
        graph_is = at.graph_is;
        due = at.counted.all_atoms;
      }

      pub property_stop : (stop : Stop) → length line ≤ 4096 → Stops refusals holds Property line graph n stop → IsStopOf refusals lines stop
      property_stop stop short why = refused_stop stop (λ code refused. stops property_passed (fits_part refusals lines n Property (short_here property_passed short) ∙ refused)) (why lines n at.parts at.kept due_property)

      pub property_line : {after : Parts → Type 0} {now : Graph} → length line ≤ 4096 → Takes refusals holds after Property line graph now → AtProperties refusals lines (n + 1) false rest now after
      property_line short takes =
          let took = takes lines n at.parts at.kept due_property in
          record {
            parts = with_line property line at.parts;
            passed = pass property_passed (fits_part refusals lines n Property (short_here property_passed short) ∙ took.0) refl;
            kept = took.1;
            graph_is = took.2;
            counted = record { all_atoms = at.counted.all_atoms; some = at.counted.some; few = at.counted.few; few_bonds = at.counted.few_bonds };
          }

    module _ (ends : begins line (codes "M  END") ≡ true) (at : AtProperties refusals lines n false all graph holds) where
      end_passed : IsPassed refusals lines n (line ∷ rest) (end_mark ∷ map (λ _. after_end) rest) at.parts
      end_passed = left_same _ _ (end_kinds line rest ends) (subst (λ (x : List (List ℕ)). IsPassed refusals lines n x (kinds_after false x) at.parts) is at.passed)

      pub due_end : IsHere End lines n line at.parts graph
      due_end = record {
        here = current end_passed;
        size_is = ap (λ (p : Parts). p.size) at.passed.parts_are;
        few = at.counted.few;
        graph_is = at.graph_is;
        due = all_parts end_passed;
      }

      pub end_stop : (stop : Stop) → length line ≤ 4096 → Stops refusals holds End line graph n stop → IsStopOf refusals lines stop
      end_stop stop short why = refused_stop stop (λ code refused. stops end_passed (fits_part refusals lines n End (short_here end_passed short) ∙ refused)) (why lines n at.parts at.kept due_end)

      pub end_line : {after : Parts → Type 0} {now : Graph} → length line ≤ 4096 → Takes refusals holds after End line graph now → IsRead refusals lines now after
      end_line short takes =
          let took = takes lines n at.parts at.kept due_end in
          let all = whole end_passed (fits_part refusals lines n End (short_here end_passed short) ∙ took.0) in
          record {
            parts = at.parts;
            passes = all.0;
            ends = all.1;
            end_passes = (n, took.0);
            are = all_parts end_passed;
            kept = took.1;
            graph_is = took.2;
            counted = at.counted;
          }
