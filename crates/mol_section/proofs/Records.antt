-- What the lines of a record make of its draft, and the record of a whole section.
use Rattle.std.proofs.Common.{◌≡◌, ℕ, zero, suc, ◌+◌, ◌≤◌, Bool, false, not, ◌||◌, ◌&&◌, eqb, leb, List, [], ◌∷◌, ◌++◌, length, take, drop, map, get_or, All, refl, sym, ap, subst, ◌∙◌, inl, inr, arith}
use Rattle.std.specs.Prelude.{Option, Some, None, is_some, AllPairs, slice_get, unwrap_or}
use Rattle.std.specs.List.{list_any}
use Rattle.std.proofs.lemmas.List.{map-append, length-map, take_at}
use Rattle.std.proofs.lemmas.List.Elements.{All-nil, All-push, All-get_or}
use Rattle.std.proofs.lemmas.List.Quantifiers.{all_pairs_push}
use Rattle.htss_defs.specs.declared.graph.Ends.{Ends}
use Rattle.htss_defs.specs.declared.mol.Atom.{Atom}
use Rattle.htss_defs.specs.declared.mol.Bond.{Bond}
use Rattle.htss_defs.specs.Adjacency.{with_bond}
use Rattle.htss_defs.specs.Graph.{Graph, AreApart, joins}
use Rattle.htss_defs.specs.Marked.{IsMarked, unmarked}
use Rattle.htss_defs.specs.Molecule.{Molecule, IsMolecule, IsAtom, IsBond, AreBondsApart, bond_ends, molecule_graph}
use Rattle.mol_section.specs.SectionLines.{atom, bond, property, first_code, is_place, bond_kind, kind_refusal, atom_refusal, bond_refusal, property_refusal, atom_count, bond_lines_before, ends_of, bond_first, bond_second}
use Rattle.mol_section.specs.SectionRecord.{IsAccepted, IsOutcome, refused, name_of, atom_of, bond_of, sets_charges_aside}
use Rattle.mol_section.specs.AtomLines.{SaysAtom, IsAtomFrom}
use Rattle.mol_section.specs.declared.bonds.ReadBond.{ReadBond}
use Rattle.mol_section.specs.Fields.{field, number_of}
use Rattle.mol_section.specs.BondLines.{SaysBond, graph_refusal, is_taken}
use Rattle.mol_section.specs.PropertyLines.{with_property, sets_aside}
use Rattle.mol_section.specs.Walk.{Parts, no_parts, with_line, IsGraphOf, IsHere, IsStop, IsRead}
use Rattle.mol_section.specs.declared.draft.Part.TheVariants.{Atom as AtomLine, Bond as BondLine, Property as PropertyLine}
use Rattle.mol_section.specs.Records.{Keeps, made_atoms}
use Rattle.mol_section.proofs.AtomSets.{from_first, to_first}
use Rattle.mol_section.proofs.Made.{made_atoms-push, aside-push, length-made, numbered-push}

pub keeps_none : (size : ℕ) (atoms : List Atom) (bonds : List Bond) → atoms ≡ [] → bonds ≡ [] → Keeps atoms bonds false (no_parts size)
keeps_none size atoms bonds no_atoms no_bonds = record {
  atoms_are = no_atoms;
  valid_atoms = subst (All IsAtom) (sym no_atoms) (All-nil IsAtom);
  bonds_are = no_bonds;
  valid_bonds = subst (All (IsBond size)) (sym no_bonds) (All-nil (IsBond size));
  apart = subst (AllPairs AreBondsApart) (sym no_bonds) (λ i j d before within. absurd (omega arith));
  aside_is = refl;
}

-- one atom line more, before any property
pub made_push : (size : ℕ) (properties lines : List (List ℕ)) (line : List ℕ) (atoms longer : List Atom) (a : Atom) → properties ≡ [] → a ≡ atom_of size [] (1 + length lines, line)
    → atoms ≡ made_atoms size properties lines → longer ≡ atoms ++ a ∷ [] → longer ≡ made_atoms size properties (lines ++ line ∷ [])
made_push size properties lines line atoms longer a none same are longer-is =
    longer-is ∙ ap (λ (x : List Atom). x ++ a ∷ []) (are ∙ ap (λ (x : List (List ℕ)). made_atoms size x lines) none)
    ∙ ap (λ (x : Atom). made_atoms size [] lines ++ x ∷ []) same
    ∙ sym (map-append (atom_of size []) _ ((1 + length lines, line) ∷ []))
    ∙ sym (ap (map (atom_of size [])) (numbered-push 1 lines line))
    ∙ ap (λ (x : List (List ℕ)). made_atoms size x (lines ++ line ∷ [])) (sym none)

-- ---- a line

module _ {lines : List (List ℕ)} {n : ℕ} {line : List ℕ} {parts : Parts} {graph : Graph} where
  pub atom_refused : {code : Option ℕ} → IsHere AtomLine lines n line parts graph → atom_refusal line ≡ code → kind_refusal lines n atom ≡ code
  atom_refused here is = ap atom_refusal here.here ∙ is

  module _ {atoms : List Atom} {bonds : List Bond} {aside : Bool} where
    pub atom_taken : (longer : List Atom) (a : Atom) → longer ≡ atoms ++ a ∷ [] → SaysAtom line a → Keeps atoms bonds aside parts → IsHere AtomLine lines n line parts graph
        → (kind_refusal lines n atom ≡ None) × Keeps longer bonds aside (with_line atom line parts) × IsGraphOf graph (with_line atom line parts)
    atom_taken longer a longer-is says keeps here = (
      atom_refused here says.passes,
      record {
        atoms_are = made_push parts.size parts.properties parts.atoms line atoms longer a here.due.1 (rw (says.symbol, says.charge) refl) keeps.atoms_are longer-is;
        valid_atoms = subst (All IsAtom) (sym longer-is) (All-push IsAtom atoms a keeps.valid_atoms says.valid);
        bonds_are = keeps.bonds_are;
        valid_bonds = keeps.valid_bonds;
        apart = keeps.apart;
        aside_is = keeps.aside_is;
      },
      record { atoms = here.graph_is.atoms; bonds_are = here.graph_is.bonds_are },
    )

list_any-map : {X Y : Type 0} (p : Y → Bool) (f : X → Y) (xs : List X) → list_any p (map f xs) ≡ list_any (λ x. p (f x)) xs
list_any-map p f [] = refl
list_any-map p f (x ∷ xs) = ap (λ (b : Bool). p (f x) || b) (list_any-map p f xs)

-- the refusal of a bond line by the bond lines before it
abbrev pub earlier_refusal : ℕ → ℕ → List (List ℕ) → List ℕ → Option ℕ
earlier_refusal most atoms earlier line = first_code ((
  is_some (number_of (field 1 3 line)) && is_some (number_of (field 4 6 line)) && is_some (number_of (field 7 9 line)),
  7,
)
    ∷ (is_place atoms (bond_first line) && is_place atoms (bond_second line) && not (eqb (bond_first line) (bond_second line)), 8)
    ∷ (leb 1 (bond_kind line) && leb (bond_kind line) most, 9)
    ∷ (not (list_any (λ other. joins (ends_of other) (bond_first line) (bond_second line)) earlier), 10)
    ∷ [])

pub graph_refusal-lines : (most : ℕ) (graph : Graph) (earlier : List (List ℕ)) (line : List ℕ) → graph.bonds ≡ map ends_of earlier → graph_refusal most graph line ≡ earlier_refusal most graph.atoms earlier line
unfolding graph_refusal is_taken
graph_refusal-lines most graph earlier line are =
    let taken : is_taken graph.bonds (ends_of line) ≡ list_any (λ other. joins (ends_of other) (bond_first line) (bond_second line)) earlier =
    ap (λ (x : List Ends). is_taken x (ends_of line)) are ∙ list_any-map (λ other. joins other (bond_first line) (bond_second line)) ends_of earlier in
    rw taken refl

abbrev bond_from : ReadBond → Bond
bond_from says = record { first = says.ends.first; second = says.ends.second; kind = says.kind; ring = false }

-- the graph with one bond more
pub graph_more : {graph now : Graph} {parts : Parts} (line : List ℕ) (ends : Ends) → ends ≡ ends_of line → now ≡ with_bond graph ends → IsGraphOf graph parts → IsGraphOf now (with_line bond line parts)
graph_more {graph} {now} {parts} line ends same is of = record {
  atoms = ap (λ (g : Graph). g.atoms) is ∙ of.atoms;
  bonds_are = ap (λ (g : Graph). g.bonds) is ∙ ap (λ (x : List Ends). x ++ ends ∷ []) of.bonds_are ∙ ap (λ (e : Ends). map ends_of parts.bonds ++ e ∷ []) same ∙ sym (map-append ends_of parts.bonds (line ∷ []));
}

-- one bond more is apart from each before it
pub apart_more : {B : Type 0} (ends : B → Ends) (bonds : List B) (b : B) (all : List Ends) → all ≡ map ends bonds → AllPairs (λ x y. AreApart (ends x) (ends y)) bonds → All (λ e. AreApart e (ends b)) all
    → AllPairs (λ x y. AreApart (ends x) (ends y)) (bonds ++ b ∷ [])
apart_more {B} ends bonds b all are pairs apart = all_pairs_push (λ x y. AreApart (ends x) (ends y)) bonds b pairs (λ k d within.
    subst (λ (e : Ends). AreApart e (ends b)) (ap (λ (x : List Ends). get_or x k (ends d)) are ∙ get_or-ends bonds k d)
    (All-get_or (λ e. AreApart e (ends b)) all k (ends d) (omega (arith, ap length are, length-map bonds ends)) apart))
  where
    get_or-ends : (bonds : List B) (k : ℕ) (d : B) → get_or (map ends bonds) k (ends d) ≡ ends (get_or bonds k d)
    get_or-ends [] k d = refl
    get_or-ends (b ∷ bonds) zero d = refl
    get_or-ends (b ∷ bonds) (suc k) d = get_or-ends bonds k d

ends_are : (lines : List (List ℕ)) → map bond_ends (map bond_of lines) ≡ map ends_of lines
ends_are [] = refl
ends_are (line ∷ lines) = ap (λ (x : List Ends). ends_of line ∷ x) (ends_are lines)

module _ {lines : List (List ℕ)} {n : ℕ} {line : List ℕ} {parts : Parts} {graph : Graph} where
  pub bond_refused : {code : Option ℕ} → IsHere BondLine lines n line parts graph → graph_refusal 4 graph line ≡ code → kind_refusal lines n bond ≡ code
  bond_refused here is =
      ap (λ (x : List ℕ). bond_refusal (atom_count lines) (bond_lines_before lines n) x) here.here
      ∙ ap (λ (x : List (List ℕ)). bond_refusal (atom_count lines) x line) here.due.0
      ∙ ap (λ (k : ℕ). bond_refusal k parts.bonds line) (here.size_is ∙ sym here.graph_is.atoms)
      ∙ sym (graph_refusal-lines 4 graph parts.bonds line here.graph_is.bonds_are) ∙ is

  module _ {atoms : List Atom} {bonds : List Bond} {aside : Bool} where
    pub bond_taken : (longer : List Bond) (says : ReadBond) (now : Graph) → longer ≡ bonds ++ bond_from says ∷ [] → SaysBond 4 graph line says → now ≡ with_bond graph says.ends → Keeps atoms bonds aside parts → IsHere BondLine lines n line parts graph
        → (kind_refusal lines n bond ≡ None) × Keeps atoms longer aside (with_line bond line parts) × IsGraphOf now (with_line bond line parts)
    bond_taken longer one now longer-is says now-is keeps here =
        let same : bond_from one ≡ bond_of line = rw (says.ends_are, says.kind_is) refl in
        let are : graph.bonds ≡ map bond_ends bonds = here.graph_is.bonds_are ∙ sym (ends_are parts.bonds) ∙ ap (map bond_ends) (sym keeps.bonds_are) in
        let valid : IsBond parts.size (bond_from one) = subst (λ (k : ℕ). IsBond k (bond_from one)) here.graph_is.atoms (record { ends = says.valid; kind = says.kind }) in (
          bond_refused here says.passes,
          record {
            atoms_are = keeps.atoms_are;
            valid_atoms = keeps.valid_atoms;
            bonds_are = longer-is ∙ ap (λ (x : List Bond). x ++ (bond_from one) ∷ []) keeps.bonds_are ∙ ap (λ (x : Bond). map bond_of parts.bonds ++ x ∷ []) same ∙ sym (map-append bond_of parts.bonds (line ∷ []));
            valid_bonds = subst (All (IsBond parts.size)) (sym longer-is) (All-push (IsBond parts.size) bonds (bond_from one) keeps.valid_bonds valid);
            apart = subst (AllPairs AreBondsApart) (sym longer-is) (apart_more bond_ends bonds (bond_from one) graph.bonds are keeps.apart says.apart);
            aside_is = keeps.aside_is;
          },
          graph_more line one.ends says.ends_are now-is here.graph_is,
        )

pub atoms_long : (size : ℕ) (properties lines : List (List ℕ)) (atoms : List Atom) → atoms ≡ made_atoms size properties lines → length atoms ≡ length lines
atoms_long size properties lines atoms are = ap length are ∙ length-made (atom_of size properties) 1 lines

module _ {lines : List (List ℕ)} {n : ℕ} {line : List ℕ} {parts : Parts} {graph : Graph} {atoms : List Atom} {bonds : List Bond} {aside : Bool} where
  -- the atoms are lent as a list of their own
  pub property_refused : {code : Option ℕ} (lent : List Atom) → lent ≡ atoms → Keeps atoms bonds aside parts → IsHere PropertyLine lines n line parts graph → property_refusal (length lent) line ≡ code → kind_refusal lines n property ≡ code
  property_refused lent same keeps here is =
      ap (λ (x : List ℕ). property_refusal (atom_count lines) x) here.here
      ∙ ap (λ (k : ℕ). property_refusal k line) (here.size_is ∙ sym here.due ∙ sym (ap length same ∙ atoms_long parts.size parts.properties parts.atoms atoms keeps.atoms_are)) ∙ is

  pub property_taken : (lent changed : List Atom) (now : Bool) → lent ≡ atoms → property_refusal (length lent) line ≡ None → changed ≡ with_property aside line lent → now ≡ (aside || sets_aside line)
      → ((least : ℕ) → All (IsAtomFrom least) lent → All (IsAtomFrom least) changed) → Keeps atoms bonds aside parts → IsHere PropertyLine lines n line parts graph
      → (kind_refusal lines n property ≡ None) × Keeps changed bonds now (with_line property line parts) × IsGraphOf graph (with_line property line parts)
  property_taken lent changed now same passes changed-is now-is valid keeps here = (
    property_refused lent same keeps here passes,
    record {
      atoms_are = changed-is ∙ ap (with_property aside line) same ∙ ap (λ (b : Bool). with_property b line atoms) keeps.aside_is ∙ ap (with_property (sets_charges_aside parts.properties) line) keeps.atoms_are
          ∙ made_atoms-push parts.size parts.properties line parts.atoms here.due;
      valid_atoms = to_first changed (valid 1 (subst (All (IsAtomFrom 1)) (sym same) (from_first atoms keeps.valid_atoms)));
      bonds_are = keeps.bonds_are;
      valid_bonds = keeps.valid_bonds;
      apart = keeps.apart;
      aside_is = now-is ∙ ap (λ (b : Bool). b || sets_aside line) keeps.aside_is ∙ sym (aside-push parts.properties line);
    },
    record { atoms = here.graph_is.atoms; bonds_are = here.graph_is.bonds_are },
  )

pub few_atoms : {lines : List (List ℕ)} {n : ℕ} {line : List ℕ} {parts : Parts} {graph : Graph} {atoms : List Atom} {bonds : List Bond} {aside : Bool} → Keeps atoms bonds aside parts → IsHere PropertyLine lines n line parts graph → length atoms ≤ 999
few_atoms {parts = parts} {atoms = atoms} keeps here = omega (arith, atoms_long parts.size parts.properties parts.atoms atoms keeps.atoms_are, here.due, here.few)

-- a slice that was lent from a vector, written back
pub written : {X : Type 0} (new items lent : List X) (len : ℕ) → lent ≡ items → length new ≡ length lent → length items ≡ len → take len (new ++ drop (length new) items) ≡ new
written new items lent len is same long =
    let size : len ≡ length new = omega (arith, ap length is) in
    take_at new (drop (length new) items) len (sym size)

-- ---- the whole

module _ {lines : List (List ℕ)} {graph : Graph} {atoms : List Atom} {bonds : List Bond} {aside : Bool} (read : IsRead kind_refusal lines graph (Keeps atoms bonds aside)) where
  long : length atoms ≡ read.parts.size
  long = atoms_long read.parts.size read.parts.properties read.parts.atoms atoms read.kept.atoms_are ∙ read.counted.all_atoms

  pub is_molecule : IsMolecule (record { atoms = atoms; bonds = bonds })
  is_molecule = record {
    atoms = (omega (arith, long, read.counted.some), omega (arith, long, read.counted.few));
    bonds = omega (arith, ap length read.kept.bonds_are, length-map read.parts.bonds bond_of, read.counted.few_bonds);
    each_atom = read.kept.valid_atoms;
    each_bond = subst (λ (k : ℕ). All (IsBond k) bonds) (sym long) read.kept.valid_bonds;
    no_pair_twice = read.kept.apart;
  }

  -- the graph of the bonds that were read is that of the molecule
  pub graph_is : graph ≡ molecule_graph (record { atoms = atoms; bonds = bonds })
  graph_is =
      ap (λ (k : ℕ). record { atoms = k; bonds = graph.bonds }) (read.graph_is.atoms ∙ sym long)
      ∙ ap (λ (es : List Ends). record { atoms = length atoms; bonds = es }) (read.graph_is.bonds_are ∙ sym (ends_are read.parts.bonds) ∙ ap (map bond_ends) (sym read.kept.bonds_are))

  abbrev built : Parts → Molecule
  built parts = record { atoms = made_atoms parts.size parts.properties parts.atoms; bonds = map bond_of parts.bonds }

  -- what bond lines say is not marked
  plain : (lines : List (List ℕ)) → map unmarked (map bond_of lines) ≡ map bond_of lines
  plain [] = refl
  plain (line ∷ lines) = ap (λ (bs : List Bond). bond_of line ∷ bs) (plain lines)

  pub is_accepted : (first name : List ℕ) (mol : Molecule) → slice_get lines 0 ≡ Some first → name ≡ name_of first → mol.atoms ≡ atoms → map unmarked mol.bonds ≡ map unmarked bonds → IsMarked mol → IsAccepted lines name mol
  is_accepted first name mol first-is name-is atoms-are bonds-are marks = record {
    passes = read.passes;
    ends = read.ends;
    name_is = name-is ∙ sym (ap (λ (o : Option (List ℕ)). name_of (unwrap_or o [])) first-is);
    mol_is = ap (λ (x : List Atom). record { atoms = x; bonds = map unmarked mol.bonds }) (atoms-are ∙ read.kept.atoms_are)
        ∙ ap (λ (x : List Bond). record { atoms = made_atoms read.parts.size read.parts.properties read.parts.atoms; bonds = x }) (bonds-are ∙ ap (map unmarked) read.kept.bonds_are ∙ plain read.parts.bonds)
        ∙ sym (ap built read.are);
    marked = marks;
  }

pub is_refused : (lines : List (List ℕ)) (first line code : ℕ) → IsStop kind_refusal lines line code → IsOutcome first lines (refused (first + line) code)
is_refused lines first line code stop = (
  line,
  refl,
  elim stop.why [
    | inl at ↦ inl (record { before = at.0; here = at.1 })
    | inr ends ↦ inr (record { passes = ends.0; none = ends.1; at = ends.2; code_is = ends.3 })
  ],
)
