-- The codes of methane and ethanol without their hydrogens, and a need, as worked by hand.
use Rattle.std.specs.Prelude.{◌≡◌, ℕ, [], ◌∷◌, pos, false}
use Rattle.std.proofs.Common.{refl}
use Rattle.htss_defs.specs.declared.mol.Atom.{Atom}
use Rattle.htss_defs.specs.declared.mol.Bond.{Bond}
use Rattle.htss_defs.specs.declared.query.AtomTest.TheVariants.{Element, NotHydrogen, OneOf}
use Rattle.htss_defs.specs.Molecule.{Molecule}
use Rattle.htss_defs.specs.QueryGraph.{QueryGraph}
use Rattle.htss_defs.specs.Distances.{has_walk, is_within, count_within, degree}
use Rattle.htss_defs.specs.Codes.{word_of, bonds_at, code_at, codes_at}
use Rattle.htss_defs.specs.Needs.{surely_of_kind, query_bonds_at, need_word, need_at}

atom : ℕ → Atom
atom element = record { element = element; charge = pos 0; mass = 0 }

bond : ℕ → ℕ → Bond
bond first second = record { first = first; second = second; kind = 1; ring = false }

methane : Molecule
methane = record { atoms = atom 6 ∷ []; bonds = [] }

ethanol : Molecule
ethanol = record { atoms = atom 6 ∷ atom 6 ∷ atom 8 ∷ []; bonds = bond 1 2 ∷ bond 2 3 ∷ [] }

methane_codes : (codes_at methane 1).words ≡ 0x6 ∷ 0x10101 ∷ 0x10101 ∷ 0x10101 ∷ 0x10101 ∷ []
unfolding atom methane has_walk is_within count_within degree word_of bonds_at code_at
methane_codes = refl

first_codes : (codes_at ethanol 1).words ≡ 0x106 ∷ 0x20202 ∷ 0x100020303 ∷ 0x100020303 ∷ 0x100020303 ∷ []
unfolding atom bond ethanol has_walk is_within count_within degree word_of bonds_at code_at
first_codes = refl

second_codes : (codes_at ethanol 2).words ≡ 0x206 ∷ 0x100020303 ∷ 0x100020303 ∷ 0x100020303 ∷ 0x100020303 ∷ []
unfolding atom bond ethanol has_walk is_within count_within degree word_of bonds_at code_at
second_codes = refl

third_codes : (codes_at ethanol 3).words ≡ 0x108 ∷ 0x100010202 ∷ 0x100020303 ∷ 0x100020303 ∷ 0x100020303 ∷ []
unfolding atom bond ethanol has_walk is_within count_within degree word_of bonds_at code_at
third_codes = refl

-- any atom but hydrogen, with a bond of type 2 to oxygen and one in a ring to fluorine or chlorine
asked : QueryGraph
asked = record {
  atoms = record { test = NotHydrogen; charge = pos 0; mass = 0 } ∷ record { test = Element 8; charge = pos 0; mass = 0 } ∷ record { test = OneOf (record { 0 = 0x20200 }); charge = pos 0; mass = 0 } ∷ [];
  bonds = record { first = 1; second = 2; kind = 2; topology = 0; ring = false } ∷ record { first = 1; second = 3; kind = 5; topology = 1; ring = false } ∷ [];
}

first_need : (need_at asked 1).words ≡ 0x10000010200 ∷ 0x1000100000303 ∷ 0x1000100000303 ∷ 0x1000100000303 ∷ 0x1000100000303 ∷ []
unfolding asked has_walk is_within count_within degree word_of surely_of_kind query_bonds_at need_word
first_need = refl

second_need : (need_at asked 2).words ≡ 0x10100 ∷ 0x100000202 ∷ 0x1000100000303 ∷ 0x1000100000303 ∷ 0x1000100000303 ∷ []
unfolding asked has_walk is_within count_within degree word_of surely_of_kind query_bonds_at need_word
second_need = refl
