-- What a bond line says, against the graph of the bonds before it.
use Rattle.std.specs.Prelude.{◌≡◌, ℕ, ◌≤◌, List, [], ◌∷◌, Option, None, is_some, Bool, not, ◌&&◌, ◌==◌, nat_le, All}
use Rattle.std.specs.List.{list_any}
use Rattle.htss_defs.specs.declared.graph.Ends.{Ends}
use Rattle.mol_section.specs.declared.bonds.ReadBond.{ReadBond}
use Rattle.htss_defs.specs.Graph.{Graph, AreApart, AreEnds, joins}
use Rattle.mol_section.specs.Fields.{field, number_of}
use Rattle.mol_section.specs.SectionLines.{first_code, is_place, bond_first, bond_second, bond_kind, ends_of}

-- one of the bonds joins these places
unfoldable pub is_taken : List Ends → Ends → Bool
is_taken bonds ends = list_any (λ other. joins other ends.first ends.second) bonds

-- the refusal of a bond line, where the bonds before it are those of the graph and types are 1 to `most`
unfoldable pub graph_refusal : ℕ → Graph → List ℕ → Option ℕ
graph_refusal most graph line = first_code ((
  is_some (number_of (field 1 3 line)) && is_some (number_of (field 4 6 line))
      && is_some (number_of (field 7 9 line)),
  7,
)
    ∷ (
      is_place graph.atoms (bond_first line) && is_place graph.atoms (bond_second line)
          && not (bond_first line == bond_second line),
      8,
    )
    ∷ (nat_le 1 (bond_kind line) && nat_le (bond_kind line) most, 9)
    ∷ (not (is_taken graph.bonds (ends_of line)), 10)
    ∷ [])

-- the line is accepted, and says this of its bond
pub record SaysBond (most : ℕ) (graph : Graph) (line : List ℕ) (says : ReadBond) : Type 0 where
  pub passes : graph_refusal most graph line ≡ None
  pub ends_are : says.ends ≡ ends_of line
  pub kind_is : says.kind ≡ bond_kind line
  pub kind : (1 ≤ says.kind) × (says.kind ≤ most)
  pub valid : AreEnds graph.atoms says.ends
  pub apart : All (λ e. AreApart e says.ends) graph.bonds
