-- A bond's flag is no matter of its ends or its type.
use Rattle.std.proofs.Common.{◌≡◌, ℕ, ◌<◌, Bool, length, get_or, set, sym, subst, ap, ◌∙◌, inl, inr, arith}
use Rattle.std.proofs.lemmas.Bool.{cases_eq}
use Rattle.std.proofs.lemmas.List.{length-set, get_or-set_same, get_or-set_other, get_or_default}
use Rattle.std.proofs.lemmas.List.Elements.{All-set}
use Rattle.htss_defs.specs.declared.graph.Ends.{Ends}
use Rattle.htss_defs.specs.declared.mol.Bond.{Bond}
use Rattle.htss_defs.specs.Graph.{AreApart}
use Rattle.htss_defs.specs.Molecule.{Molecule, IsMolecule, IsBond, bond_ends}
use Rattle.htss_defs.specs.Marked.{no_bond, with_ring}

ends-with_ring : (m : Molecule) (k : ℕ) (ring : Bool) (i : ℕ) (d : Bond) → k < length m.bonds → bond_ends (get_or (with_ring m k ring).bonds i d) ≡ bond_ends (get_or m.bonds i d)
ends-with_ring m k ring i d within =
    let b : Bond = record (get_or m.bonds k no_bond) { ring = ring } in
    elim (cases_eq i k) [
      | inl same ↦
          ap (λ (n : ℕ). bond_ends (get_or (set m.bonds k b) n d)) same ∙ ap bond_ends (get_or-set_same m.bonds k b d within) ∙ ap bond_ends (get_or_default m.bonds k no_bond d within) ∙ ap (λ (n : ℕ). bond_ends (get_or m.bonds n d)) (sym same)
      | inr other ↦ ap bond_ends (get_or-set_other m.bonds k i b d other)
    ]

pub IsMolecule-with_ring : (m : Molecule) (k : ℕ) (ring : Bool) → IsMolecule m → k < length m.bonds → IsMolecule (with_ring m k ring)
IsMolecule-with_ring m k ring valid within =
    let b : Bond = record (get_or m.bonds k no_bond) { ring = ring } in
    let was : IsBond (length m.atoms) (get_or m.bonds k no_bond) = valid.each_bond k no_bond within in
    let size : length (set m.bonds k b) ≡ length m.bonds = length-set m.bonds k b in
    record {
      atoms = valid.atoms;
      bonds = omega (arith, valid.bonds);
      each_atom = valid.each_atom;
      each_bond = All-set (IsBond (length m.atoms)) m.bonds k b (record { ends = was.ends; kind = was.kind }) valid.each_bond;
      no_pair_twice = λ i j d before last.
          subst (λ (e : Ends). AreApart e (bond_ends (get_or (set m.bonds k b) j d))) (sym (ends-with_ring m k ring i d within))
          (subst (λ (e : Ends). AreApart (bond_ends (get_or m.bonds i d)) e) (sym (ends-with_ring m k ring j d within)) (valid.no_pair_twice i j d before (omega arith)));
    }
