-- The atoms of a query, from what was read of them.
use Rattle.std.specs.Prelude.{List, Option, None, Some}
use Rattle.std.specs.List.{zip, filter_map}
use Rattle.htss_defs.specs.declared.mol.Atom.{Atom}
use Rattle.htss_defs.specs.declared.query.AtomTest.{AtomTest}
use Rattle.htss_defs.specs.declared.query.QueryAtom.{QueryAtom}

-- an atom with its charge, its mass and its test, where that is told
abbrev pub told_atom : Atom × Option AtomTest → Option QueryAtom
told_atom (atom, None) = None
told_atom (atom, Some test) = Some (record { test = test; charge = atom.charge; mass = atom.mass })

abbrev pub told_atoms : List Atom → List (Option AtomTest) → List QueryAtom
told_atoms atoms tests = filter_map told_atom (zip atoms tests)
