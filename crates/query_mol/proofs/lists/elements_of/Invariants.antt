use Rattle.std.proofs.Common.{◌≡◌, ◌-◌}
use Rattle.std.specs.Prelude.{fold}
use Rattle.std.specs.Option.{option_map}
use Rattle.mol_section.specs.Fields.{words_of}
use Rattle.query_mol.specs.QueryLines.{elements_of}
use Rattle.query_mol.specs.QueryRecord.{set_of}
use Rattle.query_mol.specs.ListWords.{element_value, with_element}
use Rattle.query_mol.proofs.lists.elements_of.Given as goal

abbrev pub invariant-loop : goal.invariant-loop
invariant-loop l =
    option_map (fold with_element l.set) (elements_of (element_value l.by_symbol) (l.count - l.counter) (words_of l.rest))
    ≡ option_map set_of (elements_of (element_value l.by_symbol) l.count (words_of l.text))
