use Rattle.std.proofs.Common.{List, ℕ, ap, ◌∙◌}
use Rattle.std.specs.Prelude.{Option}
use Rattle.mol_section.specs.Fields.{words_of}
use Rattle.query_mol.specs.ListWords.{three}
use Rattle.query_mol.proofs.ListSets.{new_few, new_no_place, new_no_letter, new_no_count, new_no_elements, new_all}
use Rattle.query_mol.proofs.lists.new_list_of.Goals as goal

abbrev read : List ℕ → Option (List ℕ × List ℕ × List ℕ × List (List ℕ))
read text = three (words_of text)

pub returns-in_err-words-clause-list : goal.returns-in_err-words-clause-list
returns-in_err-words-clause-list c = c.from_residual.ensures ∙ new_few _ _ (c.in_err-words.ensures ∙ ap read c.after_lead.ensures)

pub returns-in_err-place-clause-list : goal.returns-in_err-place-clause-list
returns-in_err-place-clause-list c = c.from_residual-in_err-place.ensures ∙ new_no_place _ _ _ _ _ _ (c.in_ok-words.ensures ∙ ap read c.after_lead.ensures) c.in_err-place.ensures.place

pub returns-in_err-count-clause-list : goal.returns-in_err-count-clause-list
returns-in_err-count-clause-list c = c.from_residual-in_err-count.ensures
    ∙ new_no_count _ _ _ _ _ _ (c.in_ok-words.ensures ∙ ap read c.after_lead.ensures) _ c.in_ok-place.ensures.place c.in_err-count.ensures

pub returns-in_err-excludes-clause-list : goal.returns-in_err-excludes-clause-list
returns-in_err-excludes-clause-list c = c.from_residual-in_err-excludes.ensures
    ∙ new_no_letter _ _ _ _ _ _ (c.in_ok-words.ensures ∙ ap read c.after_lead.ensures) _ _ c.in_ok-place.ensures.place c.in_ok-count.ensures c.in_err-excludes.ensures

pub returns-in_err-elements-clause-list : goal.returns-in_err-elements-clause-list
returns-in_err-elements-clause-list c = c.from_residual-in_err-elements.ensures
    ∙ new_no_elements _ _ _ _ _ _ (c.in_ok-words.ensures ∙ ap read c.after_lead.ensures) _ _ _ c.in_ok-place.ensures.place c.in_ok-count.ensures c.in_ok-excludes.ensures c.in_err-elements.ensures

pub returns-clause-list : goal.returns-clause-list
returns-clause-list c = new_all _ _ _ _ _ _ (c.in_ok-words.ensures ∙ ap read c.after_lead.ensures) _ _ _ c.in_ok-elements.elements c.in_ok-place.ensures.place c.in_ok-count.ensures c.in_ok-excludes.ensures c.in_ok-elements.ensures
