use Rattle.std.proofs.Common.{◌∙◌}
use Rattle.query_mol.proofs.ListSets.{old_few, old_no_place, old_no_letter, old_no_count, old_no_elements, old_all}
use Rattle.query_mol.proofs.lists.old_list_of.Goals as goal

pub returns-in_err-words-clause-list : goal.returns-in_err-words-clause-list
returns-in_err-words-clause-list c = c.from_residual.ensures ∙ old_few _ _ c.in_err-words.ensures

pub returns-in_err-place-clause-list : goal.returns-in_err-place-clause-list
returns-in_err-place-clause-list c = c.from_residual-in_err-place.ensures ∙ old_no_place _ _ _ _ _ _ c.in_ok-words.ensures c.in_err-place.ensures.place

pub returns-in_err-excludes-clause-list : goal.returns-in_err-excludes-clause-list
returns-in_err-excludes-clause-list c = c.from_residual-in_err-excludes.ensures ∙ old_no_letter _ _ _ _ _ _ c.in_ok-words.ensures _ c.in_ok-place.ensures.place c.in_err-excludes.ensures

pub returns-in_err-count-clause-list : goal.returns-in_err-count-clause-list
returns-in_err-count-clause-list c = c.from_residual-in_err-count.ensures
    ∙ old_no_count _ _ _ _ _ _ c.in_ok-words.ensures _ _ c.in_ok-place.ensures.place c.in_ok-excludes.ensures c.in_err-count.ensures

pub returns-in_err-elements-clause-list : goal.returns-in_err-elements-clause-list
returns-in_err-elements-clause-list c = c.from_residual-in_err-elements.ensures
    ∙ old_no_elements _ _ _ _ _ _ c.in_ok-words.ensures _ _ _ c.in_ok-place.ensures.place c.in_ok-excludes.ensures c.in_ok-count.ensures c.in_err-elements.ensures

pub returns-clause-list : goal.returns-clause-list
returns-clause-list c = old_all _ _ _ _ _ _ c.in_ok-words.ensures _ _ _ c.in_ok-elements.elements c.in_ok-place.ensures.place c.in_ok-excludes.ensures c.in_ok-count.ensures c.in_ok-elements.ensures
