use Rattle.class_tree.proofs.Searching.{chain_true}
use Rattle.class_tree.proofs.insert.refuse_chain.Goals as goal

pub note_answers-requires-clause-answers : goal.note_answers-requires-clause-answers
note_answers-requires-clause-answers c = chain_true _ _ c.requires.walked
