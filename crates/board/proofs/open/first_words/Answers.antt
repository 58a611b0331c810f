use Rattle.std.proofs.Common.{refl}
use Rattle.htss_defs.specs.declared.shape.Field.TheVariants.{Pages}
use Rattle.board.proofs.News.{opened, inside_words}
use Rattle.board.proofs.open.first_words.Goals as goal

pub index_mut-requires-2 : goal.index_mut-requires-2
index_mut-requires-2 c = (inside_words _ _ _ _ _ _ c.in_ok-words.ensures.len refl (c.requires Pages).0).0

pub index_mut-requires-3 : goal.index_mut-requires-3
index_mut-requires-3 c = (inside_words _ _ _ _ _ _ c.in_ok-words.ensures.len refl (c.requires Pages).0).1

pub returns : goal.returns
returns c = opened c.args.shape _ _ _ _ (c.requires Pages).0 (c.in_ok-words.ensures.items_if_clones_equal (λ y e. e)) refl refl refl
