use Rattle.class_tree.proofs.Searching.{more_refused}
use Rattle.class_tree.proofs.Chain.{next_read, may_link_inner, inner_made, made_loader, inner_lost, goes_loader, won_stocked, lost_but, stocked_again}
use Rattle.std.proofs.Common.{refl}
use Rattle.class_tree.proofs.find.next_inner.Goals as goal

pub returns-then-word-ne0-clause-next : goal.returns-then-word-ne0-clause-next
returns-then-word-ne0-clause-next c = next_read _ c.args.caller.now _ _ _ _ _ _ _ c.requires.seeking c.load_more-word.ensures.after c.if-word-ne0.true (c.load_more-word.ensures.page c.if-word-ne0.true) c.stop_at.ensures

pub link_next_inner-found-requires-clause-may : goal.link_next_inner-found-requires-clause-may
link_next_inner-found-requires-clause-may c = may_link_inner _ c.args.caller.now c.load_more-word.new.caller _ _ _ _ _ _ _ _ c.requires.seeking c.requires.rank.0 c.load_more-word.ensures.after c.if-word-ne0.false c.header_word-header.ensures c.in-Ok.ensures.ready c.requires.few

pub returns-then-found-eq0-clause-loader : goal.returns-then-found-eq0-clause-loader
returns-then-found-eq0-clause-loader c = made_loader _ c.args.caller.now _ _ _ _ _ _ (inner_made _ c.args.caller.now c.load_more-word.new.caller c.make_page.new.caller _ c.args.at _ _ _ _ _ _ c.args.target.now c.requires.seeking c.load_more-word.ensures.after c.if-word-ne0.false c.in-Ok.ensures.ready (c.link_next_inner-found.ensures.won c.if-found-eq0.true) refl) c.requires.loader

pub returns-then-found-eq0-clause-stocked : goal.returns-then-found-eq0-clause-stocked
returns-then-found-eq0-clause-stocked c = won_stocked _ c.load_more-word.new.caller c.make_page.new.caller _ c.args.at _ _ _ c.in-Ok.ensures.ready (c.link_next_inner-found.ensures.won c.if-found-eq0.true)

pub returns-then-found-eq0-clause-next : goal.returns-then-found-eq0-clause-next
returns-then-found-eq0-clause-next c = inner_made _ c.args.caller.now c.load_more-word.new.caller c.make_page.new.caller _ c.args.at _ _ _ _ _ _ c.args.target.now c.requires.seeking c.load_more-word.ensures.after c.if-word-ne0.false c.in-Ok.ensures.ready (c.link_next_inner-found.ensures.won c.if-found-eq0.true) refl

pub keep-requires-clause-own : goal.keep-requires-clause-own
keep-requires-clause-own c = (lost_but _ c.load_more-word.new.caller c.make_page.new.caller _ c.args.at _ _ _ _ c.in-Ok.ensures.ready (c.link_next_inner-found.ensures.lost c.if-found-eq0.false)).mine

pub returns-clause-loader : goal.returns-clause-loader
returns-clause-loader c = goes_loader _ c.args.caller.now _ (inner_lost _ c.args.caller.now c.load_more-word.new.caller c.make_page.new.caller c.link_next_inner-found.new.caller _ c.args.at _ _ _ _ _ _ _ c.args.target.now c.requires.seeking c.load_more-word.ensures.after c.if-word-ne0.false c.in-Ok.ensures.ready (c.link_next_inner-found.ensures.lost c.if-found-eq0.false) c.if-found-eq0.false (c.link_next_inner-found.ensures.page c.if-found-eq0.false) c.keep.ensures c.stop_at-2.ensures).0.goes c.requires.loader

pub returns-clause-stocked : goal.returns-clause-stocked
returns-clause-stocked c = stocked_again c.link_next_inner-found.new.caller _ _ (lost_but _ c.load_more-word.new.caller c.make_page.new.caller _ c.args.at _ _ _ _ c.in-Ok.ensures.ready (c.link_next_inner-found.ensures.lost c.if-found-eq0.false)) c.keep.ensures

pub returns-clause-next : goal.returns-clause-next
returns-clause-next c = inner_lost _ c.args.caller.now c.load_more-word.new.caller c.make_page.new.caller c.link_next_inner-found.new.caller _ c.args.at _ _ _ _ _ _ _ c.args.target.now c.requires.seeking c.load_more-word.ensures.after c.if-word-ne0.false c.in-Ok.ensures.ready (c.link_next_inner-found.ensures.lost c.if-found-eq0.false) c.if-found-eq0.false (c.link_next_inner-found.ensures.page c.if-found-eq0.false) c.keep.ensures c.stop_at-2.ensures

pub returns-in-Err-clause-next : goal.returns-in-Err-clause-next
returns-in-Err-clause-next c = more_refused _ c.args.caller.now c.load_more-word.new.caller _ _ _ _ c.load_more-word.ensures.after c.in-Err.ensures.refused
