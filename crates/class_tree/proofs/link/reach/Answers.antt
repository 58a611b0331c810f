use Rattle.class_tree.proofs.Searching.{link_refused}
use Rattle.class_tree.proofs.Chain.{goes_loader, stocked_again}
use Rattle.class_tree.proofs.Leaves.{linked_stocked, linked_places}
use Rattle.class_tree.proofs.Behind.{at_link, link_stocked, may_load_link, led_read, may_link, link_but, link_lost}
use Rattle.class_tree.proofs.link.reach.Goals as goal

pub load_link-word-requires-clause-may : goal.load_link-word-requires-clause-may
load_link-word-requires-clause-may c = may_load_link _ _ _ _ _ c.requires.code

pub returns-then-word-ne0-clause-led : goal.returns-then-word-ne0-clause-led
returns-then-word-ne0-clause-led c = led_read _ c.args.caller.now _ _ _ _ _ _ c.requires.code c.load_link-word.ensures.after c.if-word-ne0.true (c.load_link-word.ensures.page c.if-word-ne0.true) c.stop_at.ensures

pub link_leaf-found-requires-clause-may : goal.link_leaf-found-requires-clause-may
link_leaf-found-requires-clause-may c = may_link _ c.args.caller.now c.load_link-word.new.caller _ _ _ _ _ _ _ c.requires.code c.load_link-word.ensures.after c.if-word-ne0.false c.header_word-header.ensures c.in-Ok.ensures.ready c.requires.few

pub returns-then-found-eq0-clause-stocked : goal.returns-then-found-eq0-clause-stocked
returns-then-found-eq0-clause-stocked c = linked_stocked _ c.load_link-word.new.caller c.make_page.new.caller _ _ _ _ _ c.in-Ok.ensures.ready (c.link_leaf-found.ensures.won c.if-found-eq0.true)

pub keep-requires-clause-own : goal.keep-requires-clause-own
keep-requires-clause-own c = (link_but _ c.load_link-word.new.caller c.make_page.new.caller _ _ _ _ _ _ _ _ c.in-Ok.ensures.ready (c.link_leaf-found.ensures.lost c.if-found-eq0.false)).mine

pub returns-clause-loader : goal.returns-clause-loader
returns-clause-loader c = goes_loader _ c.args.caller.now _ (link_lost _ c.args.caller.now c.load_link-word.new.caller c.make_page.new.caller c.link_leaf-found.new.caller _ c.args.slot _ _ _ _ _ _ c.args.target.now c.requires.code c.load_link-word.ensures.after c.if-word-ne0.false c.in-Ok.ensures.ready (c.link_leaf-found.ensures.lost c.if-found-eq0.false) c.if-found-eq0.false (c.link_leaf-found.ensures.page c.if-found-eq0.false) c.keep.ensures c.stop_at-2.ensures).goes c.requires.loader

pub returns-clause-stocked : goal.returns-clause-stocked
returns-clause-stocked c = stocked_again c.link_leaf-found.new.caller _ _ (link_but _ c.load_link-word.new.caller c.make_page.new.caller _ _ _ _ _ _ _ _ c.in-Ok.ensures.ready (c.link_leaf-found.ensures.lost c.if-found-eq0.false)) c.keep.ensures

pub returns-clause-led : goal.returns-clause-led
returns-clause-led c = link_lost _ c.args.caller.now c.load_link-word.new.caller c.make_page.new.caller c.link_leaf-found.new.caller _ c.args.slot _ _ _ _ _ _ c.args.target.now c.requires.code c.load_link-word.ensures.after c.if-word-ne0.false c.in-Ok.ensures.ready (c.link_leaf-found.ensures.lost c.if-found-eq0.false) c.if-found-eq0.false (c.link_leaf-found.ensures.page c.if-found-eq0.false) c.keep.ensures c.stop_at-2.ensures

pub make_page-requires-clause-stocked : goal.make_page-requires-clause-stocked
make_page-requires-clause-stocked c = link_stocked c.args.caller.now _ _ _ _ _ c.requires.stocked c.load_link-word.ensures.after

pub returns-in-Err-clause-led : goal.returns-in-Err-clause-led
returns-in-Err-clause-led c = link_refused _ c.args.caller.now c.load_link-word.new.caller _ _ _ _ _ _ c.load_link-word.ensures.after c.in-Err.ensures.refused

pub returns-then-word-ne0-clause-stocked : goal.returns-then-word-ne0-clause-stocked
returns-then-word-ne0-clause-stocked c = link_stocked c.args.caller.now _ _ _ _ _ c.requires.stocked c.load_link-word.ensures.after

pub returns-then-found-eq0-clause-led : goal.returns-then-found-eq0-clause-led
returns-then-found-eq0-clause-led c = linked_places 0 c.args.caller.now c.make_page.new.caller _ _ _ (at_link _ c.args.caller.now c.load_link-word.new.caller _ c.args.slot _ _ _ _ _ c.args.target.now c.requires.code c.load_link-word.ensures.after c.if-word-ne0.false c.in-Ok.ensures.ready).goes (c.link_leaf-found.ensures.won c.if-found-eq0.true)
