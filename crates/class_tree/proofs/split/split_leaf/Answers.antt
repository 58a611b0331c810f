use Rattle.std.proofs.Common.{refl}
use Rattle.class_tree.proofs.Exchanging.{none_kept, first_page, won_parted, won_loader, lost_loader, won_stocked, won_comes, lost_taken, lost_comes}
use Rattle.class_tree.proofs.split.split_leaf.Goals as goal

pub exchange_leaf-found-requires-clause-free : goal.exchange_leaf-found-requires-clause-free
exchange_leaf-found-requires-clause-free c = none_kept _ c.args.caller.now _ _ _ _ _ _ _ c.in-Ok.ensures.made

pub retire-requires-clause-unlinked : goal.retire-requires-clause-unlinked
retire-requires-clause-unlinked c = won_parted _ c.args.caller.now c.make_pages.new.caller _ _ _ _ _ _ _ _ _ _ c.in-Ok.ensures.made (c.exchange_leaf-found.ensures.won c.if-found-at.true)

pub returns-then-found-at-clause-loader : goal.returns-then-found-at-clause-loader
returns-then-found-at-clause-loader c = won_loader _ c.args.caller.now c.make_pages.new.caller c.exchange_leaf-found.new.caller _ _ _ _ _ _ _ _ _ _ c.in-Ok.ensures.made (c.exchange_leaf-found.ensures.won c.if-found-at.true) c.retire.ensures c.requires.loader

pub returns-then-found-at-clause-stocked : goal.returns-then-found-at-clause-stocked
returns-then-found-at-clause-stocked c = won_stocked _ c.args.caller.now c.make_pages.new.caller c.exchange_leaf-found.new.caller _ _ _ _ _ _ _ _ _ _ c.in-Ok.ensures.made c.make_pages.array_long (c.exchange_leaf-found.ensures.won c.if-found-at.true) c.retire.ensures

pub returns-then-found-at-clause-comes : goal.returns-then-found-at-clause-comes
returns-then-found-at-clause-comes c = won_comes _ c.args.caller.now c.make_pages.new.caller c.exchange_leaf-found.new.caller _ _ _ _ _ _ _ _ _ _ c.requires.leaf c.in-Ok.ensures.made (c.exchange_leaf-found.ensures.won c.if-found-at.true) c.retire.ensures (first_page _ c.args.caller.now c.make_pages.new.caller _ _ _ _ _ _ c.in-Ok.ensures.of c.in-Ok.ensures.made).0 (first_page _ c.args.caller.now c.make_pages.new.caller _ _ _ _ _ _ c.in-Ok.ensures.of c.in-Ok.ensures.made).1 refl

pub keep_all-requires-clause-taken : goal.keep_all-requires-clause-taken
keep_all-requires-clause-taken c = lost_taken _ c.args.caller.now c.make_pages.new.caller _ _ _ _ _ _ _ _ _ c.in-Ok.ensures.made (c.exchange_leaf-found.ensures.lost c.if-found-at.false)

pub returns-clause-comes : goal.returns-clause-comes
returns-clause-comes c = lost_comes _ c.args.caller.now c.make_pages.new.caller c.exchange_leaf-found.new.caller _ _ _ _ _ _ _ _ _ c.requires.leaf c.in-Ok.ensures.made (c.exchange_leaf-found.ensures.lost c.if-found-at.false) c.keep_all.ensures.only c.exchange_leaf-found.ensures.page c.stop_at.ensures

pub returns-clause-loader : goal.returns-clause-loader
returns-clause-loader c = lost_loader _ c.args.caller.now c.make_pages.new.caller c.exchange_leaf-found.new.caller _ _ _ _ _ _ _ _ _ c.in-Ok.ensures.made (c.exchange_leaf-found.ensures.lost c.if-found-at.false) c.keep_all.ensures.only c.requires.loader
