use Rattle.leaf_split.specs.Groups.{entry_of}
use Rattle.class_tree.proofs.Splitting.{lacks_pages, used_mine, used_apart, is_made}
use Rattle.class_tree.proofs.split.make_pages.Goals as goal

pub returns-in-Err-clause-lacks : goal.returns-in-Err-clause-lacks
returns-in-Err-clause-lacks c = lacks_pages _ c.args.caller.now c.load_nexts-nexts.new.caller _ _ _ _ c.group-groups.result.count _ _ c.load_nexts-nexts.result.rows c.load_nexts-nexts.result.codes c.group-groups.result.codes _ _ c.requires.leaf c.load_nexts-nexts.ensures.learns c.load_nexts-nexts.ensures.rows
    c.group-groups.ensures c.pages-need.ensures c.in-Err.ensures.refused c.in-Err.ensures.reached

pub fill-requires-clause-mine : goal.fill-requires-clause-mine
fill-requires-clause-mine c = used_mine _ c.take_all.new.caller _ _ c.in-Ok.ensures.of c.in-Ok.ensures.taken.taken

pub fill-requires-clause-apart : goal.fill-requires-clause-apart
fill-requires-clause-apart c = used_apart c.take_all.new.caller _ _ c.in-Ok.ensures.taken.taken

pub returns-clause-made : goal.returns-clause-made
returns-clause-made c = is_made _ c.args.caller.now c.load_nexts-nexts.new.caller c.take_all.new.caller _ _ _ _ c.group-groups.result.count _ _ _ c.load_nexts-nexts.result.rows c.load_nexts-nexts.result.codes _ _ (entry_of c.group-groups.result.entries) _
    c.requires.leaf c.load_nexts-nexts.ensures.learns c.load_nexts-nexts.ensures.rows c.group-groups.ensures c.pages-need.ensures c.take_all.array_long c.in-Ok.ensures.taken c.fill.ensures.only c.fill.ensures.filled c.requires.few
