use Rattle.std.proofs.Common.{refl, arith}
use Rattle.env_code.specs.Near.{near_word}
use Rattle.env_code.proofs.Steps.{IsCounted-start, IsCounted-more, four-words}
use Rattle.env_code.proofs.walk.near_words.Goals as goal

pub visit-requires-clause-place : goal.visit-requires-clause-place
visit-requires-clause-place c = omega (arith, c.requires.valid.atoms)

pub loop-k-init : goal.loop-k-init
loop-k-init c =
    IsCounted-start c.args.graph.now c.args.lanes.now c.clear.new.self c.visit.new.self _ c.args.place c.requires.valid c.clear.ensures c.requires.some c.requires.within c.visit.ensures refl

pub loop-k-preserved : goal.loop-k-preserved
loop-k-preserved c = IsCounted-more c.args.graph.now c.args.lanes.now c.loop-k.walk c.widen.new.self c.loop-k.words c.args.place c.loop-k.k c.loop-k.head c.word.result c.loop-k.invariant c.loop-k-test.true c.widen.ensures.walk c.widen.ensures.later (c.widen.ensures.level c.args.place c.loop-k.k) c.word.ensures

pub returns : goal.returns
returns c = four-words c.loop-k.words (near_word c.args.graph.now c.args.lanes.now c.args.place) c.loop-k.invariant.size (λ j less. c.loop-k.invariant.words j (omega arith))
