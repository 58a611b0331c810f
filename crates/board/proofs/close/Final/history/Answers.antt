use Rattle.std.proofs.Common.{◌≡◌, arith}
use Rattle.std.specs.Mem.Slots.{slots_items}
use Rattle.board.proofs.Closings.{next_event, all_events}
use Rattle.board.proofs.close.Final.history.Goals as goal

pub loop-i-preserved : goal.loop-i-preserved
loop-i-preserved c = next_event _ _ _ _ _ c.in_ok-event.ensures c.loop-i.invariant c.in_ok-push.ensures.items

pub returns : goal.returns
returns c =
    let end : c.loop-i.i ≡ c.word-front.result = omega (arith, c.loop-i.auto.i-end, c.loop-i-test.false) in
    all_events c.self.inside.shape (slots_items c.self.inside.closed.words) c.self.inside.last.value.me.0 c.args.self.now c.word-front.result c.loop-i.i c.loop-i.events.items c.self.view_is c.word-front.ensures end c.loop-i.invariant
