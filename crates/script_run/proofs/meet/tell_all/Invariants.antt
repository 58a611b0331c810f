use Rattle.std.proofs.Common.{◌≡◌, map}
use Rattle.script_run.specs.Meeting.{seen_at}
use Rattle.script_run.proofs.Meets.{turned}
use Rattle.script_run.proofs.meet.tell_all.Given as goal

abbrev pub invariant-loop-other : goal.invariant-loop-other
invariant-loop-other g l = record {
  same : l.caller ≡ l.fn.caller;
  told : map (λ w. w.caller) l.others ≡ turned (seen_at l.fn.caller.account.log.seen) l.other-index (map (λ w. w.caller) l.fn.others);
  gates : map (λ w. w.gate) l.others ≡ map (λ w. w.gate) l.fn.others;
}
