use Rattle.std.proofs.Common.{◌≡◌, map, take}
use Rattle.script_run.specs.Meeting.{seen_at}
use Rattle.script_run.proofs.Meets.{most_seen}
use Rattle.script_run.proofs.meet.hear_all.Given as goal

abbrev pub invariant-loop-other : goal.invariant-loop-other
invariant-loop-other g l = record {
  heard : l.caller ≡ seen_at (most_seen l.fn.caller.account.log.seen (take l.other-index (map (λ w. w.caller) l.fn.others))) l.fn.caller;
  same : map (λ w. w.caller) l.others ≡ map (λ w. w.caller) l.fn.others;
  gates : map (λ w. w.gate) l.others ≡ map (λ w. w.gate) l.fn.others;
}
