use Rattle.std.proofs.Common.{◌<◌, length, ap, ◌∙◌, arith}
use Rattle.std.proofs.lemmas.List.{length-set}
use Rattle.embed.proofs.Anchors.{lead-set}
use Rattle.embed.proofs.plan.plan_of.Goals as goal

pub loop-i-preserved : goal.loop-i-preserved
loop-i-preserved c =
    let within : c.loop-i.i < length c.loop-i.plan = omega
    (arith, c.loop-i.invariant.len, ap length c.atoms-i-end.ensures.items, c.atoms-i-end.ensures.valid.atoms.1) in
    record {
      len = length-set c.loop-i.plan c.loop-i.i c.lead_of.result ∙ c.loop-i.invariant.len;
      leads = lead-set _ _ c.loop-i.plan c.loop-i.i c.lead_of.result c.loop-i.invariant.leads c.lead_of.ensures within;
    }
