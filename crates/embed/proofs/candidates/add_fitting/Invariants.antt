use Rattle.htss_defs.proofs.Chains.{Walked}
use Rattle.embed.proofs.Anchors.{IsDecided, HasFitting}
use Rattle.std.proofs.Common.{◌<◌}
use Rattle.embed.proofs.Sets.{HasNoneAfter}
use Rattle.embed.proofs.candidates.add_fitting.Given as goal

abbrev pub invariant-loop-link : goal.invariant-loop-link
invariant-loop-link l = record {
  walked : Walked l.target.bonds.now.bonds l.anchor.place l.link
      (IsDecided l.target.query.now l.target.mol.now l.map l.anchor.place l.fitting.words l.target.bonds.now.bonds);
  fits : HasFitting l.target.query.now l.target.mol.now l.map l.fitting.words;
  top : HasNoneAfter l.fitting.words l.last;
  small : l.last < 1024;
}

abbrev pub decreases-loop-link : goal.decreases-loop-link
decreases-loop-link l = l.link
