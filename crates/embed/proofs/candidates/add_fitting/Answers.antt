use Rattle.std.proofs.Common.{◌-◌, ◌/◌, ◌<◌, ◌≤◌, sym, ◌∙◌, arith}
use Rattle.htss_defs.proofs.Chains.{both}
use Rattle.embed.proofs.Anchors.{anchor-in_graph, at-end, JoinsAt-walked, joined-within, IsDecided-more, HasFitting-more, AreFitting-end}
use Rattle.embed.proofs.Sets.{bit-kept, HasNoneAfter-more, later-of}
use Rattle.embed.proofs.candidates.add_fitting.Goals as goal
use Rattle.embed.proofs.candidates.add_fitting.Goals.{then-may_follow, else-may_follow}

pub last_link-link-requires : goal.last_link-link-requires
last_link-link-requires c = anchor-in_graph _ _ _ _ _ c.requires.valid c.requires.partial
    c.args.target.now.bonds_is c.requires.anchor.asks

pub other_end-y-requires : goal.other_end-y-requires
other_end-y-requires c = at-end _ _ _ c.loop-link.link _ _ c.loop-link.invariant.walked (omega arith)
    c.bonds-ends.ensures.items

pub may_follow-requires-clause-joined : goal.may_follow-requires-clause-joined
may_follow-requires-clause-joined c = JoinsAt-walked _ _ ((c.loop-link.link - 1) / 2) _ _ _
    c.bonds-ends.ensures.items (omega (arith, c.loop-link.invariant.walked.within)) c.other_end-y.ensures.joined

pub insert-requires : goal.insert-requires
insert-requires c = omega (
  arith,
  c.bonds-ends.ensures.valid.atoms,
  joined-within _ _ ((c.loop-link.link - 1) / 2) _ _ _ c.bonds-ends.ensures.valid c.bonds-ends.ensures.items
      (omega (arith, c.loop-link.invariant.walked.within)) c.other_end-y.ensures.joined,
)

pub loop-link-preserved : goal.loop-link-preserved
loop-link-preserved c = elim c.if-may_follow.branch [
  | then-may_follow w ↦
      let small : c.other_end-y.result < 1024 = omega (
        arith,
        c.bonds-ends.ensures.valid.atoms,
        joined-within _ _ ((c.loop-link.link - 1) / 2) _ _ _ c.bonds-ends.ensures.valid c.bonds-ends.ensures.items
            (omega (arith, c.loop-link.invariant.walked.within)) c.other_end-y.ensures.joined,
      ) in
      let later : (c.loop-link.last ≤ c.if-may_follow.last) × (c.other_end-y.result ≤ c.if-may_follow.last) × (c.if-may_follow.last < 1024) =
      later-of _ _ _ (w.last-is ∙ w.max-last.ensures) c.loop-link.invariant.small small in
      rw w.fitting-is (record {
        walked = IsDecided-more c.args.target.now.query.now c.args.target.now.mol.now
            c.args.map.now _ _ _ _ _ c.loop-link.link _ _ _ c.loop-link.invariant.walked (omega arith)
            c.bonds-ends.ensures.items c.other_end-y.ensures.only
            (λ n. bit-kept _ _ _ n w.insert.ensures.added w.insert.ensures.others)
            (λ may. w.insert.ensures.added) c.link_before-link.ensures;
        fits = HasFitting-more c.args.target.now.query.now c.args.target.now.mol.now
            c.args.map.now _ _ _ c.loop-link.invariant.fits
            (sym c.may_follow.ensures ∙ w.if-may_follow.true) w.insert.ensures.others;
        top = HasNoneAfter-more _ _ c.loop-link.last _ c.other_end-y.result c.loop-link.invariant.top later.0 later.1
            w.insert.ensures.others;
        small = later.2;
      })
  | else-may_follow w ↦ rw w.fitting-is (record {
    walked = IsDecided-more c.args.target.now.query.now c.args.target.now.mol.now
        c.args.map.now _ _ _ _ _ c.loop-link.link _ _ _ c.loop-link.invariant.walked (omega arith)
        c.bonds-ends.ensures.items c.other_end-y.ensures.only (λ n set. set)
        (λ may. absurd (both may (sym c.may_follow.ensures ∙ w.if-may_follow.false))) c.link_before-link.ensures;
    fits = c.loop-link.invariant.fits;
    top = rw w.last-is c.loop-link.invariant.top;
    small = omega arith;
  })
]

pub returns : goal.returns
returns c = AreFitting-end _ _ _ _ _ _ c.loop-link.link _ c.requires.valid c.args.target.now.bonds_is
    c.requires.anchor.asks c.loop-link.invariant.walked c.loop-link.invariant.fits
    c.loop-link.invariant.top c.loop-link.invariant.small (omega arith)
