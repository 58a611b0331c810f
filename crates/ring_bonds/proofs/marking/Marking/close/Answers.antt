use Rattle.std.proofs.Common.{ℕ, ◌<◌, Bool, true, List, length, get_or, ap, refl, subst, sym, ◌∙◌, arith}
use Rattle.std.proofs.lemmas.List.{length-set}
use Rattle.htss_defs.specs.declared.graph.Ends.{Ends}
use Rattle.htss_defs.specs.Adjacency.{JoinsAt, no_ends}
use Rattle.ring_bonds.specs.Marking.{Grows, flag_of}
use Rattle.ring_bonds.proofs.Visits.{bond-read, JoinsAt-within, straight}
use Rattle.ring_bonds.proofs.Tops.{Grows-set, flag-set_same, Grows-trans, AreTops-beside, AreRises-of, IsBegun, IsBegun-of, IsClosing-sym, IsClosing-above, IsRisen, IsRisen-of, IsClosed-of}
use Rattle.ring_bonds.proofs.marking.Marking.close.Goals as goal

pub top_of-first-requires-clause-tops : goal.top_of-first-requires-clause-tops
top_of-first-requires-clause-tops c = AreTops-beside _ _ _ _ c.requires.valid.tops (omega (arith, c.bonds.ensures.valid.bonds)) c.requires.beside

pub top_of-second-requires-clause-within : goal.top_of-second-requires-clause-within
top_of-second-requires-clause-within c =
    let here = bond-read c.args.graph.now c.bonds.result.now c.args.bond c.bonds.ensures.items c.requires.bond in
    let e : Ends = get_or c.bonds.result.now c.args.bond no_ends in
    let joined : JoinsAt c.args.graph.now c.args.bond e.first e.second = record { ends = e; here = here; joined = straight e } in
    omega (arith, (JoinsAt-within _ _ _ _ c.bonds.ensures.valid joined).1)

begun : (c : goal.After-top_of-second) → let e = get_or c.args.graph.now.bonds c.args.bond no_ends in IsBegun c.args.graph.now c.args.self.now c.top_of-second.new.self c.args.bond e.first e.second c.top_of-first.result c.top_of-second.result
begun c =
    let g = c.args.graph.now in
    let m = c.args.self.now in
    let w = c.top_of-second.new.self in
    let k : ℕ = c.args.bond in
    let a : ℕ = c.top_of-first.result in
    let b : ℕ = c.top_of-second.result in
    let read : Ends = get_or c.bonds.result.now k no_ends in
    let begin : IsBegun g m w k read.first read.second a b = IsBegun-of g m c.top_of-first.new.self w k a b read c.requires.valid c.requires.beside (bond-read g c.bonds.result.now k c.bonds.ensures.items c.requires.bond)
    c.top_of-first.ensures.forest c.top_of-first.ensures.flags c.top_of-first.ensures.top c.top_of-second.ensures.forest c.top_of-second.ensures.flags c.top_of-second.ensures.tops c.top_of-second.ensures.top in
    subst (λ (bs : List Ends). IsBegun g m w k (get_or bs k no_ends).first (get_or bs k no_ends).second a b) c.bonds.ensures.items begin

pub loop-first-init : goal.loop-first-init
loop-first-init c =
    let start = begun c in
    let flags : List Bool = c.args.self.now.flags in
    let k : ℕ = c.args.bond in
    let within : k < length flags = omega (arith, c.bonds.ensures.valid.bonds) in
    record {
      valid = start.valid;
      forest = start.forest;
      grows = subst (λ (bs : List Bool). Grows flags bs) (sym start.flags) (Grows-set flags k within);
      size = ap length start.flags ∙ length-set flags k true ∙ omega arith;
      marked = ap (λ (bs : List Bool). flag_of bs k) start.flags ∙ flag-set_same flags k within;
      closing = start.closing;
    }

pub rise-first-requires-clause-rises : goal.rise-first-requires-clause-rises
rise-first-requires-clause-rises c = AreRises-of _ _ c.bonds.ensures.valid c.loop-first.invariant.valid.forest.trees

pub rise-second-requires-clause-rises : goal.rise-second-requires-clause-rises
rise-second-requires-clause-rises c = AreRises-of _ _ c.bonds.ensures.valid c.loop-first.invariant.valid.forest.trees

pub rise-first-requires-clause-above : goal.rise-first-requires-clause-above
rise-first-requires-clause-above c = IsClosing-above _ _ _ _ _ _ _ _ c.loop-first.invariant.valid.forest.trees c.loop-first.invariant.closing c.loop-first-test.true (omega arith)

pub rise-second-requires-clause-above : goal.rise-second-requires-clause-above
rise-second-requires-clause-above c =
    IsClosing-above _ _ _ _ _ _ _ _ c.loop-first.invariant.valid.forest.trees (IsClosing-sym _ _ _ _ _ _ _ _ c.loop-first.invariant.closing) (λ same. c.loop-first-test.true (sym same)) (omega arith)

risen_first : (c : goal.After-rise-first) → let e = get_or c.args.graph.now.bonds c.args.bond no_ends in IsRisen c.args.graph.now c.loop-first.self c.rise-first.new.self c.args.bond e.first e.second c.loop-first.first c.loop-first.second c.rise-first.result
risen_first c =
    let inv = c.loop-first.invariant in
    IsRisen-of _ _ _ _ _ _ _ _ _ c.bonds.ensures.valid inv.valid inv.closing c.loop-first-test.true (omega arith) inv.size
    c.rise-first.ensures.forest c.rise-first.ensures.flags c.rise-first.ensures.tops c.rise-first.ensures.top

risen_second : (c : goal.After-rise-second) → let e = get_or c.args.graph.now.bonds c.args.bond no_ends in IsRisen c.args.graph.now c.loop-first.self c.rise-second.new.self c.args.bond e.second e.first c.loop-first.second c.loop-first.first c.rise-second.result
risen_second c =
    let inv = c.loop-first.invariant in
    IsRisen-of _ _ _ _ _ _ _ _ _ c.bonds.ensures.valid inv.valid (IsClosing-sym _ _ _ _ _ _ _ _ inv.closing) (λ same. c.loop-first-test.true (sym same)) (omega arith) inv.size
    c.rise-second.ensures.forest c.rise-second.ensures.flags c.rise-second.ensures.tops c.rise-second.ensures.top

pub loop-first-smaller-then-self-first : goal.loop-first-smaller-then-self-first
loop-first-smaller-then-self-first c =
    let up = risen_first c in
    omega (arith, up.lower, up.other)

pub loop-first-smaller : goal.loop-first-smaller
loop-first-smaller c =
    let up = risen_second c in
    omega (arith, up.lower, up.other)

pub loop-first-preserved-then-self-first : goal.loop-first-preserved-then-self-first
loop-first-preserved-then-self-first c =
    let inv = c.loop-first.invariant in
    let up = risen_first c in
    record {
      valid = up.valid;
      forest = c.rise-first.ensures.forest ∙ inv.forest;
      grows = Grows-trans _ _ _ inv.grows up.grows;
      size = ap length c.rise-first.ensures.flags ∙ length-set c.loop-first.self.flags _ true ∙ inv.size;
      marked = up.grows.kept c.args.bond inv.marked;
      closing = up.closing;
    }

pub loop-first-preserved : goal.loop-first-preserved
loop-first-preserved c =
    let inv = c.loop-first.invariant in
    let up = risen_second c in
    record {
      valid = up.valid;
      forest = c.rise-second.ensures.forest ∙ inv.forest;
      grows = Grows-trans _ _ _ inv.grows up.grows;
      size = ap length c.rise-second.ensures.flags ∙ length-set c.loop-first.self.flags _ true ∙ inv.size;
      marked = up.grows.kept c.args.bond inv.marked;
      closing = IsClosing-sym _ _ _ _ _ _ _ _ up.closing;
    }

pub returns-clause-closed : goal.returns-clause-closed
returns-clause-closed c =
    IsClosed-of _ _ _ _ _ _ _ (bond-read c.args.graph.now c.args.graph.now.bonds c.args.bond refl c.requires.bond) c.loop-first.invariant.marked c.loop-first.invariant.closing c.loop-first-test.false
