use Rattle.std.proofs.Common.{◌≡◌, [], length, ap, ◌∙◌, arith}
use Rattle.std.specs.Prelude.{map}
use Rattle.mol_section.specs.Lines.{lines_of, without_cr}
use Rattle.mol_section.proofs.RawLines.{raw_lines-nil}
use Rattle.script_text.proofs.Steps.{started, taken, fault, whole}
use Rattle.script_text.proofs.reader.read_script.Goals as goal

pub loop-line-init : goal.loop-line-init
loop-line-init c = record {
  read = rw (c.new.ensures.items, c.new-2.ensures.items) (started (lines_of c.args.bytes.now));
  fewer = omega arith;
}

pub loop-line-preserved : goal.loop-line-preserved
loop-line-preserved c =
    let read = rw c.in-Some.ensures.line at c.loop-line.invariant.read in
    let after = rw c.if-not-taken.false at c.in_ok-taken.ensures in
    record {
      read = taken _ _ _ _ _ read _ after;
      fewer = omega (arith, ap length c.in-Some.ensures.line, c.loop-line.invariant.fewer);
    }

pub returns-then-not-taken-clause-fault : goal.returns-then-not-taken-clause-fault
returns-then-not-taken-clause-fault c =
    let read = rw c.in-Some.ensures.line at c.loop-line.invariant.read in
    let after = rw c.if-not-taken.true at c.in_ok-taken.ensures in
    rw c.from.ensures (fault _ _ _ _ _ read after)

pub returns-clause-script : goal.returns-clause-script
returns-clause-script c =
    let none : lines_of c.loop-line.rest.now ≡ [] = ap lines_of c.in_default.ensures.none ∙ ap (map without_cr) raw_lines-nil in
    let read = rw none at c.loop-line.invariant.read in
    let same = c.new-4.ensures ∙ c.in_ok-push.ensures.items in
    rw (same, c.new-3.ensures) (whole (lines_of c.args.bytes.now) _ _ read)
