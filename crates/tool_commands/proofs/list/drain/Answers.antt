use Rattle.std.proofs.Common.{◌≡◌, ◌++◌, ◌∷◌, [], ap, inl, inr, sym, subst, ◌∙◌}
use Rattle.std.proofs.lemmas.Bool.{false≢true}
use Rattle.mol_section.specs.SectionRecord.{accepted, refused}
use Rattle.ctfile.specs.Stream.{HasRead}
use Rattle.tool_commands.proofs.Streams.{TakesRecord-shorter}
use Rattle.tool_commands.proofs.list.drain.Goals as goal

pub loop-place-smaller-in-Continue-branch-3 : goal.loop-place-smaller-in-Continue-branch-3
loop-place-smaller-in-Continue-branch-3 g c =
    let one = rw c.in-Accepted.is at c.in_ok-place.ensures.marks in
    TakesRecord-shorter _ _ _ ((rw c.in-Accepted.is at c.in_ok-place.ensures.taken) one.marked one.is_marked one.same).1

pub loop-place-smaller : goal.loop-place-smaller
loop-place-smaller g c = TakesRecord-shorter _ _ _ (rw c.in-Refused.is at c.in_ok-place.ensures.taken).1

pub loop-place-preserved-in-Continue-branch-3 : goal.loop-place-preserved-in-Continue-branch-3
loop-place-preserved-in-Continue-branch-3 g c =
    let one = rw c.in-Accepted.is at c.in_ok-place.ensures.marks in
    let taken = (rw c.in-Accepted.is at c.in_ok-place.ensures.taken) one.marked one.is_marked one.same in
    let read = (rw c.in-Accepted.is at c.in_ok-place.ensures.read) one.marked one.is_marked one.same in
    let so_far = c.loop-place.invariant in
    record {
      asked = c.in_ok-accept-in-Accepted.ensures.asked ∙ so_far.asked;
      taken = c.in_ok-accept-in-Accepted.ensures.taken ∙ taken.0;
      finished = taken.1.finished ∙ so_far.finished;
      fed = taken.1.fed ∙ so_far.fed;
      more = λ stream outcomes has holds.
          let before = so_far.more stream outcomes has holds in
          (before.0 ++ accepted c.in-Accepted.name one.marked ∷ [], read stream before.0 before.1, c.in_ok-accept-in-Accepted.ensures.holds before.0 (sym before.1.place ∙ sym so_far.taken) one.marked one.is_marked one.same before.2);
    }

pub loop-place-preserved : goal.loop-place-preserved
loop-place-preserved g c =
    let taken = rw c.in-Refused.is at c.in_ok-place.ensures.taken in
    let read = rw c.in-Refused.is at c.in_ok-place.ensures.read in
    let so_far = c.loop-place.invariant in
    record {
      asked = c.in_ok-refuse-in-Refused.ensures.asked ∙ so_far.asked;
      taken = c.in_ok-refuse-in-Refused.ensures.taken ∙ taken.0;
      finished = taken.1.finished ∙ so_far.finished;
      fed = taken.1.fed ∙ so_far.fed;
      more = λ stream outcomes has holds.
          let before = so_far.more stream outcomes has holds in
          (before.0 ++ refused c.in-Refused.line c.in-Refused.code ∷ [], read stream before.0 before.1, c.in_ok-refuse-in-Refused.ensures.holds before.0 (sym before.1.place ∙ sym so_far.taken) before.2);
    }

pub returns-in-NeedMore-clause-more : goal.returns-in-NeedMore-clause-more
returns-in-NeedMore-clause-more g c = λ stream outcomes has holds.
    let before = c.loop-place.invariant.more stream outcomes has holds in
    let same : c.next_unmarked.new.self ≡ c.loop-place.reader = elim c.in-NeedMore.is [ inl more ↦ rw more at c.in_ok-place.ensures.same | inr end ↦ rw end at c.in_ok-place.ensures.same ] in
    (before.0, subst (λ s. HasRead stream before.0 s) (sym same) before.1, before.2)

pub returns-in-NeedMore-clause-all : goal.returns-in-NeedMore-clause-all
returns-in-NeedMore-clause-all g c = λ over stream outcomes has.
    elim c.in-NeedMore.is [
      | inl more ↦
          let same : c.next_unmarked.new.self ≡ c.loop-place.reader = rw more at c.in_ok-place.ensures.same in
          let needs = c.in_ok-place.ensures.needs_more.0 more in
          absurd (false≢true (sym needs.goes_on ∙ sym (ap (λ r. r.finished) same) ∙ over))
      | inr end ↦
          let same : c.next_unmarked.new.self ≡ c.loop-place.reader = rw end at c.in_ok-place.ensures.same in
          c.in_ok-place.ensures.all end stream outcomes (subst (λ s. HasRead stream outcomes s) same has)
    ]
