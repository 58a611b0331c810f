use Rattle.std.proofs.Common.{◌≡◌, ◌+◌, length, slice_index, refl, sym, ap, subst, ◌∙◌, arith}
use Rattle.std.proofs.lemmas.Result.{err_from_is_err_and}
use Rattle.htss_defs.specs.HitLists.{HitsKept}
use Rattle.htss_defs.specs.QueryGraph.{QueryGraph}
use Rattle.screen.specs.Losing.{LosesNone}
use Rattle.searcher.specs.Walking.{AllScreened}
use Rattle.searcher.specs.Records.{AreOfScreened}
use Rattle.searcher.proofs.Records.{screened_more, screened_none}
use Rattle.searcher.proofs.Turns.{turns_begin, turns_more}
use Rattle.searcher.proofs.Whole.{up_to_all, up_to_more, up_to_none}
use Rattle.searcher.proofs.Read.{reads_same, reads_trans}
use Rattle.searcher.proofs.Once.{once_none, once_both, once_fewer}
use Rattle.searcher.proofs.Walks.{IsNext, walked_none, walked_more, walked_over, walked_found, whatever_later, seen_still, passed_more, passed_one}
use Rattle.searcher.proofs.at_front.fill.Goals.{then-number-last+in_ok-take_one, else-number-last}
use Rattle.searcher.proofs.at_front.fill.Goals as goal

pub loop-index-init : goal.loop-index-init
loop-index-init c = record {
  of = c.requires.fits;
  law = subst (λ (q : QueryGraph). LosesNone q) c.new-search.ensures.asked c.law_of_screening.ensures;
  stock = refl;
  reads = reads_same c.args.caller.now.account;
  once = once_none c.args.caller.now.account;
  read = screened_none c.args.board.now.shape c.args.query.now c.args.front c.args.caller.now.account;
  turns = turns_begin c.args.board.now.shape c.args.caller.now.account;
  whole = up_to_none c.args.board.now.shape c.args.front c.args.numbers.now c.args.caller.now.account;
  size = refl;
  early = omega arith;
  passed = λ i below. absurd (omega arith);
  walked = walked_none c.args.board.now.shape c.args.caller.now.account c.args.query.now c.args.front c.args.budget c.new-search.result.matcher c.new-search.result.front c.new-search.result.left c.new-search.result.records c.args.hits.now
      c.new-search.ensures.asked c.new-search.ensures.front c.new-search.ensures.left c.new-search.ensures.records (ap (λ (h : HitsKept). h.hits) c.requires.empty);
}

pub returns-in_err-take_one-clause-reads : goal.returns-in_err-take_one-clause-reads
returns-in_err-take_one-clause-reads c =
    reads_trans c.args.caller.now.account c.loop-index.caller.account c.take_one.new.caller.account c.loop-index.invariant.reads c.take_one.ensures.reads

pub returns-in_err-take_one-clause-once : goal.returns-in_err-take_one-clause-once
returns-in_err-take_one-clause-once c =
    let more = c.loop-index-test.true in
    once_fewer c.args.caller.now.account c.take_one.new.caller.account (c.loop-index.index + 1) (length c.args.numbers.now) (omega (arith, more))
    (once_both c.args.caller.now.account c.loop-index.caller.account c.take_one.new.caller.account c.loop-index.index 1 c.loop-index.invariant.once c.take_one.ensures.once)

pub returns-in_err-take_one-clause-read : goal.returns-in_err-take_one-clause-read
returns-in_err-take_one-clause-read c =
    let k = c.args.board.now.shape in
    let first = c.args.caller.now.account in
    let a = c.loop-index.caller.account in
    let b = c.take_one.new.caller.account in
    let reads = reads_trans first a b c.loop-index.invariant.reads c.take_one.ensures.reads in
    screened_more k c.args.query.now c.args.front c.loop-index.index c.args.numbers.now first a b c.take_one.ensures.reads.grown c.loop-index-test.true
    (whatever_later k first b c.args.front (AreOfScreened c.args.query.now c.args.numbers.now) reads.grown c.requires.screened) c.loop-index.invariant.read c.take_one.ensures.read

pub returns-in_err-take_one-clause-over : goal.returns-in_err-take_one-clause-over
returns-in_err-take_one-clause-over c = λ at e.
    let q = err_from_is_err_and c.from_residual.result c.from_residual.ensures.1 in
    let told = c.in_err-take_one.ensures.over at (rw (sym q.2) (sym q.1 ∙ e)) in
    let s = c.loop-index.search in
    let i = c.loop-index.invariant in
    let k = c.args.board.now.shape in
    let front = c.args.front in
    let first = c.args.caller.now.account in
    let a = c.loop-index.caller.account in
    let b = c.take_one.new.caller.account in
    let number = slice_index c.args.numbers.now c.loop-index.index in
    let reads = reads_trans first a b i.reads c.take_one.ensures.reads in
    let still : b.log.seen ≡ front = seen_still first b front reads c.requires.seen in
    let early = (c.requires.numbers c.loop-index.index (omega arith)).1 in
    let all = whatever_later k first b front (AllScreened c.args.query.now c.args.numbers.now) reads.grown c.requires.all in
    let next : IsNext c.args.numbers.now c.loop-index.index c.loop-index.last number = record { inside = c.loop-index-test.true; is = refl; rising = c.requires.rising; passed = i.passed; after = c.if-number-last.true } in (
      told.0 ∙ i.walked.own_is,
      walked_over k a c.args.query.now front c.args.budget c.loop-index.last s.matcher s.front s.left s.records c.loop-index.hits i.walked i.law c.args.numbers.now b c.loop-index.index number c.take_one.ensures.reads.grown (omega arith) early all next told.1,
    )

pub loop-index-preserved : goal.loop-index-preserved
loop-index-preserved c =
    let s = c.loop-index.search in
    let i = c.loop-index.invariant in
    let k = c.args.board.now.shape in
    let front = c.args.front in
    let first = c.args.caller.now.account in
    let a = c.loop-index.caller.account in
    let index = c.loop-index.index in
    let number = slice_index c.args.numbers.now index in
    elim c.if-number-last.branch [
      | then-number-last+in_ok-take_one w ↦ rw (w.caller-is, w.hits-is, w.search-is, w.words-is, w.last-is)
          (let b = w.take_one.new.caller.account in
          let reads = reads_trans first a b i.reads w.take_one.ensures.reads in
          let still : b.log.seen ≡ front = seen_still first b front reads c.requires.seen in
          let early = (c.requires.numbers index (omega arith)).1 in
          let all = whatever_later k first b front (AllScreened c.args.query.now c.args.numbers.now) reads.grown c.requires.all in
          let next : IsNext c.args.numbers.now index c.loop-index.last number = record { inside = c.loop-index-test.true; is = refl; rising = c.requires.rising; passed = i.passed; after = w.if-number-last.true } in record {
            of = w.take_one.ensures.of;
            law = i.law;
            stock = w.take_one.ensures.stock ∙ i.stock;
            reads = reads;
            once = once_both first a b index 1 i.once w.take_one.ensures.once;
            read = screened_more k c.args.query.now front index c.args.numbers.now first a b w.take_one.ensures.reads.grown c.loop-index-test.true
                (whatever_later k first b front (AreOfScreened c.args.query.now c.args.numbers.now) reads.grown c.requires.screened) i.read w.take_one.ensures.read;
            turns = turns_more k c.loop-index.last number first a b w.take_one.ensures.reads.grown w.if-number-last.true i.turns w.take_one.ensures.one;
            whole = up_to_more k front index c.loop-index.last number c.args.numbers.now first a b i.reads.grown w.take_one.ensures.reads.grown next i.whole w.take_one.ensures.whole;
            size = w.take_one.ensures.size;
            early = early;
            passed = passed_more c.args.numbers.now index c.loop-index.last number next;
            walked = walked_more k a c.args.query.now front c.args.budget c.loop-index.last s.matcher s.front s.left s.records c.loop-index.hits i.walked i.law c.args.numbers.now b index number
                w.take_one.new.search.matcher w.take_one.new.search.front w.take_one.new.search.left w.take_one.new.search.records w.take_one.new.hits w.take_one.ensures.reads.grown (omega arith) all next
                w.take_one.ensures.asked w.take_one.ensures.front w.take_one.ensures.room w.in_ok-take_one.ensures.takes;
          })
      | else-number-last w ↦ rw (w.caller-is, w.hits-is, w.search-is, w.words-is, w.last-is) record {
        of = i.of;
        law = i.law;
        stock = i.stock;
        reads = i.reads;
        once = once_fewer first a index (index + 1) (omega arith) i.once;
        read = i.read;
        turns = i.turns;
        whole = i.whole;
        size = i.size;
        early = i.early;
        passed = passed_one c.args.numbers.now index c.loop-index.last i.passed w.if-number-last.false;
        walked = i.walked;
      }
    ]

pub returns-clause-found : goal.returns-clause-found
returns-clause-found c =
    let s = c.loop-index.search in
    let i = c.loop-index.invariant in
    let k = c.args.board.now.shape in
    let front = c.args.front in
    let first = c.args.caller.now.account in
    let a = c.loop-index.caller.account in
    let still : a.log.seen ≡ front = seen_still first a front i.reads c.requires.seen in
    let all = whatever_later k first a front (AllScreened c.args.query.now c.args.numbers.now) i.reads.grown c.requires.all in
    let done = c.loop-index-test.false in
    walked_found k a c.args.query.now front c.args.budget c.loop-index.last s.matcher s.front s.left s.records c.loop-index.hits i.walked i.law c.args.numbers.now c.set_counts.new.self (omega arith) i.early all
    (λ j inside. i.passed j (omega arith)) (ap (λ (h : HitsKept). h.hits) c.set_counts.ensures) (ap (λ (h : HitsKept). h.records) c.set_counts.ensures ∙ c.records.ensures)

pub returns-clause-whole : goal.returns-clause-whole
returns-clause-whole c =
    let i = c.loop-index.invariant in
    let k = c.args.board.now.shape in
    let first = c.args.caller.now.account in
    let a = c.loop-index.caller.account in
    let done = c.loop-index-test.false in
    up_to_all k c.args.query.now c.args.front c.loop-index.last c.args.numbers.now first a (whatever_later k first a c.args.front (AllScreened c.args.query.now c.args.numbers.now) i.reads.grown c.requires.all)
    (λ j inside. i.passed j (omega arith)) i.whole

pub returns-in_err-take_one-clause-turn : goal.returns-in_err-take_one-clause-turn
returns-in_err-take_one-clause-turn c = (turns_more c.args.board.now.shape c.loop-index.last (slice_index c.args.numbers.now c.loop-index.index) c.args.caller.now.account c.loop-index.caller.account c.take_one.new.caller.account
    c.take_one.ensures.reads.grown c.if-number-last.true c.loop-index.invariant.turns c.take_one.ensures.one).turn

pub returns-clause-turn : goal.returns-clause-turn
returns-clause-turn c = c.loop-index.invariant.turns.turn
