use Rattle.std.proofs.Common.{◌≡◌, ℕ, ◌+◌, ◌≤◌, List, [], ◌∷◌, ◌++◌, length, get_or, sym, ap, ◌∙◌, subst, arith}
use Rattle.std.proofs.lemmas.List.{length_push}
use Rattle.board_core.specs.declared.room.Row.{Row}
use Rattle.searcher.proofs.Read.{reads_trans}
use Rattle.searcher.proofs.Once.{loads_both}
use Rattle.searcher.proofs.Numbered.{rows_stay, numbered_more, numbered_passed, numbered_all, early_more, row_at, AreNumberedTo}
use Rattle.searcher.proofs.Screening.{of_rows_later, of_rows_more}
use Rattle.searcher.specs.Records.{AreOfRows}
use Rattle.searcher.specs.Walking.{AreEarly}
use Rattle.searcher.proofs.given.numbers_of.Goals.{then-number-gt0+in_ok-push, else-number-gt0}
use Rattle.searcher.proofs.given.numbers_of.Goals as goal

abbrev none : Row
none = record { block = 0; atom = 0 }

pub number_of-number-requires-clause-known : goal.number_of-number-requires-clause-known
number_of-number-requires-clause-known c = (c.loop-index.invariant.known c.loop-index.index _ (row_at c.args.rows.now c.loop-index.index none c.loop-index-test.true)).0

pub number_of-number-requires-clause-place : goal.number_of-number-requires-clause-place
number_of-number-requires-clause-place c = (c.loop-index.invariant.known c.loop-index.index _ (row_at c.args.rows.now c.loop-index.index none c.loop-index-test.true)).1

pub returns-in_err-push-clause-once : goal.returns-in_err-push-clause-once
returns-in_err-push-clause-once c = (
  c.loop-index.index + 1,
  let more = c.loop-index-test.true in omega (arith, more),
  loads_both c.args.caller.now.account c.loop-index.caller.account c.number_of-number.new.caller.account 0 0 c.loop-index.index 1 0 0 [] [] c.loop-index.invariant.once c.number_of-number.ensures.once,
)

pub loop-index-preserved : goal.loop-index-preserved
loop-index-preserved c =
    let i = c.loop-index.invariant in
    let k = c.args.board.now.shape in
    let first = c.args.caller.now.account in
    let a = c.loop-index.caller.account in
    let b = c.number_of-number.new.caller.account in
    let index = c.loop-index.index in
    let rows = c.args.rows.now in
    let row = get_or rows index none in
    let grown = c.number_of-number.ensures.reads.grown in
    let here = row_at rows index none c.loop-index-test.true in
    let number = c.number_of-number.result in
    let numbers = c.loop-index.numbers.items in
    let reads = reads_trans first a b i.reads c.number_of-number.ensures.reads in
    let known = rows_stay k a b rows grown i.known in
    let once = loads_both first a b 0 0 index 1 0 0 [] [] i.once c.number_of-number.ensures.once in
    elim c.if-number-gt0.branch [
      | then-number-gt0+in_ok-push w ↦
          (let more : c.if-number-gt0.numbers.items ≡ numbers ++ number ∷ [] = ap (λ v. v.items) w.numbers-is ∙ w.in_ok-push.ensures.items in
          let long = length_push numbers number in
          let few = i.few in record {
            of = c.number_of-number.ensures.of;
            stock = c.number_of-number.ensures.stock ∙ i.stock;
            reads = reads;
            known = known;
            once = once;
            few = subst (λ (l : List ℕ). length l ≤ index + 1) (sym more) (omega arith);
            early = subst (AreEarly c.args.front) (sym more) (early_more c.args.front number numbers i.early w.if-number-gt0.true c.number_of-number.ensures.number.early);
            of_rows = subst (AreOfRows k b rows) (sym more) (of_rows_more k a b c.args.front index number rows row numbers grown here c.number_of-number.ensures.number w.if-number-gt0.true i.of_rows);
            all = subst (AreNumberedTo k b c.args.front rows (index + 1)) (sym more) (numbered_more k a b c.args.front index number rows row numbers grown here c.number_of-number.ensures.number i.all);
          })
      | else-number-gt0 w ↦
          (let same : c.if-number-gt0.numbers.items ≡ numbers = ap (λ v. v.items) w.numbers-is in
          let few = i.few in
          let none_here = w.if-number-gt0.false in record {
            of = c.number_of-number.ensures.of;
            stock = c.number_of-number.ensures.stock ∙ i.stock;
            reads = reads;
            known = known;
            once = once;
            few = subst (λ (l : List ℕ). length l ≤ index + 1) (sym same) (omega arith);
            early = subst (AreEarly c.args.front) (sym same) i.early;
            of_rows = subst (AreOfRows k b rows) (sym same) (of_rows_later k a b rows numbers grown i.of_rows);
            all = subst (AreNumberedTo k b c.args.front rows (index + 1)) (sym same) (numbered_passed k a b c.args.front index number rows row numbers grown here (omega arith) c.number_of-number.ensures.number i.all);
          })
    ]

pub returns-clause-all : goal.returns-clause-all
returns-clause-all c = numbered_all c.args.board.now.shape c.loop-index.caller.account c.args.front c.loop-index.index c.args.rows.now c.loop-index.numbers.items (let done = c.loop-index-test.false in omega (arith, done)) c.loop-index.invariant.all
