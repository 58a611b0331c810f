use Rattle.std.proofs.Common.{rules, ◌≡◌, ◌+◌, ◌%◌, ◌<◌, true, false, sym, refl, ap, ◌∙◌, subst, arith, eqb}
use Rattle.board_core.specs.KnownPages.{place_of}
use Rattle.board.specs.Seated.{Seated}
use Rattle.descent.specs.Seats.{Seat, seat_of}
use mathlib.Core.Option.{some}
use lib.ListN.{get_elem?}
use Rattle.board_core.specs.Boards.{SomeBoard}
use Rattle.descent.specs.Standing.{OnlyLoads, Stands}
use Rattle.descent.proofs.Boards.{some_moment}
use Rattle.descent.proofs.Standing.{only_same, only_on, stands_on}
use Rattle.descent.proofs.Full.{chain_full, follow_full, slot_pages}
use Rattle.descent.specs.Visits.{visited}
use Rattle.descent.specs.Walks.{PageTried, ChainTried, FollowTried, IsBegun, ChainRead, Followed, LeafAt}
use Rattle.descent.proofs.Chains.{chain_start, chain_page, chain_zero, chain_low, chain_last, next_rank, chain_next}
use Rattle.descent.proofs.Following.{count_fits, header_kind, follow_none, follow_begun, follow_shallow, follow_some, follow_tried, ok_map}
use Rattle.descent.proofs.Inner.{there1, inner_start, inner_zero, inner_leaf_at, inner_pass, inner_more, inner_tried, inner_full}
use Rattle.descent.proofs.Tried.{err_any, err_map, chain_tried}
use Rattle.descent.proofs.walk.+walk.Goals.{inner_page-then-covers_code+in_ok-rows, inner_page-else-covers_code}
use Rattle.descent.proofs.walk.+walk.Goals as goal

pub chain-chain-init : goal.chain-chain-init
chain-chain-init g t c = record { page = c.requires.page; stands = c.requires.stands; only = only_same c.args.caller.now; chaining = chain_start c.args.board.now.shape.chain (g.N.Asks.covers c.args.need.now) c.args.first.number c.args.leaf c.args.depth (seat_of c.args.caller.now.account) (g.S.RowSink.given c.args.sink.now) c.args.first.page c.requires.at }

pub chain-overflow_add-rows : goal.chain-overflow_add-rows
chain-overflow_add-rows g t c =
    let paged = chain_page c.args.board.now.shape.chain (g.N.Asks.covers c.args.need.now) c.args.first.number c.args.leaf c.args.depth (seat_of c.args.caller.now.account) (g.S.RowSink.given c.args.sink.now)
    (seat_of c.chain.caller.account) (g.S.RowSink.given c.chain.sink) c.chain.at.number c.chain.at.page c.chain.rows c.chain.invariant.chaining c.requires.at.inside
    (seat_of c.page.new.caller.account) (g.S.RowSink.given c.page.new.sink) c.in_ok-part.part.rows c.in_ok-part.part.ended c.in_ok-part.ensures.ok in
    let fits = count_fits (g.N.Asks.covers c.args.need.now) (seat_of c.args.caller.now.account) (seat_of c.page.new.caller.account) (g.S.RowSink.given c.args.sink.now) (g.S.RowSink.given c.page.new.sink) paged.parts (c.chain.rows + c.in_ok-part.part.rows) paged.counts in
    omega (arith, fits)

pub chain-returns-then-part-clause-ok : goal.chain-returns-then-part-clause-ok
chain-returns-then-part-clause-ok g t c =
    let paged = chain_page c.args.board.now.shape.chain (g.N.Asks.covers c.args.need.now) c.args.first.number c.args.leaf c.args.depth (seat_of c.args.caller.now.account) (g.S.RowSink.given c.args.sink.now)
    (seat_of c.chain.caller.account) (g.S.RowSink.given c.chain.sink) c.chain.at.number c.chain.at.page c.chain.rows c.chain.invariant.chaining c.requires.at.inside
    (seat_of c.page.new.caller.account) (g.S.RowSink.given c.page.new.sink) c.in_ok-part.part.rows c.in_ok-part.part.ended c.in_ok-part.ensures.ok in
    chain_zero c.args.board.now.shape.chain (g.N.Asks.covers c.args.need.now) c.args.first.number c.args.leaf c.args.depth (seat_of c.args.caller.now.account) (g.S.RowSink.given c.args.sink.now) (seat_of c.page.new.caller.account) (g.S.RowSink.given c.page.new.sink) c.chain.at.number c.chain.at.page (c.chain.rows + c.in_ok-part.part.rows) c.in_ok-part.part.ended paged c.if-part.true

pub chain-returns-then-stands_alone-clause-ok : goal.chain-returns-then-stands_alone-clause-ok
chain-returns-then-stands_alone-clause-ok g t c =
    let paged = chain_page c.args.board.now.shape.chain (g.N.Asks.covers c.args.need.now) c.args.first.number c.args.leaf c.args.depth (seat_of c.args.caller.now.account) (g.S.RowSink.given c.args.sink.now)
    (seat_of c.chain.caller.account) (g.S.RowSink.given c.chain.sink) c.chain.at.number c.chain.at.page c.chain.rows c.chain.invariant.chaining c.requires.at.inside
    (seat_of c.page.new.caller.account) (g.S.RowSink.given c.page.new.sink) c.in_ok-part.part.rows c.in_ok-part.part.ended c.in_ok-part.ensures.ok in
    let low = c.if-stands_alone.ensures.0 refl in
    chain_low c.args.board.now.shape.chain (g.N.Asks.covers c.args.need.now) c.args.first.number c.args.leaf c.args.depth (seat_of c.args.caller.now.account) (g.S.RowSink.given c.args.sink.now) (seat_of c.page.new.caller.account) (g.S.RowSink.given c.page.new.sink) c.chain.at.number c.chain.at.page (c.chain.rows + c.in_ok-part.part.rows) c.in_ok-part.part.ended paged c.if-part.false low.0 low.1

pub chain-returns-in-None-clause-ok : goal.chain-returns-in-None-clause-ok
chain-returns-in-None-clause-ok g t c =
    let paged = chain_page c.args.board.now.shape.chain (g.N.Asks.covers c.args.need.now) c.args.first.number c.args.leaf c.args.depth (seat_of c.args.caller.now.account) (g.S.RowSink.given c.args.sink.now)
    (seat_of c.chain.caller.account) (g.S.RowSink.given c.chain.sink) c.chain.at.number c.chain.at.page c.chain.rows c.chain.invariant.chaining c.requires.at.inside
    (seat_of c.page.new.caller.account) (g.S.RowSink.given c.page.new.sink) c.in_ok-part.part.rows c.in_ok-part.part.ended c.in_ok-part.ensures.ok in
    chain_last c.args.board.now.shape.chain (g.N.Asks.covers c.args.need.now) c.args.first.number c.args.leaf c.args.depth (seat_of c.args.caller.now.account) (g.S.RowSink.given c.args.sink.now) (seat_of c.page.new.caller.account) (g.S.RowSink.given c.page.new.sink) c.chain.at.number c.chain.at.page (c.chain.rows + c.in_ok-part.part.rows) c.in_ok-part.part.ended paged c.if-part.false (seat_of c.more.new.caller.account) (some_moment c.args.board.now.shape c.more.new.caller.account c.in-None.ensures.board) c.in-None.ensures.after

pub chain-chain-smaller : goal.chain-chain-smaller
chain-chain-smaller g t c =
    let paged = chain_page c.args.board.now.shape.chain (g.N.Asks.covers c.args.need.now) c.args.first.number c.args.leaf c.args.depth (seat_of c.args.caller.now.account) (g.S.RowSink.given c.args.sink.now)
    (seat_of c.chain.caller.account) (g.S.RowSink.given c.chain.sink) c.chain.at.number c.chain.at.page c.chain.rows c.chain.invariant.chaining c.requires.at.inside
    (seat_of c.page.new.caller.account) (g.S.RowSink.given c.page.new.sink) c.in_ok-part.part.rows c.in_ok-part.part.ended c.in_ok-part.ensures.ok in
    let rank = next_rank c.args.board.now.shape.chain (g.N.Asks.covers c.args.need.now) c.args.first.number c.args.leaf c.args.depth (seat_of c.args.caller.now.account) (g.S.RowSink.given c.args.sink.now) (seat_of c.page.new.caller.account) (g.S.RowSink.given c.page.new.sink) c.chain.at.number c.chain.at.page (c.chain.rows + c.in_ok-part.part.rows) c.in_ok-part.part.ended paged c.if-part.false (seat_of c.more.new.caller.account) (some_moment c.args.board.now.shape c.more.new.caller.account c.in-Some.ensures.board) c.in-Some.next c.in-Some.ensures.after in
    let rank0 = rank.0 in
    let rank1 = rank.1 in
    let q = c.in_ok-part.ensures.ok in
    let same = ap (λ p. p.rank) q.place in
    omega arith

pub chain-chain-preserved : goal.chain-chain-preserved
chain-chain-preserved g t c =
    let paged = chain_page c.args.board.now.shape.chain (g.N.Asks.covers c.args.need.now) c.args.first.number c.args.leaf c.args.depth (seat_of c.args.caller.now.account) (g.S.RowSink.given c.args.sink.now)
    (seat_of c.chain.caller.account) (g.S.RowSink.given c.chain.sink) c.chain.at.number c.chain.at.page c.chain.rows c.chain.invariant.chaining c.requires.at.inside
    (seat_of c.page.new.caller.account) (g.S.RowSink.given c.page.new.sink) c.in_ok-part.part.rows c.in_ok-part.part.ended c.in_ok-part.ensures.ok in
    record { page = c.in-Some.ensures.page; stands = c.in-Some.ensures.stands; only = only_on c.args.caller.now c.page.new.caller c.more.new.caller (only_on c.args.caller.now c.chain.caller c.page.new.caller c.chain.invariant.only c.in_ok-part.ensures.only) c.in-Some.ensures.only; chaining = chain_next c.args.board.now.shape.chain (g.N.Asks.covers c.args.need.now) c.args.first.number c.args.leaf c.args.depth (seat_of c.args.caller.now.account) (g.S.RowSink.given c.args.sink.now) (seat_of c.page.new.caller.account) (g.S.RowSink.given c.page.new.sink) c.chain.at.number c.chain.at.page (c.chain.rows + c.in_ok-part.part.rows) c.in_ok-part.part.ended paged c.if-part.false (seat_of c.more.new.caller.account) (some_moment c.args.board.now.shape c.more.new.caller.account c.in-Some.ensures.board) c.in-Some.next c.in-Some.ensures.after (λ is_leaf low. let clash : false ≡ true = c.if-stands_alone.ensures.1 (is_leaf, low) in cc) }

pub follow-chain-requires : goal.follow-chain-requires
follow-chain-requires g t c =
    let begun : IsBegun (g.N.Asks.covers c.args.need.now) (seat_of c.header.new.caller.account).reached c.in-Some.next.number c.in-Some.next.page (eqb (c.header.result % 4) 1) (c.args.depth + 1) =
    subst (λ (s : Seat). IsBegun (g.N.Asks.covers c.args.need.now) s.reached c.in-Some.next.number c.in-Some.next.page (eqb (c.header.result % 4) 1) (c.args.depth + 1)) (sym (ap (λ (z : Seated). seat_of z.account) c.header.ensures.same))
    (follow_begun c.args.board.now.shape.chain (g.N.Asks.covers c.args.need.now) c.args.at.number c.args.at.page c.args.index c.args.depth (seat_of c.args.caller.now.account) (g.S.RowSink.given c.args.sink.now) c.requires.at (seat_of c.link.new.caller.account) c.in-Some.next c.in-Some.ensures.after (some_moment c.args.board.now.shape c.link.new.caller.account c.in-Some.ensures.board) (eqb (c.header.result % 4) 1)
    (ap (λ n. eqb (n % 4) 1) c.header.ensures.word ∙ header_kind (place_of (visited (seat_of c.link.new.caller.account).reached c.in-Some.next.number)))) in
    let low : eqb (c.header.result % 4) 1 ≡ false → c.args.depth + 1 < 5 = follow_shallow c.args.board.now.shape.chain (g.N.Asks.covers c.args.need.now) c.args.at.number c.args.at.page c.args.index c.args.depth (seat_of c.args.caller.now.account) (g.S.RowSink.given c.args.sink.now) c.requires.at (seat_of c.link.new.caller.account) c.in-Some.next c.in-Some.ensures.after (some_moment c.args.board.now.shape c.link.new.caller.account c.in-Some.ensures.board) (eqb (c.header.result % 4) 1)
    (ap (λ n. eqb (n % 4) 1) c.header.ensures.word ∙ header_kind (place_of (visited (seat_of c.link.new.caller.account).reached c.in-Some.next.number))) in
    search rules

pub follow-returns-in-None-clause-ok : goal.follow-returns-in-None-clause-ok
follow-returns-in-None-clause-ok g t c = follow_none c.args.board.now.shape.chain (g.N.Asks.covers c.args.need.now) c.args.at.number c.args.at.page c.args.index c.args.depth (seat_of c.args.caller.now.account) (g.S.RowSink.given c.args.sink.now) c.requires.at (seat_of c.link.new.caller.account) c.in-None.ensures.after (some_moment c.args.board.now.shape c.link.new.caller.account c.in-None.ensures.board)

pub follow-returns-in-Some-clause-ok : goal.follow-returns-in-Some-clause-ok
follow-returns-in-Some-clause-ok g t c = ok_map c.chain.result
    (λ n. ChainRead c.args.board.now.shape.chain (g.N.Asks.covers c.args.need.now) c.in-Some.next.number (eqb (c.header.result % 4) 1) (seat_of c.header.new.caller.account) (seat_of c.chain.new.caller.account) (g.S.RowSink.given c.args.sink.now) (g.S.RowSink.given c.chain.new.sink) n)
    (λ n. Followed c.args.board.now.shape.chain (g.N.Asks.covers c.args.need.now) c.args.at.number c.args.index (seat_of c.args.caller.now.account) (seat_of c.chain.new.caller.account) (g.S.RowSink.given c.args.sink.now) (g.S.RowSink.given c.chain.new.sink) n)
    (λ n q. follow_some c.args.board.now.shape.chain (g.N.Asks.covers c.args.need.now) c.args.at.number c.args.at.page c.args.index c.args.depth (seat_of c.args.caller.now.account) (g.S.RowSink.given c.args.sink.now) c.requires.at (seat_of c.link.new.caller.account) c.in-Some.next c.in-Some.ensures.after (some_moment c.args.board.now.shape c.link.new.caller.account c.in-Some.ensures.board) (eqb (c.header.result % 4) 1) (seat_of c.chain.new.caller.account) (g.S.RowSink.given c.chain.new.sink) n
    (subst (λ (s : Seat). ChainRead c.args.board.now.shape.chain (g.N.Asks.covers c.args.need.now) c.in-Some.next.number (eqb (c.header.result % 4) 1) s (seat_of c.chain.new.caller.account) (g.S.RowSink.given c.args.sink.now) (g.S.RowSink.given c.chain.new.sink) n) (ap (λ (z : Seated). seat_of z.account) c.header.ensures.same) q))
    c.chain.ensures.ok

pub inner_page-loop-index-init : goal.inner_page-loop-index-init
inner_page-loop-index-init g t c = record { stands = c.requires.stands; only = only_same c.args.caller.now; reading = inner_start c.args.board.now.shape.chain (g.N.Asks.covers c.args.need.now) c.args.at.number c.args.at.page c.args.depth (seat_of c.args.caller.now.account) (g.S.RowSink.given c.args.sink.now) c.requires.at }

pub inner_page-returns-then-code-eq0-clause-ok : goal.inner_page-returns-then-code-eq0-clause-ok
inner_page-returns-then-code-eq0-clause-ok g t c = inner_zero c.args.board.now.shape.chain (g.N.Asks.covers c.args.need.now) c.args.at.number c.args.at.page c.args.depth (seat_of c.args.caller.now.account) (g.S.RowSink.given c.args.sink.now) c.requires.at
    (seat_of c.loop-index.caller.account) (g.S.RowSink.given c.loop-index.sink) c.loop-index.index c.loop-index.rows c.loop-index.invariant.reading
    (seat_of c.slot-code.new.caller.account) c.slot-code.result c.slot-code.ensures.after (some_moment c.args.board.now.shape c.slot-code.new.caller.account c.slot-code.ensures.board) c.loop-index-test.true c.if-code-eq0.true

pub inner_page-follow-requires : goal.inner_page-follow-requires
inner_page-follow-requires g t c =
    let at : LeafAt (g.N.Asks.covers c.args.need.now) (seat_of c.slot-code.new.caller.account).reached c.args.at.number c.args.at.page c.loop-index.index c.args.depth = inner_leaf_at c.args.board.now.shape.chain (g.N.Asks.covers c.args.need.now) c.args.at.number c.args.at.page c.args.depth (seat_of c.args.caller.now.account) (g.S.RowSink.given c.args.sink.now) c.requires.at
    (seat_of c.loop-index.caller.account) (g.S.RowSink.given c.loop-index.sink) c.loop-index.index c.loop-index.rows c.loop-index.invariant.reading
    (seat_of c.slot-code.new.caller.account) c.slot-code.result c.slot-code.ensures.after (some_moment c.args.board.now.shape c.slot-code.new.caller.account c.slot-code.ensures.board) c.loop-index-test.true c.if-code-eq0.false (c.if-covers_code.ensures.0 refl) in
    let only = only_on c.args.caller.now c.loop-index.caller c.slot-code.new.caller c.loop-index.invariant.only c.slot-code.ensures.only in
    let stands : Stands c.args.board.now c.slot-code.new.caller c.loop-index.count = stands_on c.args.board.now c.loop-index.caller c.slot-code.new.caller c.loop-index.count c.loop-index.count c.loop-index.invariant.stands c.slot-code.ensures.only
    (c.loop-index.invariant.stands.pages ∙ sym (slot_pages (seat_of c.loop-index.caller.account) (seat_of c.slot-code.new.caller.account) c.args.at.number c.slot-code.result c.slot-code.ensures.after)) in
    let code : get_elem? (visited (seat_of c.slot-code.new.caller.account).reached c.args.at.number).slots c.loop-index.index ≡ some c.slot-code.result = there1 c.args.board.now.shape.chain (g.N.Asks.covers c.args.need.now) c.args.at.number c.args.at.page c.args.depth (seat_of c.args.caller.now.account) (g.S.RowSink.given c.args.sink.now) c.requires.at
    (seat_of c.loop-index.caller.account) (g.S.RowSink.given c.loop-index.sink) c.loop-index.index c.loop-index.rows c.loop-index.invariant.reading
    (seat_of c.slot-code.new.caller.account) c.slot-code.result c.slot-code.ensures.after (some_moment c.args.board.now.shape c.slot-code.new.caller.account c.slot-code.ensures.board) c.loop-index-test.true c.if-code-eq0.false in
    let board : SomeBoard c.args.board.now.shape c.slot-code.new.caller.account = c.slot-code.ensures.board in
    search rules

pub inner_page-overflow_add-rows : goal.inner_page-overflow_add-rows
inner_page-overflow_add-rows g t c =
    let more = inner_more c.args.board.now.shape.chain (g.N.Asks.covers c.args.need.now) c.args.at.number c.args.at.page c.args.depth (seat_of c.args.caller.now.account) (g.S.RowSink.given c.args.sink.now) c.requires.at
    (seat_of c.loop-index.caller.account) (g.S.RowSink.given c.loop-index.sink) c.loop-index.index c.loop-index.rows c.loop-index.invariant.reading
    (seat_of c.slot-code.new.caller.account) c.slot-code.result c.slot-code.ensures.after (some_moment c.args.board.now.shape c.slot-code.new.caller.account c.slot-code.ensures.board) c.loop-index-test.true c.if-code-eq0.false
    (seat_of c.follow.new.caller.account) (g.S.RowSink.given c.follow.new.sink) c.in_ok-rows.field-0 (c.if-covers_code.ensures.0 refl) c.in_ok-rows.ensures.ok in
    let fits = count_fits (g.N.Asks.covers c.args.need.now) (seat_of c.args.caller.now.account) (seat_of c.follow.new.caller.account) (g.S.RowSink.given c.args.sink.now) (g.S.RowSink.given c.follow.new.sink) more.parts (c.loop-index.rows + c.in_ok-rows.field-0) more.counts in
    omega (arith, fits)

pub inner_page-loop-index-preserved : goal.inner_page-loop-index-preserved
inner_page-loop-index-preserved g t c = elim c.if-covers_code.branch [
  | inner_page-then-covers_code+in_ok-rows w ↦ rw (w.caller-is, w.sink-is, w.rows-is, w.count-is) (record {
    stands = w.in_ok-rows.ensures.stands;
    only = only_on c.args.caller.now c.slot-code.new.caller w.follow.new.caller (only_on c.args.caller.now c.loop-index.caller c.slot-code.new.caller c.loop-index.invariant.only c.slot-code.ensures.only) w.in_ok-rows.ensures.only;
    reading = inner_more c.args.board.now.shape.chain (g.N.Asks.covers c.args.need.now) c.args.at.number c.args.at.page c.args.depth (seat_of c.args.caller.now.account) (g.S.RowSink.given c.args.sink.now) c.requires.at
        (seat_of c.loop-index.caller.account) (g.S.RowSink.given c.loop-index.sink) c.loop-index.index c.loop-index.rows c.loop-index.invariant.reading
        (seat_of c.slot-code.new.caller.account) c.slot-code.result c.slot-code.ensures.after (some_moment c.args.board.now.shape c.slot-code.new.caller.account c.slot-code.ensures.board) c.loop-index-test.true c.if-code-eq0.false
        (seat_of w.follow.new.caller.account) (g.S.RowSink.given w.follow.new.sink) w.in_ok-rows.field-0 (w.if-covers_code.ensures.0 refl) w.in_ok-rows.ensures.ok;
  })
  | inner_page-else-covers_code w ↦ rw (w.caller-is, w.sink-is, w.rows-is, w.count-is) (record {
    stands = stands_on c.args.board.now c.loop-index.caller c.slot-code.new.caller c.loop-index.count c.loop-index.count c.loop-index.invariant.stands c.slot-code.ensures.only
        (c.loop-index.invariant.stands.pages ∙ sym (slot_pages (seat_of c.loop-index.caller.account) (seat_of c.slot-code.new.caller.account) c.args.at.number c.slot-code.result c.slot-code.ensures.after));
    only = only_on c.args.caller.now c.loop-index.caller c.slot-code.new.caller c.loop-index.invariant.only c.slot-code.ensures.only;
    reading = inner_pass c.args.board.now.shape.chain (g.N.Asks.covers c.args.need.now) c.args.at.number c.args.at.page c.args.depth (seat_of c.args.caller.now.account) (g.S.RowSink.given c.args.sink.now) c.requires.at
        (seat_of c.loop-index.caller.account) (g.S.RowSink.given c.loop-index.sink) c.loop-index.index c.loop-index.rows c.loop-index.invariant.reading
        (seat_of c.slot-code.new.caller.account) c.slot-code.result c.slot-code.ensures.after (some_moment c.args.board.now.shape c.slot-code.new.caller.account c.slot-code.ensures.board) c.loop-index-test.true c.if-code-eq0.false (λ ok. let clash : false ≡ true = w.if-covers_code.ensures.1 ok in cc);
  })
]

pub inner_page-returns-clause-ok : goal.inner_page-returns-clause-ok
inner_page-returns-clause-ok g t c = inner_full c.args.board.now.shape.chain (g.N.Asks.covers c.args.need.now) c.args.at.number c.args.at.page c.args.depth (seat_of c.args.caller.now.account) (g.S.RowSink.given c.args.sink.now) c.requires.at
    (seat_of c.loop-index.caller.account) (g.S.RowSink.given c.loop-index.sink) c.loop-index.index c.loop-index.rows c.loop-index.invariant.reading (let test = c.loop-index-test.false in let auto = c.loop-index.auto in omega arith)

pub chain-returns-in_err-part-clause-err : goal.chain-returns-in_err-part-clause-err
chain-returns-in_err-part-clause-err g t c = err_any c.from_residual.result
    (ChainTried c.args.board.now.shape.chain (g.N.Asks.covers c.args.need.now) c.args.first.number c.args.leaf (seat_of c.args.caller.now.account) (seat_of c.page.new.caller.account) (g.S.RowSink.given c.args.sink.now) (g.S.RowSink.given c.page.new.sink))
    (chain_tried c.args.board.now.shape.chain (g.N.Asks.covers c.args.need.now) c.args.first.number c.args.leaf c.args.depth (seat_of c.args.caller.now.account) (g.S.RowSink.given c.args.sink.now) (seat_of c.chain.caller.account) (g.S.RowSink.given c.chain.sink) c.chain.at.number c.chain.at.page c.chain.rows c.chain.invariant.chaining
    (seat_of c.page.new.caller.account) (g.S.RowSink.given c.page.new.sink) c.in_err-part.ensures.err)

pub follow-returns-in-Some-clause-err : goal.follow-returns-in-Some-clause-err
follow-returns-in-Some-clause-err g t c = err_map c.chain.result
    (ChainTried c.args.board.now.shape.chain (g.N.Asks.covers c.args.need.now) c.in-Some.next.number (eqb (c.header.result % 4) 1) (seat_of c.header.new.caller.account) (seat_of c.chain.new.caller.account) (g.S.RowSink.given c.args.sink.now) (g.S.RowSink.given c.chain.new.sink))
    (FollowTried c.args.board.now.shape.chain (g.N.Asks.covers c.args.need.now) c.args.at.number c.args.index (seat_of c.args.caller.now.account) (seat_of c.chain.new.caller.account) (g.S.RowSink.given c.args.sink.now) (g.S.RowSink.given c.chain.new.sink))
    (λ q. follow_tried c.args.board.now.shape.chain (g.N.Asks.covers c.args.need.now) c.args.at.number c.args.at.page c.args.index c.args.depth (seat_of c.args.caller.now.account) (g.S.RowSink.given c.args.sink.now) c.requires.at (seat_of c.link.new.caller.account) c.in-Some.next c.in-Some.ensures.after (some_moment c.args.board.now.shape c.link.new.caller.account c.in-Some.ensures.board) (eqb (c.header.result % 4) 1) (seat_of c.chain.new.caller.account) (g.S.RowSink.given c.chain.new.sink)
    (subst (λ (s : Seat). ChainTried c.args.board.now.shape.chain (g.N.Asks.covers c.args.need.now) c.in-Some.next.number (eqb (c.header.result % 4) 1) s (seat_of c.chain.new.caller.account) (g.S.RowSink.given c.args.sink.now) (g.S.RowSink.given c.chain.new.sink)) (ap (λ (z : Seated). seat_of z.account) c.header.ensures.same) q))
    c.chain.ensures.err

pub inner_page-returns-in_err-rows-clause-err : goal.inner_page-returns-in_err-rows-clause-err
inner_page-returns-in_err-rows-clause-err g t c = err_any c.from_residual.result
    (PageTried c.args.board.now.shape.chain (g.N.Asks.covers c.args.need.now) c.args.at.number false (seat_of c.args.caller.now.account) (seat_of c.follow.new.caller.account) (g.S.RowSink.given c.args.sink.now) (g.S.RowSink.given c.follow.new.sink))
    (inner_tried c.args.board.now.shape.chain (g.N.Asks.covers c.args.need.now) c.args.at.number c.args.at.page c.args.depth (seat_of c.args.caller.now.account) (g.S.RowSink.given c.args.sink.now) c.requires.at
    (seat_of c.loop-index.caller.account) (g.S.RowSink.given c.loop-index.sink) c.loop-index.index c.loop-index.rows c.loop-index.invariant.reading
    (seat_of c.slot-code.new.caller.account) c.slot-code.result c.slot-code.ensures.after (some_moment c.args.board.now.shape c.slot-code.new.caller.account c.slot-code.ensures.board) c.loop-index-test.true c.if-code-eq0.false
    (seat_of c.follow.new.caller.account) (g.S.RowSink.given c.follow.new.sink) (c.if-covers_code.ensures.0 refl) c.in_err-rows.ensures.err)

pub chain-returns-then-count-eq18446744073709551615-clause-err : goal.chain-returns-then-count-eq18446744073709551615-clause-err
chain-returns-then-count-eq18446744073709551615-clause-err g t c =
    let paged = chain_page c.args.board.now.shape.chain (g.N.Asks.covers c.args.need.now) c.args.first.number c.args.leaf c.args.depth (seat_of c.args.caller.now.account) (g.S.RowSink.given c.args.sink.now)
    (seat_of c.chain.caller.account) (g.S.RowSink.given c.chain.sink) c.chain.at.number c.chain.at.page c.chain.rows c.chain.invariant.chaining c.requires.at.inside
    (seat_of c.page.new.caller.account) (g.S.RowSink.given c.page.new.sink) c.in_ok-part.part.rows c.in_ok-part.part.ended c.in_ok-part.ensures.ok in
    chain_full c.args.board.now.shape.chain (g.N.Asks.covers c.args.need.now) c.args.first.number c.args.leaf c.args.depth (seat_of c.args.caller.now.account) (seat_of c.page.new.caller.account) (g.S.RowSink.given c.args.sink.now) (g.S.RowSink.given c.page.new.sink) c.chain.at.number c.chain.at.page (c.chain.rows + c.in_ok-part.part.rows) c.in_ok-part.part.ended paged

pub follow-returns-then-count-eq18446744073709551615-clause-err : goal.follow-returns-then-count-eq18446744073709551615-clause-err
follow-returns-then-count-eq18446744073709551615-clause-err g t c = follow_full c.args.board.now.shape.chain (g.N.Asks.covers c.args.need.now) c.args.at.number c.args.at.page c.args.index c.args.depth (seat_of c.args.caller.now.account) (g.S.RowSink.given c.args.sink.now) c.requires.at (some_moment c.args.board.now.shape c.args.caller.now.account c.requires.board)

pub follow-returns-then-count-eq18446744073709551615-clause-only : goal.follow-returns-then-count-eq18446744073709551615-clause-only
follow-returns-then-count-eq18446744073709551615-clause-only g t c = only_same c.args.caller.now

pub chain-returns-in_err-part-clause-only : goal.chain-returns-in_err-part-clause-only
chain-returns-in_err-part-clause-only g t c = only_on c.args.caller.now c.chain.caller c.page.new.caller c.chain.invariant.only c.page.ensures.only

pub chain-returns-then-part-clause-only : goal.chain-returns-then-part-clause-only
chain-returns-then-part-clause-only g t c = only_on c.args.caller.now c.chain.caller c.page.new.caller c.chain.invariant.only c.page.ensures.only

pub chain-returns-then-stands_alone-clause-only : goal.chain-returns-then-stands_alone-clause-only
chain-returns-then-stands_alone-clause-only g t c = only_on c.args.caller.now c.chain.caller c.page.new.caller c.chain.invariant.only c.page.ensures.only

pub chain-returns-then-count-eq18446744073709551615-clause-only : goal.chain-returns-then-count-eq18446744073709551615-clause-only
chain-returns-then-count-eq18446744073709551615-clause-only g t c = only_on c.args.caller.now c.chain.caller c.page.new.caller c.chain.invariant.only c.page.ensures.only

pub chain-returns-in-None-clause-only : goal.chain-returns-in-None-clause-only
chain-returns-in-None-clause-only g t c = only_on c.args.caller.now c.page.new.caller c.more.new.caller (only_on c.args.caller.now c.chain.caller c.page.new.caller c.chain.invariant.only c.page.ensures.only) c.more.ensures.only

pub follow-returns-in-Some-clause-only : goal.follow-returns-in-Some-clause-only
follow-returns-in-Some-clause-only g t c = only_on c.args.caller.now c.header.new.caller c.chain.new.caller (subst (λ (z : Seated). OnlyLoads c.args.caller.now z) (sym c.header.ensures.same) c.link.ensures.only) c.chain.ensures.only

pub inner_page-returns-then-code-eq0-clause-only : goal.inner_page-returns-then-code-eq0-clause-only
inner_page-returns-then-code-eq0-clause-only g t c = only_on c.args.caller.now c.loop-index.caller c.slot-code.new.caller c.loop-index.invariant.only c.slot-code.ensures.only

pub inner_page-returns-in_err-rows-clause-only : goal.inner_page-returns-in_err-rows-clause-only
inner_page-returns-in_err-rows-clause-only g t c = only_on c.args.caller.now c.slot-code.new.caller c.follow.new.caller (only_on c.args.caller.now c.loop-index.caller c.slot-code.new.caller c.loop-index.invariant.only c.slot-code.ensures.only) c.follow.ensures.only
