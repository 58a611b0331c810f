use Rattle.std.proofs.Common.{◌≡◌, ℕ, List, [], length, map, sym, ap, ◌∙◌, subst, arith}
use Rattle.board_core.specs.declared.loads.WordLoad.{WordLoad}
use Rattle.board_core.specs.declared.room.Row.{Row}
use Rattle.board_core.specs.Each.{Each}
use Rattle.board_core.specs.Loaded.{IsInTable, KnowsRow}
use Rattle.searcher.specs.Walking.{Whatever, AllScreened, AreNumbered}
use Rattle.searcher.specs.Records.{AreOfRows, AreOfScreened}
use Rattle.searcher.proofs.Numbered.{atoms_stay}
use Rattle.searcher.proofs.Screening.{numbers_screened}
use Rattle.std.proofs.lemmas.Result.{on_ok_weaker}
use Rattle.board_core.proofs.Grown.{grows_trans}
use Rattle.searcher.proofs.Records.{numbers_read_nothing, screened_nothing, visits_screened}
use Rattle.searcher.proofs.Turns.{read_none, turns_after, turns_none}
use Rattle.searcher.proofs.Whole.{all_after}
use Rattle.searcher.proofs.Walks.{seen_still}
use Rattle.searcher.proofs.Complete.{all_screened, notes_stay}
use Rattle.searcher.proofs.Read.{reads_trans}
use Rattle.searcher.proofs.Answered.{has_read}
use Rattle.searcher.proofs.at_front.answer.Goals as goal

pub numbers_in_order-requires-clause-known : goal.numbers_in_order-requires-clause-known
numbers_in_order-requires-clause-known c = subst (λ (l : List Row). Each (λ r. KnowsRow c.find_rows.new.caller.account r.block × IsInTable c.args.board.now.shape r.block) l) (sym c.deref.ensures.value) c.in-Ok.ensures.found.known

pub fill-requires-clause-all : goal.fill-requires-clause-all
fill-requires-clause-all c =
    let k = c.args.board.now.shape in
    let query = c.args.query.now in
    let front = c.args.front in
    let a = c.args.caller.now.account in
    let b = c.find_rows.new.caller.account in
    let d = c.numbers_in_order.new.caller.account in
    let rows = c.find_rows.new.found.rows.items in
    let numbers = c.in-Ok-numbers_in_order.numbers.items in
    let reads = c.numbers_in_order.ensures.reads in
    let seen : b.log.seen ≡ front = ap (λ l. l.seen) c.find_rows.ensures.visits.log ∙ c.requires.seen in
    let still : d.log.seen ≡ front = seen_still b d front reads seen in
    let notes = notes_stay k query a b d front rows c.in-Ok.rows c.in-Ok.ensures.found c.requires.seen reads in
    let numbered = subst (λ (l : List Row). Each (λ r. AreNumbered k d front r.block numbers) l) c.deref.ensures.value c.in-Ok-numbers_in_order.ensures.all in
    subst (λ (l : List ℕ). Whatever k d front (AllScreened query l)) (sym c.deref-2.ensures.value) (all_screened k d query front rows numbers (omega arith) notes numbered)

pub fill-requires-clause-screened : goal.fill-requires-clause-screened
fill-requires-clause-screened c =
    let k = c.args.board.now.shape in
    let query = c.args.query.now in
    let front = c.args.front in
    let a = c.args.caller.now.account in
    let b = c.find_rows.new.caller.account in
    let d = c.numbers_in_order.new.caller.account in
    let rows = c.find_rows.new.found.rows.items in
    let numbers = c.in-Ok-numbers_in_order.numbers.items in
    let reads = c.numbers_in_order.ensures.reads in
    let seen : b.log.seen ≡ front = ap (λ l. l.seen) c.find_rows.ensures.visits.log ∙ c.requires.seen in
    let still : d.log.seen ≡ front = seen_still b d front reads seen in
    let notes = notes_stay k query a b d front rows c.in-Ok.rows c.in-Ok.ensures.found c.requires.seen reads in
    let atoms = atoms_stay k b d rows reads.grown c.in-Ok.ensures.found.atoms in
    let of = subst (λ (l : List Row). AreOfRows k d l numbers) c.deref.ensures.value c.in-Ok-numbers_in_order.ensures.of_rows in
    subst (λ (l : List ℕ). Whatever k d front (AreOfScreened query l)) (sym c.deref-2.ensures.value) (numbers_screened k d query front rows numbers (omega arith) notes atoms of)

pub returns-in_default-clause-read : goal.returns-in_default-clause-read
returns-in_default-clause-read c = visits_screened c.args.board.now.shape c.args.query.now c.args.front c.args.caller.now.account c.find_rows.new.caller.account c.find_rows.ensures.visits

pub returns-in_default-numbers_in_order-clause-read : goal.returns-in_default-numbers_in_order-clause-read
returns-in_default-numbers_in_order-clause-read c =
    let a = c.args.caller.now.account in
    let b = c.find_rows.new.caller.account in
    let d = c.numbers_in_order.new.caller.account in
    screened_nothing c.args.board.now.shape c.args.query.now c.args.front a d (numbers_read_nothing a b d (length c.deref.result.now) c.find_rows.ensures.visits c.numbers_in_order.ensures.once)

pub returns-clause-reads : goal.returns-clause-reads
returns-clause-reads c =
    let a = c.args.caller.now.account in
    let b = c.find_rows.new.caller.account in
    let d = c.numbers_in_order.new.caller.account in
    let e = c.fill.new.caller.account in
    has_read a b e c.find_rows.ensures.visits (reads_trans b d e c.numbers_in_order.ensures.reads c.fill.ensures.reads)

pub returns-clause-whole : goal.returns-clause-whole
returns-clause-whole c =
    let a = c.args.caller.now.account in
    let b = c.find_rows.new.caller.account in
    let d = c.numbers_in_order.new.caller.account in
    let e = c.fill.new.caller.account in
    on_ok_weaker c.fill.result
    (all_after c.args.board.now.shape c.args.query.now c.args.front a d e (grows_trans a b d c.find_rows.ensures.visits.grown c.numbers_in_order.ensures.reads.grown))
    c.fill.ensures.whole

pub returns-in_default-clause-turn : goal.returns-in_default-clause-turn
returns-in_default-clause-turn c = turns_none c.args.board.now.shape c.args.caller.now.account c.find_rows.new.caller.account (ap (map (λ (l : WordLoad). l.place)) c.find_rows.ensures.visits.facts)

pub returns-in_default-numbers_in_order-clause-turn : goal.returns-in_default-numbers_in_order-clause-turn
returns-in_default-numbers_in_order-clause-turn c =
    let once = c.numbers_in_order.ensures.once in
    turns_none c.args.board.now.shape c.args.caller.now.account c.numbers_in_order.new.caller.account
    (read_none c.find_rows.new.caller.account c.numbers_in_order.new.caller.account 0 once.0 [] c.numbers_in_order.ensures.reads.grown once.2 ∙ ap (map (λ (l : WordLoad). l.place)) c.find_rows.ensures.visits.facts)

pub returns-clause-turn : goal.returns-clause-turn
returns-clause-turn c =
    let once = c.numbers_in_order.ensures.once in
    turns_after c.args.board.now.shape c.args.caller.now.account c.numbers_in_order.new.caller.account c.fill.new.caller.account
    (read_none c.find_rows.new.caller.account c.numbers_in_order.new.caller.account 0 once.0 [] c.numbers_in_order.ensures.reads.grown once.2 ∙ ap (map (λ (l : WordLoad). l.place)) c.find_rows.ensures.visits.facts)
    c.fill.ensures.turn
