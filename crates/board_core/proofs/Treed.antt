-- What all steps of the tree owe the table: the parts of the rule that they leave alone, the words of pages in the table, and an
-- exchange of a word that was 0.
use Rattle.std.proofs.Common.{◌≡◌, ◌≢◌, ℕ, zero, suc, ◌+◌, ◌*◌, ◌-◌, ◌<◌, ◌≤◌, ◌==◌, Bool, true, false, cond, ltb, List, [], ◌∷◌, length, take, drop, set, get_or, sym, refl, ap, ◌∙◌, subst, arith, eq-eqb, ne_eqb, lt-ltb, ltb-true}
use mathlib.Core.Option.{some, none}
use mathlib.Core.Logic.{dite}
use native.Mathlib.Decide.{ℕ_discrete}
use prog.Atomic.{either}
use lib.ListN.{get_elem?}
use Rattle.atomic_table.specs.Table.{Step, step, keeps, stepped, Allows}
use Rattle.htss_defs.specs.declared.shape.Shape.{Shape}
use Rattle.htss_defs.specs.declared.history.Event.{Event}
use Rattle.board_core.specs.declared.account.Account.{Account}
use Rattle.board_core.specs.declared.account.View.{View}
use Rattle.board_core.specs.Words.{Parts, parts_of, pages_at, states_at, part, stored_page, total_of}
use Rattle.board_core.specs.Histories.{history_of}
use Rattle.board_core.specs.Accounts.{with_me}
use Rattle.board_core.specs.PoolRule.{PoolRule}
use Rattle.board_core.specs.OwnRule.{OwnRule}
use Rattle.board_core.specs.Rows.{codes_in, RowRule}
use Rattle.board_core.specs.OldRows.{IsOldRow}
use Rattle.board_core.specs.TreeRule.{TreeRule}
use Rattle.board_core.specs.Loaded.{IsPage, page_word}
use Rattle.board_core.specs.Holds.{Rule, Holds}
use Rattle.board_core.specs.Steps.{Mine, Claims}
use Rattle.board_core.proofs.SeatFrame.{seats_same}
use Rattle.board_core.proofs.LogFrame.{log_same}
use Rattle.board_core.proofs.StoryFrame.{stories_same}
use Rattle.board_core.proofs.LoadFrame.{loads_same, not_later}
use Rattle.board_core.proofs.RoomFrame.{rooms_same}
use Rattle.board_core.proofs.FullFrame.{full_same}
use Rattle.board_core.proofs.MarkFrame.{marks_same}
use Rattle.board_core.proofs.RecordFrame.{records_same}
use Rattle.board_core.proofs.FactFrame.{facts_same}
use Rattle.board_core.proofs.EmptyFrame.{empty_same}
use Rattle.board_core.proofs.Stored.{part_at}
use Rattle.board_core.proofs.Changed.{set_page}
use Rattle.board_core.proofs.Stepped.{St, words_moved}
use Rattle.board_core.proofs.Pooled.{LeavesLog}
use Rattle.board_core.specs.declared.room.RoomAccount.{RoomAccount}
use Rattle.board_core.specs.Sheets.{sheet_of}
use Rattle.board_core.specs.Rows.{HasRow}
use Rattle.board_core.proofs.Some.{some_changed}
use Rattle.board_core.proofs.SweptFrame.{swept_step, swept_here}
use Rattle.board_core.proofs.ChainFrame.{KeepsPages, chains_later}
use Rattle.board_core.specs.declared.room.Row.{Row}
use Rattle.board_core.specs.Each.{In}
use Rattle.board_core.specs.declared.log.LogAccount.{LogAccount}
use Rattle.board_core.proofs.PublishedFrame.{published_grown}
use Rattle.board_core.proofs.OldMoved.{pins_same, pin_here}

-- a step of the tree. All parts of the log, of the regions and of the states of pages are framed here
pub by_passing : (k : Shape) (p : Parts) (w : ℕ → ℕ → ℕ) (h : List Event) (vs : List View) (id : ℕ) (v : View) (a : Account) → Rule k p h vs → get_elem? vs id ≡ some v → LeavesLog v.me a → ((q : Row) → In q v.me.tree.placed → In q a.tree.placed) → a.tree.front ≤ v.me.tree.front
    → PoolRule k p.pool (set vs id (with_me v a)) → OwnRule w (set vs id (with_me v a)) → RowRule k (set vs id (with_me v a)) → KeepsPages p.pages w (sheet_of p.pool.states vs) (sheet_of p.pool.states (set vs id (with_me v a))) → TreeRule k p.pool.states w (codes_in k p.regions) (IsOldRow k p.regions p.log.slots) (set vs id (with_me v a))
    → Rule k (record p { pages = w }) h (set vs id (with_me v a))
by_passing k p w h vs id v a r at rest more pinned pool own rows stay tree = record {
  chains = chains_later k p.pages w (sheet_of p.pool.states vs) (sheet_of p.pool.states (set vs id (with_me v a))) vs id v a r.chains at stay rest.entries;
  swept = swept_step k p (record p { pages = w }) h vs id v a r at (λ j u there i x here b s in_list t _ _ _. refl) (not_later p.log p.log refl refl) (λ n. some_changed (λ x. HasRow n x.tree.placed) vs id v a at (λ t. (t.0, more t.0 t.1, t.2))) (swept_here k p h vs id v a r at rest.entries);
  seats = seats_same k vs id v a r.seats at rest.who;
  log = log_same k p.log h vs id v a r.log at (λ i. record { who = rest.who i; log = rest.log i });
  stories = stories_same k h vs id v a r.stories at rest.who rest.entries;
  loads = loads_same k p.log p.log vs id v a r.loads at (not_later p.log p.log refl refl) rest.shown;
  rooms = rooms_same k p.regions p.log.front p.log.slots vs id v a r.rooms at (λ i. record { who = rest.who i; room = rest.room i; pending = (rest.log i).pending });
  full = full_same k vs id v a r.full at rest.room rest.entries;
  marks = marks_same k p.regions p.log.front p.log.slots vs id v a r.marks at (λ i. record { who = rest.who i; room = rest.room i; pending = (rest.log i).pending });
  records = records_same k vs id v a r.records at rest.who (ap (λ (x : RoomAccount). x.used) rest.room) (ap (λ (x : RoomAccount). x.sealed) rest.room);
  facts = facts_same k p.regions p.log.front p.log.front vs id v a r.facts at (ap (λ (x : RoomAccount). x.sealed) rest.room) record { heads = rest.heads; facts = rest.facts; codes = rest.codes; marks = rest.marks } (omega arith);
  pool = pool;
  own = own;
  empty = empty_same k p.pool.states vs id v a r.empty at rest.entries;
  rows = rows;
  pins = pins_same p.log.front p.log.front vs id v a r.pins at (omega arith) (let less = pinned in let most = pin_here p.log.front vs id v r.pins at in omega arith);
  published = published_grown k vs id v a r.published at rest.who (ap (λ (x : RoomAccount). x.used) rest.room) (ap (λ (x : RoomAccount). x.published) rest.room) (ap (λ (x : LogAccount). x.pending.shows) rest.log) more;
  tree = tree;
}

-- what the caller had seen at its pin is as it was
pub by_tree : (k : Shape) (p : Parts) (w : ℕ → ℕ → ℕ) (h : List Event) (vs : List View) (id : ℕ) (v : View) (a : Account) → Rule k p h vs → get_elem? vs id ≡ some v → LeavesLog v.me a → ((q : Row) → In q v.me.tree.placed → In q a.tree.placed) → a.tree.front ≡ v.me.tree.front
    → PoolRule k p.pool (set vs id (with_me v a)) → OwnRule w (set vs id (with_me v a)) → RowRule k (set vs id (with_me v a)) → KeepsPages p.pages w (sheet_of p.pool.states vs) (sheet_of p.pool.states (set vs id (with_me v a))) → TreeRule k p.pool.states w (codes_in k p.regions) (IsOldRow k p.regions p.log.slots) (set vs id (with_me v a))
    → Rule k (record p { pages = w }) h (set vs id (with_me v a))
by_tree k p w h vs id v a r at rest more pinned pool own rows stay tree = by_passing k p w h vs id v a r at rest more (let same = pinned in omega arith) pool own rows stay tree

-- ---- the words of pages in the table

pub page_at : (k : Shape) (ws : List ℕ) (p i : ℕ) → IsPage k p → i < 16 → (parts_of k ws).pages p i ≡ get_or ws (page_word k p i) 0
page_at k ws p i inside small = from_last p (p - 1) (let above = inside.0 in omega arith) (let most = inside.1 in let above = inside.0 in omega arith)
  where
    from_last : (n q : ℕ) → n ≡ suc q → q < k.pages → (parts_of k ws).pages n i ≡ get_or ws (pages_at k + (16 * q + i)) 0
    from_last n q is within = ap (λ (x : ℕ). (parts_of k ws).pages x i) is
        ∙ (ap (λ b. cond b (part (pages_at k) (16 * k.pages) ws (16 * q + i)) 0) (lt-ltb i 16 small) ∙ part_at (pages_at k) (16 * k.pages) ws (16 * q + i) (omega arith))

pub put_page : (k : Shape) (ws : List ℕ) (p i n : ℕ) → length ws ≡ total_of k → IsPage k p → i < 16 → parts_of k (set ws (page_word k p i) n) ≡ record (parts_of k ws) { pages = stored_page (parts_of k ws).pages p i n }
put_page k ws p i n long inside small = set_page k ws (p - 1) i n long (let above = inside.0 in let most = inside.1 in omega arith) small
    ∙ ap (λ (z : ℕ). record (parts_of k ws) { pages = stored_page (parts_of k ws).pages z i n }) (let above = inside.0 in let e : suc (p - 1) ≡ p = omega arith in e)

unless_less : (b : Bool) (x : ℕ) → (b ≡ true → ⊥) → cond b x 0 ≡ 0
unless_less true x h = absurd (h refl)
unless_less false x h = refl

-- a page has sixteen words
pub page_past : (k : Shape) (ws : List ℕ) (p i : ℕ) → 16 ≤ i → (parts_of k ws).pages p i ≡ 0
page_past k ws p i past = by p
  where
    by : (n : ℕ) → (parts_of k ws).pages n i ≡ 0
    by zero = refl
    by (suc q) = unless_less (ltb i 16) (part (pages_at k) (16 * k.pages) ws (16 * q + i)) (λ e. let less = ltb-true i 16 e in omega arith)

take_past : (l : List ℕ) (n i : ℕ) → n ≤ i → get_or (take n l) i 0 ≡ 0
take_past l zero i past = refl
take_past [] (suc n) i past = refl
take_past (x ∷ l) (suc n) zero past = absurd (omega arith)
take_past (x ∷ l) (suc n) (suc i) past = take_past l n i (omega arith)

-- a page that is not free is one of the table
pub busy_page : (k : Shape) (ws : List ℕ) (p : ℕ) → (parts_of k ws).pool.states p ≢ 0 → IsPage k p
busy_page k ws zero busy = absurd (busy refl)
busy_page k ws (suc i) busy = (omega arith, dite (ℕ_discrete (suc i - k.pages) 0) (λ z. omega arith) (λ z. absurd (busy (take_past (drop (states_at k) ws) k.pages i (omega arith)))))

-- ---- an exchange of a word that was 0

pub claim_allowed : (k : Shape) (slots id q i x at_word : ℕ) (m : Mine) (b : Account) (Loads : Step (Unit {0}) → Mine → ℕ → Mine → Type 0) → at_word ≡ page_word k q i → IsPage k q → i < 16
    → ((s : St) → Holds k s → get_elem? s.views id ≡ some m.0 → (parts_of k s.words).pages q i ≡ 0
    → Rule k (record (parts_of k s.words) { pages = stored_page (parts_of k s.words).pages q i x }) (history_of k (parts_of k s.words)) (set s.views id (with_me m.0 b)))
    → Allows (Holds k) slots id m at_word (λ n. n) (Loads (step slots at_word 0 x none) m)
    → Allows (Holds k) slots id m at_word (λ n. either (n == 0) x n) (Claims b Loads (step slots at_word 0 x none) m)
claim_allowed k slots id q i x at_word m b Loads is inside small law load s h homes at within =
    let n : ℕ = get_or s.words at_word 0 in
    let p : Parts = parts_of k s.words in
    let same : p.pages q i ≡ n = page_at k s.words q i inside small ∙ ap (λ (z : ℕ). get_or s.words z 0) (sym is) in
    dite (ℕ_discrete n 0)
    (λ won. (
      with_me m.0 b,
      keeps,
      tt,
      subst (λ c. Holds k (stepped s at_word (either c x n) id m.1 (with_me m.0 b) keeps)) (sym (eq-eqb n 0 won))
          (words_moved k s at_word x id m.1 m.0 b _ h (ap (λ (z : ℕ). parts_of k (set s.words z x)) is ∙ put_page k s.words q i x h.wide inside small) (law s h at (same ∙ won))),
      record { won = λ _. refl; lost = λ other. absurd (other won) },
    ))
    (λ lost. let (w, act, valid, holds, told) = load s h homes at within in (
      w,
      act,
      valid,
      subst (λ c. Holds k (stepped s at_word (either c x n) id m.1 w act)) (sym (ne_eqb n 0 lost)) holds,
      record { won = λ won. absurd (lost won); lost = λ _. told },
    ))
