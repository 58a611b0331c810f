-- The rows of a block, and what is left when the next of them was inserted or refused.
use Rattle.std.proofs.Common.{◌≡◌, ℕ, zero, suc, ◌+◌, ◌<◌, ◌≤◌, List, [], ◌∷◌, ◌++◌, length, refl, sym, ap, ◌∙◌, subst, arith, ⊎_elim, append-nil}
use Rattle.std.proofs.lemmas.List.{append_assoc, length-append}
use mathlib.Core.Option.{some, some-ne-none}
use mathlib.Core.Logic.{dite}
use native.Mathlib.Decide.{ℕ_discrete}
use lib.ListN.{get_elem?}
use Rattle.htss_defs.specs.declared.shape.Shape.{Shape}
use Rattle.board_core.specs.declared.account.Account.{Account}
use Rattle.board_core.specs.declared.account.Who.{Who}
use Rattle.board_core.specs.declared.entry.Entry.{Entry}
use Rattle.board_core.specs.declared.entry.Noted.{Noted}
use Rattle.board_core.specs.declared.loads.ShownLoad.{ShownLoad}
use Rattle.board_core.specs.declared.loads.WordLoad.{WordLoad}
use Rattle.board_core.specs.declared.log.LogAccount.{LogAccount}
use Rattle.board_core.specs.declared.room.RoomAccount.{RoomAccount}
use Rattle.board_core.specs.declared.room.Row.{Row}
use Rattle.board_core.specs.Each.{In}
use Rattle.board_core.specs.Blocks.{atoms_in}
use Rattle.board_core.specs.Loaded.{Grows}
use Rattle.board_core.specs.RoomRule.{IsSealed}
use Rattle.board_core.specs.Rows.{words_of, RowFits, IsOwnRow}
use Rattle.board_core.specs.declared.entry.Entry.TheVariants.{NoPage as PageWanted, ChainFull as ChainWasFull}
use Rattle.board_core.specs.After.{lengths_of, noted, after_answer, after_unpin}
use Rattle.board_core.proofs.Grown.{grows_same, grows_trans}
use Rattle.board_core.proofs.Lists.{at_longer, at_last, at_end, each_append}
use Rattle.board.specs.Seated.{Seated}
use Rattle.class_tree.specs.declared.insert.InsertError.{InsertError}
use Rattle.class_tree.specs.declared.insert.InsertError.TheVariants.{NoPage, ChainFull}
use Rattle.class_tree.specs.Inserting.{HasBegun, HasPlaced, HasAnswered, IsRefusal}
use Rattle.loader.specs.Stages.{rows_of, HasRows, WasStopped, told_of}

abbrev pub row_at : ℕ → ℕ → Row
row_at block i = record { block = block; atom = i + 1 }

-- ---- the rows of a block

pub rows_in : (block n atom : ℕ) → 0 < atom → atom ≤ n → In (record { block = block; atom = atom }) (rows_of block n)
rows_in block zero atom above most = absurd (omega arith)
rows_in block (suc n) atom above most = dite (ℕ_discrete atom (n + 1))
    (λ e. subst (λ (x : ℕ). In (record { block = block; atom = x }) (rows_of block n ++ row_at block n ∷ [])) (sym e) (length (rows_of block n), at_last (rows_of block n) (row_at block n) (length (rows_of block n)) refl))
    (λ other. let h = rows_in block n atom above (omega arith) in (h.0, at_longer (rows_of block n) (row_at block n ∷ []) h.0 (record { block = block; atom = atom }) h.1))

rows_low : (block n j : ℕ) (r : Row) → get_elem? (rows_of block n) j ≡ some r → r.atom ≤ n
rows_low block zero j r there = absurd (some-ne-none r (sym there))
rows_low block (suc n) j r there = ⊎_elim
    (λ (t : get_elem? (rows_of block n) j ≡ some r). let less = rows_low block n j r t in omega arith)
    (λ (t : (j ≡ length (rows_of block n)) × (row_at block n ≡ r)). subst (λ (x : Row). x.atom ≤ suc n) t.1 (omega arith))
    (at_end (rows_of block n) (row_at block n) r j there)

rows_next : (block i : ℕ) → rows_of block (i + 1) ≡ rows_of block i ++ row_at block i ∷ []
rows_next block i = let next : i + 1 ≡ suc i = omega arith in ap (rows_of block) next

-- one more, past others
one_more : (rows : List Row) (block i : ℕ) → rows ++ rows_of block i ++ row_at block i ∷ [] ≡ rows ++ rows_of block (i + 1)
one_more rows block i = append_assoc rows (rows_of block i) (row_at block i ∷ []) ∙ ap (λ (l : List Row). rows ++ l) (sym (rows_next block i))

-- ---- the insertion of the next one is asked for

pub not_placed : (a b : Account) (block i : ℕ) → HasRows a b block i i [] → ((atom : ℕ) → In (record { block = block; atom = atom }) a.tree.placed → ⊥) → In (row_at block i) b.tree.placed → ⊥
not_placed a b block i rows fresh there =
    let here : In (row_at block i) (a.tree.placed ++ rows_of block i) = subst (λ (l : List Row). In (row_at block i) l) rows.rows_placed there in
    each_append (λ r. r ≡ row_at block i → ⊥) a.tree.placed (rows_of block i)
    (λ j r at e. fresh (i + 1) (j, at ∙ ap some e))
    (λ j r at e. let low = rows_low block i j r at in let same : r.atom ≡ i + 1 = ap (λ (x : Row). x.atom) e in absurd (omega arith))
    here.0 (row_at block i) here.1 refl

pub own_row : (k : Shape) (a b : Account) (block atoms i : ℕ) → HasRows a b block i i [] → IsSealed a.room.sealed block → atoms ≤ atoms_in (words_of k a.who a.room.used block 0) → i < atoms → IsOwnRow k b (row_at block i)
own_row k a b block atoms i rows sealed most less = subst (λ (x : Who × RoomAccount). RowFits k x.0 x.1.used x.1.sealed (row_at block i)) (λ t. (sym rows.who t, sym rows.room t))
    record { sealed = sealed; above = omega arith; atom = omega arith }

-- ---- and what it leaves

-- nothing yet
pub no_rows_yet : (a : Account) (block : ℕ) → a.pool.announced ≡ 0 → HasRows a a block 0 0 []
no_rows_yet a block unpinned = record {
  who = refl;
  log = refl;
  room = refl;
  unpinned = unpinned;
  rows_begun = sym (append-nil a.tree.begun);
  rows_placed = sym (append-nil a.tree.placed);
  entries = sym (append-nil a.entries);
  grows = grows_same a;
}

begun_grows : (k : Shape) (c d : Seated) (row : Row) (more : List Noted) → d.account.entries ≡ c.account.entries ++ more → HasBegun k c d row → Grows c.account d.account
begun_grows k c d row more es h = let seen : d.account.log.seen ≡ c.account.log.seen = ap (λ (x : LogAccount). x.seen) h.log in record {
  seen = omega arith;
  shown = λ j x there. subst (λ (l : List ShownLoad). get_elem? l j ≡ some x) (sym h.shown) there;
  heads = h.grows.heads;
  marks = λ j x there. subst (λ (l : List ShownLoad). get_elem? l j ≡ some x) (sym h.marks) there;
  facts = λ j x there. subst (λ (l : List WordLoad). get_elem? l j ≡ some x) (sym h.facts) there;
  fronts = λ j x there. subst (λ (l : List ℕ). get_elem? l j ≡ some x) (sym h.fronts) there;
  codes = h.grows.codes;
  epochs = h.grows.epochs;
  announcements = h.grows.announcements;
  states = h.grows.states;
  lost = h.grows.lost;
  entries = λ j x there. subst (λ (l : List Noted). get_elem? l j ≡ some x) (sym es) (at_longer c.account.entries more j x there);
}

pub row_placed : (k : Shape) (a : Account) (c d : Seated) (block i : ℕ) → HasRows a c.account block i i [] → HasBegun k c d (row_at block i) → HasPlaced c d (row_at block i) → HasRows a d.account block (i + 1) (i + 1) []
row_placed k a c d block i rows begun placed = record {
  who = begun.who ∙ rows.who;
  log = begun.log ∙ rows.log;
  room = begun.room ∙ rows.room;
  unpinned = begun.unpinned;
  rows_begun = begun.begun ∙ (ap (λ (l : List Row). l ++ row_at block i ∷ []) rows.rows_begun ∙ one_more a.tree.begun block i);
  rows_placed = placed.placed ∙ (ap (λ (l : List Row). l ++ row_at block i ∷ []) rows.rows_placed ∙ one_more a.tree.placed block i);
  entries = placed.entries ∙ rows.entries;
  grows = grows_trans a c.account d.account rows.grows (begun_grows k c d (row_at block i) [] (placed.entries ∙ sym (append-nil c.account.entries)) begun);
}

answered : (k : Shape) (c d : Seated) (row : Row) (e : InsertError) → IsRefusal k c d row e → HasAnswered c d (told_of e)
answered k c d row NoPage refused = refused.answered
answered k c d row (ChainFull pages) refused = refused.answered

-- the entry has the lengths of the lists of loads at the end
last_same : (xs ys : List Noted) (x y : Noted) → xs ++ x ∷ [] ≡ ys ++ y ∷ [] → x ≡ y
last_same [] [] x y e = cc
last_same [] (v ∷ ys) x y e = let long : length (x ∷ []) ≡ length (v ∷ ys ++ y ∷ []) = ap length e in let more = length-append ys (y ∷ []) in absurd (omega arith)
last_same (u ∷ xs) [] x y e = let long : length (u ∷ xs ++ x ∷ []) ≡ length (y ∷ []) = ap length e in let more = length-append xs (x ∷ []) in absurd (omega arith)
last_same (u ∷ xs) (v ∷ ys) x y e = last_same xs ys x y cc

noted_last : (told : Entry) (c d : Seated) (x : Account) → HasAnswered c d told → d.account ≡ after_unpin (after_answer x (told ∷ [])) → d.account.entries ≡ c.account.entries ++ noted d.account.loads (told ∷ [])
noted_last told c d x is end =
    let here : d.account.entries ≡ x.entries ++ noted d.account.loads (told ∷ []) = subst (λ (a : Account). a.entries ≡ x.entries ++ noted a.loads (told ∷ [])) (sym end) refl in
    is.entries ∙ ap (λ (n : Noted). c.account.entries ++ n ∷ []) (last_same c.account.entries x.entries (record { entry = told; at = lengths_of is.loads }) (record { entry = told; at = lengths_of d.account.loads }) (sym is.entries ∙ here))

at_end_noted : (k : Shape) (c d : Seated) (row : Row) (e : InsertError) → IsRefusal k c d row e → d.account.entries ≡ c.account.entries ++ noted d.account.loads (told_of e ∷ [])
at_end_noted k c d row NoPage refused = noted_last PageWanted c d refused.refused.last.account refused.answered
    (ap (λ (x : Seated). x.account) refused.end ∙ ap (λ (x : Seated). after_unpin x.account) refused.refused.after)
at_end_noted k c d row (ChainFull pages) refused = noted_last (ChainWasFull pages) c d refused.middle.account refused.answered (ap (λ (x : Seated). x.account) refused.end)

pub row_refused : (k : Shape) (o c d : Seated) (block atoms i : ℕ) (e : InsertError) → HasRows o.account c.account block i i [] → i < atoms → HasBegun k c d (row_at block i) → IsRefusal k c d (row_at block i) e → WasStopped k o d block atoms e
row_refused k o c d block atoms i e rows less begun refused =
    let a : Account = o.account in
    let told = answered k c d (row_at block i) e refused in record {
      count = i;
      within = less;
      before = c;
      placed = rows;
      refused = refused;
      left = record {
        who = begun.who ∙ rows.who;
        log = begun.log ∙ rows.log;
        room = begun.room ∙ rows.room;
        unpinned = begun.unpinned;
        rows_begun = begun.begun ∙ (ap (λ (l : List Row). l ++ row_at block i ∷ []) rows.rows_begun ∙ one_more a.tree.begun block i);
        rows_placed = told.placed ∙ rows.rows_placed;
        entries = at_end_noted k c d (row_at block i) e refused ∙ ap (λ (l : List Noted). l ++ noted d.account.loads (told_of e ∷ [])) (rows.entries ∙ append-nil a.entries);
        grows = grows_trans a c.account d.account rows.grows (begun_grows k c d (row_at block i) (noted d.account.loads (told_of e ∷ [])) (at_end_noted k c d (row_at block i) e refused) begun);
      };
    }
