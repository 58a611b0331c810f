-- Answers of descents: what a step, a split or a join leaves of them.
use Rattle.std.proofs.Common.{◌≡◌, ℕ, zero, suc, List, [], ◌∷◌, ◌++◌, set, sym, refl, subst, arith}
use mathlib.Core.Option.{some}
use lib.ListN.{get_elem?}
use Rattle.htss_defs.specs.declared.shape.Shape.{Shape}
use Rattle.htss_defs.specs.declared.history.Event.{Event}
use Rattle.htss_defs.specs.declared.history.Event.TheVariants.{Publish, Withdraw}
use Rattle.htss_defs.specs.Needs.{Covers}
use Rattle.board_core.specs.declared.account.Account.{Account}
use Rattle.board_core.specs.declared.account.View.{View}
use Rattle.board_core.specs.declared.loads.Loads.{Loads}
use Rattle.board_core.specs.declared.entry.Entry.{Entry}
use Rattle.board_core.specs.declared.entry.Entry.TheVariants.{Published, Withdrawn, Answered, Unknown, Gone as Ended, LogFull, DataFull, NoPage, ChainFull, Swept}
use Rattle.board_core.specs.declared.entry.Noted.{Noted}
use Rattle.board_core.specs.declared.room.Row.{Row}
use Rattle.board_core.specs.Each.{Each}
use Rattle.board_core.specs.Words.{Parts}
use Rattle.board_core.specs.Accounts.{with_me, EachAccount}
use Rattle.board_core.specs.Truths.{entry_of}
use Rattle.board_core.specs.RoomRule.{SameSealed}
use Rattle.board_core.specs.OldRows.{IsOldRow}
use Rattle.board_core.specs.Rows.{entry_word, IsPlaced}
use Rattle.board_core.specs.Swept.{row_codes, SweptFits, IsSweptOn, SweptRule}
use Rattle.board_core.specs.ChainRule.{IsToldChain}
use Rattle.board_core.specs.Holds.{Rule}
use Rattle.board_core.specs.After.{noted}
use Rattle.board_core.proofs.Lists.{each_none, each_cons, each_append}
use Rattle.board_core.proofs.Everyone.{mine, moved}
use Rattle.board_core.proofs.LoadFrame.{IsLater}
use Rattle.board_core.proofs.RowFrame.{codes_stay, placed_begun}
use Rattle.board_core.proofs.OldMoved.{old_before}
use Rattle.board_core.proofs.OldRows.{old_placed}

-- ---- words of sealed blocks stay, and rows stay placed

module _ (k : Shape) (p q : Parts) (h : List Event) (vs ws : List View) (r : Rule k p h vs) (same : SameSealed k p.regions q.regions vs) (later : IsLater p.log q.log) (more : (n : ℕ) → IsPlaced vs n → IsPlaced ws n) where
  codes_kept : (n : ℕ) → IsPlaced vs n → row_codes k q.regions n ≡ row_codes k p.regions n
  codes_kept n put = λ i. record { words = codes_stay k p.regions q.regions vs r.rooms.rooms r.rows same n (placed_begun k vs n r.rows put) i }

  fits_later : (need : _) (front : ℕ) (rows : List Row) → SweptFits k p need front rows → Each (λ x. IsPlaced vs (entry_word x)) rows → SweptFits k q need front rows
  fits_later need front rows f put = let behind = f.behind in let grown = later.front in record {
    behind = omega arith;
    differ = f.differ;
    cover = λ j x there. subst (Covers need) (sym (codes_kept (entry_word x) (put j x there))) (f.cover j x there);
    all = λ n old covers.
        let was : IsOldRow k p.regions p.log.slots front n = old_before k p.regions q.regions p.log q.log vs front n r.rooms same later f.behind old in
        f.all n was (subst (Covers need) (codes_kept n (old_placed k p h vs front n r f.behind was).0) covers);
  }

  swept_later : (e : Entry) → IsSweptOn k p vs e → IsSweptOn k q ws e
  swept_later (Swept need front rows) t = (fits_later need front rows t.0 t.1, λ j x there. more (entry_word x) (t.1 j x there))
  swept_later (Published number event) t = (tt, tt)
  swept_later (Withdrawn number event) t = (tt, tt)
  swept_later (Answered query budget front reply) t = (tt, tt)
  swept_later (Unknown number front) t = (tt, tt)
  swept_later (Ended number at) t = (tt, tt)
  swept_later (LogFull front) t = (tt, tt)
  swept_later (DataFull left need) t = (tt, tt)
  swept_later NoPage t = (tt, tt)
  swept_later (ChainFull pages) t = (tt, tt)

-- ---- a step of one account

abbrev pub OwnSwept : Shape → Parts → List View → Account → Type 0
OwnSwept k p vs a = Each (λ n. IsSweptOn k p vs n.entry) a.entries

pub swept_step : (k : Shape) (p q : Parts) (h : List Event) (vs : List View) (id : ℕ) (v : View) (a : Account) → Rule k p h vs → get_elem? vs id ≡ some v → SameSealed k p.regions q.regions vs → IsLater p.log q.log → ((n : ℕ) → IsPlaced vs n → IsPlaced (set vs id (with_me v a)) n)
    → OwnSwept k p vs a → SweptRule k q (set vs id (with_me v a))
swept_step k p q h vs id v a r at same later more own =
    let ws : List View = set vs id (with_me v a) in
    moved (OwnSwept k p vs) (OwnSwept k q ws) vs id v a at
    (λ j n there. swept_later k p q h vs ws r same later more n.entry (own j n there))
    (λ x _ all j n there. swept_later k p q h vs ws r same later more n.entry (all j n there)) r.swept

-- no entry is added
pub swept_here : (k : Shape) (p : Parts) (h : List Event) (vs : List View) (id : ℕ) (v : View) (a : Account) → Rule k p h vs → get_elem? vs id ≡ some v → a.entries ≡ v.me.entries → OwnSwept k p vs a
swept_here k p h vs id v a r at entries = subst (λ (es : List Noted). Each (λ n. IsSweptOn k p vs n.entry) es) (sym entries) (mine (OwnSwept k p vs) vs id v at r.swept)

noted_swept : (k : Shape) (p : Parts) (vs : List View) (l : Loads) (es : List Entry) → Each (IsSweptOn k p vs) es → Each (λ n. IsSweptOn k p vs n.entry) (noted l es)
noted_swept k p vs l [] all = each_none (λ n. IsSweptOn k p vs n.entry)
noted_swept k p vs l (e ∷ es) all = each_cons (λ n. IsSweptOn k p vs n.entry) _ (noted l es) (all zero e refl) (noted_swept k p vs l es (λ j. all (suc j)))

-- true entries are added
pub swept_more : (k : Shape) (p : Parts) (h : List Event) (vs : List View) (id : ℕ) (v : View) (a : Account) (es : List Entry) → Rule k p h vs → get_elem? vs id ≡ some v → Each (IsSweptOn k p vs) es → a.entries ≡ v.me.entries ++ noted v.me.loads es → OwnSwept k p vs a
swept_more k p h vs id v a es r at true_all entries = subst (λ (ns : List Noted). Each (λ n. IsSweptOn k p vs n.entry) ns) (sym entries)
    (each_append (λ n. IsSweptOn k p vs n.entry) v.me.entries (noted v.me.loads es) (mine (OwnSwept k p vs) vs id v at r.swept) (noted_swept k p vs v.me.loads es true_all))

-- entries of other calls, and those of events, are none of a descent
entry_other : (k : Shape) (p : Parts) (vs : List View) (a : Account) (e : Entry) → IsToldChain k a e → IsSweptOn k p vs e
entry_other k p vs a (Swept need front rows) told = absurd told
entry_other k p vs a (Published number event) told = (tt, tt)
entry_other k p vs a (Withdrawn number event) told = (tt, tt)
entry_other k p vs a (Answered query budget front reply) told = (tt, tt)
entry_other k p vs a (Unknown number front) told = (tt, tt)
entry_other k p vs a (Ended number at) told = (tt, tt)
entry_other k p vs a (LogFull front) told = (tt, tt)
entry_other k p vs a (DataFull left need) told = (tt, tt)
entry_other k p vs a NoPage told = (tt, tt)
entry_other k p vs a (ChainFull pages) told = (tt, tt)

pub swept_none : (k : Shape) (p : Parts) (vs : List View) (a : Account) (es : List Entry) → Each (IsToldChain k a) es → Each (IsSweptOn k p vs) es
swept_none k p vs a es told j e there = entry_other k p vs a e (told j e there)

pub event_swept : (k : Shape) (p : Parts) (vs : List View) (number : ℕ) (e : Event) → Each (IsSweptOn k p vs) (entry_of number e ∷ [])
event_swept k p vs number (Publish caller name mol) = each_cons (IsSweptOn k p vs) (Published number (Publish caller name mol)) [] (tt, tt) (each_none (IsSweptOn k p vs))
event_swept k p vs number (Withdraw caller target) = each_cons (IsSweptOn k p vs) (Withdrawn number (Withdraw caller target)) [] (tt, tt) (each_none (IsSweptOn k p vs))

-- ---- other views

placed_later : (k : Shape) (p : Parts) (vs ws : List View) → ((n : ℕ) → IsPlaced vs n → IsPlaced ws n) → (e : Entry) → IsSweptOn k p vs e → IsSweptOn k p ws e
placed_later k p vs ws more (Swept need front rows) t = (t.0, λ j x there. more (entry_word x) (t.1 j x there))
placed_later k p vs ws more (Published number event) t = (tt, tt)
placed_later k p vs ws more (Withdrawn number event) t = (tt, tt)
placed_later k p vs ws more (Answered query budget front reply) t = (tt, tt)
placed_later k p vs ws more (Unknown number front) t = (tt, tt)
placed_later k p vs ws more (Ended number at) t = (tt, tt)
placed_later k p vs ws more (LogFull front) t = (tt, tt)
placed_later k p vs ws more (DataFull left need) t = (tt, tt)
placed_later k p vs ws more NoPage t = (tt, tt)
placed_later k p vs ws more (ChainFull pages) t = (tt, tt)

-- where rows that are placed by the first views are placed by the others
pub swept_views : (k : Shape) (p : Parts) (vs ws us : List View) → ((n : ℕ) → IsPlaced vs n → IsPlaced ws n) → EachAccount (OwnSwept k p vs) us → EachAccount (OwnSwept k p ws) us
swept_views k p vs ws us more all j u at i x here t n there = placed_later k p vs ws more n.entry (all j u at i x here t n there)
