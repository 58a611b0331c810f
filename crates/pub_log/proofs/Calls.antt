-- What a call under the lock leaves: it reads a log word and a mark at most, and then frees the lock, or withdraws a number.
use Rattle.std.proofs.Common.{◌≡◌, ℕ, ◌+◌, List, [], ◌∷◌, ◌++◌, refl, sym, ap, ◌∙◌, subst, arith, append-nil}
use Rattle.htss_defs.specs.declared.shape.Shape.{Shape}
use Rattle.htss_defs.specs.declared.history.Event.TheVariants.{Withdraw}
use Rattle.board_core.specs.declared.account.Account.{Account}
use Rattle.board_core.specs.declared.entry.Entry.{Entry}
use Rattle.board_core.specs.declared.entry.Entry.TheVariants.{Unknown, LogFull, Withdrawn}
use Rattle.board_core.specs.declared.entry.Noted.{Noted}
use Rattle.board_core.specs.declared.log.Ending.{Ending}
use Rattle.board_core.specs.declared.log.Holding.TheVariants.{Away}
use Rattle.board_core.specs.declared.log.LogAccount.{LogAccount}
use Rattle.board_core.specs.declared.log.Pending.{Pending}
use Rattle.board_core.specs.declared.loads.Loads.{Loads}
use Rattle.board_core.specs.Accounts.{nothing}
use Rattle.board_core.specs.Loaded.{Grows}
use Rattle.board_core.specs.After.{noted, after_free, after_shown, after_mark, with_published}
use Rattle.board_core.proofs.Lists.{at_longer}
use Rattle.board_core.proofs.Grown.{entries_added, grows_same, grows_trans, grows_quiet, grows_shown, grows_mark}
use Rattle.board.specs.Seated.{Seated, with_account, number_of, number_in}
use Rattle.pub_log.specs.Locking.{IsHeld, IsCalled, after_withdrawal}

-- the second account has loaded more log words and marks than the first, and is else the same
pub record HasRead (a b : Account) : Type 0 where
  pub who : b.who ≡ a.who
  pub log : b.log ≡ a.log
  pub room : b.room ≡ a.room
  pub pool : b.pool ≡ a.pool
  pub tree : b.tree ≡ a.tree
  pub counts : b.counts ≡ a.counts
  pub fronts : b.loads.fronts ≡ a.loads.fronts
  pub loads : b.loads ≡ record a.loads { marks = b.loads.marks; shown = b.loads.shown }
  pub entries : b.entries ≡ a.entries
  pub grows : Grows a b

pub read_nothing : (a : Account) → HasRead a a
read_nothing a = record { who = refl; log = refl; room = refl; pool = refl; tree = refl; counts = refl; fronts = refl; loads = refl; entries = refl; grows = grows_same a }

pub read_word : (c d : Seated) (place word : ℕ) → d ≡ with_account c (after_shown c.account place word) → HasRead c.account d.account
read_word c d place word e = subst (λ (s : Seated). HasRead c.account s.account) (sym e)
    record { who = refl; log = refl; room = refl; pool = refl; tree = refl; counts = refl; fronts = refl; loads = refl; entries = refl; grows = grows_shown c.account place word }

pub read_mark : (c d : Seated) (place word : ℕ) → d ≡ with_account c (after_mark c.account place word) → HasRead c.account d.account
read_mark c d place word e = subst (λ (s : Seated). HasRead c.account s.account) (sym e)
    record { who = refl; log = refl; room = refl; pool = refl; tree = refl; counts = refl; fronts = refl; loads = refl; entries = refl; grows = grows_mark c.account place word }

pub read_both : (a b c : Account) → HasRead a b → HasRead b c → HasRead a c
read_both a b c f g = record {
  who = g.who ∙ f.who;
  log = g.log ∙ f.log;
  room = g.room ∙ f.room;
  pool = g.pool ∙ f.pool;
  tree = g.tree ∙ f.tree;
  counts = g.counts ∙ f.counts;
  fronts = g.fronts ∙ f.fronts;
  loads = g.loads ∙ ap (λ (l : Loads). record l { marks = c.loads.marks; shown = c.loads.shown }) f.loads;
  entries = g.entries ∙ f.entries;
  grows = grows_trans a b c f.grows g.grows;
}

-- ---- what it still holds

pub still_held : (k : Shape) (a b : Account) (front : ℕ) → HasRead a b → IsHeld k a front → IsHeld k b front
still_held k a b front r h = record {
  holding = ap (λ (l : LogAccount). l.holding) r.log ∙ h.holding;
  quiet = ap (λ (l : LogAccount). l.pending) r.log ∙ h.quiet;
  seen = ap (λ (l : LogAccount). l.seen) r.log ∙ h.seen;
  in_log = h.in_log;
}

-- ---- the lock is freed

called_free : (k : Shape) (a b : Account) (front : ℕ) (es : List Entry) → HasRead a b → IsHeld k b front → IsCalled a (after_free b es) front es
called_free k a b front es r h = record {
  who = r.who;
  log = λ i. record { seen = h.seen i; holding = Away; pending = h.quiet i };
  room = r.room;
  pool = r.pool;
  tree = r.tree;
  counts = r.counts;
  fronts = r.fronts;
  loads = r.loads;
  grows = grows_trans a b (after_free b es) r.grows (grows_quiet b (after_free b es) (omega arith) refl (entries_added b (after_free b es) (noted b.loads es) refl));
  entries = ap (λ (l : List Noted). l ++ noted b.loads es) r.entries;
}

pub called_freed : (k : Shape) (c d e : Seated) (front : ℕ) (es : List Entry) → HasRead c.account d.account → IsHeld k c.account front → e ≡ with_account d (after_free d.account es) → IsCalled c.account e.account front es
called_freed k c d e front es r h is = subst (λ (s : Seated). IsCalled c.account s.account front es) (sym is) (called_free k c.account d.account front es r (still_held k c.account d.account front r h))

-- the entry tells the front as the call answers it
pub called_unknown : (k : Shape) (c d e : Seated) (front told number : ℕ) → told ≡ front → HasRead c.account d.account → IsHeld k c.account front → e ≡ with_account d (after_free d.account (Unknown number d.account.log.seen ∷ []))
    → IsCalled c.account e.account front (Unknown number told ∷ [])
called_unknown k c d e front told number same r h is =
    subst (λ (z : ℕ). IsCalled c.account e.account front (Unknown number z ∷ [])) ((still_held k c.account d.account front r h).seen ∙ sym same) (called_freed k c d e front (Unknown number d.account.log.seen ∷ []) r h is)

pub called_full : (k : Shape) (c d e : Seated) (front told : ℕ) → told ≡ front → HasRead c.account d.account → IsHeld k c.account front → e ≡ with_account d (after_free d.account (LogFull d.account.log.seen ∷ []))
    → IsCalled c.account e.account front (LogFull told ∷ [])
called_full k c d e front told same r h is =
    subst (λ (z : ℕ). IsCalled c.account e.account front (LogFull z ∷ [])) ((still_held k c.account d.account front r h).seen ∙ sym same) (called_freed k c d e front (LogFull d.account.log.seen ∷ []) r h is)

pub grows_freed : (d e : Seated) (es : List Entry) → e ≡ with_account d (after_free d.account es) → Grows d.account e.account
grows_freed d e es is = subst (λ (s : Seated). Grows d.account s.account) (sym is) (grows_quiet d.account (after_free d.account es) (omega arith) refl (entries_added d.account (after_free d.account es) (noted d.account.loads es) refl))

-- ---- a number is withdrawn

called_end : (k : Shape) (a b : Account) (front : ℕ) (x : Ending) → HasRead a b → IsHeld k b front
    → IsCalled a (after_withdrawal b (number_in b.who) x) (front + 1) (Withdrawn (front + 1) (Withdraw (number_in a.who) x.target) ∷ [])
called_end k a b front x r h = record {
  who = r.who;
  log = λ i. record { seen = h.seen i + 1; holding = Away; pending = nothing };
  room = ap (λ (p : Pending). with_published p.shows b.room) h.quiet ∙ r.room;
  pool = r.pool;
  tree = r.tree;
  counts = r.counts;
  fronts = r.fronts;
  loads = r.loads;
  grows = grows_trans a b (after_withdrawal b (number_in b.who) x) r.grows (grows_quiet b (after_withdrawal b (number_in b.who) x) (omega arith) refl (λ j y there. at_longer (b.entries ++ noted b.loads (Withdrawn (b.log.seen + 1) (Withdraw (number_in b.who) x.target) ∷ [])) [] j y (at_longer b.entries (noted b.loads (Withdrawn (b.log.seen + 1) (Withdraw (number_in b.who) x.target) ∷ [])) j y there)));
  entries = append-nil (b.entries ++ noted b.loads (Withdrawn (b.log.seen + 1) (Withdraw (number_in b.who) x.target) ∷ []))
      ∙ (λ i. r.entries i ++ noted b.loads (Withdrawn (h.seen i + 1) (Withdraw (number_in (r.who i)) x.target) ∷ []));
}

pub called_ended : (k : Shape) (c d e : Seated) (front : ℕ) (x : Ending) → HasRead c.account d.account → IsHeld k c.account front → e ≡ with_account d (after_withdrawal d.account (number_of d) x)
    → IsCalled c.account e.account (front + 1) (Withdrawn (front + 1) (Withdraw (number_of c) x.target) ∷ [])
called_ended k c d e front x r h is = subst (λ (s : Seated). IsCalled c.account s.account (front + 1) (Withdrawn (front + 1) (Withdraw (number_of c) x.target) ∷ [])) (sym is)
    (called_end k c.account d.account front x r (still_held k c.account d.account front r h))
