-- Why a withdrawal is refused, and why it may be made, by the log word and the mark that were loaded.
use Rattle.std.proofs.Common.{◌≡◌, ℕ, ◌+◌, ◌-◌, ◌<◌, ◌≤◌, ◌⊎◌, List, [], ◌∷◌, length, refl, sym, ◌∙◌, subst, arith, inl, inr, ◌≢◌}
use Rattle.htss_defs.specs.declared.shape.Shape.{Shape}
use Rattle.board_core.specs.declared.account.Account.{Account}
use Rattle.board_core.specs.declared.entry.Entry.TheVariants.{Unknown, Gone, LogFull}
use Rattle.board_core.specs.Words.{log_at}
use Rattle.board_core.specs.Histories.{history_of}
use Rattle.board_core.specs.Blocks.{ended_at}
use Rattle.board_core.specs.LogWord.{kind_in, target_in}
use Rattle.board_core.specs.Loaded.{HasLoaded, SawMark, IsOpenMark, Grows}
use Rattle.board_core.specs.Truths.{IsTrueLog, IsTruePool, IsTrueRoom}
use Rattle.board_core.specs.Steps.{MayEnd, AreTrue}
use Rattle.board_core.specs.declared.entry.Entry.{Entry}
use Rattle.board_core.specs.After.{after_shown, after_mark, after_free}
use Rattle.board_core.proofs.Lists.{each_none, each_cons}
use Rattle.board_core.proofs.Grown.{has_log_word, saw_mark, loaded_stays, board_before}
use Rattle.board_core.proofs.BlockCauses.{past_unknown, withdrawal_unknown, ended_gone, loaded_open, seen_within}
use Rattle.board.specs.Seated.{Seated, with_account}
use Rattle.pub_log.specs.Locking.{IsHeld, IsToldBy, IsKnownOpen}
use Rattle.pub_log.proofs.Calls.{HasRead, read_word, read_mark, read_both, still_held, grows_freed}
use Rattle.board_core.specs.ChainRule.{IsToldChain}

-- the log is full
pub full_true : (k : Shape) (a : Account) → a.log.seen ≡ k.log → AreTrue k a (LogFull a.log.seen ∷ [])
full_true k a full = record {
  silent = refl;
  each = λ p known agrees. each_cons (IsTrueLog k (history_of k p)) (LogFull a.log.seen) [] (seen_within k p a (record { known = known; agrees = agrees }) a.log.seen (omega arith), full) (each_none (IsTrueLog k (history_of k p)));
  rooms = each_cons (IsTrueRoom (k.room - length a.room.used)) (LogFull a.log.seen) [] tt (each_none (IsTrueRoom (k.room - length a.room.used)));
  pages = λ states _. each_cons (IsTruePool k states) (LogFull a.log.seen) [] tt (each_none (IsTruePool k states));
  chains = each_cons (IsToldChain k a) (LogFull a.log.seen) [] tt (each_none (IsToldChain k a));
}

-- ---- the number, and the front as the lock tells it

-- it is 0 or past the front
pub outside : (seen front told number : ℕ) → seen ≡ front → told ≡ front → (number ≡ 0) ⊎ ((number ≢ 0) × (told < number)) → (number ≡ 0) ⊎ (seen < number)
outside seen front told number e same (inl none) = inl none
outside seen front told number e same (inr (some, past)) = inr (past_front past)
  where
    past_front : told < number → seen < number
    past_front over = omega arith

pub in_front : (front told number : ℕ) → told ≡ front → number ≤ told → number ≤ front
in_front front told number same within = omega arith

pub in_log : (front told number log : ℕ) → told ≡ front → number ≤ told → front ≤ log → number ≤ log
in_log front told number log same within inside = omega arith

pub past_mark : (front told mark : ℕ) → told ≡ front → told < mark → front < mark
past_mark front told mark same past = omega arith

-- ---- the log is full, or has room, by its size as the board tells it

pub log_full : (front told size log : ℕ) → told ≡ front → size ≡ log → size ≤ told → front ≤ log → front ≡ log
log_full front told size log same is over inside = omega arith

pub log_room : (front told size log : ℕ) → told ≡ front → size ≡ log → told < size → front < log
log_room front told size log same is below = omega arith

-- ---- why it is refused

-- the number is 0 or past the front
pub past_told : (k : Shape) (a : Account) (number : ℕ) → (number ≡ 0) ⊎ (a.log.seen < number) → IsToldBy k a (Unknown number a.log.seen)
past_told k a number past p board = past_unknown k p a board number a.log.seen (omega arith) past

-- the log word that was loaded is a withdrawal's
pub withdrawal_told : (k : Shape) (c d : Seated) (number word : ℕ) → d ≡ with_account c (after_shown c.account (log_at k + (number - 1)) word) → 0 < number → number ≤ k.log → kind_in word ≡ 2
    → IsToldBy k d.account (Unknown number d.account.log.seen)
withdrawal_told k c d number word is above inside two = subst (λ (s : Seated). IsToldBy k s.account (Unknown number s.account.log.seen)) (sym is)
    (λ p board. withdrawal_unknown k p (after_shown c.account (log_at k + (number - 1)) word) board number word c.account.log.seen (omega arith) (has_log_word k c.account number word above inside) two)

-- it is a publication's
pub block_loaded : (k : Shape) (c d : Seated) (number word : ℕ) → d ≡ with_account c (after_shown c.account (log_at k + (number - 1)) word) → 0 < number → number ≤ k.log → ¬ (kind_in word ≡ 2) → HasLoaded k d.account number (target_in word)
block_loaded k c d number word is above inside other = subst (λ (s : Seated). HasLoaded k s.account number (target_in word)) (sym is)
    record { word = word; log = has_log_word k c.account number word above inside; kind = other; names = refl }

-- what was told under the lock is told when it is free again
pub told_free : (k : Shape) (d e : Seated) (x : Entry) (es : List Entry) → e ≡ with_account d (after_free d.account es) → IsToldBy k d.account x → IsToldBy k e.account x
told_free k d e x es is told p board = told p (board_before k d.account e.account (grows_freed d e es is) p board)

pub full_told : (k : Shape) (d e : Seated) (es : List Entry) → e ≡ with_account d (after_free d.account es) → d.account.log.seen ≡ k.log → IsToldBy k e.account (LogFull d.account.log.seen)
full_told k d e es is full = told_free k d e (LogFull d.account.log.seen) es is (λ p board. (seen_within k p d.account board d.account.log.seen (omega arith), full))

-- by the front as the lock tells it
pub unknown_at : (k : Shape) (a b : Account) (front told number : ℕ) → a.log.seen ≡ front → told ≡ front → IsToldBy k b (Unknown number a.log.seen) → IsToldBy k b (Unknown number told)
unknown_at k a b front told number seen same is = subst (λ (z : ℕ). IsToldBy k b (Unknown number z)) (seen ∙ sym same) is

pub full_at : (k : Shape) (a b : Account) (front told : ℕ) → a.log.seen ≡ front → told ≡ front → IsToldBy k b (LogFull a.log.seen) → IsToldBy k b (LogFull told)
full_at k a b front told seen same is = subst (λ (z : ℕ). IsToldBy k b (LogFull z)) (seen ∙ sym same) is

-- the log word of a publication and the last mark of its block were loaded under the lock
pub record HasBoth (k : Shape) (a b : Account) (front number block mark : ℕ) : Type 0 where
  pub read : HasRead a b
  pub held : IsHeld k b front
  pub early : number ≤ front
  pub loaded : HasLoaded k b number block
  pub saw : SawMark b block front mark

mark_seen : (c d : Seated) (block front mark : ℕ) → d ≡ with_account c (after_mark c.account (block + ended_at) mark) → c.account.log.seen ≡ front → SawMark d.account block front mark
mark_seen c d block front mark is seen = subst (λ (x : Seated × ℕ). SawMark x.0.account block x.1 mark) (λ i. (sym is i, seen i)) (saw_mark c.account block mark)

pub both_loaded : (k : Shape) (c d e : Seated) (front number word mark : ℕ) → IsHeld k c.account front → 0 < number → number ≤ front → ¬ (kind_in word ≡ 2)
    → d ≡ with_account c (after_shown c.account (log_at k + (number - 1)) word) → e ≡ with_account d (after_mark d.account (target_in word + ended_at) mark) → HasBoth k c.account e.account front number (target_in word) mark
both_loaded k c d e front number word mark h above early other first second =
    let inside : number ≤ k.log = log_after number front k.log early h.in_log in
    let one = read_word c d (log_at k + (number - 1)) word first in
    let two = read_mark d e (target_in word + ended_at) mark second in
    let both = read_both c.account d.account e.account one two in record {
      read = both;
      held = still_held k c.account e.account front both h;
      early = early;
      loaded = loaded_stays k d.account e.account two.grows number (target_in word) (block_loaded k c d number word first above inside other);
      saw = mark_seen d e (target_in word) front mark second (still_held k c.account d.account front one h).seen;
    }
  where
    log_after : (number front log : ℕ) → number ≤ front → front ≤ log → number ≤ log
    log_after number front log a b = omega arith

module _ (k : Shape) (a b : Account) (front number block mark : ℕ) (h : HasBoth k a b front number block mark) where
  -- the mark is an event's
  pub gone_told : 0 < mark → mark ≤ front → IsToldBy k b (Gone number mark)
  gone_told above within p board = ended_gone k p b board number block front mark h.loaded h.saw above within

  -- it is none's
  pub may_end : front < k.log → IsOpenMark front mark → MayEnd k b (record { target = number; block = block })
  may_end room free = record {
    may = record { holding = h.held.holding; room = less b.log.seen front k.log h.held.seen room; quiet = h.held.quiet };
    loaded = h.loaded;
    mark = mark;
    saw = subst (λ (z : ℕ). SawMark b block z mark) (sym h.held.seen) h.saw;
    is_open = subst (λ (z : ℕ). IsOpenMark z mark) (sym h.held.seen) free;
  }
    where
      less : (seen front log : ℕ) → seen ≡ front → front < log → seen < log
      less seen front log e l = omega arith

  pub known_open : (c : Account) → Grows b c → IsOpenMark front mark → IsKnownOpen k c front number
  known_open c grown free p board = loaded_open k p b (board_before k b c grown p board) number block front mark h.loaded h.saw free h.early
