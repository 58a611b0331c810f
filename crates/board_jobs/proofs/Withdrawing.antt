-- What a withdrawal answers, and what it leaves of the account.
use Rattle.std.proofs.Common.{◌≡◌, ℕ, ◌+◌, ◌<◌, ◌≤◌, List, [], ◌∷◌, ◌++◌, length, take, sym, ap, subst, ◌∙◌, refl, arith}
use Rattle.htss_defs.specs.declared.shape.Shape.{Shape}
use Rattle.htss_defs.specs.declared.history.Event.TheVariants.{Withdraw}
use Rattle.report_text.specs.declared.report.WithdrawLine.{WithdrawLine}
use Rattle.report_text.specs.declared.report.WithdrawLine.TheVariants as line
use Rattle.report_rules.specs.Answers.{to_withdrawal}
use Rattle.board_core.specs.declared.account.Account.{Account}
use Rattle.board_core.specs.declared.entry.Entry.{Entry}
use Rattle.board_core.specs.declared.entry.Entry.TheVariants.{Withdrawn, Unknown, Gone, LogFull}
use Rattle.board_core.specs.Histories.{history_of, IsOpen}
use Rattle.board_core.specs.Loaded.{Grows}
use Rattle.board_core.specs.After.{noted, after_front, after_take}
use Rattle.board_core.specs.Answers.{answers_in}
use Rattle.board_core.proofs.Grown.{grows_trans, grows_quiet, grows_front}
use Rattle.board.specs.Seated.{Place, Seated, IsOf, number_in, with_account}
use Rattle.board.specs.Seated.{number_of as seated_number}
use Rattle.pub_log.specs.declared.refusals.WithdrawError.{WithdrawError}
use Rattle.pub_log.specs.declared.refusals.WithdrawError.TheVariants as cause
use Rattle.pub_log.specs.Locking.{IsCalled, IsRefusal, refusal}
use Rattle.board_jobs.specs.Calls.{Answers, GoesOn, IsAtWork, IsWithdrawal}
use Rattle.board_jobs.proofs.Chained.{number_same, all_one, all_none, told_one, IsFreed, ready_after, goes_on-one}

-- the account under the lock
abbrev pub at_lock : Account → ℕ → Account
at_lock a front = after_front (after_take a) front

seen_in : (a b : Account) (at : ℕ) (es : List Entry) → IsCalled a b at es → b.log.seen ≡ at
seen_in a b at es called = ap (λ l. l.seen) called.log

grows_called : (a b : Account) (front at : ℕ) (es : List Entry) → a.log.seen ≤ front → IsCalled (at_lock a front) b at es → Grows a b
grows_called a b front at es later called =
    grows_trans a (at_lock a front) b (grows_trans a (after_take a) (at_lock a front) (grows_quiet a (after_take a) (omega arith) refl (λ j x there. there)) (grows_front (after_take a) front later)) called.grows

-- the words of the region are the same
used_called : (a b : Account) (front at : ℕ) (es : List Entry) → IsCalled (at_lock a front) b at es → length b.room.used ≡ length a.room.used + 0
used_called a b front at es called = let same : length b.room.used ≡ length a.room.used = ap (λ r. length r.used) called.room in omega arith

-- and no row was begun
begun_called : (a b : Account) (front at : ℕ) (es : List Entry) → IsCalled (at_lock a front) b at es → length b.tree.begun ≤ length a.tree.begun + 0
begun_called a b front at es called = let same : length b.tree.begun ≡ length a.tree.begun = ap (λ t. length t.begun) called.tree in omega arith

at-answers : (k : Shape) (a b : Account) (number front event : ℕ) → a.log.seen ≤ front → event ≡ front + 1
    → IsCalled (at_lock a front) b event (Withdrawn event (Withdraw (number_in a.who) number) ∷ []) → Answers k a b (to_withdrawal number (line.At event))
at-answers k a b number front event later next called c who =
    let told : Entry = Withdrawn event (Withdraw (number_in a.who) number) in
    let seen = seen_in (at_lock a front) b event (told ∷ []) called in record {
      who = called.who;
      noted_are = told_one a b told refl called.entries ∙ ap (λ n. answers_in a.entries ++ noted b.loads (Withdrawn event (Withdraw n number) ∷ [])) (number_same c a.who who);
      seen = omega (arith, seen, next, later);
      marks = all_one (λ mark. mark ≤ b.log.seen) event (omega (arith, seen));
      fresh = all_one (λ own. a.log.seen < own) event (omega (arith, next, later));
      fronts = all_none _;
      used = used_called a b front event (told ∷ []) called;
      says = tt;
      rows = tt;
      read = tt;
      begun = begun_called a b front event (told ∷ []) called;
      grows = grows_called a b front event (told ∷ []) later called;
    }

unknown-answers : (k : Shape) (a b : Account) (number front at : ℕ) → a.log.seen ≤ front → at ≡ front
    → IsCalled (at_lock a front) b front (Unknown number at ∷ []) → Answers k a b (to_withdrawal number (line.Unknown at))
unknown-answers k a b number front at later same called c who =
    let told : Entry = Unknown number at in
    let seen = seen_in (at_lock a front) b front (told ∷ []) called in record {
      who = called.who;
      noted_are = told_one a b told refl called.entries;
      seen = omega (arith, seen, later);
      marks = all_one (λ mark. mark ≤ b.log.seen) at (omega (arith, seen, same));
      fresh = all_none _;
      fronts = all_one (λ mark. a.log.seen ≤ mark) at (omega (arith, same, later));
      used = used_called a b front front (told ∷ []) called;
      says = tt;
      rows = tt;
      read = tt;
      begun = begun_called a b front front (told ∷ []) called;
      grows = grows_called a b front front (told ∷ []) later called;
    }

gone-answers : (k : Shape) (a b : Account) (number front at : ℕ) → a.log.seen ≤ front → at ≤ front
    → IsCalled (at_lock a front) b front (Gone number at ∷ []) → Answers k a b (to_withdrawal number (line.Gone at))
gone-answers k a b number front at later within called c who =
    let told : Entry = Gone number at in
    let seen = seen_in (at_lock a front) b front (told ∷ []) called in record {
      who = called.who;
      noted_are = told_one a b told refl called.entries;
      seen = omega (arith, seen, later);
      marks = all_one (λ mark. mark ≤ b.log.seen) at (omega (arith, seen, within));
      fresh = all_none _;
      fronts = all_none _;
      used = used_called a b front front (told ∷ []) called;
      says = tt;
      rows = tt;
      read = tt;
      begun = begun_called a b front front (told ∷ []) called;
      grows = grows_called a b front front (told ∷ []) later called;
    }

full-answers : (k : Shape) (a b : Account) (number front at : ℕ) → a.log.seen ≤ front → IsRefusal k b front number (cause.LogFull at)
    → IsCalled (at_lock a front) b front (LogFull at ∷ []) → Answers k a b (to_withdrawal number (line.LogFull at))
full-answers k a b number front at later (same, full, opened) called c who =
    let told : Entry = LogFull at in
    let seen = seen_in (at_lock a front) b front (told ∷ []) called in record {
      who = called.who;
      noted_are = told_one a b told refl called.entries;
      seen = omega (arith, seen, later);
      marks = all_one (λ mark. mark ≤ b.log.seen) at (omega (arith, seen, same));
      fresh = all_none _;
      fronts = all_one (λ mark. a.log.seen ≤ mark) at (omega (arith, same, later));
      used = used_called a b front front (told ∷ []) called;
      says = (same ∙ full, λ p may. subst (λ n. IsOpen (take n (history_of k p)) number) (sym same) (opened p may));
      rows = tt;
      read = tt;
      begun = begun_called a b front front (told ∷ []) called;
      grows = grows_called a b front front (told ∷ []) later called;
    }

-- ---- the line, and the caller

-- the line of a refusal
abbrev pub refused_line : WithdrawError → WithdrawLine
refused_line (cause.Unknown front) = line.Unknown front
refused_line (cause.Gone at) = line.Gone at
refused_line (cause.LogFull front) = line.LogFull front

refused-answers : (k : Shape) (a b : Account) (number front : ℕ) (e : WithdrawError) → a.log.seen ≤ front → IsRefusal k b front number e
    → IsCalled (at_lock a front) b front (refusal number e ∷ []) → Answers k a b (to_withdrawal number (refused_line e))
refused-answers k a b number front (cause.Unknown at) later is called = unknown-answers k a b number front at later is called
refused-answers k a b number front (cause.Gone at) later is called = gone-answers k a b number front at later is called
refused-answers k a b number front (cause.LogFull at) later is called = full-answers k a b number front at later is called

pub withdrawn-at : (b : Place) (c d e : Seated) (number front event : ℕ) → d ≡ with_account c (at_lock c.account front) → c.account.log.seen ≤ front → event ≡ front + 1
    → IsCalled d.account e.account event (Withdrawn event (Withdraw (seated_number d) number) ∷ []) → IsWithdrawal b.shape c.account e.account number (line.At event)
withdrawn-at b c d e number front event locked later next called = record {
  answers = at-answers b.shape c.account e.account number front event later next
      (subst (λ (x : Seated). IsCalled x.account e.account event (Withdrawn event (Withdraw (seated_number x) number) ∷ [])) locked called);
}

pub withdrawn-refused : (b : Place) (c d e : Seated) (number front : ℕ) (why : WithdrawError) (told : WithdrawLine) → told ≡ refused_line why → d ≡ with_account c (at_lock c.account front) → c.account.log.seen ≤ front
    → IsRefusal b.shape e.account front number why → IsCalled d.account e.account front (refusal number why ∷ []) → IsWithdrawal b.shape c.account e.account number told
withdrawn-refused b c d e number front why told line_is locked later is called = record {
  answers = subst (λ l. Answers b.shape c.account e.account (to_withdrawal number l)) (sym line_is)
      (refused-answers b.shape c.account e.account number front why later is
      (subst (λ (x : Seated). IsCalled x.account e.account front (refusal number why ∷ [])) locked called));
}

pub on-withdrawn : (b : Place) (c d e : Seated) (number front at : ℕ) (es : List Entry) (told : WithdrawLine) → IsAtWork b c → IsOf b e → e.stock ≡ d.stock → d ≡ with_account c (at_lock c.account front)
    → IsCalled d.account e.account at es → IsWithdrawal b.shape c.account e.account number told → GoesOn b c e
on-withdrawn b c d e number front at es told work of stock locked called withdrawal =
    let late = subst (λ (x : Seated). IsCalled x.account e.account at es) locked called in
    let freed : IsFreed b c.account e.account = record {
      holding = ap (λ l. l.holding) late.log;
      pool = late.pool;
      who = late.who;
    } in
    goes_on-one b c e (to_withdrawal number told) (record { of = of; ready = ready_after b c e work.ready (stock ∙ ap (λ (x : Seated). x.stock) locked) freed }) late.who withdrawal.answers
