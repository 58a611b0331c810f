-- Answers of one caller, one after the other.
use Rattle.std.proofs.Common.{◌≡◌, Result, Ok, Err, OnErr, IfErr, Bool, true, cond, ℕ, ◌<◌, ◌≤◌, List, [], ◌∷◌, ◌++◌, length, map, sym, ap, subst, ◌∙◌, refl, arith, All}
use Rattle.std.proofs.lemmas.List.{map-append}
use Rattle.std.proofs.lemmas.List.Elements.{All-nil, All-cons, filter-append}
use Rattle.htss_defs.specs.declared.shape.Shape.{Shape}
use Rattle.report_rules.specs.Answers.{Answer}
use Rattle.report_rules.specs.Dealing.{Caller, loader, searcher}
use Rattle.report_rules.specs.Rules.{caller_number}
use Rattle.board_core.specs.declared.account.Account.{Account}
use Rattle.board_core.specs.declared.account.Who.{Who}
use Rattle.board_core.specs.declared.account.Who.TheVariants.{Loader}
use Rattle.board_core.specs.declared.entry.Entry.{Entry}
use Rattle.board_core.specs.declared.entry.Noted.{Noted}
use Rattle.board_core.specs.declared.log.Holding.TheVariants.{Away}
use Rattle.board_core.specs.Loaded.{Grows}
use Rattle.board_core.specs.After.{noted}
use Rattle.board_core.specs.Answers.{is_answer, answers_in}
use Rattle.board_core.specs.declared.loads.Loads.{Loads}
use Rattle.board_core.proofs.Grown.{grows_same, grows_trans}
use Rattle.board.specs.Seated.{Place, Seated, IsNew, IsLoader, number_in, with_account}
use Rattle.board_jobs.specs.Telling.{entries_in, tells}
use Rattle.board_jobs.specs.Answering.{who_of, IsAnswered, AreAnswered}
use Rattle.board_core.specs.declared.pool.PoolAccount.{PoolAccount}
use Rattle.board_core.specs.MarkRule.{IsAmong}
use Rattle.board_core.specs.Sheets.{owns}
use Rattle.class_tree.specs.Inserting.{IsStocked}
use Rattle.board_jobs.specs.Jobs.{IsReady}
use Rattle.board_jobs.specs.Calls.{Answers, GoesOn, IsAtWork}

-- ---- what answers keep

pub answered_both : (k : Shape) (c : Caller) (a b d : Account) (xs ys : List Answer) → AreAnswered k c a b xs → AreAnswered k c b d ys → AreAnswered k c a d (xs ++ ys)
answered_both k c a b d [] ys first second = subst (λ x. AreAnswered k c x d ys) first second
answered_both k c a b d (x ∷ xs) ys (between, is, more) second = (between, is, answered_both k c between b d xs ys more second)

pub answered_one : (k : Shape) (c : Caller) (a b : Account) (answer : Answer) → IsAnswered k c a b answer → AreAnswered k c a b (answer ∷ [])
answered_one k c a b answer is = (b, is, refl)

pub answered_grows : (k : Shape) (c : Caller) (a b : Account) (xs : List Answer) → AreAnswered k c a b xs → Grows a b
answered_grows k c a b [] same = subst (λ x. Grows a x) (sym same) (grows_same a)
answered_grows k c a b (x ∷ xs) (between, is, more) = grows_trans a between b is.grows (answered_grows k c between b xs more)

pub answered_who : (k : Shape) (c : Caller) (a b : Account) (xs : List Answer) → AreAnswered k c a b xs → b.who ≡ a.who
answered_who k c a b [] same = ap (λ x. x.who) same
answered_who k c a b (x ∷ xs) (between, is, more) = answered_who k c between b xs more ∙ is.who

pub answered_seen : (k : Shape) (c : Caller) (a b : Account) (xs : List Answer) → AreAnswered k c a b xs → a.log.seen ≤ b.log.seen
answered_seen k c a b xs are = (answered_grows k c a b xs are).seen

-- ---- a caller that goes on

-- the number that an account has is its caller's
pub number_same : (c : Caller) (w : Who) → who_of c ≡ w → number_in w ≡ caller_number c
number_same (loader number) w same = ap number_in (sym same)
number_same (searcher number) w same = ap number_in (sym same)

pub goes_on-same : (b : Place) (old : Seated) → IsAtWork b old → GoesOn b old old
goes_on-same b old work = record { work = work; who = refl; answers = λ c who. ([], refl) }

pub goes_on-both : (b : Place) (old mid new : Seated) → GoesOn b old mid → GoesOn b mid new → GoesOn b old new
goes_on-both b old mid new first second = record {
  work = second.work;
  who = second.who ∙ first.who;
  answers = λ c who.
      let before = first.answers c who in
      let after = second.answers c (who ∙ sym first.who) in
      (before.0 ++ after.0, answered_both b.shape c old.account mid.account new.account before.0 after.0 before.1 after.1);
}

pub goes_on-one : (b : Place) (old new : Seated) (answer : Answer) → IsAtWork b new → new.account.who ≡ old.account.who → Answers b.shape old.account new.account answer → GoesOn b old new
goes_on-one b old new answer work who answers = record {
  work = work;
  who = who;
  answers = λ c same. (answer ∷ [], answered_one b.shape c old.account new.account answer (answers c same));
}

-- ---- an account that is free again

pub record IsFreed (b : Place) (a x : Account) : Type 0 where
  pub holding : x.log.holding ≡ Away
  pub pool : x.pool ≡ a.pool
  pub who : x.who ≡ a.who

-- what it keeps stays in its stock
pub stocked_after : (c d : Seated) → d.account.pool ≡ c.account.pool → d.stock ≡ c.stock → IsStocked c → IsStocked d
stocked_after c d pool stock h = record {
  own = λ q own. subst (λ (l : List ℕ). IsAmong l q) (sym stock) (h.own q (subst (λ (p : PoolAccount). 0 < owns q p.own) pool own));
  few = let own : length d.account.pool.own ≡ length c.account.pool.own = ap (λ (p : PoolAccount). length p.own) pool in let same = ap length stock in let few = h.few in omega arith;
  size = subst (λ (l : List ℕ). length l ≤ 32) (sym stock) h.size;
  clean = ap (λ (p : PoolAccount). p.parted) pool ∙ h.clean;
}

-- a caller of a board that was just opened is ready
pub new_ready : (b : Place) (made : ℕ) (c : Seated) → IsNew b made c → IsReady c
new_ready b made c new = record {
  free = ap (λ (a : Account). a.log.holding) new.account;
  unpinned = ap (λ (a : Account). a.pool.announced) new.account;
  stocked = record {
    own = λ q own. let none : 0 < 0 = subst (λ (a : Account). 0 < owns q a.pool.own) new.account own in absurd (omega arith);
    few = let own : length c.account.pool.own ≡ 0 = ap (λ (a : Account). length a.pool.own) new.account in omega arith;
    size = subst (λ (l : List ℕ). length l ≤ 32) (sym new.stock) (omega arith);
    clean = ap (λ (a : Account). a.pool.parted) new.account;
  };
}

pub ready_after : (b : Place) (c d : Seated) → IsReady c → d.stock ≡ c.stock → IsFreed b c.account d.account → IsReady d
ready_after b c d ready stock f = record { free = f.holding; unpinned = ap (λ p. p.announced) f.pool ∙ ready.unpinned; stocked = stocked_after c d f.pool stock ready.stocked }

pub work_after : (b : Place) (old new : Seated) (x : Account) → new ≡ with_account old x → IsAtWork b old → IsFreed b old.account x → IsAtWork b new
work_after b old new x is work f = subst (IsAtWork b) (sym is) record {
  of = record { table = work.of.table; shape = work.of.shape };
  ready = ready_after b old (with_account old x) work.ready refl f;
}

pub goes_on-after : (b : Place) (old new : Seated) (x : Account) (answer : Answer) → new ≡ with_account old x → IsAtWork b old → IsFreed b old.account x → Answers b.shape old.account new.account answer → GoesOn b old new
goes_on-after b old new x answer is work f answers = goes_on-one b old new answer (work_after b old new x is work f) (ap (λ (y : Seated). y.account.who) is ∙ f.who) answers

-- ---- lists of one

pub all_one : (F : ℕ → Type 0) (x : ℕ) → F x → All F (x ∷ [])
all_one F x is = All-cons F x [] is (All-nil F)

pub all_none : (F : ℕ → Type 0) → All F []
all_none F = All-nil F

-- one entry more, with the lengths that the lists have
pub told_one : (a b : Account) (e : Entry) → is_answer e ≡ true → b.entries ≡ a.entries ++ noted b.loads (e ∷ []) → answers_in b.entries ≡ answers_in a.entries ++ noted b.loads (e ∷ [])
told_one a b e answers more =
    ap answers_in more
    ∙ (filter-append (λ (n : Noted). is_answer n.entry) a.entries (noted b.loads (e ∷ []))
    ∙ ap (λ (t : Bool). answers_in a.entries ++ cond t (noted b.loads (e ∷ [])) []) answers)

entries_noted : (l : Loads) (es : List Entry) → map (λ (n : Noted). n.entry) (noted l es) ≡ es
entries_noted l [] = refl
entries_noted l (e ∷ es) = ap (λ rest. e ∷ rest) (entries_noted l es)

-- the entries that an answer adds are those that it prints
pub answered_entries : (k : Shape) (c : Caller) (a b : Account) (answer : Answer) → IsAnswered k c a b answer → entries_in b ≡ entries_in a ++ tells c answer
answered_entries k c a b answer is =
    ap (map (λ (n : Noted). n.entry)) is.noted_are
    ∙ (map-append (λ (n : Noted). n.entry) (answers_in a.entries) (noted b.loads (tells c answer))
    ∙ ap (λ rest. entries_in a ++ rest) (entries_noted b.loads (tells c answer)))

-- a loader stays one
pub loader_stays : (c d : Seated) → d.account.who ≡ c.account.who → IsLoader c → IsLoader d
loader_stays c d same is = subst (λ (w : Who). w ≡ Loader (number_in w)) (sym same) is

-- ---- what holds after any error

pub on_err : {A E : Type 0} {P : Type 0} (r : Result A E) → P → OnErr r P
on_err (Ok x) is = tt
on_err (Err e) is = is

pub if_err : {A E : Type 0} {P : Type 0} (r : Result A E) → P → IfErr r (λ e. P)
if_err (Ok x) is = tt
if_err (Err e) is = is
