-- Callers at rest: those of a board that was just opened, and what a publication leaves of them.
use Rattle.std.proofs.Common.{◌≡◌, ℕ, zero, suc, ◌+◌, ◌<◌, ◌≤◌, true, List, [], ◌∷◌, length, true≢false, refl, sym, ap, ◌∙◌, subst, arith}
use Rattle.std.specs.Prelude.{Result, Ok, Err, IfOk, IfErr}
use Rattle.std.specs.List.{All}
use Rattle.std.proofs.lemmas.List.Elements.{All-nil, All-cons, All-head, All-tail}
use mathlib.Core.Option.{some, some-injective, some-ne-none}
use lib.ListN.{get_elem?}
use Rattle.board_core.specs.declared.account.Account.{Account}
use Rattle.board_core.specs.declared.account.Who.{Who}
use Rattle.board_core.specs.declared.account.Who.TheVariants.{Opener, Loader, Searcher, Note, Gone}
use Rattle.board_core.specs.declared.pool.PoolAccount.{PoolAccount}
use Rattle.board_core.specs.Each.{Each}
use Rattle.board_core.specs.MarkRule.{IsAmong}
use Rattle.board_core.specs.Sheets.{owns}
use Rattle.board.specs.Seated.{Place, Seated, IsNew, AreNew, IsLoader, is_loader, number_in, with_account}
use Rattle.class_tree.specs.Inserting.{IsStocked}
use Rattle.tree_tests.specs.Ready.{CanLoad, IsResting}

-- ---- a board that was just opened

new_resting : (b : Place) (n : ℕ) (c : Seated) → IsNew b n c → IsResting b c
new_resting b n c new = (
  record {
    of = new.of;
    free = ap (λ (a : Account). a.log.holding) new.account;
    unpinned = ap (λ (a : Account). a.pool.announced) new.account;
  },
  record {
    own = λ q own. let none : 0 < 0 = subst (λ (a : Account). 0 < owns q a.pool.own) new.account own in absurd (omega arith);
    few = let own : length c.account.pool.own ≡ 0 = ap (λ (a : Account). length a.pool.own) new.account in omega arith;
    size = subst (λ (l : List ℕ). length l ≤ 32) (sym new.stock) (omega arith);
    clean = ap (λ (a : Account). a.pool.parted) new.account;
  },
)

resting_from : (b : Place) (n : ℕ) (cs : List Seated) → ((i : ℕ) (c : Seated) → get_elem? cs i ≡ some c → IsNew b (n + i) c) → All (IsResting b) cs
resting_from b n [] new = All-nil (IsResting b)
resting_from b n (c ∷ cs) new = All-cons (IsResting b) c cs (new_resting b (n + 0) c (new 0 c refl))
    (resting_from b (suc n) cs (λ i x there. subst (λ (m : ℕ). IsNew b m x) (let e : n + suc i ≡ suc n + i = omega arith in e) (new (suc i) x there)))

pub new_callers : (b : Place) (cs : List Seated) → AreNew b cs → All (IsResting b) cs
new_callers b cs new = resting_from b 0 cs (λ i c there. subst (λ (m : ℕ). IsNew b m c) (let e : i ≡ 0 + i = omega arith in e) (new i c there))

-- ---- one of a list is taken out

pub one_out : {A : Type 0} (P : A → Type 0) (cs ds : List A) (x : A) → cs ≡ x ∷ ds → All P cs → P x × All P ds
one_out P cs ds x e all = let those : All P (x ∷ ds) = subst (All P) e all in (All-head P x ds those, All-tail P x ds those)

-- a fact of all, by places
pub each_of_all : {A : Type 0} (P : A → Type 0) (xs : List A) → All P xs → Each P xs
each_of_all P [] all i x there = absurd (some-ne-none x (sym there))
each_of_all P (y ∷ ys) all zero x there = subst P (some-injective y x there) (All-head P y ys all)
each_of_all P (y ∷ ys) all (suc i) x there = each_of_all P ys (All-tail P y ys all) i x there

-- ---- whose the caller is

loader_who : (w : Who) → is_loader w ≡ true → w ≡ Loader (number_in w)
loader_who (Loader n) e = refl
loader_who (Opener n) e = absurd (true≢false (sym e))
loader_who (Searcher n) e = absurd (true≢false (sym e))
loader_who Note e = absurd (true≢false (sym e))
loader_who Gone e = absurd (true≢false (sym e))

pub loader_is : (c : Seated) → is_loader c.account.who ≡ true → IsLoader c
loader_is c e = loader_who c.account.who e

-- ---- its account became this one

stocked_after : (c d : Seated) → d.account.pool ≡ c.account.pool → d.stock ≡ c.stock → IsStocked c → IsStocked d
stocked_after c d pool stock h = record {
  own = λ q own. subst (λ (l : List ℕ). IsAmong l q) (sym stock) (h.own q (subst (λ (p : PoolAccount). 0 < owns q p.own) pool own));
  few = let own : length d.account.pool.own ≡ length c.account.pool.own = ap (λ (p : PoolAccount). length p.own) pool in let same = ap length stock in let few = h.few in omega arith;
  size = subst (λ (l : List ℕ). length l ≤ 32) (sym stock) h.size;
  clean = ap (λ (p : PoolAccount). p.parted) pool ∙ h.clean;
}

pub loads_with : (c d : Seated) (a : Account) → d ≡ with_account c a → a.who ≡ c.account.who → a.pool ≡ c.account.pool → CanLoad c → CanLoad d
loads_with c d a is who pool h = (
  subst (λ (w : Who). w ≡ Loader (number_in w)) (sym (ap (λ (x : Seated). x.account.who) is ∙ who)) h.0,
  stocked_after c d (ap (λ (x : Seated). x.account.pool) is ∙ pool) (ap (λ (x : Seated). x.stock) is) h.1,
)

-- whichever way a call ended
pub either_way : {E : Type 0} {C : Type 0} (r : Result ℕ E) (P : ℕ → Type 0) (Q : E → Type 0) → IfOk r P → IfErr r Q → ((n : ℕ) → P n → C) → ((e : E) → Q e → C) → C
either_way (Ok n) P Q ok err f g = f n ok
either_way (Err e) P Q ok err f g = g e err
