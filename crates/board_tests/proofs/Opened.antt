-- The callers of a board that was just opened, as they are taken out one after the other.
use Rattle.std.proofs.Common.{◌≡◌, ℕ, ◌+◌, ◌-◌, ◌<◌, ◌≤◌, cond, nat_lt, Bool, true, List, [], ◌∷◌, length, get_or, refl, sym, ap, ◌∙◌, subst, arith}
use Rattle.std.specs.Prelude.{remove}
use Rattle.board_core.specs.declared.account.Account.{Account}
use Rattle.board_core.specs.declared.account.Who.{Who}
use Rattle.board_core.specs.declared.account.Who.TheVariants.{Loader, Searcher}
use Rattle.board.specs.Seated.{Place, Seated, IsNew, AreNew, IsLoader, IsAtRest, number_in}
use Rattle.board.proofs.Gathers.{first_out}
use Rattle.board_jobs.specs.Calls.{IsAtWork}
use Rattle.board_jobs.proofs.Chained.{new_ready}
use Rattle.script_run.specs.Working.{AreCallers}

pub new_rests : (b : Place) (n : ℕ) (c : Seated) → IsNew b n c → IsAtRest b c
new_rests b n c new = record {
  of = new.of;
  free = ap (λ (a : Account). a.log.holding) new.account;
  unpinned = ap (λ (a : Account). a.pool.announced) new.account;
}

pub new_loader : (b : Place) (n loaders : ℕ) (c : Seated) → b.shape.loaders ≡ loaders → nat_lt n loaders ≡ true → IsNew b n c → IsLoader c
new_loader b n loaders c same below new =
    let who : c.account.who ≡ Loader (n + 1) = ap (λ (a : Account). a.who) new.account ∙ (ap (λ (m : ℕ). cond (nat_lt n m) (Loader (n + 1)) (Searcher (n + 1 - m))) same
    ∙ ap (λ (t : Bool). cond t (Loader (n + 1)) (Searcher (n + 1 - loaders))) below) in
    subst (λ (w : Who). w ≡ Loader (number_in w)) (sym who) refl

pub new_at_work : (b : Place) (n : ℕ) (c : Seated) → IsNew b n c → IsAtWork b c
new_at_work b n c new = record {
  of = new.of;
  ready = new_ready b n c new;
}

new_callers : (b : Place) (cs : List Seated) → length cs ≡ b.shape.loaders + b.shape.searchers → AreNew b cs → AreCallers b cs
new_callers b cs count new = record {
  count = count;
  each = λ i c at. let work = new_at_work b i c (new i c at) in (work.of, ap (λ (x : Account). x.who) (new i c at).account, work.ready);
}

nothing : (cs : List Seated) → length cs ≡ 0 → cs ≡ []
nothing [] e = λ _. []
nothing (c ∷ cs) e = absurd (omega arith)

-- two callers that were taken out, and those that are left
pub two_of : (cs ds es : List Seated) (x y : Seated) → 1 < length cs → x ≡ get_or cs 0 x → ds ≡ remove cs 0 → y ≡ get_or ds 0 y → es ≡ remove ds 0 → cs ≡ x ∷ y ∷ es
two_of cs ds es x y many value rest next last =
    let e : cs ≡ x ∷ ds = first_out cs ds x (omega arith) value rest in
    let len : length cs ≡ length (x ∷ ds) = ap (λ (l : List Seated). length l) e in
    e ∙ ap (λ (l : List Seated). x ∷ l) (first_out ds es y (omega arith) next last)

-- the callers of a board that has two
pub record Two (b : Place) (x y : Seated) : Type 0 where
  pub first : IsNew b 0 x
  pub second : IsNew b 1 y
  pub all : AreCallers b (x ∷ y ∷ [])

pub two_new : (b : Place) (cs ds es : List Seated) (x y : Seated) → length cs ≡ 2 → b.shape.loaders + b.shape.searchers ≡ 2 → x ≡ get_or cs 0 x → ds ≡ remove cs 0 → y ≡ get_or ds 0 y → es ≡ remove ds 0 → AreNew b cs → Two b x y
two_new b cs ds es x y two count value rest next last new =
    let e : cs ≡ x ∷ y ∷ es = two_of cs ds es x y (omega arith) value rest next last in
    let len : length cs ≡ length (x ∷ y ∷ es) = ap (λ (l : List Seated). length l) e in
    let f : cs ≡ x ∷ y ∷ [] = e ∙ ap (λ (l : List Seated). x ∷ y ∷ l) (nothing es (omega arith)) in
    let those : AreNew b (x ∷ y ∷ []) = subst (AreNew b) f new in record {
      first = those 0 x refl;
      second = those 1 y refl;
      all = new_callers b (x ∷ y ∷ []) (sym count) those;
    }

-- the first three callers of a board that has as many
pub record Three (b : Place) (x y z : Seated) : Type 0 where
  pub first : IsNew b 0 x
  pub second : IsNew b 1 y
  pub third : IsNew b 2 z

pub three_new : (b : Place) (cs ds es fs : List Seated) (x y z : Seated) → length cs ≡ 3 → x ≡ get_or cs 0 x → ds ≡ remove cs 0 → y ≡ get_or ds 0 y → es ≡ remove ds 0
    → z ≡ get_or es 0 z → fs ≡ remove es 0 → AreNew b cs → Three b x y z
three_new b cs ds es fs x y z three value rest next last third end new =
    let e : cs ≡ x ∷ y ∷ es = two_of cs ds es x y (omega arith) value rest next last in
    let len : length cs ≡ length (x ∷ y ∷ es) = ap (λ (l : List Seated). length l) e in
    let f : es ≡ z ∷ fs = first_out es fs z (omega arith) third end in
    let those : AreNew b (x ∷ y ∷ z ∷ fs) = subst (AreNew b) (e ∙ ap (λ (l : List Seated). x ∷ y ∷ l) f) new in
    record { first = those 0 x refl; second = those 1 y refl; third = those 2 z refl }
