-- Callers are taken from a list one by one, and their accounts kept.
use Rattle.std.proofs.Common.{◌≡◌, suc, ◌<◌, List, [], ◌∷◌, ◌++◌, map, length, get_or, refl, sym, ap, ◌∙◌, subst, arith, append_assoc}
use Rattle.std.specs.Prelude.{remove}
use Rattle.board_core.specs.declared.account.Account.{Account}
use Rattle.board_core.specs.declared.account.View.{View}
use Rattle.board_core.specs.Each.{Each}
use Rattle.board_core.specs.Accounts.{accounts_in, keeping, view}
use Rattle.board.specs.Seated.{Place, Seated, IsAtRest, account_of}

pub first_out : (cs ds : List Seated) (x : Seated) → 0 < length cs → x ≡ get_or cs 0 x → ds ≡ remove cs 0 → cs ≡ x ∷ ds
first_out [] ds x any v r = absurd (omega arith)
first_out (y ∷ ys) ds x any v r = λ i. sym v i ∷ sym r i

pub rest_of : (b : Place) (cs ds : List Seated) (x : Seated) → cs ≡ x ∷ ds → Each (IsAtRest b) cs → Each (IsAtRest b) ds
rest_of b cs ds x e all = let those : Each (IsAtRest b) (x ∷ ds) = subst (λ (l : List Seated). Each (IsAtRest b) l) e all in λ j. those (suc j)

pub first_of_all : (b : Place) (cs ds : List Seated) (x : Seated) → cs ≡ x ∷ ds → Each (IsAtRest b) cs → IsAtRest b x
first_of_all b cs ds x e all = let those : Each (IsAtRest b) (x ∷ ds) = subst (λ (l : List Seated). Each (IsAtRest b) l) e all in those 0 x refl

pub accounts_first : (v : View) (cs ds : List Seated) (x : Seated) → cs ≡ x ∷ ds → v.kept ≡ [] → v.me ≡ x.account → accounts_in v ++ map account_of ds ≡ map account_of cs
accounts_first v cs ds x e alone same = (λ i. (same i ∷ alone i) ++ map account_of ds) ∙ ap (map account_of) (sym e)

pub accounts_next : (v w : View) (cs ds : List Seated) (x : Seated) (all : List Account) → cs ≡ x ∷ ds → w ≡ keeping v (view x.shape x.account)
    → accounts_in v ++ map account_of cs ≡ all → accounts_in w ++ map account_of ds ≡ all
accounts_next v w cs ds x all e is before = ap (λ (u : View). accounts_in u ++ map account_of ds) is
    ∙ (append_assoc (accounts_in v) (x.account ∷ []) (map account_of ds) ∙ (ap (λ (l : List Seated). accounts_in v ++ map account_of l) (sym e) ∙ before))
