-- A caller at rest stays so where it takes a page.
use Rattle.std.proofs.Common.{◌≡◌, ℕ, List, [], ◌∷◌, ◌++◌, refl, ap, ◌∙◌, ⊎_elim, ◌+◌, ◌<◌, ◌≤◌, length, length-append, arith}
use Rattle.std.specs.Prelude.{Result, Ok, Err, IfOk, IfErr}
use Rattle.htss_defs.specs.declared.shape.Shape.{Shape}
use Rattle.board_core.specs.declared.account.Account.{Account}
use Rattle.board_core.specs.declared.log.Holding.{Holding}
use Rattle.board_core.specs.Loaded.{IsPage}
use Rattle.board_core.specs.After.{after_pass}
use Rattle.board.specs.Seated.{Place, Seated, IsOf, IsAtRest, with_stock}
use Rattle.page_pool.specs.Taking.{all_passed, HasScanned, HasFound, IsGiven, IsRefused}
use Rattle.page_pool.specs.declared.takes.NoPage.{NoPage}
use Rattle.page_pool.proofs.Passing.{risen_is}
use Rattle.page_pool.proofs.Giving.{found_stock}
use Rattle.board_core.specs.CountRule.{most_own}
use Rattle.class_tree.specs.Inserting.{IsStocked}
use Rattle.tree_tests.specs.Ready.{WasGiven}

-- what a caller at rest has of the lock, and what it has announced
abbrev Resting : Type 0
Resting = Holding × ℕ

abbrev rest_in : Account → Resting
rest_in a = (a.log.holding, a.pool.announced)

abbrev rest_of : Seated → Resting
rest_of c = rest_in c.account

passed_rest : (a : Account) (ns : List ℕ) → rest_in (all_passed a ns) ≡ rest_in a
passed_rest a [] = refl
passed_rest a (n ∷ ns) = passed_rest (after_pass a n) ns

scanned_rest : (k : Shape) (c d : Seated) → HasScanned k c d → rest_of d ≡ rest_of c
scanned_rest k c d s = ap rest_of s.passed.after ∙ (passed_rest s.middle.account s.passed.announced ∙ ap rest_of (risen_is c s.middle s.epoch s.risen))

found_rest : (k : Shape) (c d : Seated) (page : ℕ) → HasFound k c d page → rest_of d ≡ rest_of c
found_rest k c d page f = ap rest_of f.after ∙ (ap rest_of f.taken.after ∙ scanned_rest k c f.middle f.scanned)

given_rest : (k : Shape) (c d : Seated) (page : ℕ) → IsGiven k c d page → rest_of d ≡ rest_of c
given_rest k c d page g = ⊎_elim
    (λ (t : (d ≡ with_stock c d.stock) × (c.stock ≡ d.stock ++ page ∷ [])). ap rest_of t.0)
    (λ (t : (c.stock ≡ []) × HasFound k c d page). found_rest k c d page t.1)
    g.from

refused_rest : (k : Shape) (c d : Seated) → IsRefused k c d → rest_of d ≡ rest_of c
refused_rest k c d r = ap rest_of r.after ∙ (ap rest_of r.looked.after ∙ scanned_rest k c r.middle r.scanned)

taken_rest : (k : Shape) (c d : Seated) (r : Result ℕ NoPage) → IfOk r (λ page. IsPage k page × IsGiven k c d page) → IfErr r (λ _. (c.stock ≡ []) × IsRefused k c d) → rest_of d ≡ rest_of c
taken_rest k c d (Ok page) ok err = given_rest k c d page ok.1
taken_rest k c d (Err e) ok err = refused_rest k c d err.1

pub take_rests : (k : Shape) (b : Place) (c d : Seated) (r : Result ℕ NoPage) → IfOk r (λ page. IsPage k page × IsGiven k c d page) → IfErr r (λ _. (c.stock ≡ []) × IsRefused k c d) → IsOf b d → IsAtRest b c → IsAtRest b d
take_rests k b c d r ok err of rest = let same = taken_rest k c d r ok err in record {
  of = of;
  free = ap (λ (x : Resting). x.0) same ∙ rest.free;
  unpinned = ap (λ (x : Resting). x.1) same ∙ rest.unpinned;
}

-- ---- how many it was given

pub few_given : (c : Seated) (count : ℕ) → WasGiven c count → count < 32 → length c.account.pool.own < most_own
few_given c count g less = let own = g.own in let most = g.most in omega arith

given_most : (k : Shape) (c d : Seated) (page count : ℕ) → IsGiven k c d page → count < 32 → length c.stock + count ≤ 32 → length d.stock + (count + 1) ≤ 32
given_most k c d page count g less most = ⊎_elim
    (λ (t : (d ≡ with_stock c d.stock) × (c.stock ≡ d.stock ++ page ∷ [])). let one = ap length t.1 ∙ length-append d.stock (page ∷ []) in omega arith)
    (λ (t : (c.stock ≡ []) × HasFound k c d page). let none = ap length (found_stock k c d page t.1 ∙ t.0) in omega arith)
    g.from

pub take_given : (k : Shape) (c d : Seated) (r : Result ℕ NoPage) (count : ℕ) → IfOk r (λ page. IsPage k page × IsGiven k c d page) → count < 32 → WasGiven c count → IfOk r (λ _. WasGiven d (count + 1))
take_given k c d (Ok page) count ok less g = let more = ok.1.more in let own = g.own in record { own = omega arith; most = given_most k c d page count ok.1 less g.most }
take_given k c d (Err e) count ok less g = tt

pub stocked_given : (c : Seated) → IsStocked c → WasGiven c 0
stocked_given c s = let few = s.few in let size = s.size in record { own = omega arith; most = omega arith }
