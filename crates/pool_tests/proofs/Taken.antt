-- What a loader that keeps no page has after it took one, or gave one back.
use Rattle.std.proofs.Common.{◌≡◌, ℕ, ◌+◌, ◌<◌, ◌≤◌, List, [], ◌∷◌, ◌++◌, length, sym, ap, ◌∙◌, subst, arith, ⊎_elim, length-append}
use mathlib.Core.Option.{some-ne-none}
use mathlib.Core.Logic.{dite}
use native.Mathlib.Decide.{ℕ_discrete}
use lib.ListN.{get_elem?}
use Rattle.htss_defs.specs.declared.shape.Shape.{Shape}
use Rattle.board_core.specs.declared.pool.Own.{Own}
use Rattle.board_core.specs.MarkRule.{IsAmong}
use Rattle.board_core.specs.Sheets.{owns}
use Rattle.board_core.specs.Loaded.{HasOwn, IsPage}
use Rattle.board.specs.Seated.{Seated, with_stock}
use Rattle.page_pool.specs.Taking.{HasFound, IsGiven, IsRefused}
use Rattle.std.specs.Prelude.{Result, Ok, Err, IfOk, IfErr}
use Rattle.page_pool.specs.declared.takes.NoPage.{NoPage}
use Rattle.page_pool.proofs.Giving.{found_stock}

pub none_among : (l : List ℕ) (p : ℕ) → l ≡ [] → ¬ (IsAmong l p)
none_among l p e t = some-ne-none p (sym t.1 ∙ ap (λ (m : List ℕ). get_elem? m t.0) e)

pub given_keeps : (k : Shape) (c d : Seated) (page p : ℕ) → IsGiven k c d page → HasOwn c.account p → HasOwn d.account p
given_keeps k c d page p g own = dite (ℕ_discrete p page)
    (λ same. subst (HasOwn d.account) (sym same) g.own)
    (λ other. let e = g.others p other in omega arith)

pub refused_keeps : (k : Shape) (c d : Seated) (p : ℕ) → IsRefused k c d → HasOwn c.account p → HasOwn d.account p
refused_keeps k c d p r own = subst (λ (os : List Own). 0 < owns p os) (sym r.own) own

snoc_none : (l : List ℕ) (p : ℕ) → l ++ p ∷ [] ≡ [] → ⊥
snoc_none l p e = let long = length-append l (p ∷ []) in let none : length (l ++ p ∷ []) ≡ 0 = ap (λ (m : List ℕ). length m) e in omega arith

given_bare : (k : Shape) (c d : Seated) (page : ℕ) → IsGiven k c d page → c.stock ≡ [] → d.stock ≡ []
given_bare k c d page g bare = ⊎_elim
    (λ (t : (d ≡ with_stock c d.stock) × (c.stock ≡ d.stock ++ page ∷ [])). absurd (snoc_none d.stock page (sym t.1 ∙ bare)))
    (λ (t : (c.stock ≡ []) × HasFound k c d page). found_stock k c d page t.1 ∙ bare)
    g.from

pub taken_bare : (k : Shape) (c d : Seated) (r : Result ℕ NoPage) → IfOk r (λ page. IsPage k page × IsGiven k c d page) → IfErr r (λ _. (c.stock ≡ []) × IsRefused k c d) → c.stock ≡ [] → d.stock ≡ []
taken_bare k c d (Ok page) ok err bare = given_bare k c d page ok.1 bare
taken_bare k c d (Err e) ok err bare = err.1.stock ∙ bare

-- and where it kept at most one, it keeps none
pub given_few : (k : Shape) (c d : Seated) (page : ℕ) → IsGiven k c d page → length c.stock ≤ 1 → length d.stock ≡ 0
given_few k c d page g few = ⊎_elim
    (λ (t : (d ≡ with_stock c d.stock) × (c.stock ≡ d.stock ++ page ∷ [])). let long : length c.stock ≡ length d.stock + 1 = ap length t.1 ∙ length-append d.stock (page ∷ []) in omega arith)
    (λ (t : (c.stock ≡ []) × HasFound k c d page). let none : length d.stock ≡ 0 = ap length (found_stock k c d page t.1 ∙ t.0) in none)
    g.from

-- how many pages it has then
given_own : (k : Shape) (c d : Seated) (page n : ℕ) → IsGiven k c d page → length c.account.pool.own ≤ n → length d.account.pool.own ≤ n + 1
given_own k c d page n g few = ⊎_elim
    (λ (t : (d ≡ with_stock c d.stock) × (c.stock ≡ d.stock ++ page ∷ [])). let same = ap (λ (x : Seated). length x.account.pool.own) t.0 in omega arith)
    (λ (t : (c.stock ≡ []) × HasFound k c d page). let more = g.more in let same = ap length (found_stock k c d page t.1) in omega arith)
    g.from

pub taken_own : (k : Shape) (c d : Seated) (r : Result ℕ NoPage) (n : ℕ) → IfOk r (λ page. IsPage k page × IsGiven k c d page) → IfErr r (λ _. (c.stock ≡ []) × IsRefused k c d) → length c.account.pool.own ≤ n → length d.account.pool.own ≤ n + 1
taken_own k c d (Ok page) n ok err few = given_own k c d page n ok.1 few
taken_own k c d (Err e) n ok err few = let same : length d.account.pool.own ≡ length c.account.pool.own = ap length err.1.own in omega arith
