-- Callers that are not pinned, and keep no page: those of a board that was just opened, and what calls of the pool leave of them.
use Rattle.std.proofs.Common.{◌≡◌, ℕ, suc, ◌+◌, ◌<◌, true, List, [], ◌∷◌, length, get_or, true≢false, refl, sym, ap, subst, arith, ◌≤◌}
use Rattle.std.specs.Prelude.{remove}
use Rattle.std.specs.List.{All}
use Rattle.std.proofs.lemmas.List.Elements.{All-nil, All-cons, All-head, All-tail}
use mathlib.Core.Option.{some}
use lib.ListN.{get_elem?}
use Rattle.board_core.specs.declared.account.Account.{Account}
use Rattle.board_core.specs.declared.account.Who.{Who}
use Rattle.board_core.specs.declared.account.Who.TheVariants.{Opener, Loader, Searcher, Note, Gone}
use Rattle.board.specs.Seated.{Place, Seated, IsNew, AreNew, IsLoader, is_loader, number_in}
use Rattle.board.proofs.Gathers.{first_out}
use Rattle.pool_tests.specs.Ready.{IsIdle, IsResting, IsReady}

-- ---- a board that was just opened

new_idle : (b : Place) (n : ℕ) (c : Seated) → IsNew b n c → IsIdle b c
new_idle b n c new = record { of = new.of; unpinned = ap (λ (a : Account). a.pool.announced) new.account; own = ap (λ (a : Account). a.pool.own) new.account; bare = new.stock }

idle_from : (b : Place) (n : ℕ) (cs : List Seated) → ((i : ℕ) (c : Seated) → get_elem? cs i ≡ some c → IsNew b (n + i) c) → All (IsIdle b) cs
idle_from b n [] new = All-nil (IsIdle b)
idle_from b n (c ∷ cs) new = All-cons (IsIdle b) c cs (new_idle b (n + 0) c (new 0 c refl))
    (idle_from b (suc n) cs (λ i x there. subst (λ (m : ℕ). IsNew b m x) (let e : n + suc i ≡ suc n + i = omega arith in e) (new (suc i) x there)))

pub new_callers : (b : Place) (cs : List Seated) → AreNew b cs → All (IsIdle b) cs
new_callers b cs new = idle_from b 0 cs (λ i c there. subst (λ (m : ℕ). IsNew b m c) (let e : i ≡ 0 + i = omega arith in e) (new i c there))

idle_rests : (b : Place) (c : Seated) → IsIdle b c → IsResting b c
idle_rests b c i = record { of = i.of; unpinned = i.unpinned; own = (let none : length c.account.pool.own ≡ 0 = ap length i.own in omega arith); few = let none : length c.stock ≡ 0 = ap length i.bare in omega arith }

pub all_resting : (b : Place) (cs : List Seated) → All (IsIdle b) cs → All (IsResting b) cs
all_resting b [] all = All-nil (IsResting b)
all_resting b (c ∷ cs) all = All-cons (IsResting b) c cs (idle_rests b c (All-head (IsIdle b) c cs all)) (all_resting b cs (All-tail (IsIdle b) c cs all))

-- the first of them is taken out
pub one_out : (b : Place) (cs ds : List Seated) (x : Seated) → 0 < length cs → x ≡ get_or cs 0 x → ds ≡ remove cs 0 → All (IsIdle b) cs → IsIdle b x × All (IsIdle b) ds
one_out b cs ds x some_caller value rest all =
    let those : All (IsIdle b) (x ∷ ds) = subst (All (IsIdle b)) (first_out cs ds x some_caller value rest) all in
    (All-head (IsIdle b) x ds those, All-tail (IsIdle b) x ds those)

pub resting_out : (b : Place) (cs ds : List Seated) (x : Seated) → 0 < length cs → x ≡ get_or cs 0 x → ds ≡ remove cs 0 → All (IsResting b) cs → IsResting b x
resting_out b cs ds x some_caller value rest all = All-head (IsResting b) x ds (subst (All (IsResting b)) (first_out cs ds x some_caller value rest) all)

-- a caller that says that it is a loader
loader_who : (w : Who) → is_loader w ≡ true → w ≡ Loader (number_in w)
loader_who (Loader n) e = refl
loader_who (Opener n) e = absurd (true≢false (sym e))
loader_who (Searcher n) e = absurd (true≢false (sym e))
loader_who Note e = absurd (true≢false (sym e))
loader_who Gone e = absurd (true≢false (sym e))

pub loader_is : (c : Seated) → is_loader c.account.who ≡ true → IsLoader c
loader_is c e = loader_who c.account.who e

pub idle_ready : (b : Place) (c : Seated) → IsIdle b c → is_loader c.account.who ≡ true → IsReady b c 0
idle_ready b c i e = record { of = i.of; loader = loader_is c e; own = (let none : length c.account.pool.own ≡ 0 = ap length i.own in omega arith); bare = i.bare }
