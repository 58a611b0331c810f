-- Epochs that rise, and scans of all announcements.
use Rattle.std.proofs.Common.{◌≡◌, ◌≢◌, ℕ, zero, suc, cond, min, ◌+◌, ◌-◌, ◌<◌, ◌≤◌, ◌⊎◌, inl, inr, ⊎_elim, List, [], ◌∷◌, ◌++◌, length, refl, sym, ap, ◌∙◌, subst, arith, length-append, eq-eqb, ne_eqb}
use mathlib.Core.Option.{some, some-injective, some-ne-none}
use mathlib.Core.Logic.{dite}
use native.Mathlib.Decide.{ℕ_discrete}
use lib.ListN.{get_elem?}
use Rattle.board_core.proofs.Lists.{at_last}
use Rattle.htss_defs.specs.declared.shape.Shape.{Shape}
use Rattle.board_core.specs.declared.account.Account.{Account}
use Rattle.board_core.specs.Each.{Each}
use Rattle.board_core.specs.EpochRule.{IsPast, last_epoch}
use Rattle.board_core.specs.Loaded.{HasEpoch, IsPage}
use Rattle.board_core.proofs.PageSums.{parts_stamped, stamp_given}
use Rattle.board_core.specs.After.{after_epoch, after_pass, lower}
use Rattle.board_core.specs.Steps.{MayPass, MayRetire}
use Rattle.board_core.specs.declared.account.Who.{Who}
use Rattle.board_core.specs.declared.account.Who.TheVariants.{Loader}
use Rattle.board.specs.Seated.{Place, Seated, IsOf, IsLoader, number_in, with_account}
use Rattle.page_pool.specs.Taking.{IsUnstamped, IsLeast, risen_to, HasTried, HasRisen, all_passed, HasPassed, HasScanned}

-- the epoch that was just loaded
pub has_epoch : (a : Account) (e : ℕ) → HasEpoch (after_epoch a e) e
has_epoch a e = (length a.loads.epochs, at_last a.loads.epochs e (length a.loads.epochs) refl)

-- a page may be retired with it
pub may_retire : (k : Shape) (c d : Seated) (page epoch : ℕ) → d ≡ with_account c (after_epoch c.account epoch) → 0 < epoch → IsPage k page → IsUnstamped c.account page → MayRetire k d.account page epoch
may_retire k c d page epoch is above within (one, none) = let same = parts_stamped epoch page c.account.pool.parted in
    subst (λ (x : Seated). MayRetire k x.account page epoch) (sym is) record { inside = within; parted = (above, omega arith, stamp_given epoch page c.account.pool.parted one none) }

-- the epoch loaded at last is later, or the last
pub has_risen : (c d f g : Seated) (first epoch : ℕ) → d ≡ with_account c (after_epoch c.account first) → HasTried first d f → g ≡ with_account f (after_epoch f.account epoch) → 0 < epoch → epoch ≤ last_epoch → Each (IsPast epoch) f.account.loads.epochs → f.account.pool.risen ≤ epoch → HasRisen c g epoch
has_risen c d f g first epoch loaded tried after above most later risen =
    let t : HasTried first (with_account c (after_epoch c.account first)) f = subst (λ (x : Seated). HasTried first x f) loaded tried in
    let known : f.account.pool.risen ≡ t.risen = ap (λ (x : Seated). x.account.pool.risen) t.after in
    let past : IsPast epoch first = (subst (λ (x : Seated). Each (IsPast epoch) x.account.loads.epochs) t.after later) (length c.account.loads.epochs) first (at_last c.account.loads.epochs first (length c.account.loads.epochs) refl) in
    let reached : first ≤ epoch = past.1 in record {
      first = first;
      middle = f;
      tried = t;
      above = above;
      later = ⊎_elim
          (λ (u : (first < last_epoch) × (t.risen ≡ first + 1)). let next = u.1 in inl (omega arith))
          (λ (u : (first ≡ last_epoch) × (t.risen ≡ c.account.pool.risen)). let last = u.0 in inr (omega arith))
          t.come;
      after = after;
    }

-- the account after all three
pub risen_is : (c d : Seated) (epoch : ℕ) (r : HasRisen c d epoch) → d ≡ with_account c (after_epoch (risen_to (after_epoch c.account r.first) r.tried.risen) epoch)
risen_is c d epoch r = r.after ∙ ap (λ (x : Seated). with_account x (after_epoch x.account epoch)) r.tried.after

-- ---- the announcements

passed_more : (a : Account) (ns : List ℕ) (n : ℕ) → all_passed a (ns ++ n ∷ []) ≡ after_pass (all_passed a ns) n
passed_more a [] n = refl
passed_more a (m ∷ ns) n = passed_more (after_pass a m) ns n

passed_count : (a : Account) (ns : List ℕ) → (all_passed a ns).pool.passed ≡ a.pool.passed + length ns
passed_count a [] = omega arith
passed_count a (n ∷ ns) = let rest = passed_count (after_pass a n) ns in omega arith

-- where a scan stands after so many callers
pub record IsPassing (index low : ℕ) (c d : Seated) : Type 0 where
  pub passed : HasPassed index c d
  pub low_is : d.account.pool.low ≡ low

pub passing_none : (low : ℕ) (c : Seated) → c.account.pool.low ≡ low → IsPassing 0 low c c
passing_none low c is = record { passed = record { announced = []; all = refl; after = refl }; low_is = is }

pub passing_of : (index low : ℕ) (b : Place) (c d : Seated) → IsPassing index low c d → IsOf b c → IsOf b d
passing_of index low b c d p of = subst (IsOf b) (sym p.passed.after) record { table = of.table; shape = of.shape }

pub may_pass : (k : Shape) (index low : ℕ) (c d : Seated) → IsPassing index low c d → c.account.pool.passed ≡ 0 → index < k.loaders + k.searchers → MayPass k d.account index
may_pass k index low c d p fresh within = record {
  here = ap (λ (x : Seated). x.account.pool.passed) p.passed.after ∙ (passed_count c.account p.passed.announced ∙ (let all = p.passed.all in omega arith));
  inside = within;
}

pub passing_next : (index low n new : ℕ) (c d e : Seated) → IsPassing index low c d → e ≡ with_account d (after_pass d.account n) → lower low n ≡ new → IsPassing (index + 1) new c e
passing_next index low n new c d e p after is = record {
  passed = record {
    announced = p.passed.announced ++ n ∷ [];
    all = length-append p.passed.announced (n ∷ []) ∙ (let all = p.passed.all in omega arith);
    after = after ∙ (ap (λ (x : Seated). with_account x (after_pass x.account n)) p.passed.after ∙ ap (with_account c) (sym (passed_more c.account p.passed.announced n)));
  };
  low_is = ap (λ (x : Seated). x.account.pool.low) after ∙ (ap (λ (z : ℕ). lower z n) p.low_is ∙ is);
}

-- ---- the least epoch

lower_either : (low n : ℕ) → (lower low n ≤ low) × ((n ≢ 0) → lower low n ≤ n) × ((lower low n ≡ low) ⊎ (lower low n ≡ n))
lower_either low n = dite (ℕ_discrete n 0)
    (λ z. let e : lower low n ≡ low = ap (λ b. cond b low (min low n)) (eq-eqb n 0 z) in (omega arith, λ some_n. absurd (some_n z), inl e))
    (λ z. let e : lower low n ≡ min low n = ap (λ b. cond b low (min low n)) (ne_eqb n 0 z) in
    (omega arith, λ _. omega arith, dite (ℕ_discrete (low - n) 0) (λ (less : low - n ≡ 0). inl (omega arith)) (λ (more : low - n ≢ 0). inr (omega arith))))

passed_least : (a : Account) (ns : List ℕ) → IsLeast (all_passed a ns).pool.low a.pool.low ns
passed_least a [] = record { most = omega arith; below = λ i n there. absurd (some-ne-none n (sym there)); one = inl refl }
passed_least a (n ∷ ns) =
    let rest = passed_least (after_pass a n) ns in
    let (falls, found, either) = lower_either a.pool.low n in
    let most : (all_passed (after_pass a n) ns).pool.low ≤ lower a.pool.low n = rest.most in
    least_more (all_passed (after_pass a n) ns).pool.low a.pool.low n ns (lower a.pool.low n) falls found either rest
  where
    below_more : (low n next : ℕ) (ns : List ℕ) → low ≤ next → (n ≢ 0 → next ≤ n) → ((i m : ℕ) → get_elem? ns i ≡ some m → m ≢ 0 → low ≤ m) → (i m : ℕ) → get_elem? (n ∷ ns) i ≡ some m → m ≢ 0 → low ≤ m
    below_more low n next ns most found rest zero m there some_m = let same = some-injective n m there in let below = found (λ z. some_m (sym same ∙ z)) in omega arith
    below_more low n next ns most found rest (suc i) m there some_m = rest i m there some_m

    least_more : (low first n : ℕ) (ns : List ℕ) (next : ℕ) → next ≤ first → (n ≢ 0 → next ≤ n) → (next ≡ first) ⊎ (next ≡ n) → IsLeast low next ns → IsLeast low first (n ∷ ns)
    least_more low first n ns next falls found either r = let most = r.most in record {
      most = omega arith;
      below = below_more low n next ns r.most found r.below;
      one = ⊎_elim
          (λ (t : low ≡ next). ⊎_elim (λ (u : next ≡ first). inl (t ∙ u)) (λ (u : next ≡ n). inr (0, ap some (sym (t ∙ u)))) either)
          (λ (t : (i : ℕ) × (get_elem? ns i ≡ some low)). inr (suc t.0, t.1))
          r.one;
    }

pub scanned : (k : Shape) (c m d : Seated) (epoch : ℕ) → HasRisen c m epoch → HasPassed (k.loaders + k.searchers) m d → HasScanned k c d
scanned k c m d epoch risen passed = record {
  epoch = epoch;
  middle = m;
  risen = risen;
  passed = passed;
  least = subst (λ (x : ℕ × ℕ). IsLeast x.0 x.1 passed.announced) (λ i. (ap (λ (x : Seated). x.account.pool.low) (sym passed.after) i, ap (λ (x : Seated). x.account.pool.low) (risen_is c m epoch risen) i)) (passed_least m.account passed.announced);
}

-- ---- what a scan leaves

pub risen_fresh : (c d : Seated) (epoch : ℕ) → HasRisen c d epoch → (d.account.pool.passed ≡ 0) × (d.account.pool.low ≡ epoch)
risen_fresh c d epoch r = (ap (λ (x : Seated). x.account.pool.passed) r.after, ap (λ (x : Seated). x.account.pool.low) r.after)

pub risen_of : (b : Place) (c d : Seated) (epoch : ℕ) → HasRisen c d epoch → IsOf b c → IsOf b d
risen_of b c d epoch r of = subst (IsOf b) (sym (risen_is c d epoch r)) record { table = of.table; shape = of.shape }

passed_who : (a : Account) (ns : List ℕ) → (all_passed a ns).who ≡ a.who
passed_who a [] = refl
passed_who a (n ∷ ns) = passed_who (after_pass a n) ns

pub scanned_of : (k : Shape) (b : Place) (c d : Seated) → HasScanned k c d → IsOf b c → IsOf b d
scanned_of k b c d s of = let mid = risen_of b c s.middle s.epoch s.risen of in subst (IsOf b) (sym s.passed.after) record { table = mid.table; shape = mid.shape }

pub scanned_who : (k : Shape) (c d : Seated) → HasScanned k c d → d.account.who ≡ c.account.who
scanned_who k c d s = ap (λ (x : Seated). x.account.who) s.passed.after ∙ (passed_who s.middle.account s.passed.announced ∙ ap (λ (x : Seated). x.account.who) (risen_is c s.middle s.epoch s.risen))

pub scanned_loader : (k : Shape) (c d : Seated) → HasScanned k c d → IsLoader c → IsLoader d
scanned_loader k c d s loader = subst (λ (w : Who). w ≡ Loader (number_in w)) (sym (scanned_who k c d s)) loader

pub scanned_passed : (k : Shape) (c d : Seated) → HasScanned k c d → d.account.pool.passed ≡ k.loaders + k.searchers
scanned_passed k c d s = ap (λ (x : Seated). x.account.pool.passed) s.passed.after ∙ (passed_count s.middle.account s.passed.announced ∙ (let fresh = (risen_fresh c s.middle s.epoch s.risen).0 in let all = s.passed.all in omega arith))

pub scanned_stock : (k : Shape) (c d : Seated) → HasScanned k c d → d.stock ≡ c.stock
scanned_stock k c d s = ap (λ (x : Seated). x.stock) s.passed.after ∙ ap (λ (x : Seated). x.stock) (risen_is c s.middle s.epoch s.risen)

passed_own : (a : Account) (ns : List ℕ) → (all_passed a ns).pool.own ≡ a.pool.own
passed_own a [] = refl
passed_own a (n ∷ ns) = passed_own (after_pass a n) ns

pub scanned_own : (k : Shape) (c d : Seated) → HasScanned k c d → d.account.pool.own ≡ c.account.pool.own
scanned_own k c d s = ap (λ (x : Seated). x.account.pool.own) s.passed.after ∙ (passed_own s.middle.account s.passed.announced ∙ ap (λ (x : Seated). x.account.pool.own) (risen_is c s.middle s.epoch s.risen))

passed_counts : (a : Account) (ns : List ℕ) → (all_passed a ns).counts ≡ a.counts
passed_counts a [] = refl
passed_counts a (n ∷ ns) = passed_counts (after_pass a n) ns

pub scanned_counts : (k : Shape) (c d : Seated) → HasScanned k c d → d.account.counts ≡ c.account.counts
scanned_counts k c d s = ap (λ (x : Seated). x.account.counts) s.passed.after ∙ (passed_counts s.middle.account s.passed.announced ∙ ap (λ (x : Seated). x.account.counts) (risen_is c s.middle s.epoch s.risen))

pub scanned_few : (k : Shape) (n : ℕ) (c d : Seated) → HasScanned k c d → length c.account.pool.own < n → length d.account.pool.own < n
scanned_few k n c d s few = let same : length d.account.pool.own ≡ length c.account.pool.own = ap length (scanned_own k c d s) in omega arith

pub scanned_next : (k : Shape) (c d : Seated) → HasScanned k c d → d.next ≡ c.next
scanned_next k c d s = ap (λ (x : Seated). x.next) s.passed.after ∙ ap (λ (x : Seated). x.next) (risen_is c s.middle s.epoch s.risen)
