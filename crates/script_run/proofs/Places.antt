-- The places of callers, and lists read and changed by their places.
use Rattle.std.proofs.Common.{◌≡◌, ℕ, zero, suc, ◌+◌, ◌-◌, ◌<◌, ◌≤◌, Bool, true, false, cond, List, [], ◌∷◌, length, get_or, refl, sym, ap, ◌∙◌, arith, eqb-true, eq-eqb, ltb, ltb-true, ltb-false}
use mathlib.Core.Option.{some, some-injective, some-ne-none}
use lib.ListN.{get_elem?}
use Rattle.htss_defs.specs.declared.shape.Shape.{Shape}
use Rattle.report_rules.specs.Dealing.{Caller, loader, searcher}
use Rattle.report_rules.specs.Rules.{is_same}
use Rattle.board_core.specs.declared.account.Who.TheVariants.{Loader, Searcher}
use Rattle.board_core.specs.Accounts.{caller_after}
use Rattle.board_jobs.specs.Answering.{who_of}
use Rattle.board_jobs.specs.Groups.{place_of}
use Rattle.board_jobs.specs.Ends.{caller_at}

-- ---- callers

pub same_caller : (c d : Caller) → is_same c d ≡ true → c ≡ d
same_caller (loader n) (loader m) e = ap loader (eqb-true n m e)
same_caller (searcher n) (searcher m) e = ap searcher (eqb-true n m e)
same_caller (loader n) (searcher m) e = absurd cc
same_caller (searcher n) (loader m) e = absurd cc

pub same_itself : (c : Caller) → is_same c c ≡ true
same_itself (loader n) = eq-eqb n n refl
same_itself (searcher n) = eq-eqb n n refl

-- the caller at a place, where it is known whether a loader stands there
abbrev at_chosen : Shape → ℕ → Bool → Caller
at_chosen k i b = cond b (loader (i + 1)) (searcher (i + 1 - k.loaders))

place_chosen : (k : Shape) (i : ℕ) (b : Bool) → ltb i k.loaders ≡ b → place_of k (at_chosen k i b) ≡ i
place_chosen k i true e = omega arith
place_chosen k i false e = let past = ltb-false i k.loaders e in omega arith

pub place_at : (k : Shape) (i : ℕ) → place_of k (caller_at k i) ≡ i
place_at k i = place_chosen k i (ltb i k.loaders) refl

who_chosen : (k : Shape) (i : ℕ) (b : Bool) → who_of (at_chosen k i b) ≡ cond b (Loader (i + 1)) (Searcher (i + 1 - k.loaders))
who_chosen k i true = refl
who_chosen k i false = refl

pub who_at : (k : Shape) (i : ℕ) → who_of (caller_at k i) ≡ caller_after k i
who_at k i = who_chosen k i (ltb i k.loaders)

-- the caller has a place among so many
pub record IsSeat (k : Shape) (n : ℕ) (c : Caller) : Type 0 where
  pub within : place_of k c < n
  pub at : caller_at k (place_of k c) ≡ c

loader_chosen : (k : Shape) (i : ℕ) (b : Bool) → ltb i k.loaders ≡ b → i < k.loaders → at_chosen k i b ≡ loader (1 + i)
loader_chosen k i true e below = ap loader (omega arith)
loader_chosen k i false e below = let past = ltb-false i k.loaders e in absurd (omega arith)

searcher_chosen : (k : Shape) (i j : ℕ) (b : Bool) → ltb j k.loaders ≡ b → j ≡ k.loaders + i → at_chosen k j b ≡ searcher (1 + i)
searcher_chosen k i j true e is = let below = ltb-true j k.loaders e in absurd (omega arith)
searcher_chosen k i j false e is = ap searcher (omega arith)

pub loader_seat : (k : Shape) (i n : ℕ) → i < k.loaders → k.loaders ≤ n → IsSeat k n (loader (1 + i))
loader_seat k i n below all =
    let p : 1 + i - 1 ≡ i = omega arith in record {
      within = omega arith;
      at = ap (λ (m : ℕ). caller_at k m) p ∙ loader_chosen k i (ltb i k.loaders) refl below;
    }

pub searcher_seat : (k : Shape) (i n : ℕ) → i < k.searchers → k.loaders + k.searchers ≤ n → IsSeat k n (searcher (1 + i))
searcher_seat k i n below all =
    let j : ℕ = k.loaders + (1 + i - 1) in
    let p : j ≡ k.loaders + i = omega arith in record {
      within = omega arith;
      at = searcher_chosen k i j (ltb j k.loaders) refl p;
    }

-- ---- lists

module _ {A : Type 0} where
  pub there : (l : List A) (i : ℕ) → i < length l → (a : A) × (get_elem? l i ≡ some a)
  there [] i h = absurd (omega arith)
  there (x ∷ xs) zero h = (x, refl)
  there (x ∷ xs) (suc i) h = there xs i (omega arith)

  pub or_there : (l : List A) (i : ℕ) (a d : A) → get_elem? l i ≡ some a → get_or l i d ≡ a
  or_there [] i a d e = absurd (some-ne-none a (sym e))
  or_there (x ∷ xs) zero a d e = some-injective x a e
  or_there (x ∷ xs) (suc i) a d e = or_there xs i a d e

  pub one_there : (l : List A) (i : ℕ) (a b : A) → get_elem? l i ≡ some a → get_elem? l i ≡ some b → a ≡ b
  one_there l i a b e f = some-injective a b (sym e ∙ f)

  -- two lists of one length are one where they agree at each place
  pub agree : (l m : List A) → length l ≡ length m → ((i : ℕ) (a b : A) → get_elem? l i ≡ some a → get_elem? m i ≡ some b → a ≡ b) → l ≡ m
  agree [] [] n all = refl
  agree [] (y ∷ ys) n all = absurd (omega arith)
  agree (x ∷ xs) [] n all = absurd (omega arith)
  agree (x ∷ xs) (y ∷ ys) n all = λ k. all 0 x y refl refl k ∷ agree xs ys (omega arith) (λ i. all (suc i)) k
