-- The rows, loads and rows given of the parts of a descent, put together.
use Rattle.std.proofs.Common.{◌≡◌, ℕ, zero, suc, ◌+◌, ◌-◌, ◌<◌, ◌≤◌, ◌^◌, ◌⊎◌, Bool, true, false, List, [], ◌∷◌, ◌++◌, length, sym, refl, ap, ◌∙◌, subst, ⊎_elim, arith, inl, inr}
use mathlib.Core.Option.{some, some-injective, some-ne-none}
use lib.ListN.{get_elem?}
use Rattle.board_core.specs.Each.{Each, In}
use Rattle.board_core.proofs.Lists.{each_append}
use Rattle.board_core.proofs.Seen.{has_at}
use Rattle.descent.specs.Seats.{CodeLoad, Seat, load}
use Rattle.board_core.specs.ClassTree.{IsBelow}
use Rattle.descent.specs.Pruned.{AreOnce}
use Rattle.descent.specs.Walks.{Met, rows_of, FewAt, IsSifted, IsGood, IsBad, Gained, Sifts}
use Rattle.descent.proofs.Lists.{in_left, in_right, in_split, in_one, at_none, different_append, few_in}

once_append : (ks ls : List CodeLoad) → AreOnce ks → AreOnce ls → ((k l : CodeLoad) → In k ks → In l ls → k.row ≡ l.row → ⊥) → AreOnce (ks ++ ls)
once_append [] ls a b apart = b
once_append (k ∷ ks) ls a b apart = (
  (λ l h row level. ⊎_elim (λ (t : In l ks). a.0 l t row level) (λ (t : In l ls). apart k l (zero, refl) t (sym row)) (in_split ks ls l h)),
  once_append ks ls a.1 b (λ j l h t e. apart j l (suc h.0, h.1) t e),
)

once_levels : (ls : List CodeLoad) (n : ℕ) → ((i : ℕ) (l : CodeLoad) → get_elem? ls i ≡ some l → l.level ≡ n + i) → AreOnce ls
once_levels [] n each = tt
once_levels (l ∷ ls) n each = (
  (λ k h row level. let here = each 0 l refl in let there = each (suc h.0) k h.1 in absurd (omega arith)),
  once_levels ls (n + 1) (λ i k e. let there = each (suc i) k e in omega arith),
)

sifted_left : (covers : ℕ → ℕ → Type 0) (ks ls : List CodeLoad) (r : ℕ) → IsSifted covers ks r → IsSifted covers (ks ++ ls) r
sifted_left covers ks ls r s = record { last = s.last; most = s.most; loaded = λ i h. let t = s.loaded i h in (t.0, in_left ks ls (load r i t.0) t.1, t.2, t.3) }

sifted_right : (covers : ℕ → ℕ → Type 0) (ks ls : List CodeLoad) (r : ℕ) → IsSifted covers ls r → IsSifted covers (ks ++ ls) r
sifted_right covers ks ls r s = record { last = s.last; most = s.most; loaded = λ i h. let t = s.loaded i h in (t.0, in_right ks ls (load r i t.0) t.1, t.2, t.3) }

pub good_left : (covers : ℕ → ℕ → Type 0) (ks ls : List CodeLoad) (r : ℕ) → IsGood covers ks r → IsGood covers (ks ++ ls) r
good_left covers ks ls r g i h = let t = g i h in (t.0, in_left ks ls (load r i t.0) t.1, t.2)

pub good_right : (covers : ℕ → ℕ → Type 0) (ks ls : List CodeLoad) (r : ℕ) → IsGood covers ls r → IsGood covers (ks ++ ls) r
good_right covers ks ls r g i h = let t = g i h in (t.0, in_right ks ls (load r i t.0) t.1, t.2)

bad_left : (covers : ℕ → ℕ → Type 0) (ks ls : List CodeLoad) (r : ℕ) → IsBad covers ks r → IsBad covers (ks ++ ls) r
bad_left covers ks ls r t = (t.0, t.1, in_left ks ls (load r t.0 t.1) t.2, t.3)

bad_right : (covers : ℕ → ℕ → Type 0) (ks ls : List CodeLoad) (r : ℕ) → IsBad covers ls r → IsBad covers (ks ++ ls) r
bad_right covers ks ls r t = (t.0, t.1, in_right ks ls (load r t.0 t.1) t.2, t.3)

-- ---- rows that were met

pub rows_append : (ms ns : List Met) → rows_of (ms ++ ns) ≡ rows_of ms ++ rows_of ns
rows_append [] ns = refl
rows_append (m ∷ ms) ns = ap (λ l. m.row ∷ l) (rows_append ms ns)

row_at : (ms : List Met) (j r : ℕ) → get_elem? (rows_of ms) j ≡ some r → (m : Met) × (get_elem? ms j ≡ some m) × (m.row ≡ r)
row_at [] j r e = absurd (some-ne-none r (sym e))
row_at (m ∷ ms) zero r e = (m, refl, some-injective m.row r e)
row_at (m ∷ ms) (suc j) r e = row_at ms j r e

pub met_of : (ms : List Met) (r : ℕ) → In r (rows_of ms) → (m : Met) × In m ms × (m.row ≡ r)
met_of ms r h = let t = row_at ms h.0 r h.1 in (t.0, (h.0, t.1), t.2)

at_row : (ms : List Met) (j : ℕ) (m : Met) → get_elem? ms j ≡ some m → get_elem? (rows_of ms) j ≡ some m.row
at_row [] j m e = absurd (some-ne-none m (sym e))
at_row (n ∷ ms) zero m e = ap (λ (x : Met). some x.row) (some-injective n m e)
at_row (n ∷ ms) (suc j) m e = at_row ms j m e

pub row_of_met : (ms : List Met) (m : Met) → In m ms → In m.row (rows_of ms)
row_of_met ms m h = (h.0, at_row ms h.0 m h.1)

pub few_none : FewAt []
few_none q short [] differ each = omega arith
few_none q short (d ∷ ds) differ each = let h = (each 0 d refl).1 in absurd (at_none h.0 (each 0 d refl).0 h.1)

-- rows of two parts whose leaves begin no path both
pub few_append : (ms ns : List Met) → FewAt ms → FewAt ns → ((q : List ℕ) → length q < 5 → (m n : Met) → In m ms → In n ns → IsBelow m.path q → IsBelow n.path q → ⊥) → FewAt (ms ++ ns)
few_append ms ns f g clash q short [] differ each = omega arith
few_append ms ns f g clash q short (d ∷ ds) differ each =
    let first = each 0 d refl in ⊎_elim
    (λ (h : In first.0 ms). f q short (d ∷ ds) differ (λ j x e. let t = each j x e in
    ⊎_elim (λ (k : In t.0 ms). (t.0, k, t.2, t.3)) (λ (k : In t.0 ns). absurd (clash q short first.0 t.0 h k first.3 t.3)) (in_split ms ns t.0 t.1)))
    (λ (h : In first.0 ns). g q short (d ∷ ds) differ (λ j x e. let t = each j x e in
    ⊎_elim (λ (k : In t.0 ms). absurd (clash q short t.0 first.0 k h t.3 first.3)) (λ (k : In t.0 ns). (t.0, k, t.2, t.3)) (in_split ms ns t.0 t.1)))
    (in_split ms ns first.0 first.1)

-- the entries of one leaf
pub few_leaf : (ms : List Met) → length (rows_of ms) ≤ 14 → FewAt ms
few_leaf ms most q short ds differ each =
    let few = few_in ds (rows_of ms) differ (λ d h. let t = each h.0 d h.1 in subst (λ (n : ℕ). In n (rows_of ms)) t.2 (row_of_met ms t.0 t.1)) in
    omega arith

module _ (covers : ℕ → ℕ → Type 0) where
  pub gained_none : Gained covers [] [] []
  gained_none = record {
    different = tt;
    numbers = λ i x e. absurd (at_none i x e);
    only = λ i x e. absurd (at_none i x e);
    once = tt;
    whole = λ i x e. absurd (at_none i x e);
    picked = λ i x e. absurd (at_none i x e);
    all = λ r h. inl h;
    differ = tt;
  }

  pub gained_append : (rows1 rows2 : List ℕ) (ls1 ls2 : List CodeLoad) (gs1 gs2 : List ℕ) → Gained covers rows1 ls1 gs1 → Gained covers rows2 ls2 gs2
      → ((r : ℕ) → In r rows1 → In r rows2 → ⊥) → Gained covers (rows1 ++ rows2) (ls1 ++ ls2) (gs1 ++ gs2)
  gained_append rows1 rows2 ls1 ls2 gs1 gs2 g h apart = record {
    different = different_append rows1 rows2 g.different h.different apart;
    numbers = each_append (λ r. (0 < r) × (r < 2 ^ 64)) rows1 rows2 g.numbers h.numbers;
    only = each_append (λ l. In l.row (rows1 ++ rows2)) ls1 ls2 (λ i l e. in_left rows1 rows2 l.row (g.only i l e)) (λ i l e. in_right rows1 rows2 l.row (h.only i l e));
    once = once_append ls1 ls2 g.once h.once (λ k l a b e. apart l.row (subst (λ (n : ℕ). In n rows1) e (g.only a.0 k a.1)) (h.only b.0 l b.1));
    whole = each_append (IsSifted covers (ls1 ++ ls2)) rows1 rows2 (λ i r e. sifted_left covers ls1 ls2 r (g.whole i r e)) (λ i r e. sifted_right covers ls1 ls2 r (h.whole i r e));
    picked = each_append (λ r. In r (rows1 ++ rows2) × IsGood covers (ls1 ++ ls2) r) gs1 gs2
        (λ i r e. let p = g.picked i r e in (in_left rows1 rows2 r p.0, good_left covers ls1 ls2 r p.1)) (λ i r e. let p = h.picked i r e in (in_right rows1 rows2 r p.0, good_right covers ls1 ls2 r p.1));
    all = λ r t. ⊎_elim
        (λ (u : In r rows1). ⊎_elim (λ (v : In r gs1). inl (in_left gs1 gs2 r v)) (λ (v : IsBad covers ls1 r). inr (bad_left covers ls1 ls2 r v)) (g.all r u))
        (λ (u : In r rows2). ⊎_elim (λ (v : In r gs2). inl (in_right gs1 gs2 r v)) (λ (v : IsBad covers ls2 r). inr (bad_right covers ls1 ls2 r v)) (h.all r u))
        (in_split rows1 rows2 r t);
    differ = different_append gs1 gs2 g.differ h.differ (λ x a b. apart x (g.picked a.0 x a.1).0 (h.picked b.0 x b.1).0);
  }

  module _ (r : ℕ) (a b : Seat) (number : (0 < r) × (r < 2 ^ 64)) where
    one_each : (F : ℕ → Type 0) → F r → Each F (r ∷ [])
    one_each F f i x e = subst F (sym (in_one x r (i, e))) f

    module _ (is : Bool) (s : Sifts covers r a b is) where
      only : Each (λ l. In l.row (r ∷ [])) s.loads
      only i l e = (0, ap some (sym (s.levels i l e).0))

      once : AreOnce s.loads
      once = once_levels s.loads 0 (λ i l e. (s.levels i l e).1 ∙ omega arith)

      loaded_at : (i : ℕ) → i < length s.loads → (l : CodeLoad) × (get_elem? s.loads i ≡ some l) × In (load r i l.code) s.loads
      loaded_at i h = let t = has_at_load s.loads i h in let v = s.levels i t.0 t.1 in (t.0, t.1, (i, t.1 ∙ ap some (λ k. record { row = v.0 k; level = v.1 k; code = t.0.code })))
        where
          has_at_load : (xs : List CodeLoad) (n : ℕ) → n < length xs → (l : CodeLoad) × (get_elem? xs n ≡ some l)
          has_at_load xs n less = has_at xs n less

      whole : ((i : ℕ) (l : CodeLoad) → get_elem? s.loads i ≡ some l → suc i ≡ length s.loads → (i ≡ 4) ⊎ (covers i l.code → ⊥)) → IsSifted covers s.loads r
      whole end = let some_load = s.not_none in let most = s.most in record {
        last = length s.loads - 1;
        most = omega arith;
        loaded = λ i h. let t = loaded_at i (omega arith) in (
          t.0.code,
          t.2,
          (λ less. s.covered i t.0 t.1 (omega arith)),
          (λ at. ⊎_elim (λ (e : i ≡ 4). inl (sym at ∙ e)) (λ (n : covers i t.0.code → ⊥). inr n) (end i t.0 t.1 (omega arith))),
        );
      }

    pub gained_given : (s : Sifts covers r a b true) → Gained covers (r ∷ []) s.loads (r ∷ [])
    gained_given s =
        let good = s.good refl in
        let size : length s.loads ≡ 5 = good.0 in record {
          different = ((λ h. at_none h.0 r h.1), tt);
          numbers = one_each (λ x. (0 < x) × (x < 2 ^ 64)) number;
          only = only true s;
          once = once true s;
          whole = one_each (IsSifted covers s.loads) (whole true s (λ i l e last_one. inl (omega arith)));
          picked = one_each (λ x. In x (r ∷ []) × IsGood covers s.loads x) ((0, refl), λ i less. let t = loaded_at true s i (omega arith) in (t.0.code, t.2, good.1 i t.0 t.1));
          all = λ x h. inl h;
          differ = ((λ h. at_none h.0 r h.1), tt);
        }

    pub gained_dropped : (s : Sifts covers r a b false) → Gained covers (r ∷ []) s.loads []
    gained_dropped s =
        let some_load = s.not_none in record {
          different = ((λ h. at_none h.0 r h.1), tt);
          numbers = one_each (λ x. (0 < x) × (x < 2 ^ 64)) number;
          only = only false s;
          once = once false s;
          whole = one_each (IsSifted covers s.loads) (whole false s (λ i l e last_one. inr (s.bad refl i l e last_one)));
          picked = λ i x e. absurd (at_none i x e);
          all = λ x h. let t = loaded_at false s (length s.loads - 1) (omega arith) in
              inr (subst (λ (z : ℕ). IsBad covers s.loads z) (sym (in_one x r h)) (length s.loads - 1, t.0.code, t.2, s.bad refl (length s.loads - 1) t.0 t.1 (omega arith)));
          differ = tt;
        }
