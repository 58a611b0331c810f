-- One more bond in the counts of its ends.
use Rattle.std.proofs.Common.{◌≡◌, ℕ, zero, suc, ◌+◌, ◌<◌, ◌≤◌, Bool, true, false, ◌&&◌, min, List, [], ◌∷◌, ◌++◌, get_or, refl, sym, ap, subst, ◌∙◌, inl, inr, arith}
use Rattle.std.proofs.lemmas.Bool.{and_right, cases_Bool}
use Rattle.std.proofs.lemmas.List.Sums.{sum_by_push}
use Rattle.std.proofs.lemmas.Simd.{get_or-replicate}
use Rattle.std.specs.Prelude.{replicate}
use Rattle.std.specs.Int.{from_le_bytes, w64}
use Rattle.htss_defs.specs.declared.mol.Bond.{Bond}
use Rattle.htss_defs.specs.Molecule.{bond_ends}
use Rattle.htss_defs.specs.Distances.{is_end}
use Rattle.htss_defs.specs.Codes.{word_of}
use Rattle.env_code.specs.declared.bond_counts.BondCounts.{BondCounts}
use Rattle.env_code.specs.BondCounts.{AreBondCounts, HasCounts, IsOneMore, count_at, own_count}
use Rattle.env_code.proofs.Counts.{one, and_true}
use Rattle.env_code.proofs.Words.{word_of-bytes}

count_at-push : (bonds : List Bond) (b : Bond) (x : ℕ) (test : Bond → Bool) → count_at (bonds ++ b ∷ []) x test ≡ count_at bonds x test + one (is_end (bond_ends b) x && test b)
unfolding count_at
count_at-push bonds b x test = sum_by_push (λ d. one (is_end (bond_ends d) x && test d)) bonds b

HasCounts-skip : (bonds : List Bond) (b : Bond) (test : Bond → Bool) (counts : List ℕ) → test b ≡ false → HasCounts bonds test counts → HasCounts (bonds ++ b ∷ []) test counts
HasCounts-skip bonds b test counts failed c = record {
  at = λ x within.
      let none : one (is_end (bond_ends b) x && test b) ≡ 0 = ap one (and_right (is_end (bond_ends b) x) (test b) failed) in
      let more = count_at-push bonds b x test in
      let same : count_at (bonds ++ b ∷ []) x test ≡ count_at bonds x test = omega (arith, more, none) in
      c.at x within ∙ ap (λ n. min n 255) (sym same);
}

HasCounts-more : (bonds : List Bond) (b : Bond) (test : Bond → Bool) (counts after : List ℕ) → test b ≡ true → HasCounts bonds test counts → IsOneMore (bond_ends b) counts after → HasCounts (bonds ++ b ∷ []) test after
HasCounts-more bonds b test counts after passed c m = record {
  at = λ x within.
      let here : one (is_end (bond_ends b) x && test b) ≡ one (is_end (bond_ends b) x) = ap (λ t. one (is_end (bond_ends b) x && t)) passed ∙ ap one (and_true (is_end (bond_ends b) x)) in
      omega (arith, m.at x within, c.at x within, count_at-push bonds b x test, here);
}

pub HasCounts-counted : (bonds : List Bond) (b : Bond) (test : Bond → Bool) (passes : Bool) (counts after : List ℕ) → passes ≡ test b → HasCounts bonds test counts → (passes ≡ true → IsOneMore (bond_ends b) counts after) → (passes ≡ false → after ≡ counts)
    → HasCounts (bonds ++ b ∷ []) test after
HasCounts-counted bonds b test passes counts after is c passed failed = elim (cases_Bool passes) [
  | inl t ↦ HasCounts-more bonds b test counts after (sym is ∙ t) c (passed t)
  | inr f ↦ subst (λ (cs : List ℕ). HasCounts (bonds ++ b ∷ []) test cs) (sym (failed f)) (HasCounts-skip bonds b test counts (sym is ∙ f) c)
]

pub HasCounts-none : (test : Bond → Bool) (n : ℕ) → HasCounts [] test (replicate 1000 0)
unfolding count_at
HasCounts-none test n = record { at = λ x within. get_or-replicate 1000 x 0 0 within }

-- ---- the word of a place

own-word : (bonds : List Bond) (c : BondCounts) (x lowest : ℕ) → AreBondCounts bonds c → x < 1000 → lowest ≤ 255 → (i : ℕ) → i < 8
    → get_or (lowest ∷ get_or c.degree x 0 ∷ get_or c.double x 0 ∷ get_or c.triple x 0 ∷ get_or c.aromatic x 0 ∷ get_or c.ring x 0 ∷ 0 ∷ 0 ∷ []) i 0 ≡ min (own_count bonds x lowest i) 255
own-word bonds c x lowest a within low zero lt = omega arith
own-word bonds c x lowest a within low (suc zero) lt = a.degree.at x within
own-word bonds c x lowest a within low (suc (suc zero)) lt = a.double.at x within
own-word bonds c x lowest a within low (suc (suc (suc zero))) lt = a.triple.at x within
own-word bonds c x lowest a within low (suc (suc (suc (suc zero)))) lt = a.aromatic.at x within
own-word bonds c x lowest a within low (suc (suc (suc (suc (suc zero))))) lt = a.ring.at x within
own-word bonds c x lowest a within low (suc (suc (suc (suc (suc (suc zero)))))) lt = refl
own-word bonds c x lowest a within low (suc (suc (suc (suc (suc (suc (suc zero))))))) lt = refl
own-word bonds c x lowest a within low (suc (suc (suc (suc (suc (suc (suc (suc n)))))))) lt = absurd (omega arith)

pub own-is : (bonds : List Bond) (c : BondCounts) (x lowest word : ℕ) → AreBondCounts bonds c → x < 1000 → lowest ≤ 255
    → word ≡ from_le_bytes w64 (lowest ∷ get_or c.degree x 0 ∷ get_or c.double x 0 ∷ get_or c.triple x 0 ∷ get_or c.aromatic x 0 ∷ get_or c.ring x 0 ∷ 0 ∷ 0 ∷ [])
    → word ≡ word_of (own_count bonds x lowest)
own-is bonds c x lowest word a within low is = is ∙ word_of-bytes (lowest ∷ get_or c.degree x 0 ∷ get_or c.double x 0 ∷ get_or c.triple x 0 ∷ get_or c.aromatic x 0 ∷ get_or c.ring x 0 ∷ 0 ∷ 0 ∷ []) (own_count bonds x lowest) (own-word bonds c x lowest a within low)
