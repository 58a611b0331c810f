-- The loop over a row's codes.
use Rattle.std.proofs.Common.{◌≡◌, ℕ, ◌+◌, ◌<◌, true, false, List, [], ◌∷◌, ◌++◌, length, sym, refl, ap, ◌∙◌, subst, ⊎_elim, arith, append_assoc}
use Rattle.std.proofs.lemmas.List.{append-nil}
use mathlib.Core.Option.{some}
use lib.ListN.{get_elem?}
use Rattle.board_core.proofs.Lists.{inside, at_end}
use Rattle.descent.specs.Seats.{CodeLoad, Seat, load, with_load}
use Rattle.descent.specs.Walks.{Sifts}
use Rattle.descent.proofs.Lists.{length_snoc, at_none}

-- the codes of the levels below this one were loaded, and cover
pub record Sifting (covers : ℕ → ℕ → Type 0) (r : ℕ) (a b : Seat) (level : ℕ) : Type 0 where
  pub reached : b.reached ≡ a.reached
  pub loads : List CodeLoad
  pub loads_are : b.loads ≡ a.loads ++ loads
  pub levels : (i : ℕ) (l : CodeLoad) → get_elem? loads i ≡ some l → (l.row ≡ r) × (l.level ≡ i)
  pub size : length loads ≡ level
  pub covered : (i : ℕ) (l : CodeLoad) → get_elem? loads i ≡ some l → covers i l.code

module _ (covers : ℕ → ℕ → Type 0) (r : ℕ) (a : Seat) where
  pub sifting_none : Sifting covers r a a 0
  sifting_none = record {
    reached = refl;
    loads = [];
    loads_are = sym (append-nil a.loads);
    levels = λ i l e. absurd (at_none i l e);
    size = refl;
    covered = λ i l e. absurd (at_none i l e);
  }

  module _ (b c : Seat) (level code : ℕ) (s : Sifting covers r a b level) (after : c ≡ with_load b r level code) where
    more : List CodeLoad
    more = s.loads ++ load r level code ∷ []

    last : (l : CodeLoad) (i : ℕ) → (i ≡ length s.loads) × (load r level code ≡ l) → (l.row ≡ r) × (l.level ≡ i)
    last l i t =
        let at : level ≡ i = sym s.size ∙ sym t.0 in
        (ap (λ (k : CodeLoad). k.row) (sym t.1), ap (λ (k : CodeLoad). k.level) (sym t.1) ∙ at)

    levels_more : (i : ℕ) (l : CodeLoad) → get_elem? (s.loads ++ load r level code ∷ []) i ≡ some l → (l.row ≡ r) × (l.level ≡ i)
    levels_more i l e = ⊎_elim (λ (t : get_elem? s.loads i ≡ some l). s.levels i l t) (λ (t : (i ≡ length s.loads) × (load r level code ≡ l)). last l i t) (at_end s.loads (load r level code) l i e)

    loads_more : c.loads ≡ a.loads ++ (s.loads ++ load r level code ∷ [])
    loads_more = ap (λ (z : Seat). z.loads) after ∙ (ap (λ ls. ls ++ load r level code ∷ []) s.loads_are ∙ append_assoc a.loads s.loads (load r level code ∷ []))

    reached_more : c.reached ≡ a.reached
    reached_more = ap (λ (z : Seat). z.reached) after ∙ s.reached

    size_more : length (s.loads ++ load r level code ∷ []) ≡ level + 1
    size_more = let size = s.size in let n = length_snoc s.loads (load r level code) in omega arith

    pub sifting_more : covers level code → Sifting covers r a c (level + 1)
    sifting_more ok = record {
      reached = reached_more;
      loads = s.loads ++ load r level code ∷ [];
      loads_are = loads_more;
      levels = levels_more;
      size = size_more;
      covered = λ i l e. ⊎_elim (λ (t : get_elem? s.loads i ≡ some l). s.covered i l t)
          (λ (t : (i ≡ length s.loads) × (load r level code ≡ l)). subst (λ (z : ℕ × ℕ). covers z.0 z.1) (λ k. ((sym s.size ∙ sym t.0) k, (t.1 k).code)) ok)
          (at_end s.loads (load r level code) l i e);
    }

    pub sifted_bad : level < 5 → (covers level code → ⊥) → Sifts covers r a c false
    sifted_bad room bad = let n = size_more in record {
      reached = reached_more;
      loads = s.loads ++ load r level code ∷ [];
      loads_are = loads_more;
      levels = levels_more;
      not_none = omega arith;
      most = omega arith;
      covered = λ i l e less. ⊎_elim (λ (t : get_elem? s.loads i ≡ some l). s.covered i l t)
          (λ (t : (i ≡ length s.loads) × (load r level code ≡ l)). let size = s.size in let at = t.0 in absurd (omega arith))
          (at_end s.loads (load r level code) l i e);
      good = λ e. absurd (let clash : false ≡ true = e in cc);
      bad = λ _ i l e last_one. ⊎_elim (λ (t : get_elem? s.loads i ≡ some l). let within = inside s.loads i l t in let size = s.size in absurd (omega arith))
          (λ (t : (i ≡ length s.loads) × (load r level code ≡ l)) ok. bad (subst (λ (z : ℕ × ℕ). covers z.0 z.1) (λ k. ((t.0 ∙ s.size) k, (sym t.1 k).code)) ok))
          (at_end s.loads (load r level code) l i e);
    }

  pub sifted_all : (b : Seat) (level : ℕ) → Sifting covers r a b level → level ≡ 5 → Sifts covers r a b true
  sifted_all b level s all = let size = s.size in record {
    reached = s.reached;
    loads = s.loads;
    loads_are = s.loads_are;
    levels = s.levels;
    not_none = omega arith;
    most = omega arith;
    covered = λ i l e less. s.covered i l e;
    good = λ _. (size ∙ all, s.covered);
    bad = λ e. absurd (let clash : true ≡ false = e in cc);
  }
