-- Bonds that join the same places.
use Rattle.std.proofs.Common.{◌≡◌, ◌⊎◌, Bool, true, false, not, List, [], ◌∷◌, All, sym, ap, ◌∙◌, inl, inr}
use Rattle.std.specs.Prelude.{◌↔◌, IsTrue}
use Rattle.std.specs.List.{list_any}
use Rattle.std.proofs.lemmas.Bool.{or_parts, cases_Bool, false≢true, true_from_ne_false}
use Rattle.std.proofs.lemmas.List.Elements.{All-nil, All-cons}
use Rattle.std.proofs.lemmas.List.Folds.{list_any_none}
use Rattle.htss_defs.specs.declared.graph.Ends.{Ends}
use Rattle.htss_defs.specs.Graph.{joins, AreApart}
use Rattle.mol_section.specs.BondLines.{is_taken}

any_none : {X : Type 0} (p : X → Bool) (xs : List X) → list_any p xs ≡ false → All (λ x. p x ≡ false) xs
any_none p [] none = All-nil (λ x. p x ≡ false)
any_none p (x ∷ xs) none = let parts = or_parts (p x) (list_any p xs) none in All-cons (λ x. p x ≡ false) x xs parts.0 (any_none p xs parts.1)

pub is_taken-from : (bonds : List Ends) (ends : Ends) (r : Bool) → (IsTrue r ↔ All (λ e. AreApart e ends) bonds) → r ≡ not (is_taken bonds ends)
unfolding is_taken
is_taken-from bonds ends r iff = go (cases_Bool r)
  where
    go : (r ≡ true) ⊎ (r ≡ false) → r ≡ not (is_taken bonds ends)
    go (inl is) = is ∙ sym (ap not (list_any_none (λ other. joins other ends.first ends.second) bonds (iff.0 is)))
    go (inr is) = is ∙ sym (ap not (true_from_ne_false (is_taken bonds ends) (λ none. false≢true (sym is ∙ iff.1 (any_none (λ other. joins other ends.first ends.second) bonds none)))))
