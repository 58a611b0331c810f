-- How the pruning of what a searcher loads is kept, answer by answer.
use Rattle.std.proofs.Common.{◌≡◌, ◌≢◌, ℕ, zero, suc, ◌-◌, ◌<◌, ◌≤◌, List, [], ◌∷◌, ◌++◌, length, map, take, drop, sym, refl, ap, ◌∙◌, subst, ⊎_elim, arith, length-append, length-drop}
use Rattle.std.proofs.lemmas.List.{take-append-le, drop-append-le}
use mathlib.Core.Option.{some}
use mathlib.Core.Logic.{dite}
use native.Mathlib.Decide.{ℕ_discrete}
use lib.ListN.{get_elem?}
use Rattle.htss_defs.specs.QueryGraph.{QueryGraph}
use Rattle.board_core.specs.declared.entry.Entry.TheVariants.{Answered}
use Rattle.board_core.specs.declared.entry.Noted.{Noted}
use Rattle.board_core.specs.declared.entry.Reply.{Reply}
use Rattle.board_core.specs.declared.loads.Lengths.{Lengths}
use Rattle.board_core.proofs.Lists.{inside, at_end}
use Rattle.descent.specs.Seats.{CodeLoad}
use Rattle.board_jobs.specs.Pruning.{ArePrunedFor, SearchesPruned, began_at, between, codes_then, size_after, facts_then, loaded_for}

-- ---- parts of a list

module _ {A : Type 0} where
  take_none : (xs : List A) (n : ℕ) → n ≡ 0 → take n xs ≡ []
  take_none xs zero e = refl
  take_none xs (suc n) e = absurd (omega arith)

  -- a part of a list that grows stays
  pub between_grown : (from to : ℕ) (xs ys : List A) → to ≤ length xs → between from to (xs ++ ys) ≡ between from to xs
  between_grown from to xs ys h = dite (ℕ_discrete (from - length xs) 0)
      (λ (e : from - length xs ≡ 0).
      let size = length-drop from xs in
      ap (take (to - from)) (drop-append-le from xs ys (omega arith)) ∙ take-append-le (to - from) (drop from xs) ys (omega arith))
      (λ (e : from - length xs ≢ 0). take_none (drop from (xs ++ ys)) (to - from) (omega arith) ∙ sym (take_none (drop from xs) (to - from) (omega arith)))

  drop_left : (xs ys : List A) → drop (length xs) (xs ++ ys) ≡ ys
  drop_left [] ys = refl
  drop_left (x ∷ xs) ys = drop_left xs ys

  take_all : (xs : List A) (n : ℕ) → n ≡ length xs → take n xs ≡ xs
  take_all [] zero e = refl
  take_all [] (suc n) e = refl
  take_all (x ∷ xs) zero e = absurd (omega arith)
  take_all (x ∷ xs) (suc n) e = ap (λ l. x ∷ l) (take_all xs n (omega arith))

  pub between_last : (xs ys : List A) → between (length xs) (length (xs ++ ys)) (xs ++ ys) ≡ ys
  between_last xs ys = let size = length-append xs ys in ap (take (length (xs ++ ys) - length xs)) (drop_left xs ys) ∙ take_all ys (length (xs ++ ys) - length xs) (omega arith)

-- ---- where parts begin

module _ (size : Lengths → ℕ) where
  pub began_left : (from : ℕ) (es fs : List Noted) (i : ℕ) → i < length es → began_at size from (es ++ fs) i ≡ began_at size from es i
  began_left from [] fs i h = absurd (omega arith)
  began_left from (e ∷ es) fs zero h = refl
  began_left from (e ∷ es) fs (suc i) h = began_left (size e.at) es fs i (omega arith)

  pub began_last : (from : ℕ) (es : List Noted) (f : Noted) → began_at size from (es ++ f ∷ []) (length es) ≡ size_after size from es
  began_last from [] f = refl
  began_last from (e ∷ es) f = began_last (size e.at) es f

  pub ended_last : (from : ℕ) (es : List Noted) (f : Noted) → size_after size from (es ++ f ∷ []) ≡ size f.at
  ended_last from [] f = refl
  ended_last from (e ∷ es) f = ended_last (size e.at) es f

-- ---- what is kept of a searcher: at rest, and pruned from an answer on

pub record KeptFrom (first : ℕ) (es : List Noted) (ls : List CodeLoad) (facts : ℕ) : Type 0 where
  pub codes : size_after codes_then 0 es ≡ length ls
  pub words : size_after facts_then 0 es ≡ facts
  pub within : (i : ℕ) (e : Noted) → first ≤ i → get_elem? es i ≡ some e → e.at.codes ≤ length ls
  pub pruned : SearchesPruned first es ls

module _ (first : ℕ) (es : List Noted) (ls ms : List CodeLoad) (facts more : ℕ) (f : Noted) (rest : size_after codes_then 0 es ≡ length ls) (at : f.at.codes ≡ length (ls ++ ms)) where
  -- what was loaded for an answer before the new one
  pub loaded_before : (i : ℕ) (e : Noted) → e.at.codes ≤ length ls → get_elem? es i ≡ some e → loaded_for i e (es ++ f ∷ []) (ls ++ ms) ≡ loaded_for i e es ls
  loaded_before i e within there =
      ap (λ (n : ℕ). between n e.at.codes (ls ++ ms)) (began_left codes_then 0 es (f ∷ []) i (inside es i e there)) ∙ between_grown (began_at codes_then 0 es i) e.at.codes ls ms within

  -- and for the new one
  pub loaded_now : loaded_for (length es) f (es ++ f ∷ []) (ls ++ ms) ≡ ms
  loaded_now =
      ap (λ (n : ℕ). between n f.at.codes (ls ++ ms)) (began_last codes_then 0 es f ∙ rest)
      ∙ (ap (λ (n : ℕ). between (length ls) n (ls ++ ms)) at ∙ between_last ls ms)

  -- one answer more, for which these codes were loaded
  pub kept_more : KeptFrom first es ls facts → f.at.facts ≡ more → ((query : QueryGraph) (budget front : ℕ) (reply : Reply) → f.entry ≡ Answered query budget front reply → ArePrunedFor query ms)
      → KeptFrom first (es ++ f ∷ []) (ls ++ ms) more
  kept_more kept words new = record {
    codes = ended_last codes_then 0 es f ∙ at;
    words = ended_last facts_then 0 es f ∙ words;
    within = λ i e from there. ⊎_elim
        (λ (t : get_elem? es i ≡ some e). let old = kept.within i e from t in let long = length-append ls ms in omega (arith, old, long))
        (λ (t : (i ≡ length es) × (f ≡ e)). subst (λ (x : Noted). x.at.codes ≤ length (ls ++ ms)) t.1 (omega (arith, at)))
        (at_end es f e i there);
    pruned = λ i e query budget front reply from there is. ⊎_elim
        (λ (t : get_elem? es i ≡ some e). subst (ArePrunedFor query) (sym (loaded_before i e (kept.within i e from t) t)) (kept.pruned i e query budget front reply from t is))
        (λ (t : (i ≡ length es) × (f ≡ e)).
        let here : loaded_for i e (es ++ f ∷ []) (ls ++ ms) ≡ ms =
        ap (λ (n : ℕ). loaded_for n e (es ++ f ∷ []) (ls ++ ms)) t.0 ∙ (sym (ap (λ (x : Noted). loaded_for (length es) x (es ++ f ∷ []) (ls ++ ms)) t.1) ∙ loaded_now) in
        subst (ArePrunedFor query) (sym here) (new query budget front reply (ap (λ (x : Noted). x.entry) t.1 ∙ is)))
        (at_end es f e i there);
  }
