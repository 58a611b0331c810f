-- Bonds that join different pairs of places, where `ends` gives the places of each.
use Rattle.std.proofs.Common.{◌≡◌, ℕ, ◌+◌, ◌<◌, ◌↔◌, Bool, true, false, IsTrue, List, [], ◌∷◌, ◌++◌, length, get_or, take, map, All, AllPairs, sym, ap, subst, ◌∙◌, arith, length-take}
use Rattle.std.proofs.lemmas.List.{take_more, get_or-take, get_or-map, length-map, map_more}
use Rattle.std.proofs.lemmas.List.Quantifiers.{all_pairs_push}
use Rattle.htss_defs.specs.declared.graph.Ends.{Ends}
use Rattle.htss_defs.specs.Graph.{Graph, AreApart}

abbrev pub IsApartFrom : Ends → Ends → Type 0
IsApartFrom later earlier = AreApart earlier later

-- the first bonds, and one that is apart from each of them
pub pairs-more : {X : Type 0} (ends : X → Ends) (xs : List X) (i : ℕ) (d : X) → i < length xs
    → AllPairs (λ x y. AreApart (ends x) (ends y)) (take i xs)
    → All (IsApartFrom (ends (get_or xs i d))) (map ends (take i xs))
    → AllPairs (λ x y. AreApart (ends x) (ends y)) (take (i + 1) xs)
pairs-more {X} ends xs i d within pairs apart =
    let R : X → X → Type 0 = λ x y. AreApart (ends x) (ends y) in
    let last : X = get_or xs i d in
    subst (λ (ys : List X). AllPairs R ys) (sym (take_more xs i d within))
    (all_pairs_push R (take i xs) last pairs (λ k e in_front.
    subst (λ (b : Ends). AreApart b (ends last)) (get_or-map ends (take i xs) k e (ends e) in_front)
    (apart k (ends e) (omega (arith, length-map (take i xs) ends)))))

-- a bond is apart from those before it
pub apart-at : {X : Type 0} (ends : X → Ends) (xs : List X) (i : ℕ) (d : X) → i < length xs
    → AllPairs (λ x y. AreApart (ends x) (ends y)) xs
    → All (IsApartFrom (ends (get_or xs i d))) (map ends (take i xs))
apart-at {X} ends xs i d within pairs k e in_front =
    let few : k < length (take i xs) = omega (arith, length-map (take i xs) ends) in
    let before : k < i = omega (arith, few, length-take i xs) in
    let there : get_or (map ends (take i xs)) k e ≡ ends (get_or xs k d) = get_or-map ends
    (take i xs) k d e few ∙ ap ends (get_or-take i xs k d before) in
    subst (λ (b : Ends). AreApart b (ends (get_or xs i d))) (sym there) (pairs k i d before within)

-- ---- the same at the values of the code

pub added-pairs : {X : Type 0} (ends : X → Ends) (xs : List X) (i n : ℕ) (d : X) (e : Ends) (g : Graph)
    (b : Bool) → g ≡ record { atoms = n; bonds = map ends (take i xs) } → e ≡ ends (get_or xs i d) → i < length xs
    → (IsTrue b ↔ All (IsApartFrom e) g.bonds) → b ≡ true
    → AllPairs (λ x y. AreApart (ends x) (ends y)) (take i xs)
    → AllPairs (λ x y. AreApart (ends x) (ends y)) (take (i + 1) xs)
added-pairs {X} ends xs i n d e g b linked is within apart added pairs =
    let bonds : g.bonds ≡ map ends (take i xs) = ap (λ (h : Graph). h.bonds) linked in
    pairs-more ends xs i d within pairs
    (subst (λ (b : Ends). All (IsApartFrom b) (map ends (take i xs))) is
    (subst (λ (bs : List Ends). All (IsApartFrom e) bs) bonds (apart.0 added)))

pub refused-pairs : {X : Type 0} (ends : X → Ends) (xs : List X) (i n : ℕ) (d : X) (e : Ends) (g : Graph)
    (b : Bool) → g ≡ record { atoms = n; bonds = map ends (take i xs) } → e ≡ ends (get_or xs i d) → i < length xs
    → (IsTrue b ↔ All (IsApartFrom e) g.bonds) → b ≡ false → AllPairs (λ x y. AreApart (ends x) (ends y)) xs → ⊥
refused-pairs {X} ends xs i n d e g b linked is within apart refused pairs =
    let bonds : g.bonds ≡ map ends (take i xs) = ap (λ (h : Graph). h.bonds) linked in
    let here : All (IsApartFrom e) (map ends (take i xs)) = subst
    (λ (b : Ends). All (IsApartFrom b) (map ends (take i xs))) (sym is) (apart-at ends xs i d within pairs) in
    let added : b ≡ true = apart.1 (subst (λ (bs : List Ends). All (IsApartFrom e) bs) (sym bonds) here) in
    cc

pub linked-more : {X : Type 0} (ends : X → Ends) (xs : List X) (i n : ℕ) (d : X) (e : Ends) (g next : Graph)
    → g ≡ record { atoms = n; bonds = map ends (take i xs) } → e ≡ ends (get_or xs i d) → i < length xs
    → next ≡ record { atoms = g.atoms; bonds = g.bonds ++ e ∷ [] }
    → next ≡ record { atoms = n; bonds = map ends (take (i + 1) xs) }
linked-more {X} ends xs i n d e g next linked is within added =
    let one_more : List Ends → Ends → Graph = λ bs b. record { atoms = n; bonds = bs ++ b ∷ [] } in
    let before : List Ends = map ends (take i xs) in
    added ∙ ap (λ (h : Graph). record { atoms = h.atoms; bonds = h.bonds ++ e ∷ [] }) linked ∙ ap (one_more before) is
    ∙ ap (λ (bs : List Ends). record { atoms = n; bonds = bs }) (sym (map_more ends xs i d within))
