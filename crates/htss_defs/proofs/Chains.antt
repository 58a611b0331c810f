-- Chains of the ends of bonds: how they grow, and what a walk along one knows.
use Rattle.std.proofs.Common.{◌≡◌, ◌≢◌, ℕ, ◌+◌, ◌-◌, ◌*◌, ◌/◌, ◌%◌, ◌<◌, ◌≤◌, ◌⊎◌, Bool, true, false, cond, ◌&&◌, eqb, List, [], ◌∷◌, ◌++◌, length, get_or, set, All, refl, sym, ap, subst, ◌∙◌, inl, inr, arith}
use Rattle.std.proofs.lemmas.Bool.{cond-true, cond-false, eqb-true, eq-eqb, ne_eqb, cases_eq, cases_lt, and_parts, or_cases, or_from, and_left, and_right, false_from_ne_true}
use Rattle.std.proofs.lemmas.List.{length-set, get_or-set_same, get_or-set_other, get_or_append_left, get_or_push, get_or_default, length_push}
use Rattle.std.proofs.lemmas.List.Elements.{All-push}
use Rattle.std.proofs.Math.Bool.{or_comm}
use Rattle.htss_defs.specs.declared.graph.Ends.{Ends}
use Rattle.htss_defs.specs.Graph.{AreEnds, joins}
use Rattle.htss_defs.specs.Adjacency.{IsGraph, IsLastLink, AreChains, no_ends, place_of_end}

-- ---- the places of ends

pub place_of_end-push : (bonds : List Ends) (e : Ends) (h : ℕ) → h < 2 * length bonds
    → place_of_end (bonds ++ e ∷ []) h ≡ place_of_end bonds h
unfolding place_of_end
place_of_end-push bonds e h within = ap (λ (b : Ends). cond (eqb (h % 2) 0) b.first b.second)
    (get_or_append_left bonds (e ∷ []) no_ends (h / 2) (omega arith))

place_of_end-first : (bonds : List Ends) (k h : ℕ) → h ≡ 2 * k → place_of_end bonds h ≡ (get_or bonds k no_ends).first
unfolding place_of_end
place_of_end-first bonds k h is =
    let even : h % 2 ≡ 0 = omega arith in
    let half : h / 2 ≡ k = omega arith in
    cond-true (eqb (h % 2) 0) _ _ (eq-eqb _ _ even) ∙ ap (λ (n : ℕ). (get_or bonds n no_ends).first) half

place_of_end-second : (bonds : List Ends) (k h : ℕ) → h ≡ 2 * k + 1
    → place_of_end bonds h ≡ (get_or bonds k no_ends).second
unfolding place_of_end
place_of_end-second bonds k h is =
    let odd : eqb (h % 2) 0 ≡ false = ne_eqb (h % 2) 0 (λ e. omega arith) in
    let half : h / 2 ≡ k = omega arith in
    cond-false (eqb (h % 2) 0) _ _ odd ∙ ap (λ (n : ℕ). (get_or bonds n no_ends).second) half

-- ---- links

IsLastLink-push : (bonds : List Ends) (e : Ends) (x n link : ℕ) → IsLastLink bonds x n link
    → n ≤ 2 * length bonds → IsLastLink (bonds ++ e ∷ []) x n link
IsLastLink-push bonds e x n link l within = record {
  within = l.within;
  here = λ some. place_of_end-push bonds e (link - 1) (omega (arith, l.within)) ∙ l.here some;
  none = λ h le lt same. l.none h le lt (sym (place_of_end-push bonds e h (omega arith)) ∙ same);
}

IsLastLink-here : (bonds : List Ends) (x n : ℕ) → place_of_end bonds n ≡ x → IsLastLink bonds x (n + 1) (n + 1)
IsLastLink-here bonds x n at = record {
  within = omega arith;
  here = λ some. let k : n + 1 - 1 ≡ n = omega arith in ap (place_of_end bonds) k ∙ at;
  none = λ h le lt same. omega arith;
}

IsLastLink-other : (bonds : List Ends) (x n link : ℕ) → IsLastLink bonds x n link → place_of_end bonds n ≢ x
    → IsLastLink bonds x (n + 1) link
IsLastLink-other bonds x n link l other = record {
  within = omega (arith, l.within);
  here = l.here;
  none = λ h le lt same. elim (cases_eq h n) [
    | inl last ↦ other (ap (place_of_end bonds) (sym last) ∙ same)
    | inr before ↦ l.none h le (omega arith) same
  ];
}

-- ---- chains

pub AreChains-none : (atoms : ℕ) (last before : List ℕ) → ((x : ℕ) → x ≤ atoms → get_or last x 0 ≡ 0)
    → AreChains atoms [] 0 last before
AreChains-none atoms last before none = record {
  lasts = λ x le. record {
    within = omega (arith, none x le);
    here = λ some. absurd (omega (arith, none x le));
    none = λ h low lt same. omega arith;
  };
  befores = λ h lt. absurd (omega arith);
}

AreChains-push : (atoms : ℕ) (bonds : List Ends) (e : Ends) (n : ℕ) (last before : List ℕ)
    → AreChains atoms bonds n last before → n ≤ 2 * length bonds → AreChains atoms (bonds ++ e ∷ []) n last before
AreChains-push atoms bonds e n last before chains within = record {
  lasts = λ x le. IsLastLink-push bonds e x n (get_or last x 0) (chains.lasts x le) within;
  befores = λ h lt.
      let same : place_of_end (bonds ++ e ∷ []) h ≡ place_of_end bonds h = place_of_end-push bonds e h (omega arith) in
      subst (λ (x : ℕ). IsLastLink (bonds ++ e ∷ []) x h (get_or before h 0)) (sym same)
      (IsLastLink-push bonds e (place_of_end bonds h) h (get_or before h 0) (chains.befores h lt) (omega arith));
}

AreChains-more : (atoms : ℕ) (bonds : List Ends) (n x : ℕ) (last before : List ℕ)
    → AreChains atoms bonds n last before → place_of_end bonds n ≡ x → x < length last → n < length before → x ≤ atoms
    → AreChains atoms bonds (n + 1) (set last x (n + 1)) (set before n (get_or last x 0))
AreChains-more atoms bonds n x last before chains at in_last in_before low = record {
  lasts = λ d le. elim (cases_eq d x) [
    | inl same ↦ subst (λ (link : ℕ). IsLastLink bonds d (n + 1) link)
        (sym (ap (λ (y : ℕ). get_or (set last x (n + 1)) y 0) same
        ∙ get_or-set_same last x (n + 1) 0 in_last)) (IsLastLink-here bonds d n (at ∙ sym same))
    | inr other ↦ subst (λ (link : ℕ). IsLastLink bonds d (n + 1) link)
        (sym (get_or-set_other last x d (n + 1) 0 other))
        (IsLastLink-other bonds d n (get_or last d 0) (chains.lasts d le) (λ is. other (sym is ∙ at)))
  ];
  befores = λ h lt. elim (cases_eq h n) [
    | inl same ↦
        let link : get_or (set before n (get_or last x 0)) h 0 ≡ get_or last x 0 = ap
        (λ (y : ℕ). get_or (set before n (get_or last x 0)) y 0) same
        ∙ get_or-set_same before n (get_or last x 0) 0 in_before in
        let there : place_of_end bonds h ≡ x = ap (place_of_end bonds) same ∙ at in
        subst (λ (d : ℕ). IsLastLink bonds d h (get_or (set before n (get_or last x 0)) h 0)) (sym there)
        (subst (λ (y : ℕ). IsLastLink bonds x h y) (sym link)
        (subst (λ (y : ℕ). IsLastLink bonds x y (get_or last x 0)) (sym same) (chains.lasts x low)))
    | inr other ↦ subst (λ (y : ℕ). IsLastLink bonds (place_of_end bonds h) h y)
        (sym (get_or-set_other before n h (get_or last x 0) 0 other)) (chains.befores h (omega arith))
  ];
}

-- one more bond has two more ends
pub AreChains-add : (atoms : ℕ) (bonds longer : List Ends) (e : Ends) (end : ℕ) (last before : List ℕ)
    → AreChains atoms bonds (2 * length bonds) last before → AreEnds atoms e
    → longer ≡ bonds ++ e ∷ [] → end ≡ 2 * length bonds → atoms < length last → end + 1 < length before
    → AreChains atoms longer (2 * length longer) (set (set last e.first (end + 1)) e.second (end + 2))
    (set (set before end (get_or last e.first 0)) (end + 1) (get_or (set last e.first (end + 1)) e.second 0))
AreChains-add atoms bonds longer e end last before chains ends pushed is in_last in_before =
    let grown : List Ends = bonds ++ e ∷ [] in
    let last_now : List ℕ = set last e.first (end + 1) in
    let before_now : List ℕ = set before end (get_or last e.first 0) in
    let there : get_or grown (length bonds) no_ends ≡ e = get_or_push bonds e no_ends (length bonds) refl in
    let first : place_of_end grown end ≡ e.first = place_of_end-first grown (length bonds) end is
    ∙ ap (λ (b : Ends). b.first) there in
    let second : place_of_end grown (end + 1) ≡ e.second = place_of_end-second grown (length bonds) (end + 1)
    (omega (arith, is)) ∙ ap (λ (b : Ends). b.second) there in
    let start : AreChains atoms grown end last before = AreChains-push atoms bonds e end last before
    (subst (λ (n : ℕ). AreChains atoms bonds n last before) (sym is) chains) (omega (arith, is)) in
    let one : AreChains atoms grown (end + 1) last_now before_now = AreChains-more atoms grown end e.first
    last before start first (omega (arith, ends.first.1)) (omega arith) ends.first.1 in
    let two = AreChains-more atoms grown (end + 1) e.second last_now before_now one second
    (omega (arith, length-set last e.first (end + 1), ends.second.1))
    (omega (arith, length-set before end (get_or last e.first 0))) ends.second.1 in
    let sum : end + 1 + 1 ≡ end + 2 = omega arith in
    let all : end + 2 ≡ 2 * length longer = omega (arith, is, ap length pushed, length_push bonds e) in
    let link : ℕ → List ℕ = λ n. set last_now e.second n in
    let before_then : List ℕ = set before_now (end + 1) (get_or last_now e.second 0) in
    subst (λ (n : ℕ). AreChains atoms longer n (link (end + 2)) before_then) all
    (subst (λ (bs : List Ends). AreChains atoms bs (end + 2) (link (end + 2)) before_then) (sym pushed)
    (subst (λ (n : ℕ). AreChains atoms grown n (link n) before_then) sum two))

pub IsGraph-add : (atoms : ℕ) (bonds longer : List Ends) (e : Ends)
    → IsGraph (record { atoms = atoms; bonds = bonds }) → AreEnds atoms e → length bonds < 999
    → longer ≡ bonds ++ e ∷ [] → IsGraph (record { atoms = atoms; bonds = longer })
IsGraph-add atoms bonds longer e graph ends room pushed = record {
  atoms = graph.atoms;
  bonds = omega (arith, ap length pushed, length_push bonds e);
  each_bond = subst (λ (bs : List Ends). All (AreEnds atoms) bs) (sym pushed)
      (All-push (AreEnds atoms) bonds e graph.each_bond ends);
}

-- ---- along a chain

-- P is known of each bond with an end at x that lies on the chain before this link
pub record Walked (bonds : List Ends) (x link : ℕ) (P : ℕ → Type 0) : Type 0 where
  pub within : link ≤ 2 * length bonds
  pub here : 0 < link → place_of_end bonds (link - 1) ≡ x
  pub known : (h : ℕ) → link ≤ h → h < 2 * length bonds → place_of_end bonds h ≡ x → P (h / 2)

pub Walked-start : (bonds : List Ends) (x link : ℕ) (P : ℕ → Type 0)
    → IsLastLink bonds x (2 * length bonds) link → Walked bonds x link P
Walked-start bonds x link P l = record
    { within = l.within; here = l.here; known = λ h le lt same. absurd (l.none h le lt same) }

pub Walked-more : (bonds : List Ends) (x link next : ℕ) (P : ℕ → Type 0) → Walked bonds x link P → 0 < link
    → P ((link - 1) / 2) → IsLastLink bonds (place_of_end bonds (link - 1)) (link - 1) next → Walked bonds x next P
Walked-more bonds x link next P w some now l =
    let at : place_of_end bonds (link - 1) ≡ x = w.here some in
    record {
      within = omega (arith, w.within, l.within);
      here = λ more. l.here more ∙ at;
      known = λ h le lt same. elim (cases_lt h link) [
        | inl before ↦ elim (cases_eq h (link - 1)) [
          | inl last ↦ subst (λ (n : ℕ). P (n / 2)) (sym last) now
          | inr earlier ↦ absurd (l.none h le (omega arith) (same ∙ sym at))
        ]
        | inr after ↦ w.known h after lt same
      ];
    }

-- at the chain's end it is known of all
pub Walked-all : (bonds : List Ends) (x link k : ℕ) (d : Ends) (P : ℕ → Type 0) → Walked bonds x link P
    → link ≡ 0 → k < length bonds → ((get_or bonds k d).first ≡ x) ⊎ ((get_or bonds k d).second ≡ x) → P k
Walked-all bonds x link k d P w end within at =
    let same : get_or bonds k d ≡ get_or bonds k no_ends = get_or_default bonds k d no_ends within in
    let first_half : 2 * k / 2 ≡ k = omega arith in
    let second_half : (2 * k + 1) / 2 ≡ k = omega arith in
    elim at [
      | inl first ↦ subst P first_half
          (w.known (2 * k) (omega arith) (omega arith)
          (place_of_end-first bonds k (2 * k) refl ∙ ap (λ (b : Ends). b.first) (sym same) ∙ first))
      | inr second ↦ subst P second_half
          (w.known (2 * k + 1) (omega arith) (omega arith)
          (place_of_end-second bonds k (2 * k + 1) refl ∙ ap (λ (b : Ends). b.second) (sym same) ∙ second))
    ]

-- ---- bonds that join two places

pub joins-sym : (e : Ends) (x y : ℕ) → joins e x y ≡ joins e y x
joins-sym e x y = or_comm (eqb e.first x && eqb e.second y) (eqb e.first y && eqb e.second x)

-- such a bond has an end at the first of them
pub joins-at : (e : Ends) (x y : ℕ) → joins e x y ≡ true → (e.first ≡ x) ⊎ (e.second ≡ x)
joins-at e x y joined = elim (or_cases (eqb e.first x && eqb e.second y) (eqb e.first y && eqb e.second x) joined) [
  | inl straight ↦ inl (eqb-true _ _ (and_parts _ _ straight).0)
  | inr crossed ↦ inr (eqb-true _ _ (and_parts _ _ crossed).1)
]

joins-not_at : (e : Ends) (x y : ℕ) → e.first ≢ x → e.second ≢ x → joins e x y ≡ false
joins-not_at e x y first second = or_from _ _ (and_left _ _ (ne_eqb _ _ first)) (and_right _ _ (ne_eqb _ _ second))

-- a place above the number of atoms has no bonds
pub none_joins-outside : (atoms : ℕ) (bonds : List Ends) (x y : ℕ) → All (AreEnds atoms) bonds → atoms < x
    → All (λ e. joins e x y ≡ false) bonds
none_joins-outside atoms bonds x y each outside k d within =
    let ends : AreEnds atoms (get_or bonds k d) = each k d within in
    joins-not_at (get_or bonds k d) x y (λ is. omega (arith, ends.first.1)) (λ is. omega (arith, ends.second.1))

pub none_joins-sym : (bonds : List Ends) (x y : ℕ) → All (λ e. joins e x y ≡ false) bonds
    → All (λ e. joins e y x ≡ false) bonds
none_joins-sym bonds x y none k d within = joins-sym (get_or bonds k d) y x ∙ none k d within

-- the bonds of a chain do not join x and y
abbrev pub DoesNotJoin : List Ends → ℕ → ℕ → ℕ → Type 0
DoesNotJoin bonds x y k = joins (get_or bonds k no_ends) x y ≡ false

-- a test has one answer
pub both : {b : Bool} → b ≡ true → b ≡ false → ⊥
both t f = absurd cc

pub none_joins-walked : (bonds : List Ends) (x y link : ℕ) → Walked bonds x link (DoesNotJoin bonds x y)
    → link ≡ 0 → All (λ e. joins e x y ≡ false) bonds
none_joins-walked bonds x y link w end k d within =
    false_from_ne_true (joins (get_or bonds k d) x y) (λ joined.
    let none : joins (get_or bonds k no_ends) x y ≡ false = Walked-all bonds x link k d
    (DoesNotJoin bonds x y) w end within (joins-at (get_or bonds k d) x y joined) in
    both joined (ap (λ (b : Ends). joins b x y) (get_or_default bonds k d no_ends within) ∙ none))
