-- How maps of the first atoms of a query grow into embeddings.
use Rattle.std.proofs.Common.{◌≡◌, ◌≢◌, ℕ, zero, suc, ◌+◌, ◌-◌, ◌<◌, ◌≤◌, true, false, not, eqb, max, List, [], ◌∷◌, ◌++◌, length, get_or, take, All, refl, sym, ap, ◌∙◌, subst, inl, inr, arith, IsTrue, length-take}
use Rattle.std.specs.Prelude.{slice_get, slice_index, Some, None, Option, IsSome}
use Rattle.std.specs.List.{list_any}
use Rattle.std.proofs.lemmas.Bool.{and_parts, and_from, not-true, not_from_false, or_cases, or_left, or_right, cases_eq, eq-eqb, ne_eqb, cases_order, cases_lt}
use Rattle.std.proofs.lemmas.List.{take_more, length_push, take-take, take_all, take_at, get_or-take, get_or_push, get_or_append_left}
use Rattle.std.proofs.lemmas.List.Sums.{AllPass-from_list_all, list_all-from_AllPass}
use Rattle.std.proofs.lemmas.List.Folds.{list_any_at, list_any_none}
use Rattle.std.proofs.lemmas.List.Quantifiers.{all_pairs_push}
use Rattle.htss_defs.specs.declared.mol.Atom.{Atom}
use Rattle.htss_defs.specs.declared.query.QueryAtom.{QueryAtom}
use Rattle.htss_defs.specs.declared.query.QueryBond.{QueryBond}
use Rattle.htss_defs.specs.Molecule.{Molecule}
use Rattle.htss_defs.specs.QueryGraph.{QueryGraph, IsQuery, IsQueryBond}
use Rattle.htss_defs.specs.Embedding.{IsFirstOrSame, place_of}
use Rattle.htss_defs.proofs.Chains.{both}
use Rattle.htss_defs.specs.Cost.{passes, at_place, bond_lands}
use Rattle.embed.specs.Tests.{PassesAll, bond_keeps, bonds_keep, may_extend}
use Rattle.embed.specs.Partial.{IsPartial, GoesOn, IsFirstFrom, IsStuck, NoneBelow}
use Rattle.embed.proofs.Order.{IsFirstOrSame-same, IsFirstOrSame-at}

-- the place of an atom before the last
pub place_of_before : (f : List ℕ) (p u : ℕ) → 1 ≤ u → u ≤ length f → place_of (f ++ p ∷ []) u ≡ place_of f u
place_of_before f p u low high = get_or_append_left f (p ∷ []) 0 (u - 1) (omega arith)

-- ---- a map grows by a place

pub IsPartial-nil : (q : QueryGraph) (m : Molecule) → IsQuery q → IsPartial q m []
IsPartial-nil q m query = record {
  fits = omega arith;
  apart = λ i j d lt within. absurd (omega arith);
  atoms = λ i within. absurd (omega arith);
  bonds = λ k d within first second. absurd (omega (arith, (query.each_bond k d within).ends.first.0));
}

pub IsPartial-empty : (q : QueryGraph) (m : Molecule) (f : List ℕ) → IsQuery q → f ≡ [] → IsPartial q m f
IsPartial-empty q m f query empty = subst (λ (g : List ℕ). IsPartial q m g) (sym empty) (IsPartial-nil q m query)

-- the tests of one place
record Extends (q : QueryGraph) (m : Molecule) (f : List ℕ) (p : ℕ) : Type 0 where
  free : list_any (λ x. eqb x p) f ≡ false
  atom : passes (slice_get q.atoms (length f)) (at_place m.atoms p) ≡ true
  bonds : bonds_keep q m f p ≡ true

Extends-from : (q : QueryGraph) (m : Molecule) (f : List ℕ) (p : ℕ) → may_extend q m f p ≡ true → Extends q m f p
Extends-from q m f p may =
    let outer = and_parts _ _ may in
    let inner = and_parts _ _ outer.0 in
    record { free = not-true _ inner.1; atom = inner.0; bonds = outer.1 }

may_extend-from : (q : QueryGraph) (m : Molecule) (f : List ℕ) (p : ℕ) → Extends q m f p → may_extend q m f p ≡ true
may_extend-from q m f p e = and_from _ _ (and_from _ _ e.atom (not_from_false _ e.free)) e.bonds

eqb-not-true : (a b : ℕ) → a ≡ b → not (eqb a b) ≡ true → ⊥
eqb-not-true a b same differ = grind (arith, eq-eqb a b same)

pub not_there : (f : List ℕ) (p k : ℕ) (d : ℕ) → k < length f → list_any (λ x. eqb x p) f ≡ false → get_or f k d ≢ p
not_there f p k d within free = λ same. let found = list_any_at (λ x. eqb x p) f k d within (eq-eqb _ _ same) in cc

at_last : (q : QueryGraph) (m : Molecule) (f : List ℕ) (p i : ℕ) → i ≡ length f
    → passes (slice_get q.atoms (length f)) (at_place m.atoms p) ≡ true
    → IsTrue (passes (slice_get q.atoms i) (at_place m.atoms (slice_index (f ++ p ∷ []) i)))
at_last q m f p i is passed = rw (get_or_push f p 0 i (sym is), is) passed

-- a bond of the query within the map that is one atom longer
bonds-push : (q : QueryGraph) (m : Molecule) (f : List ℕ) (p : ℕ) → IsQuery q → IsPartial q m f → Extends q m f p
    → All (λ b. b.first ≤ length (f ++ p ∷ []) → b.second ≤ length (f ++ p ∷ [])
    → IsTrue (bond_lands m b (place_of (f ++ p ∷ []) b.first) (place_of (f ++ p ∷ []) b.second))) q.bonds
bonds-push q m f p query partial extends k d within first second =
    let b : QueryBond = get_or q.bonds k d in
    let kept : bond_keeps m f p b ≡ true = AllPass-from_list_all _ q.bonds extends.bonds k d within in
    let valid : IsQueryBond (length q.atoms) b = query.each_bond k d within in
    let len = length_push f p in
    elim (cases_eq (max b.first b.second) (length f + 1)) [
      | inl last ↦ elim (or_cases _ _ kept) [
        | inl other ↦ absurd (eqb-not-true _ _ last other)
        | inr lands ↦ lands
      ]
      | inr before ↦
          let first_in : b.first ≤ length f = omega arith in
          let second_in : b.second ≤ length f = omega arith in
          rw (
            place_of_before f p b.first (omega (arith, valid.ends.first.0)) first_in,
            place_of_before f p
                b.second (omega (arith, valid.ends.second.0)) second_in,
          ) (partial.bonds k d within first_in second_in)
    ]

pub IsPartial-push : (q : QueryGraph) (m : Molecule) (f : List ℕ) (p : ℕ) → IsQuery q → IsPartial q m f
    → length f < length q.atoms → may_extend q m f p ≡ true → IsPartial q m (f ++ p ∷ [])
IsPartial-push q m f p query partial more may =
    let extends : Extends q m f p = Extends-from q m f p may in
    let len = length_push f p in
    record {
      fits = omega arith;
      apart = all_pairs_push (λ x y. x ≢ y) f p partial.apart (λ k d within. not_there f p k d within extends.free);
      atoms = λ i within. elim (cases_lt i (length f)) [
        | inl before ↦ rw (get_or_append_left f (p ∷ []) 0 i before) (partial.atoms i before)
        | inr last ↦ at_last q m f p i (omega arith) extends.atom
      ];
      bonds = bonds-push q m f p query partial extends;
    }

-- ---- a map that has all atoms

same-whole : (f h : List ℕ) → length h ≡ length f → take (length f) h ≡ f → f ≡ h
same-whole f h len begins = sym begins ∙ take_all (length f) h (omega arith)

pub IsFirstFrom-whole : (q : QueryGraph) (m : Molecule) (f : List ℕ) → IsQuery q → IsPartial q m f
    → length f ≡ length q.atoms → IsFirstFrom q m f f
IsFirstFrom-whole q m f query partial all = record {
  goes_on = record {
    embeds = record {
      one_each = all;
      apart = partial.apart;
      atoms = partial.atoms;
      bonds = λ k d within.
          let valid : IsQueryBond (length q.atoms) (get_or q.bonds k d) = query.each_bond k d within in
          partial.bonds k d within (omega (arith, valid.ends.first.1)) (omega (arith, valid.ends.second.1));
    };
    begins = take_all (length f) f (omega arith);
  };
  first = λ other on. subst (λ (g : List ℕ). IsFirstOrSame f g)
      (same-whole f other (omega (arith, on.embeds.one_each)) on.begins) (IsFirstOrSame-same f);
}

-- ---- where the next atom stands

not-at-0 : (asked : Option QueryAtom) → passes asked None ≡ true → ⊥
not-at-0 None passed = absurd cc
not-at-0 (Some a) passed = absurd cc

passes-there : (asked : Option QueryAtom) (there : Option Atom) → IsTrue (passes asked there) → IsSome there
passes-there None there passed = absurd cc
passes-there (Some a) None passed = absurd cc
passes-there (Some a) (Some x) passed = refl

slice_get-within : {X : Type 0} (xs : List X) (i : ℕ) → IsSome (slice_get xs i) → i < length xs
slice_get-within [] i there = absurd cc
slice_get-within (x ∷ xs) zero there = omega arith
slice_get-within (x ∷ xs) (suc i) there = omega (arith, slice_get-within xs i there)

at_place-within : {X : Type 0} (xs : List X) (p : ℕ) → IsSome (at_place xs p) → p ≤ length xs
at_place-within xs p there =
    elim (cases_eq p 0) [
      | inl none ↦ omega arith
      | inr more ↦ omega (arith, slice_get-within xs (p - 1) (rw (ne_eqb p 0 more) at there))
    ]

-- the next atom may stand at places of the molecule alone
pub may-within : (q : QueryGraph) (m : Molecule) (f : List ℕ) (p : ℕ) → may_extend q m f p ≡ true → p ≤ length m.atoms
may-within q m f p may = at_place-within m.atoms p
    (passes-there (slice_get q.atoms (length f)) (at_place m.atoms p) (Extends-from q m f p may).atom)

pub may-free : (q : QueryGraph) (m : Molecule) (f : List ℕ) (p : ℕ) → may_extend q m f p ≡ true
    → list_any (λ x. eqb x p) f ≡ false
may-free q m f p may = (Extends-from q m f p may).free

pub within_atoms : (q : QueryGraph) (m : Molecule) (h : List ℕ) (k n : ℕ)
    → IsTrue (passes (slice_get q.atoms k) (at_place m.atoms (slice_index h k))) → length m.atoms ≤ n
    → slice_index h k ≤ n
within_atoms q m h k n passed all =
    omega (
      arith,
      at_place-within m.atoms (slice_index h k)
          (passes-there (slice_get q.atoms k) (at_place m.atoms (slice_index h k)) passed),
    )

shorter-front : (f g : List ℕ) (p : ℕ) → take (length f + 1) g ≡ f ++ p ∷ [] → take (length f) g ≡ f
shorter-front f g p begins =
    sym (take-take (length f) (length f + 1) g (omega arith)) ∙ ap (take (length f)) begins
    ∙ take_at f (p ∷ []) (length f) refl

at-front : (f g : List ℕ) (p : ℕ) → take (length f + 1) g ≡ f ++ p ∷ [] → slice_index g (length f) ≡ p
at-front f g p begins =
    sym (get_or-take (length f + 1) g (length f) 0 (omega arith))
    ∙ ap (λ (x : List ℕ). get_or x (length f) 0) begins ∙ get_or_push f p 0 (length f) refl

-- an embedding that goes on from f goes on from f and the place of the next atom
next-begins : (q : QueryGraph) (m : Molecule) (f h : List ℕ) (p : ℕ) → GoesOn q m f h
    → length f < length q.atoms → slice_index h (length f) ≡ p → take (length f + 1) h ≡ f ++ p ∷ []
next-begins q m f h p on more is =
    take_more h (length f) 0 (omega (arith, on.embeds.one_each))
    ∙ ap (λ (g : List ℕ). g ++ slice_index h (length f) ∷ []) on.begins ∙ ap (λ (x : ℕ). f ++ x ∷ []) is

pub GoesOn-next : (q : QueryGraph) (m : Molecule) (f h : List ℕ) (p : ℕ) → GoesOn q m f h
    → length f < length q.atoms → slice_index h (length f) ≡ p → GoesOn q m (f ++ p ∷ []) h
GoesOn-next q m f h p on more is =
    record { embeds = on.embeds; begins = rw (length_push f p) (next-begins q m f h p on more is) }

place_of-taken : (f h : List ℕ) (n u : ℕ) → take n h ≡ f → 1 ≤ u → u ≤ n → place_of f u ≡ place_of h u
place_of-taken f h n u begins low high = ap (λ (g : List ℕ). get_or g (u - 1) 0) (sym begins)
    ∙ get_or-take n h (u - 1) 0 (omega arith)

-- the next atom may stand where a longer map has it
pub may-from_partial : (q : QueryGraph) (m : Molecule) (f : List ℕ) (p : ℕ) → IsPartial q m (f ++ p ∷ [])
    → may_extend q m f p ≡ true
may-from_partial q m f p partial =
    let len = length_push f p in
    may_extend-from q m f p (record {
      free = list_any_none (λ x. eqb x p) f (λ k d within. ne_eqb (get_or f k d) p
          (λ same. partial.apart k (length f) d within (omega arith)
          (get_or_append_left f (p ∷ []) d k within ∙ same ∙ sym (get_or_push f p d (length f) refl))));
      atom = subst (λ (x : ℕ). IsTrue (passes (slice_get q.atoms (length f)) (at_place m.atoms x)))
          (get_or_push f p 0 (length f) refl) (partial.atoms (length f) (omega arith));
      bonds = list_all-from_AllPass (bond_keeps m f p) q.bonds (λ k d within.
          let b : QueryBond = get_or q.bonds k d in
          elim (cases_eq (max b.first b.second) (length f + 1)) [
            | inl last ↦ or_right (not (eqb (max b.first b.second) (length f + 1))) _
                (partial.bonds k d within (omega arith) (omega arith))
            | inr before ↦ or_left _ (bond_lands m b (place_of (f ++ p ∷ []) b.first)
                (place_of (f ++ p ∷ []) b.second))
                (not_from_false _ (ne_eqb (max b.first b.second) (length f + 1) before))
          ]);
    })

-- the first places of an embedding keep all tests
pub IsPartial-taken : (q : QueryGraph) (m : Molecule) (h : List ℕ) (n : ℕ) → IsQuery q → PassesAll q m h
    → n ≤ length h → IsPartial q m (take n h)
IsPartial-taken q m h n query e le =
    let len : length (take n h) ≡ n = omega (arith, length-take n h) in
    record {
      fits = omega (arith, e.one_each);
      apart = λ i j d lt within same. e.apart i j d lt (omega arith)
          (sym (get_or-take n h i d (omega arith)) ∙ same ∙ get_or-take n h j d (omega arith));
      atoms = λ i within. subst (λ (x : ℕ). IsTrue (passes (slice_get q.atoms i) (at_place m.atoms x)))
          (sym (get_or-take n h i 0 (omega arith))) (e.atoms i (omega arith));
      bonds = λ k d within first second.
          let b : QueryBond = get_or q.bonds k d in
          let valid : IsQueryBond (length q.atoms) b = query.each_bond k d within in
          rw (
            place_of-taken (take n h) h n b.first refl valid.ends.first.0 (omega arith),
            place_of-taken (take n h) h n b.second refl valid.ends.second.0 (omega arith),
          ) (e.bonds k d within);
    }

-- the next atom may stand where an embedding has it
may-from_embedding : (q : QueryGraph) (m : Molecule) (f h : List ℕ) (p : ℕ) → IsQuery q → GoesOn q m f h
    → length f < length q.atoms → slice_index h (length f) ≡ p → may_extend q m f p ≡ true
may-from_embedding q m f h p query on more is = may-from_partial q m f p
    (subst (λ (g : List ℕ). IsPartial q m g) (next-begins q m f h p on more is)
    (IsPartial-taken q m h (length f + 1) query on.embeds (omega (arith, on.embeds.one_each))))

-- ---- no embedding by the places below

-- a place before 1 holds no atom
no-atom-at-0 : (q : QueryGraph) (m : Molecule) (f : List ℕ) → may_extend q m f 0 ≡ true → ⊥
no-atom-at-0 q m f may = not-at-0 (slice_get q.atoms (length f)) (Extends-from q m f 0 may).atom

pub NoneBelow-start : (q : QueryGraph) (m : Molecule) (f : List ℕ) → IsQuery q → length f < length q.atoms
    → NoneBelow q m f 1
NoneBelow-start q m f query more = record {
  none = λ whole on lt.
      no-atom-at-0 q m f (may-from_embedding q m f whole 0 query on more (omega arith));
}

-- where the next atom may stand at none of the places between
pub NoneBelow-over : (q : QueryGraph) (m : Molecule) (f : List ℕ) (n p : ℕ) → IsQuery q
    → length f < length q.atoms → NoneBelow q m f n
    → ((x : ℕ) → n ≤ x → x < p → may_extend q m f x ≡ false) → NoneBelow q m f p
NoneBelow-over q m f n p query more none refused = record {
  none = λ whole on lt.
      let x : ℕ = slice_index whole (length f) in
      elim (cases_lt x n) [
        | inl below ↦ none.none whole on below
        | inr above ↦ both (may-from_embedding q m f whole x query on more refl) (refused x above lt)
      ];
}

pub NoneBelow-stuck : (q : QueryGraph) (m : Molecule) (f longer : List ℕ) (p : ℕ) → length f < length q.atoms
    → NoneBelow q m f p → longer ≡ f ++ p ∷ [] → IsStuck q m longer → NoneBelow q m f (p + 1)
NoneBelow-stuck q m f longer p more none pushed stuck = record {
  none = λ whole on lt.
      elim (cases_lt (slice_index whole (length f)) p) [
        | inl below ↦ none.none whole on below
        | inr here ↦ stuck whole (subst (λ (g : List ℕ). GoesOn q m g whole) (sym pushed)
            (GoesOn-next q m f whole p on more (omega arith)))
      ];
}

pub IsStuck-from : (q : QueryGraph) (m : Molecule) (f : List ℕ) → length f < length q.atoms
    → NoneBelow q m f (length m.atoms + 1) → IsStuck q m f
IsStuck-from q m f more none whole on =
    let there = on.embeds.atoms (length f) (omega (arith, on.embeds.one_each)) in
    none.none whole on (omega (arith, within_atoms q m whole (length f) (length m.atoms) there (omega arith)))

pub IsFirstFrom-next : (q : QueryGraph) (m : Molecule) (f longer g : List ℕ) (p : ℕ) → length f < length q.atoms
    → NoneBelow q m f p → longer ≡ f ++ p ∷ [] → IsFirstFrom q m longer g → IsFirstFrom q m f g
IsFirstFrom-next q m f longer g p more none pushed found =
    let from : IsFirstFrom q m (f ++ p ∷ []) g = subst (λ (x : List ℕ). IsFirstFrom q m x g) pushed found in
    let on = from.goes_on in
    let begins : take (length f + 1) g ≡ f ++ p ∷ [] = rw (length_push f p) at on.begins in
    let shorter : take (length f) g ≡ f = shorter-front f g p begins in
    let here : slice_index g (length f) ≡ p = at-front f g p begins in
    record {
      goes_on = record { embeds = on.embeds; begins = shorter };
      first = λ other goes. elim (cases_order (slice_index other (length f)) p) [
        | inl same ↦ from.first other (GoesOn-next q m f other p goes more same)
        | inr (inl below) ↦ absurd (none.none other goes below)
        | inr (inr above) ↦ IsFirstOrSame-at (length f) g other (shorter ∙ sym goes.begins)
            (omega (arith, on.embeds.one_each)) (omega (arith, goes.embeds.one_each)) (omega arith)
      ];
    }
