-- A query file has one outcome.
use Rattle.std.proofs.Common.{◌≡◌, ℕ, ◌+◌, ◌<◌, ◌≤◌, ◌⊎◌, ◌↔◌, inl, inr, Bool, true, false, IsTrue, Result, Ok, Err, List, [], ◌∷◌, ◌++◌, length, map, get_or, refl, sym, ap, subst, ◌∙◌, arith}
use Rattle.std.specs.Prelude.{Option, Some, None}
use Rattle.std.proofs.lemmas.List.{length-map, get_or-map, ext_get_or}
use Rattle.std.proofs.lemmas.List.Elements.{All-head, All-tail}
use Rattle.std.proofs.lemmas.Bool.{false≢true, cases_lt}
use Rattle.std.proofs.lemmas.Simd.{map-map}
use Rattle.std.proofs.lemmas.Option.{slice_get_within, slice_get-get_or}
use Rattle.htss_defs.specs.declared.graph.Ends.{Ends}
use Rattle.htss_defs.specs.declared.query.QueryAtom.{QueryAtom}
use Rattle.htss_defs.specs.declared.query.QueryBond.{QueryBond}
use Rattle.htss_defs.specs.Graph.{Graph, IsRingBond}
use Rattle.htss_defs.specs.QueryGraph.{QueryGraph, query_shape, query_bond_ends}
use Rattle.htss_defs.specs.Marked.{IsMarkedQuery, unmarked_query, unmarked_query_bond}
use Rattle.mol_section.specs.Lines.{ends_section}
use Rattle.mol_section.specs.SectionLines.{kinds_of}
use Rattle.ctfile.specs.Cut.{NoneEnds, BeginsWithEnd}
use Rattle.report_rules.proofs.LineKinds.{length-kinds_of}
use Rattle.query_mol.specs.declared.query.QueryRefusal.{QueryRefusal}
use Rattle.query_mol.specs.QueryRecord.{query_refusal, QueryLineRefusal, IsAcceptedQuery, IsRefusedQueryAt, HasNoQueryEnd}
use Rattle.query_mol.specs.QueryOutcome.{IsQueryOutcome, IsFirstQueryOutcome}

-- ---- one first section

one_first : (section other rest more : List (List ℕ)) → NoneEnds section → NoneEnds other → BeginsWithEnd rest → BeginsWithEnd more → section ++ rest ≡ other ++ more → section ≡ other
one_first [] [] rest more a b e f same = refl
one_first [] (o ∷ os) [] more a b e f same = absurd cc
one_first [] (o ∷ os) (r ∷ rest) more a b e f same =
    let first : r ≡ o = cc in
    absurd (false≢true (sym (All-head (λ x. ends_section x ≡ false) o os b) ∙ ap ends_section (sym first) ∙ e))
one_first (s ∷ ss) [] rest [] a b e f same = absurd cc
one_first (s ∷ ss) [] rest (m ∷ more) a b e f same =
    let first : s ≡ m = cc in
    absurd (false≢true (sym (All-head (λ x. ends_section x ≡ false) s ss a) ∙ ap ends_section first ∙ f))
one_first (s ∷ ss) (o ∷ os) rest more a b e f same =
    let first : s ≡ o = cc in
    let tails : ss ++ rest ≡ os ++ more = cc in
    let again = one_first ss os rest more (All-tail (λ x. ends_section x ≡ false) s ss a) (All-tail (λ x. ends_section x ≡ false) o os b) e f tails in
    cc (first, again)

-- ---- one marked query

one_flag : (s t : Bool) (P : Type 0) → (IsTrue s ↔ P) → (IsTrue t ↔ P) → s ≡ t
one_flag true true P a b = refl
one_flag false false P a b = refl
one_flag true false P a b = sym (b.1 (a.0 refl))
one_flag false true P a b = a.1 (b.0 refl)

one_bond : (b c : QueryBond) → unmarked_query_bond b ≡ unmarked_query_bond c → b.ring ≡ c.ring → b ≡ c
one_bond b c same flags =
    let with_flag : QueryBond → Bool → QueryBond = λ x t. record x { ring = t } in
    ap (λ (x : QueryBond). with_flag x b.ring) same ∙ ap (with_flag c) flags

one_shape : (m n : QueryGraph) → m.atoms ≡ n.atoms → map unmarked_query_bond m.bonds ≡ map unmarked_query_bond n.bonds → query_shape m ≡ query_shape n
one_shape m n atoms bonds =
    let ends : map query_bond_ends m.bonds ≡ map query_bond_ends n.bonds = sym (map-map query_bond_ends unmarked_query_bond m.bonds) ∙ ap (map query_bond_ends) bonds ∙ map-map query_bond_ends unmarked_query_bond n.bonds in
    ap (λ (x : List QueryAtom). record { atoms = length x; bonds = map query_bond_ends m.bonds }) atoms ∙ ap (λ (x : List Ends). record { atoms = length n.atoms; bonds = x }) ends

abbrev no_bond : QueryBond
no_bond = record { first = 0; second = 0; kind = 0; topology = 0; ring = false }

one_query : (m n : QueryGraph) → unmarked_query m ≡ unmarked_query n → IsMarkedQuery m → IsMarkedQuery n → m ≡ n
one_query m n same marks others =
    ap (λ (x : List QueryAtom). record { atoms = x; bonds = m.bonds }) atoms
    ∙ ap (λ (x : List QueryBond). record { atoms = n.atoms; bonds = x }) (ext_get_or no_bond m.bonds n.bonds long each)
  where
    atoms : m.atoms ≡ n.atoms
    atoms = ap (λ (x : QueryGraph). x.atoms) same

    bonds : map unmarked_query_bond m.bonds ≡ map unmarked_query_bond n.bonds
    bonds = ap (λ (x : QueryGraph). x.bonds) same

    long : length m.bonds ≡ length n.bonds
    long = sym (length-map m.bonds unmarked_query_bond) ∙ ap length bonds ∙ length-map n.bonds unmarked_query_bond

    each : (k : ℕ) → k < length m.bonds → get_or m.bonds k no_bond ≡ get_or n.bonds k no_bond
    each k within =
        let plain : unmarked_query_bond (get_or m.bonds k no_bond) ≡ unmarked_query_bond (get_or n.bonds k no_bond) =
        sym (get_or-map unmarked_query_bond m.bonds k no_bond no_bond within) ∙ ap (λ (x : List QueryBond). get_or x k no_bond) bonds ∙ get_or-map unmarked_query_bond n.bonds k no_bond no_bond (omega (arith, within, long)) in
        let first = marks k _ (slice_get-get_or m.bonds k no_bond within) in
        let second = others k _ (slice_get-get_or n.bonds k no_bond (omega (arith, within, long))) in
        one_bond _ _ plain (one_flag _ _ (IsRingBond (query_shape m) k) first (subst (λ (g : Graph). IsTrue (get_or n.bonds k no_bond).ring ↔ IsRingBond g k) (sym (one_shape m n atoms bonds)) second))

-- ---- one outcome

one_refusal : (lines : List (List ℕ)) (i : ℕ) (x y : Option ℕ) → QueryLineRefusal lines i x → QueryLineRefusal lines i y → x ≡ y
one_refusal lines i x y a b =
    let both : Some a.0 ≡ Some b.0 = sym a.1 ∙ b.1 in
    let kinds : a.0 ≡ b.0 = cc both in
    sym a.2 ∙ ap (query_refusal lines i) kinds ∙ b.2

refused_within : (lines : List (List ℕ)) (i : ℕ) (x : Option ℕ) → QueryLineRefusal lines i x → i < length lines
refused_within lines i x a = omega (arith, slice_get_within (kinds_of lines) i a.0 a.1, length-kinds_of lines)

not_both : (lines : List (List ℕ)) (i code : ℕ) → QueryLineRefusal lines i None → QueryLineRefusal lines i (Some code) → ⊥
not_both lines i code a b =
    let same : None ≡ Some code = one_refusal lines i None (Some code) a b in
    cc same

one_place : (lines : List (List ℕ)) (i j code other : ℕ) → IsRefusedQueryAt lines i code ⊎ HasNoQueryEnd lines i code → IsRefusedQueryAt lines j other ⊎ HasNoQueryEnd lines j other → (i ≡ j) × (code ≡ other)
one_place lines i j code other (inl a) (inr b) = absurd (not_both lines i code (b.passes i (refused_within lines i (Some code) a.here)) a.here)
one_place lines i j code other (inr a) (inl b) = absurd (not_both lines j other (a.passes j (refused_within lines j (Some other) b.here)) b.here)
one_place lines i j code other (inr a) (inr b) = (a.at ∙ sym b.at, a.code_is ∙ sym b.code_is)
one_place lines i j code other (inl a) (inl b) = cases (cases_lt i j) (cases_lt j i)
  where
    cases : (i < j) ⊎ (j ≤ i) → (j < i) ⊎ (i ≤ j) → (i ≡ j) × (code ≡ other)
    cases (inl lt) q = absurd (not_both lines i code (b.before i lt) a.here)
    cases (inr ge) (inl lt) = absurd (not_both lines j other (a.before j lt) b.here)
    cases (inr ge) (inr le) =
        let same : i ≡ j = omega (arith, ge, le) in
        let here : Some code ≡ Some other = one_refusal lines i (Some code) (Some other) a.here (subst (λ (k : ℕ). QueryLineRefusal lines k (Some other)) (sym same) b.here) in
        let codes_same : code ≡ other = cc here in
        (same, codes_same)

not_accepted : (lines : List (List ℕ)) (i code : ℕ) (q : QueryGraph) → IsAcceptedQuery lines q → IsRefusedQueryAt lines i code ⊎ HasNoQueryEnd lines i code → ⊥
not_accepted lines i code q a (inl b) = not_both lines i code (a.passes i (refused_within lines i (Some code) b.here)) b.here
not_accepted lines i code q a (inr b) = b.none a.ends

one_outcome : (lines : List (List ℕ)) (x y : Result QueryGraph QueryRefusal) → IsQueryOutcome lines x → IsQueryOutcome lines y → x ≡ y
one_outcome lines (Ok q) (Ok r) a b = ap Ok (one_query q r (a.query_is ∙ sym b.query_is) a.marked b.marked)
one_outcome lines (Ok q) (Err e) a b = absurd (not_accepted lines b.0 e.code q a b.2)
one_outcome lines (Err e) (Ok r) a b = absurd (not_accepted lines a.0 e.code r b a.2)
one_outcome lines (Err e) (Err f) a b =
    let same = one_place lines a.0 b.0 e.code f.code a.2 b.2 in
    let at : e.line ≡ f.line = a.1 ∙ ap (λ (i : ℕ). i + 1) same.0 ∙ sym b.1 in
    ap (λ n. Err (record { line = n; code = e.code })) at ∙ ap (λ n. Err (record { line = f.line; code = n })) same.1

pub one_query_outcome : (bytes : List ℕ) (first second : Result QueryGraph QueryRefusal) → IsFirstQueryOutcome bytes first → IsFirstQueryOutcome bytes second → first ≡ second
one_query_outcome bytes x y a b =
    let same : a.section ≡ b.section = one_first a.section b.section a.first.rest b.first.rest a.first.none b.first.none a.first.ends b.first.ends (sym a.first.parts ∙ b.first.parts) in
    one_outcome b.section x y (subst (λ s. IsQueryOutcome s x) same a.is) b.is
