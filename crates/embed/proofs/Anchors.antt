-- The places that are tried: at no other may the next atom stand.
use Rattle.std.proofs.Common.{◌≡◌, ℕ, ◌+◌, ◌-◌, ◌/◌, ◌<◌, ◌≤◌, Bool, true, false, not, ◌&&◌, min, max, eqb, List, [], ◌∷◌, ◌++◌, length, get_or, set, All, refl, sym, ap, ◌∙◌, subst, inl, inr, arith}
use Rattle.std.specs.Prelude.{slice_index, slice_get, Some, ◌≢◌, ◌%◌, ◌⊎◌}
use Rattle.std.proofs.lemmas.Bool.{or_from, or_left, or_right, and_from, and_left, and_right, not_from_true, not_from_false, ne_eqb, cases_eq, cases_lt, cases_Bool, cond-true, cond-false, eq-eqb, false_from_ne_true}
use Rattle.std.proofs.lemmas.List.{get_or_push, get_or_default, get_or-set_same, get_or-set_other}
use Rattle.std.specs.List.{list_any}
use Rattle.std.proofs.lemmas.List.Sums.{list_all-from_AllPass}
use Rattle.std.proofs.lemmas.List.Folds.{list_all_at}
use Rattle.std.proofs.lemmas.Option.{slice_get-get_or, slice_get_within, get_or_from_slice_get}
use Rattle.htss_defs.specs.declared.graph.Ends.{Ends}
use Rattle.htss_defs.specs.declared.query.QueryBond.{QueryBond}
use Rattle.htss_defs.specs.Graph.{Graph, AreEnds, joins}
use Rattle.htss_defs.specs.Adjacency.{IsGraph, JoinsAt, IsLastLink, IsLinkBefore, no_ends, place_of_end}
use Rattle.htss_defs.specs.declared.mol.Bond.{Bond}
use Rattle.htss_defs.specs.Molecule.{Molecule, IsMolecule, molecule_graph}
use Rattle.htss_defs.specs.QueryGraph.{QueryGraph, IsQuery, IsQueryBond, query_shape}
use Rattle.htss_defs.specs.Embedding.{place_of}
use Rattle.htss_defs.specs.Cost.{at_place, passes, bond_passes, bond_lands}
use Rattle.htss_defs.proofs.Chains.{Walked, Walked-more, Walked-all, joins-at, joins-sym, none_joins-sym, both}
use Rattle.embed.specs.Tests.{bond_keeps, bonds_keep, may_extend}
use Rattle.embed.specs.Partial.{IsPartial, NoneBelow}
use Rattle.embed.specs.Places.{place_bit}
use Rattle.embed.specs.declared.anchored.Anchor.{Anchor}
use Rattle.embed.specs.Anchors.{AsksBondTo, AsksNoBond, IsAnchor, IsLead, IsPlan, KeepsBelow}
use Rattle.embed.specs.Candidates.{AreFitting, IsNextPlace, IsLastPlace}
use Rattle.embed.proofs.Keeps.{KeepsAt, larger, Walked-last, all-keep}
use Rattle.embed.proofs.Sets.{HasNoneAfter}
use Rattle.embed.proofs.Lands.{bond_lands-none, bond_lands-at}
use Rattle.embed.proofs.Maps.{place_of_before, within_atoms, NoneBelow-over}

-- ---- the anchor

-- the bond that is asked, by its number
asked-at : (q : QueryGraph) (f : List ℕ) (x : ℕ) (d : QueryBond) → (a : AsksBondTo q f x)
    → get_or q.bonds a.index d ≡ a.asked
asked-at q f x d a = get_or_from_slice_get q.bonds a.index a.asked d a.here

asked-valid : (q : QueryGraph) (f : List ℕ) (x : ℕ) → IsQuery q → (a : AsksBondTo q f x)
    → IsQueryBond (length q.atoms) a.asked
asked-valid q f x query a = subst (λ (b : QueryBond). IsQueryBond (length q.atoms) b) (asked-at q f x a.asked a)
    (query.each_bond a.index a.asked (slice_get_within q.bonds a.index a.asked a.here))

-- it is the place of an atom of the molecule
anchor-within : (q : QueryGraph) (m : Molecule) (f : List ℕ) (x : ℕ) → IsQuery q → IsPartial q m f
    → AsksBondTo q f x → x ≤ length m.atoms
anchor-within q m f x query partial a =
    let valid : IsQueryBond (length q.atoms) a.asked = asked-valid q f x query a in
    let u : ℕ = min a.asked.first a.asked.second in
    let in_f : u - 1 < length f = omega
    (arith, a.last, valid.ends.differ, valid.ends.first.0, valid.ends.second.0) in
    let le : slice_index f (u - 1) ≤ length m.atoms = within_atoms q m f (u - 1) (length m.atoms)
    (partial.atoms (u - 1) in_f) (omega arith) in
    subst (λ (n : ℕ). n ≤ length m.atoms) a.before le

-- bond k of the query does not have atom n as its later end
abbrev pub IsNotLast : ℕ → List QueryBond → ℕ → Type 0
IsNotLast n bonds k = (d : QueryBond) → max (get_or bonds k d).first (get_or bonds k d).second ≢ n

pub AsksNoBond-from : (q : QueryGraph) (g : Graph) (f : List ℕ) (link : ℕ) → g ≡ query_shape q
    → Walked g.bonds (length f + 1) link (IsNotLast (length f + 1) q.bonds) → link ≡ 0 → AsksNoBond q f
AsksNoBond-from q g f link is walked end k d within last =
    Walked-last q g (length f + 1) link k d (IsNotLast (length f + 1) q.bonds) is walked end within last d last

-- what the plan knows of the next atom
pub Walked-lead : (q : QueryGraph) (g : Graph) (n link : ℕ) → IsLead q g n link
    → Walked g.bonds n link (IsNotLast n q.bonds)
Walked-lead q g n link l = record { within = l.within; here = l.here; known = l.none }

pub lead-at : (q : QueryGraph) (g : Graph) (plan f : List ℕ) (n : ℕ) → IsPlan q g plan → n ≡ length f
    → length f < length q.atoms → IsLead q g (length f + 1) (get_or plan n 0)
lead-at q g plan f n of is more = subst (λ (k : ℕ). IsLead q g (length f + 1) (get_or plan k 0)) (sym is)
    (of (length f) more)

-- one more atom is laid out
pub lead-set : (q : QueryGraph) (g : Graph) (plan : List ℕ) (i link : ℕ)
    → ((j : ℕ) → j < i → IsLead q g (j + 1) (get_or plan j 0)) → IsLead q g (i + 1) link → i < length plan
    → (j : ℕ) → j < i + 1 → IsLead q g (j + 1) (get_or (set plan i link) j 0)
lead-set q g plan i link before now within j lt = elim (cases_eq j i) [
  | inl last ↦ rw last (subst (λ (n : ℕ). IsLead q g (i + 1) n) (sym (get_or-set_same plan i link 0 within)) now)
  | inr other ↦ subst (λ (n : ℕ). IsLead q g (j + 1) n) (sym (get_or-set_other plan i j link 0 other))
      (before j (omega arith))
]

-- the bond of this link is that of an anchor
pub IsAnchor-at : (q : QueryGraph) (g : Graph) (f : List ℕ) (bonds : List QueryBond) (link rest x : ℕ) (d : QueryBond)
    → IsQuery q → bonds ≡ q.bonds → length g.bonds ≡ length q.bonds
    → Walked g.bonds (length f + 1) link (IsNotLast (length f + 1) q.bonds) → 0 < link
    → IsLinkBefore g.bonds link rest
    → max (get_or bonds ((link - 1) / 2) d).first (get_or bonds ((link - 1) / 2) d).second ≡ length f + 1
    → x ≡ place_of (f ++ 0 ∷ []) (min (get_or bonds ((link - 1) / 2) d).first (get_or bonds ((link - 1) / 2) d).second)
    → IsAnchor q g f (record { place = x; asked = get_or bonds ((link - 1) / 2) d; rest = rest })
IsAnchor-at q g f bonds link rest x d query is len w some l last stands =
    let k : ℕ = (link - 1) / 2 in
    let within : k < length q.bonds = omega (arith, w.within) in
    let same : get_or q.bonds k d ≡ get_or bonds k d = ap (λ (bs : List QueryBond). get_or bs k d) (sym is) in
    let valid : IsQueryBond (length q.atoms) (get_or bonds k d) = subst
    (λ (b : QueryBond). IsQueryBond (length q.atoms) b) same (query.each_bond k d within) in
    let other : ℕ → Type 0 = λ j. j ≢ k → IsNotLast (length f + 1) q.bonds j in
    let weaker : Walked g.bonds (length f + 1) link other = record
    { within = w.within; here = w.here; known = λ h le lt at differ. w.known h le lt at } in
    let walked : Walked g.bonds (length f + 1) rest other = Walked-more g.bonds (length f + 1) link rest other weaker
    some (λ differ. absurd (differ refl)) l in
    record {
      asks = record {
        index = k;
        asked = get_or bonds k d;
        here = slice_get-get_or q.bonds k d within ∙ ap Some same;
        last = last;
        before = sym (place_of_before f 0 (min (get_or bonds k d).first (get_or bonds k d).second)
            (omega (arith, valid.ends.first.0, valid.ends.second.0)) (omega (arith, valid.ends.differ)))
            ∙ sym stands;
      };
      same = refl;
      rest = record { within = walked.within; here = walked.here };
      others = walked.known;
    }

-- ---- the bond to the anchor

-- it lands as a bond between the two places does
lands-as : (q : QueryGraph) (m : Molecule) (f : List ℕ) (x p : ℕ) (value : Bool) → IsQuery q → (a : AsksBondTo q f x)
    → bond_lands m a.asked p x ≡ value → bond_lands m a.asked x p ≡ value
    → bond_lands m a.asked (place_of (f ++ p ∷ []) a.asked.first) (place_of (f ++ p ∷ []) a.asked.second) ≡ value
lands-as q m f x p value query a back forth =
    let b : QueryBond = a.asked in
    let valid : IsQueryBond (length q.atoms) b = asked-valid q f x query a in
    let there : (u : ℕ) → u ≡ length f + 1 → place_of (f ++ p ∷ []) u ≡ p = λ u last. get_or_push f p 0 (u - 1)
    (omega arith) in
    let before : (u : ℕ) → 1 ≤ u → u ≤ length f → u ≡ min b.first b.second → place_of (f ++ p ∷ []) u ≡ x =
    λ u low high least. place_of_before f p u low high ∙ ap (place_of f) least ∙ a.before in
    elim (larger b.first b.second (length f + 1) a.last) [
      | inl first ↦
          let at_x = before b.second valid.ends.second.0 (omega (arith, a.last, valid.ends.differ))
          (omega (arith, a.last)) in
          rw (there b.first first, at_x) back
      | inr second ↦
          let at_x = before b.first valid.ends.first.0 (omega (arith, a.last, valid.ends.differ))
          (omega (arith, a.last)) in
          rw (at_x, there b.second second) forth
    ]

-- where it does not land, the next atom may not stand there
bonds-fail : (q : QueryGraph) (m : Molecule) (f : List ℕ) (x p : ℕ) (a : AsksBondTo q f x)
    → bond_lands m a.asked (place_of (f ++ p ∷ []) a.asked.first) (place_of (f ++ p ∷ []) a.asked.second) ≡ false
    → bonds_keep q m f p ≡ false
bonds-fail q m f x p a lands =
    let test = bond_keeps m f p in
    let fails : bond_keeps m f p a.asked ≡ false = or_from _ _ (not_from_true _ (eq-eqb _ _ a.last)) lands in
    list_all_at test q.bonds a.index a.asked (slice_get_within q.bonds a.index a.asked a.here)
    (ap test (asked-at q f x a.asked a) ∙ fails)

-- the next atom does not stand at a place that no bond joins to the anchor
refused-apart : (q : QueryGraph) (m : Molecule) (g : Graph) (f : List ℕ) (x p : ℕ) → IsQuery q
    → g ≡ molecule_graph m → AsksBondTo q f x → All (λ e. joins e x p ≡ false) g.bonds → may_extend q m f p ≡ false
refused-apart q m g f x p query is a apart = and_right _ _ (bonds-fail q m f x p a
    (lands-as q m f x p false query a (bond_lands-none m g a.asked p x is (none_joins-sym g.bonds x p apart))
    (bond_lands-none m g a.asked x p is apart)))

-- ---- the bond that is walked

JoinsAt-sym : (g : Graph) (k x y : ℕ) → JoinsAt g k x y → JoinsAt g k y x
JoinsAt-sym g k x y j = record { ends = j.ends; here = j.here; joined = joins-sym j.ends y x ∙ j.joined }

pub JoinsAt-walked : (g : Graph) (ends : List Ends) (k x y : ℕ) (d : Ends) → ends ≡ g.bonds → k < length g.bonds
    → joins (get_or ends k d) x y ≡ true → JoinsAt g k x y
JoinsAt-walked g ends k x y d is within joined = record {
  ends = get_or g.bonds k d;
  here = slice_get-get_or g.bonds k d within;
  joined = ap (λ (es : List Ends). joins (get_or es k d) x y) (sym is) ∙ joined;
}

-- the anchor's bond lands exactly if that one passes
lands-walked : (q : QueryGraph) (m : Molecule) (g h : Graph) (f : List ℕ) (a : Anchor) (p k : ℕ) (d : Bond)
    (bonds : List Bond) (answer : Bool) → IsQuery q → IsMolecule m → g ≡ molecule_graph m → (i : IsAnchor q h f a)
    → JoinsAt g k a.place p → bonds ≡ m.bonds → answer ≡ bond_passes a.asked (get_or bonds k d)
    → bond_lands m i.asks.asked (place_of (f ++ p ∷ []) i.asks.asked.first)
    (place_of (f ++ p ∷ []) i.asks.asked.second) ≡ answer
lands-walked q m g h f a p k d bonds answer query valid is i j same answered =
    let passed : bond_passes i.asks.asked (get_or m.bonds k d) ≡ answer = ap
    (λ (b : QueryBond). bond_passes b (get_or m.bonds k d)) i.same
    ∙ ap (λ (bs : List Bond). bond_passes a.asked (get_or bs k d)) (sym same) ∙ sym answered in
    lands-as q m f a.place p answer query i.asks
    (bond_lands-at m g i.asks.asked p a.place k d valid is (JoinsAt-sym g k a.place p j) ∙ passed)
    (bond_lands-at m g i.asks.asked a.place p k d valid is j ∙ passed)

pub follows-not : (q : QueryGraph) (m : Molecule) (g h : Graph) (f : List ℕ) (a : Anchor) (p k : ℕ) (d : Bond)
    (bonds : List Bond) (answer : Bool) → IsQuery q → IsMolecule m → g ≡ molecule_graph m → IsAnchor q h f a
    → JoinsAt g k a.place p → bonds ≡ m.bonds → answer ≡ bond_passes a.asked (get_or bonds k d) → answer ≡ false
    → bonds_keep q m f p ≡ false
follows-not q m g h f a p k d bonds answer query valid is i j same answered failed =
    bonds-fail q m f a.place p i.asks
    (lands-walked q m g h f a p k d bonds answer query valid is i j same answered ∙ failed)

pub follows : (q : QueryGraph) (m : Molecule) (g h : Graph) (f : List ℕ) (a : Anchor) (p k : ℕ) (d : Bond)
    (bonds : List Bond) (answer : Bool) → IsQuery q → IsMolecule m → g ≡ molecule_graph m → h ≡ query_shape q
    → IsAnchor q h f a → JoinsAt g k a.place p → bonds ≡ m.bonds
    → answer ≡ bond_passes a.asked (get_or bonds k d) → answer ≡ true → KeepsBelow q h m f p a.rest
    → bonds_keep q m f p ≡ true
follows q m g h f a p k d bonds answer query valid is shape i j same answered passed kept =
    let test : QueryBond → Bool = bond_keeps m f p in
    let anchored : test i.asks.asked ≡ true = or_right _ _
    (lands-walked q m g h f a p k d bonds answer query valid is i j same answered ∙ passed) in
    let walked : Walked h.bonds (length f + 1) 0 (KeepsAt m f p q.bonds) = record {
      within = omega arith;
      here = λ some. absurd (omega arith);
      known = λ end le lt at. elim (cases_lt end a.rest) [
        | inl below ↦ kept end below at
        | inr above ↦ elim (cases_eq (end / 2) i.asks.index) [
          | inl here ↦ λ e. ap (λ (n : ℕ). test (get_or q.bonds n e)) here
              ∙ ap test (asked-at q f a.place e i.asks) ∙ anchored
          | inr other ↦ λ e. or_left _ _ (not_from_false _ (ne_eqb _ _ (i.others end above lt at other e)))
        ]
      ];
    } in
    all-keep q m h f p 0 shape walked refl

-- ---- no bond to an atom before

pub may-alone : (q : QueryGraph) (m : Molecule) (f : List ℕ) (p : ℕ) (answer : Bool) → AsksNoBond q f
    → answer ≡ (passes (slice_get q.atoms (length f)) (at_place m.atoms p) && not (list_any (λ x. eqb x p) f))
    → answer ≡ may_extend q m f p
may-alone q m f p answer alone answered =
    let kept : bonds_keep q m f p ≡ true = list_all-from_AllPass (bond_keeps m f p) q.bonds
    (λ k d within. or_left _ _ (not_from_false _ (ne_eqb _ _ (alone k d within)))) in
    elim (cases_Bool answer) [
      | inl free ↦ free ∙ sym (and_from _ _ (sym answered ∙ free) kept)
      | inr taken ↦ taken ∙ sym (and_left _ _ (sym answered ∙ taken))
    ]

-- ---- the places before the next one

pub anchor-in_graph : (q : QueryGraph) (m : Molecule) (g : Graph) (f : List ℕ) (x : ℕ) → IsQuery q
    → IsPartial q m f → g ≡ molecule_graph m → AsksBondTo q f x → x ≤ g.atoms
anchor-in_graph q m g f x query partial is asks =
    omega (arith, anchor-within q m f x query partial asks, ap (λ (h : Graph). h.atoms) is)

pub NoneBelow-next : (q : QueryGraph) (m : Molecule) (f : List ℕ) (after p : ℕ) → IsQuery q
    → length f < length q.atoms → NoneBelow q m f (after + 1) → IsNextPlace q m f after p → NoneBelow q m f p
NoneBelow-next q m f after p query more none next = NoneBelow-over q m f (after + 1) p query more none
    (λ n low high. next.between n (omega arith) high)

pub NoneBelow-last : (q : QueryGraph) (m : Molecule) (f : List ℕ) (after : ℕ) → IsQuery q
    → length f < length q.atoms → NoneBelow q m f (after + 1) → IsLastPlace q m f after
    → NoneBelow q m f (length m.atoms + 1)
NoneBelow-last q m f after query more none last =
    NoneBelow-over q m f (after + 1) (length m.atoms + 1) query more none
    (λ n low high. last n (omega arith) (omega arith))

-- ---- the neighbours that fit

-- where bond k joins x to a place where the next atom may stand, the set has that place
abbrev pub IsDecided : QueryGraph → Molecule → List ℕ → ℕ → List ℕ → List Ends → ℕ → Type 0
IsDecided q m f x words bonds k =
    (y : ℕ) → joins (get_or bonds k no_ends) x y ≡ true → may_extend q m f y ≡ true → place_bit words y ≡ 1

-- the next atom may stand at each place of the set
abbrev pub HasFitting : QueryGraph → Molecule → List ℕ → List ℕ → Type 0
HasFitting q m f words = (p : ℕ) → place_bit words p ≡ 1 → may_extend q m f p ≡ true

-- one more bond of the chain, whose other end is y
pub IsDecided-more : (q : QueryGraph) (m : Molecule) (f before now : List ℕ) (bonds ends : List Ends)
    (x link next y : ℕ) (d : Ends) → Walked bonds x link (IsDecided q m f x before bonds) → 0 < link → ends ≡ bonds
    → ((z : ℕ) → joins (get_or ends ((link - 1) / 2) d) x z ≡ true → y ≡ z)
    → ((n : ℕ) → place_bit before n ≡ 1 → place_bit now n ≡ 1)
    → (may_extend q m f y ≡ true → place_bit now y ≡ 1)
    → IsLastLink bonds (place_of_end bonds (link - 1)) (link - 1) next
    → Walked bonds x next (IsDecided q m f x now bonds)
IsDecided-more q m f before now bonds ends x link next y d w some is end kept added l =
    let within : (link - 1) / 2 < length bonds = omega (arith, w.within) in
    let grown : Walked bonds x link (IsDecided q m f x now bonds) = record {
      within = w.within;
      here = w.here;
      known = λ h low high at z joined may. kept z (w.known h low high at z joined may);
    } in
    Walked-more bonds x link next (IsDecided q m f x now bonds) grown some
    (λ z joined may.
    let here : get_or ends ((link - 1) / 2) d ≡ get_or bonds ((link - 1) / 2) no_ends = ap
    (λ (es : List Ends). get_or es ((link - 1) / 2) d) is ∙ get_or_default bonds ((link - 1) / 2) d no_ends within in
    let same : y ≡ z = end z (ap (λ (e : Ends). joins e x z) here ∙ joined) in
    ap (place_bit now) (sym same) ∙ added (ap (may_extend q m f) same ∙ may)) l

pub HasFitting-more : (q : QueryGraph) (m : Molecule) (f before now : List ℕ) (y : ℕ) → HasFitting q m f before
    → may_extend q m f y ≡ true → ((n : ℕ) → n ≢ y → place_bit now n ≡ place_bit before n) → HasFitting q m f now
HasFitting-more q m f before now y fits may others p there = elim (cases_eq p y) [
  | inl same ↦ ap (may_extend q m f) same ∙ may
  | inr other ↦ fits p (sym (others p other) ∙ there)
]

-- at the end of the chain
pub AreFitting-end : (q : QueryGraph) (m : Molecule) (g : Graph) (f words : List ℕ) (x link last : ℕ) → IsQuery q
    → g ≡ molecule_graph m → AsksBondTo q f x → Walked g.bonds x link (IsDecided q m f x words g.bonds)
    → HasFitting q m f words → HasNoneAfter words last → last < 1024 → link ≡ 0 → AreFitting q m f words last
AreFitting-end q m g f words x link last query is asks w fits top small end = record {
  top = top;
  small = small;
  fits = fits;
  all = λ p clear. false_from_ne_true (may_extend q m f p) (λ may.
      both may (refused-apart q m g f x p query is asks (λ k d within.
      false_from_ne_true (joins (get_or g.bonds k d) x p) (λ joined.
      let same : get_or g.bonds k d ≡ get_or g.bonds k no_ends = get_or_default g.bonds k d no_ends within in
      let there : place_bit words p ≡ 1 = Walked-all g.bonds x link k d (IsDecided q m f x words g.bonds) w end within
      (joins-at (get_or g.bonds k d) x p joined) p (ap (λ (e : Ends). joins e x p) (sym same) ∙ joined) may in
      omega arith))));
}

-- the other end of a bond is a place of the graph
pub joined-within : (g : Graph) (ends : List Ends) (k x y : ℕ) (d : Ends) → IsGraph g → ends ≡ g.bonds
    → k < length g.bonds → joins (get_or ends k d) x y ≡ true → y ≤ g.atoms
joined-within g ends k x y d graph is within joined =
    let e : Ends = get_or g.bonds k d in
    let valid : AreEnds g.atoms e = graph.each_bond k d within in
    let back : joins e y x ≡ true = joins-sym e y x ∙ ap (λ (es : List Ends). joins (get_or es k d) x y) (sym is) ∙ joined in
    elim (joins-at e y x back) [
      | inl first ↦ omega (arith, valid.first.1)
      | inr second ↦ omega (arith, valid.second.1)
    ]

-- the link of a chain names an end at its place
pub at-end : (bonds ends : List Ends) (x link : ℕ) (d : Ends) (P : ℕ → Type 0) → Walked bonds x link P → 0 < link
    → ends ≡ bonds
    → ((get_or ends ((link - 1) / 2) d).first ≡ x) ⊎ ((get_or ends ((link - 1) / 2) d).second ≡ x)
unfolding place_of_end
at-end bonds ends x link d P w some is =
    let k : ℕ = (link - 1) / 2 in
    let here : get_or ends k d ≡ get_or bonds k no_ends = ap (λ (es : List Ends). get_or es k d) is
    ∙ get_or_default bonds k d no_ends (omega (arith, w.within)) in
    elim (cases_Bool (eqb ((link - 1) % 2) 0)) [
      | inl even ↦ inl (ap (λ (e : Ends). e.first) here ∙ sym (cond-true _ _ _ even) ∙ w.here some)
      | inr odd ↦ inr (ap (λ (e : Ends). e.second) here ∙ sym (cond-false _ _ _ odd) ∙ w.here some)
    ]
