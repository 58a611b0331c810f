-- The pages made of a full leaf's rows are what the exchange of its link asks for.
use Rattle.std.proofs.Common.{◌≡◌, ◌≢◌, ℕ, zero, suc, ◌+◌, ◌*◌, ◌-◌, ◌/◌, ◌%◌, ◌<◌, ◌≤◌, ◌⊎◌, Bool, true, false, List, [], ◌∷◌, ◌++◌, length, sym, refl, ap, ◌∙◌, subst, arith, inl, inr, length-append}
use mathlib.Core.Option.{some, some-injective}
use Rattle.std.proofs.lemmas.Bool.{cases_eq, cases_lt}
use Rattle.std.proofs.lemmas.List.{append_cancel_left}
use Rattle.board_core.specs.declared.tree.Way.{Way}
use Rattle.board_core.specs.declared.tree.Way.TheVariants.{More, Branch}
use Rattle.board_core.specs.declared.tree.Reached.{Reached}
use Rattle.board_core.specs.Each.{In}
use Rattle.board_core.specs.ClassTree.{Place, at_way, slot_at, page_room, kind_of, Follows, IsWay, PageStands, IsBelow}
use Rattle.board_core.specs.Split.{NewHasSlot}
use Rattle.board_core.specs.Plan.{Plan}
use Rattle.board_core.proofs.Lists.{inside}
use Rattle.leaf_split.specs.Groups.{AreRows, AreApart, AreGroups}
use Rattle.leaf_split.specs.Pages.{pages_of, ArePages, inner_place, leaf_place, ArePlaces, AreNew, IsFullRead}

-- which page it is
abbrev pub AtInner : ℕ → ℕ → ℕ → Type 0
AtInner count t b = (t ≡ 8 * b) × (7 * b < count)

abbrev pub AtLeaf : ℕ → ℕ → ℕ → ℕ → Type 0
AtLeaf count t b s = (s < 7) × (t ≡ 8 * b + 1 + s) × (7 * b + s < count)

pub spot : (count t : ℕ) → t < pages_of count → ((b : ℕ) × AtInner count t b) ⊎ ((b : ℕ) × (s : ℕ) × AtLeaf count t b s)
spot count t l = elim (cases_eq (t % 8) 0) [
  | inl z ↦ inl (t / 8, (omega arith, omega arith))
  | inr o ↦ inr (t / 8, t % 8 - 1, (omega arith, omega arith, omega arith))
]

pub inner_used : (count b : ℕ) → 7 * b < count → 8 * b < pages_of count
inner_used count b l = omega arith

pub leaf_used : (count b s : ℕ) → 7 * b + s < count → 8 * b + 1 + s < pages_of count
leaf_used count b s l = omega arith

-- seven to a page
pub same_slot : (b s c r : ℕ) → s < 7 → r < 7 → 7 * b + s ≡ 7 * c + r → (b ≡ c) × (s ≡ r)
same_slot b s c r h k e = (omega arith, omega arith)

longer : (path : List ℕ) (c : ℕ) → path ≡ path ++ c ∷ [] → ⊥
longer path c e = let l : length path ≡ length path + 1 = ap length e ∙ length-append path (c ∷ []) in omega arith

append_nil : (xs : List ℕ) → xs ≡ xs ++ []
append_nil [] = refl
append_nil (x ∷ xs) = ap (λ ys. x ∷ ys) (append_nil xs)

last_same : (path : List ℕ) (c d : ℕ) → path ++ c ∷ [] ≡ path ++ d ∷ [] → c ≡ d
last_same path c d e = let t : c ∷ [] ≡ d ∷ [] = append_cancel_left path (c ∷ []) (d ∷ []) e in cc

-- the head of an inner place
inner_path : (path : List ℕ) (number : ℕ → ℕ) (q k b : ℕ) → (inner_place path number q k b).path ≡ path
inner_path path number q k zero = refl
inner_path path number q k (suc b) = refl

inner_rank : (path : List ℕ) (number : ℕ → ℕ) (q k b : ℕ) → (inner_place path number q k b).rank ≡ b
inner_rank path number q k zero = refl
inner_rank path number q k (suc b) = refl

inner_leaf : (path : List ℕ) (number : ℕ → ℕ) (q k b : ℕ) → (inner_place path number q k b).leaf ≡ false
inner_leaf path number q k zero = refl
inner_leaf path number q k (suc b) = refl

module _ (W : ℕ → ℕ → ℕ) (v : ℕ → Place) (codes : ℕ → List ℕ) (New : ℕ → Type 0) (rs : List Reached) (y x : Reached) (k count : ℕ)
    (row next code held : ℕ → ℕ) (entry : ℕ → ℕ → ℕ) (number : ℕ → ℕ)
    (r : AreRows row next) (differ : AreApart row) (g : AreGroups row next 14 count code held entry) (read : IsFullRead codes rs y x k row next)
    (new : AreNew New (pages_of count) number) (pages : ArePages W (length x.path) count code number entry) (places : ArePlaces v x.path count code number y.page k) where
  abbrev P : ℕ → Place
  P b = inner_place x.path number y.page k b

  abbrev L : ℕ → ℕ → Place
  L b s = leaf_place x.path code number b s

  -- a new page is an inner page or a leaf
  abbrev Inner : ℕ → Type 0
  Inner p = (b : ℕ) × (7 * b < count) × (number (8 * b) ≡ p)

  abbrev Leaf : ℕ → Type 0
  Leaf p = (b : ℕ) × (s : ℕ) × (s < 7) × (7 * b + s < count) × (number (8 * b + 1 + s) ≡ p)

  kinds : (p : ℕ) → New p → Inner p ⊎ Leaf p
  kinds p n =
      let a = new.all p n in
      elim (spot count a.0 a.1) [
        | inl i ↦ inl (i.0, i.1.1, ap number (sym i.1.0) ∙ a.2)
        | inr l ↦ inr (l.0, l.1, l.2.0, l.2.2, ap number (sym l.2.1) ∙ a.2)
      ]

  -- by cases on what kind of new page it is
  each : (F : ℕ → Type 0) → ((b : ℕ) → 7 * b < count → F (number (8 * b))) → ((b s : ℕ) → s < 7 → 7 * b + s < count → F (number (8 * b + 1 + s))) → (p : ℕ) → New p → F p
  each F inner leaf p n = elim (kinds p n) [
    | inl i ↦ subst F i.2 (inner i.0 i.1)
    | inr l ↦ subst F l.4 (leaf l.0 l.1 l.2 l.3)
  ]

  new_inner : (b : ℕ) → 7 * b < count → New (number (8 * b))
  new_inner b l = new.new (8 * b) (inner_used count b l)

  new_leaf : (b s : ℕ) → 7 * b + s < count → New (number (8 * b + 1 + s))
  new_leaf b s l = new.new (8 * b + 1 + s) (leaf_used count b s l)

  code_some : (j : ℕ) → code j ≢ 0 → j < count
  code_some j n = elim (cases_lt j count) [
    | inl l ↦ l
    | inr l ↦ absurd (n (g.unset j l))
  ]

  in_count : (j i : ℕ) → i < held j → j < count
  in_count j i l = elim (cases_lt j count) [
    | inl m ↦ m
    | inr m ↦ let h = g.bare j m in absurd (omega arith)
  ]

  entry_some : (j i : ℕ) → entry j i ≢ 0 → i < held j
  entry_some j i n = elim (cases_lt i (held j)) [
    | inl l ↦ l
    | inr l ↦ absurd (n (g.rest j i l))
  ]

  -- ---- what stands in the pages
  inner_stands : (b : ℕ) → 7 * b < count → PageStands (W (number (8 * b))) (v (number (8 * b)))
  inner_stands b l =
      let a = pages.inner b l in
      let low = read.low in
      let path = inner_path x.path number y.page k b in
      let rank = inner_rank x.path number y.page k b in
      let leaf = inner_leaf x.path number y.page k b in
      let word : ℕ → ℕ = W (number (8 * b)) in
      let front : (i j : ℕ) → i ≤ j → j < 7 → word (2 + 2 * i) ≡ 0 → word (2 + 2 * j) ≡ 0 = λ i j le room z.
      let no : count ≤ 7 * b + i = elim (cases_lt (7 * b + i) count) [
        | inl m ↦ absurd (g.set (7 * b + i) m (sym (a.codes i (omega arith)) ∙ z))
        | inr m ↦ m
      ] in a.codes j room ∙ g.unset (7 * b + j) (omega arith) in
      let full : word 1 ≢ 0 → (i : ℕ) → i < 7 → word (2 + 2 * i) ≢ 0 = λ n i room z.
      elim (cases_lt (7 * (b + 1)) count) [
        | inl m ↦ g.set (7 * b + i) (omega arith) (sym (a.codes i room) ∙ z)
        | inr m ↦ n (a.last m)
      ] in
      subst (λ (Q : Place). PageStands word Q) (sym (places.inner b l)) record {
        header = a.header ∙ (λ i. (2 + 4 * length (sym path i)) + 32 * sym rank i) ∙ ap (λ (z : Bool). kind_of z + 4 * length (P b).path + 32 * (P b).rank) (sym leaf);
        front = subst (λ (z : Bool). (i j : ℕ) → i ≤ j → j < page_room z → word (slot_at z i) ≡ 0 → word (slot_at z j) ≡ 0) (sym leaf) front;
        bare = λ h i room z. let no : count ≤ 7 * b + i = elim (cases_lt (7 * b + i) count) [
          | inl m ↦ absurd (g.set (7 * b + i) m (sym (a.codes i room) ∙ z))
          | inr m ↦ m
        ] in a.bare i room no;
        full = subst (λ (z : Bool). word 1 ≢ 0 → (i : ℕ) → i < page_room z → word (slot_at z i) ≢ 0) (sym leaf) full;
        low = λ h d. let bad : false ≡ true = sym leaf ∙ h in absurd cc;
        shallow = λ h. subst (λ (q : List ℕ). length q < 5) (sym path) low;
      }

  leaf_stands : (b s : ℕ) → s < 7 → 7 * b + s < count → PageStands (W (number (8 * b + 1 + s))) (v (number (8 * b + 1 + s)))
  leaf_stands b s m l =
      let a = pages.leaf b s m l in
      let word : ℕ → ℕ = W (number (8 * b + 1 + s)) in
      let path : length (x.path ++ code (7 * b + s) ∷ []) ≡ length x.path + 1 = length-append x.path (code (7 * b + s) ∷ []) in
      subst (λ (Q : Place). PageStands word Q) (sym (places.leaf b s m l)) record {
        header = let h = a.header in omega arith;
        front = λ i j le room z. let no : held (7 * b + s) ≤ i = elim (cases_lt i (held (7 * b + s))) [
          | inl n ↦ let f = g.from (7 * b + s) i n in absurd (r.rows f.0 f.1 (f.2 ∙ (sym (a.entries i (omega arith)) ∙ z)))
          | inr n ↦ n
        ] in a.entries j room ∙ g.rest (7 * b + s) j (omega arith);
        bare = λ h. let bad : true ≡ false = h in absurd cc;
        full = λ n. absurd (n a.more);
        low = λ h d. a.more;
        shallow = λ h. let bad : true ≡ false = h in absurd cc;
      }

  -- ---- each page but the first is named by the one before it
  abbrev Named : Place → ℕ → Type 0
  Named Q p = New Q.from × (W Q.from (at_way Q.way) ≡ p) × Follows (W Q.from) (v Q.from) Q.way Q

  next_named : (b : ℕ) → 7 * suc b < count → Named (P (suc b)) (number (8 * suc b))
  next_named b l =
      let m : 7 * b < count = omega arith in
      let a = pages.inner b m in
      let e : 8 * (b + 1) ≡ 8 * suc b = omega arith in (
        new_inner b m,
        a.more (omega arith) ∙ ap number e,
        subst (λ (Q : Place). Follows (W (number (8 * b))) Q More (P (suc b))) (sym (places.inner b m))
            (sym (inner_path x.path number y.page k b), let rank = inner_rank x.path number y.page k b in omega arith, sym (inner_leaf x.path number y.page k b)),
      )

  inner_named : (b : ℕ) → 7 * b < count → number (8 * b) ≢ number 0 → Named (P b) (number (8 * b))
  inner_named zero l o = absurd (o refl)
  inner_named (suc b) l o = next_named b l

  leaf_named : (b s : ℕ) → s < 7 → 7 * b + s < count → Named (L b s) (number (8 * b + 1 + s))
  leaf_named b s m l =
      let i : 7 * b < count = omega arith in
      let a = pages.inner b i in
      let c : W (number (8 * b)) (2 + 2 * s) ≡ code (7 * b + s) = a.codes s m in (
        new_inner b i,
        a.links s m l,
        subst (λ (Q : Place). Follows (W (number (8 * b))) Q (Branch s) (L b s)) (sym (places.inner b i))
            (inner_leaf x.path number y.page k b, m, (λ z. g.set (7 * b + s) l (sym c ∙ z)), (λ t. sym (inner_path x.path number y.page k b) t ++ sym c t ∷ []), refl),
      )

  named : (p : ℕ) → New p → p ≢ number 0 → Named (v p) p
  named = each (λ (p : ℕ). p ≢ number 0 → Named (v p) p)
      (λ b l o. subst (λ (Q : Place). Named Q (number (8 * b))) (sym (places.inner b l)) (inner_named b l o))
      (λ b s m l o. subst (λ (Q : Place). Named Q (number (8 * b + 1 + s))) (sym (places.leaf b s m l)) (leaf_named b s m l))

  -- ---- and each word that names a page names one of them
  abbrev Leads : ℕ → Way → ℕ → Type 0
  Leads p to z = New z × ((v z).from ≡ p) × ((v z).way ≡ to)

  leads_more : (b : ℕ) → 7 * suc b < count → Leads (number (8 * b)) More (number (8 * suc b))
  leads_more b m = (new_inner (suc b) m, ap (λ (Q : Place). Q.from) (places.inner (suc b) m), ap (λ (Q : Place). Q.way) (places.inner (suc b) m))

  leads_leaf : (b s : ℕ) → s < 7 → 7 * b + s < count → Leads (number (8 * b)) (Branch s) (number (8 * b + 1 + s))
  leads_leaf b s m l = (new_leaf b s l, ap (λ (Q : Place). Q.from) (places.leaf b s m l), ap (λ (Q : Place). Q.way) (places.leaf b s m l))

  inner_leads : (b : ℕ) → 7 * b < count → (to : Way) → IsWay (v (number (8 * b))) to → W (number (8 * b)) (at_way to) ≢ 0 → Leads (number (8 * b)) to (W (number (8 * b)) (at_way to))
  inner_leads b l More h n = elim (cases_lt (7 * (b + 1)) count) [
    | inl m ↦ let e : 8 * (b + 1) ≡ 8 * suc b = omega arith in
        subst (λ (z : ℕ). Leads (number (8 * b)) More z) (sym ((pages.inner b l).more m ∙ ap number e)) (leads_more b (omega arith))
    | inr m ↦ absurd (n ((pages.inner b l).last m))
  ]
  inner_leads b l (Branch s) h n = elim (cases_lt (7 * b + s) count) [
    | inl m ↦ subst (λ (z : ℕ). Leads (number (8 * b)) (Branch s) z) (sym ((pages.inner b l).links s h.1 m)) (leads_leaf b s h.1 m)
    | inr m ↦ absurd (n ((pages.inner b l).bare s h.1 m))
  ]

  leaf_leads : (b s : ℕ) → s < 7 → 7 * b + s < count → (to : Way) → IsWay (v (number (8 * b + 1 + s))) to → W (number (8 * b + 1 + s)) (at_way to) ≢ 0 → Leads (number (8 * b + 1 + s)) to (W (number (8 * b + 1 + s)) (at_way to))
  leaf_leads b s m l More h n = absurd (n (pages.leaf b s m l).more)
  leaf_leads b s m l (Branch i) h n = let bad : true ≡ false = sym (ap (λ (Q : Place). Q.leaf) (places.leaf b s m l)) ∙ h.0 in absurd cc

  leads : (p : ℕ) → New p → (to : Way) → IsWay (v p) to → W p (at_way to) ≢ 0 → Leads p to (W p (at_way to))
  leads = each (λ (p : ℕ). (to : Way) → IsWay (v p) to → W p (at_way to) ≢ 0 → Leads p to (W p (at_way to))) inner_leads leaf_leads

  -- ---- one page at a place
  abbrev Alone : ℕ → ℕ → Type 0
  Alone p q = (v p).path ≡ (v q).path → (v p).rank ≡ (v q).rank → p ≡ q

  path_inner : (b : ℕ) → 7 * b < count → (v (number (8 * b))).path ≡ x.path
  path_inner b l = ap (λ (Q : Place). Q.path) (places.inner b l) ∙ inner_path x.path number y.page k b

  path_leaf : (b s : ℕ) → s < 7 → 7 * b + s < count → (v (number (8 * b + 1 + s))).path ≡ x.path ++ code (7 * b + s) ∷ []
  path_leaf b s m l = ap (λ (Q : Place). Q.path) (places.leaf b s m l)

  rank_inner : (b : ℕ) → 7 * b < count → (v (number (8 * b))).rank ≡ b
  rank_inner b l = ap (λ (Q : Place). Q.rank) (places.inner b l) ∙ inner_rank x.path number y.page k b

  alone : (p q : ℕ) → New p → New q → Alone p q
  alone p q n o = each (λ (p : ℕ). Alone p q)
      (λ b l. each (λ (q : ℕ). Alone (number (8 * b)) q)
      (λ c m path rank. ap (λ (b : ℕ). number (8 * b)) (sym (rank_inner b l) ∙ (rank ∙ rank_inner c m)))
      (λ c s r m path rank. absurd (longer x.path (code (7 * c + s)) (sym (path_inner b l) ∙ (path ∙ path_leaf c s r m)))) q o)
      (λ b s h l. each (λ (q : ℕ). Alone (number (8 * b + 1 + s)) q)
      (λ c m path rank. absurd (longer x.path (code (7 * b + s)) (sym (path_inner c m) ∙ (sym path ∙ path_leaf b s h l))))
      (λ c t r m path rank.
      let same_code : code (7 * b + s) ≡ code (7 * c + t) = last_same x.path _ _ (sym (path_leaf b s h l) ∙ (path ∙ path_leaf c t r m)) in
      let e = same_slot b s c t h r (g.apart (7 * b + s) (7 * c + t) l m same_code) in
      λ i. number (8 * e.0 i + 1 + e.1 i)) q o) p n

  -- ---- what the slots show
  abbrev ShowsCode : ℕ → ℕ → ℕ → Type 0
  ShowsCode n p i = (b : ℕ) × (number (8 * b) ≡ p) × (7 * b + i < count) × (code (7 * b + i) ≡ n)

  abbrev ShowsRow : ℕ → ℕ → ℕ → Type 0
  ShowsRow n p i = (b : ℕ) × (s : ℕ) × (s < 7) × (7 * b + s < count) × (number (8 * b + 1 + s) ≡ p) × (i < held (7 * b + s)) × (entry (7 * b + s) i ≡ n)

  kind_inner : (b : ℕ) → 7 * b < count → (v (number (8 * b))).leaf ≡ false
  kind_inner b l = ap (λ (Q : Place). Q.leaf) (places.inner b l) ∙ inner_leaf x.path number y.page k b

  kind_leaf : (b s : ℕ) → s < 7 → 7 * b + s < count → (v (number (8 * b + 1 + s))).leaf ≡ true
  kind_leaf b s m l = ap (λ (Q : Place). Q.leaf) (places.leaf b s m l)

  shown_code : (n p i : ℕ) → NewHasSlot W v New false n p i → ShowsCode n p i
  shown_code n p i h = elim (kinds p h.new) [
    | inl a ↦
        let c : W (number (8 * a.0)) (2 + 2 * i) ≡ n = ap (λ (q : ℕ). W q (2 + 2 * i)) a.2 ∙ h.there in
        let d : code (7 * a.0 + i) ≡ n = sym ((pages.inner a.0 a.1).codes i h.room) ∙ c in
        (a.0, a.2, code_some (7 * a.0 + i) (λ z. h.some_n (sym d ∙ z)), d)
    | inr a ↦ let bad : true ≡ false = sym (kind_leaf a.0 a.1 a.2 a.3) ∙ (ap (λ (q : ℕ). (v q).leaf) a.4 ∙ h.kind) in absurd cc
  ]

  shown_row : (n p i : ℕ) → NewHasSlot W v New true n p i → ShowsRow n p i
  shown_row n p i h = elim (kinds p h.new) [
    | inl a ↦ let bad : false ≡ true = sym (kind_inner a.0 a.1) ∙ (ap (λ (q : ℕ). (v q).leaf) a.2 ∙ h.kind) in absurd cc
    | inr a ↦
        let c : W (number (8 * a.0 + 1 + a.1)) (2 + i) ≡ n = ap (λ (q : ℕ). W q (2 + i)) a.4 ∙ h.there in
        let d : entry (7 * a.0 + a.1) i ≡ n = sym ((pages.leaf a.0 a.1 a.2 a.3).entries i h.room) ∙ c in
        (a.0, a.1, a.2, a.3, a.4, entry_some (7 * a.0 + a.1) i (λ z. h.some_n (sym d ∙ z)), d)
  ]

  apart : (n p q i j : ℕ) → NewHasSlot W v New false n p i → NewHasSlot W v New false n q j → (p ≡ q) × (i ≡ j)
  apart n p q i j h o =
      let a = shown_code n p i h in
      let c = shown_code n q j o in
      let e = same_slot a.0 i c.0 j h.room o.room (g.apart (7 * a.0 + i) (7 * c.0 + j) a.2 c.2 (a.3 ∙ sym c.3)) in
      (sym a.1 ∙ (ap (λ (b : ℕ). number (8 * b)) e.0 ∙ c.1), e.1)

  rows : (n p q i j : ℕ) → NewHasSlot W v New true n p i → NewHasSlot W v New true n q j → (p ≡ q) × (i ≡ j)
  rows n p q i j h o =
      let a = shown_row n p i h in
      let c = shown_row n q j o in
      let d = g.once differ (7 * a.0 + a.1) i (7 * c.0 + c.1) j a.5 c.5 (a.6 ∙ sym c.6) in
      let e = same_slot a.0 a.1 c.0 c.1 a.2 c.2 d.0 in
      (sym a.4 ∙ ((λ t. number (8 * e.0 t + 1 + e.1 t)) ∙ c.4), d.1)

  entries : (n p i : ℕ) → NewHasSlot W v New true n p i → In n x.slots × IsBelow (v p).path (codes n)
  entries n p i h =
      let a = shown_row n p i h in
      let f = g.from (7 * a.0 + a.1) i a.5 in
      let is : row f.0 ≡ n = f.2 ∙ a.6 in
      let path : x.path ++ next f.0 ∷ [] ≡ (v p).path = ap (λ (c : ℕ). x.path ++ c ∷ []) f.3 ∙ (sym (path_leaf a.0 a.1 a.2 a.3) ∙ ap (λ (q : ℕ). (v q).path) a.4) in
      ((f.0, read.slots f.0 f.1 ∙ ap some is), subst (λ (l : List ℕ). IsBelow l (codes n)) path (subst (λ (m : ℕ). IsBelow (x.path ++ next f.0 ∷ []) (codes m)) is (read.below f.0 f.1)))

  keeps : (n : ℕ) → In n x.slots → (p : ℕ) × (i : ℕ) × NewHasSlot W v New true n p i
  keeps n h =
      let full = read.full in
      let l : h.0 < length x.slots = inside x.slots h.0 n h.1 in
      let room : h.0 < 14 = omega arith in
      let is : row h.0 ≡ n = some-injective (row h.0) n (sym (read.slots h.0 room) ∙ h.1) in
      let a = g.into h.0 room in
      let j : ℕ = a.0 in
      let used : j < count = in_count a.0 a.1 a.2 in
      let split : 7 * (j / 7) + j % 7 ≡ j = omega arith in
      let s : j % 7 < 7 = omega arith in
      let m : 7 * (j / 7) + j % 7 < count = omega arith in
      let most = g.most j in
      let held_i : a.1 < held j = a.2 in (
        number (8 * (j / 7) + 1 + j % 7),
        a.1,
        record {
          new = new_leaf (j / 7) (j % 7) m;
          kind = kind_leaf (j / 7) (j % 7) s m;
          room = omega arith;
          some_n = λ z. r.rows h.0 room (is ∙ z);
          there = (pages.leaf (j / 7) (j % 7) s m).entries a.1 (omega arith) ∙ (ap (λ (q : ℕ). entry q a.1) split ∙ (a.3 ∙ is));
        },
      )

  -- each code of an inner page was met on the way of a row
  begun : (c p i : ℕ) → NewHasSlot W v New false c p i → (n : ℕ) × In n x.slots × IsBelow ((v p).path ++ c ∷ []) (codes n)
  begun c p i h =
      let a = shown_code c p i h in
      let some : 0 < held (7 * a.0 + i) = g.some (7 * a.0 + i) a.2 in
      let f = g.from (7 * a.0 + i) 0 some in
      let path : x.path ++ next f.0 ∷ [] ≡ (v p).path ++ c ∷ [] = (λ t. (sym (path_inner a.0 (omega arith)) ∙ ap (λ (q : ℕ). (v q).path) a.1) t ++ (f.3 ∙ a.3) t ∷ []) in
      (row f.0, (f.0, read.slots f.0 f.1), subst (λ (l : List ℕ). IsBelow l (codes (row f.0))) path (read.below f.0 f.1))

  -- two inner pages at most
  ranks : (p : ℕ) → New p → (v p).rank < 2
  ranks = each (λ (p : ℕ). (v p).rank < 2)
      (λ b l. let r = rank_inner b l in let few = g.few in omega arith)
      (λ b s m l. let r : (v (number (8 * b + 1 + s))).rank ≡ 0 = ap (λ (Q : Place). Q.rank) (places.leaf b s m l) in omega arith)

  some_code : 0 < count
  some_code = let a = g.into 0 (omega arith) in let l = in_count a.0 a.1 a.2 in omega arith

  pub plan : Plan W v codes New rs y x k (number 0)
  plan = record {
    inner = read.inner;
    kind = read.kind;
    room = read.room;
    leaf = read.leaf;
    old = read.old;
    low = read.low;
    full = read.full;
    head = let l : 7 * 0 < count = some_code in
        (new_inner 0 l, ap (λ (Q : Place). Q.from) (places.inner 0 l), ap (λ (Q : Place). Q.way) (places.inner 0 l), ap (λ (Q : Place). Q.path) (places.inner 0 l), ap (λ (Q : Place). Q.rank) (places.inner 0 l));
    inner_first = let l : 7 * 0 < count = some_code in ap (λ (Q : Place). Q.leaf) (places.inner 0 l);
    below = each (λ (p : ℕ). IsBelow x.path (v p).path) (λ b l. ([], path_inner b l ∙ append_nil x.path)) (λ b s m l. (code (7 * b + s) ∷ [], path_leaf b s m l));
    pages = each (λ (p : ℕ). PageStands (W p) (v p)) inner_stands leaf_stands;
    named = named;
    leads = λ p to n. leads p n to;
    alone = alone;
    apart = λ n p q i j h o path. apart n p q i j h o;
    rows = rows;
    entries = entries;
    keeps = keeps;
    begun = begun;
    ranks = ranks;
  }
