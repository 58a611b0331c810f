-- One more row among the groups.
use Rattle.std.proofs.Common.{◌≡◌, ◌≢◌, ℕ, ◌+◌, ◌<◌, ◌≤◌, ◌⊎◌, max, sym, ap, ◌∙◌, arith, inl, inr}
use Rattle.std.proofs.lemmas.Bool.{cases_eq, cases_lt}
use Rattle.leaf_split.specs.Groups.{IsStored}
use Rattle.board_core.specs.Turns.{IsPut}
use Rattle.leaf_split.specs.Groups.{AreRows, AreApart, AreGroups}

module _ (row next : ℕ → ℕ) (done count more : ℕ) (code coded held holds : ℕ → ℕ) (entry entered : ℕ → ℕ → ℕ) (j : ℕ)
    (rs : AreRows row next) (g : AreGroups row next done count code held entry) (lt : done < 14)
    (there : j ≤ count) (same : j < count → code j ≡ next done) (before : (i : ℕ) → i < j → code i ≢ next done)
    (c : IsStored code coded j (next done)) (h : IsStored held holds j (held j + 1)) (e : IsPut entry entered j (held j) (row done)) (m : more ≡ max count (j + 1)) where
  -- the codes
  other_code : (i : ℕ) → i ≢ j → i < more → (code i ≢ next done) × (i < count)
  other_code i o l = let k : i < count = omega arith in (
    λ y. elim (cases_lt i j) [
      | inl low ↦ before i low y
      | inr high ↦ let jc : j < count = omega arith in o (g.apart i j k jc (y ∙ sym (same jc)))
    ],
    k,
  )

  code_apart : (i k : ℕ) → i < more → k < more → coded i ≡ coded k → i ≡ k
  code_apart i k a b y = elim (cases_eq i j) [
    | inl ij ↦ elim (cases_eq k j) [
      | inl kj ↦ ij ∙ sym kj
      | inr kj ↦ absurd ((other_code k kj b).0 (sym (c.others k kj) ∙ (sym y ∙ (ap coded ij ∙ c.here))))
    ]
    | inr ij ↦ elim (cases_eq k j) [
      | inl kj ↦ absurd ((other_code i ij a).0 (sym (c.others i ij) ∙ (y ∙ (ap coded kj ∙ c.here))))
      | inr kj ↦ g.apart i k (other_code i ij a).1 (other_code k kj b).1 (sym (c.others i ij) ∙ (y ∙ c.others k kj))
    ]
  ]

  code_kept : (i : ℕ) → i < count → coded i ≡ code i
  code_kept i l = elim (cases_eq i j) [
    | inl ij ↦ let jc : j < count = omega arith in ap coded ij ∙ (c.here ∙ (sym (same jc) ∙ ap code (sym ij)))
    | inr ij ↦ c.others i ij
  ]

  -- an entry that is held has a code
  inside : (k i : ℕ) → i < held k → k < count
  inside k i l = elim (cases_lt k count) [
    | inl y ↦ y
    | inr y ↦ let z = g.bare k y in absurd (omega arith)
  ]

  -- the entries: the new one, or one from before
  abbrev Old : ℕ → ℕ → Type 0
  Old k i = (i < held k) × (entered k i ≡ entry k i) × (coded k ≡ code k)

  which : (k i : ℕ) → i < holds k → ((k ≡ j) × (i ≡ held j)) ⊎ Old k i
  which k i l = elim (cases_eq k j) [
    | inl kj ↦
        let s : holds k ≡ held j + 1 = ap holds kj ∙ h.here in
        let t : held k ≡ held j = ap held kj in
        elim (cases_eq i (held j)) [
          | inl ih ↦ inl (kj, ih)
          | inr ih ↦ let w : i < held k = omega arith in inr (w, e.others k i (inr ih), let b : k < count = inside k i w in code_kept k b)
        ]
    | inr kj ↦ let s : holds k ≡ held k = h.others k kj in inr (omega arith, e.others k i (inl kj), c.others k kj)
  ]

  new_row : AreApart row → (k i : ℕ) → Old k i → row done ≢ entry k i
  new_row differ k i o y = let f = g.from k i o.0 in let z : f.0 ≡ done = differ f.0 done (omega arith) lt (f.2 ∙ sym y) in let w : f.0 < done = f.1 in omega arith

  new_there : (k i : ℕ) → k ≡ j → i ≡ held j → entered k i ≡ row done
  new_there k i kj ih = (λ t. entered (kj t) (ih t)) ∙ e.here

  pub grouped : AreGroups row next (done + 1) more coded holds entered
  grouped = record {
    few = let f = g.few in omega arith;
    set = λ i l. elim (cases_eq i j) [
      | inl ij ↦ λ y. rs.nexts done lt (sym c.here ∙ (ap coded (sym ij) ∙ y))
      | inr ij ↦ λ y. g.set i (other_code i ij l).1 (sym (c.others i ij) ∙ y)
    ];
    unset = λ i l. let o : i ≢ j = λ y. omega arith in c.others i o ∙ g.unset i (omega arith);
    apart = code_apart;
    most = λ i. elim (cases_eq i j) [
      | inl ij ↦ let s : holds i ≡ held j + 1 = ap holds ij ∙ h.here in let t = g.most j in omega arith
      | inr ij ↦ let s = h.others i ij in let t = g.most i in omega arith
    ];
    some = λ i l. elim (cases_eq i j) [
      | inl ij ↦ let s : holds i ≡ held j + 1 = ap holds ij ∙ h.here in omega arith
      | inr ij ↦ let s = h.others i ij in let t = g.some i (other_code i ij l).1 in omega arith
    ];
    bare = λ i l. let o : i ≢ j = λ y. omega arith in h.others i o ∙ g.bare i (omega arith);
    rest = λ k i l. elim (cases_eq k j) [
      | inl kj ↦
          let s : holds k ≡ held j + 1 = ap holds kj ∙ h.here in
          let t : held k ≡ held j = ap held kj in
          e.others k i (inr (λ y. omega arith)) ∙ g.rest k i (omega arith)
      | inr kj ↦ let s = h.others k kj in e.others k i (inl kj) ∙ g.rest k i (omega arith)
    ];
    from = λ k i l. elim (which k i l) [
      | inl n ↦ (done, omega arith, sym (new_there k i n.0 n.1), sym c.here ∙ ap coded (sym n.0))
      | inr o ↦ let f = g.from k i o.0 in let f1 : f.0 < done = f.1 in (f.0, omega arith, f.2 ∙ sym o.1, f.3 ∙ sym o.2)
    ];
    into = λ a l. elim (cases_eq a done) [
      | inl ad ↦ (j, held j, let s = h.here in omega arith, e.here ∙ ap row (sym ad))
      | inr ad ↦
          let t = g.into a (omega arith) in
          let room : t.1 < held t.0 = t.2 in
          let room_now : t.1 < holds t.0 = elim (cases_eq t.0 j) [
            | inl kj ↦ let s : holds t.0 ≡ held j + 1 = ap holds kj ∙ h.here in let u : held t.0 ≡ held j = ap held kj in omega arith
            | inr kj ↦ let s = h.others t.0 kj in omega arith
          ] in (
            t.0,
            t.1,
            room_now,
            e.others t.0 t.1 (elim (cases_eq t.0 j) [
              | inl kj ↦ inr (λ y. let u : held t.0 ≡ held j = ap held kj in omega arith)
              | inr kj ↦ inl kj
            ]) ∙ t.3,
          )
    ];
    once = λ differ k i p l a b y. elim (which k i a) [
      | inl n ↦ elim (which p l b) [
        | inl o ↦ (n.0 ∙ sym o.0, n.1 ∙ sym o.1)
        | inr o ↦ absurd (new_row differ p l o (sym (new_there k i n.0 n.1) ∙ (y ∙ o.1)))
      ]
      | inr n ↦ elim (which p l b) [
        | inl o ↦ absurd (new_row differ k i n (sym (new_there p l o.0 o.1) ∙ (sym y ∙ n.1)))
        | inr o ↦ g.once differ k i p l n.0 o.0 (sym n.1 ∙ (y ∙ o.1))
      ]
    ];
  }

-- no row yet
pub no_groups : (row next code held : ℕ → ℕ) (entry : ℕ → ℕ → ℕ) → ((j : ℕ) → code j ≡ 0) → ((j : ℕ) → held j ≡ 0) → ((j i : ℕ) → entry j i ≡ 0) → AreGroups row next 0 0 code held entry
no_groups row next code held entry c h e = record {
  few = omega arith;
  set = λ j l. absurd (omega arith);
  unset = λ j l. c j;
  apart = λ i j l. absurd (omega arith);
  most = λ j. let t = h j in omega arith;
  some = λ j l. absurd (omega arith);
  bare = λ j l. h j;
  rest = λ j i l. e j i;
  from = λ j i l. let t = h j in absurd (omega arith);
  into = λ a l. absurd (omega arith);
  once = λ differ j i k l a. let t = h j in absurd (omega arith);
}
