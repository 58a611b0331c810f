-- Pages taken one after the other, and kept again.
use Rattle.std.proofs.Common.{◌≡◌, ◌≢◌, ℕ, ◌+◌, ◌<◌, List, [], ◌∷◌, ◌++◌, length, get_or, set, refl, sym, ap, ◌∙◌, subst, arith, inl, inr, ⊎_elim, length-append, get_or-set_same, get_or-set_other, ◌≤◌}
use Rattle.std.proofs.lemmas.Bool.{cases_eq}
use mathlib.Core.Option.{some, some-ne-none}
use lib.ListN.{get_elem?}
use Rattle.htss_defs.specs.declared.shape.Shape.{Shape}
use Rattle.board_core.specs.Sheets.{owns}
use Rattle.board_core.specs.MarkRule.{IsAmong}
use Rattle.board_core.specs.Loaded.{IsPage, HasOwn}
use Rattle.board_core.proofs.Lists.{at_end, at_longer, at_last}
use Rattle.board.specs.Seated.{Seated, with_stock}
use Rattle.page_pool.specs.Taking.{HasFound, IsGiven, IsRefused}
use Rattle.page_pool.proofs.Giving.{found_stock}
use Rattle.page_pool.proofs.Passing.{scanned_own}
use Rattle.class_tree.specs.Inserting.{IsStocked}
use Rattle.class_tree.specs.Refusing.{WasRefused}
use Rattle.class_tree.specs.Splitting.{AreTaken, TakesAll}
use Rattle.class_tree.specs.Loading.{LoadsOn}
use Rattle.class_tree.specs.Walking.{rest_of}
use Rattle.class_tree.proofs.Grown.{goes_same, goes_on}
use Rattle.class_tree.proofs.Searching.{refused_on}
use Rattle.class_tree.proofs.Taking.{given_takes, given_goes, given_reached, was_refused, refused_reached, refused_clean}
use Rattle.board_core.specs.CountRule.{most_own}

pub none_taken : (c : Seated) (pages : List ℕ) → IsStocked c → AreTaken c pages 0
none_taken c pages s = record {
  own = λ q mine. inl (s.own q mine);
  mine = λ t l. absurd (omega arith);
  apart = λ t u l. absurd (omega arith);
  few = (let few = s.few in omega arith);
  size = (let size = s.size in omega arith);
  clean = s.clean;
}

pub all_kept : (c : Seated) (pages : List ℕ) → AreTaken c pages 0 → IsStocked c
all_kept c pages k = record {
  own = λ q mine. ⊎_elim (λ (h : IsAmong c.stock q). h) (λ (h : (t : ℕ) × (t < 0) × (get_or pages t 0 ≡ q)). let l : h.0 < 0 = h.1 in absurd (omega arith)) (k.own q mine);
  few = (let few = k.few in omega arith);
  size = (let size = k.size in omega arith);
  clean = k.clean;
}

-- ---- one page more

module _ (k : Shape) (c d : Seated) (pages more : List ℕ) (n p : ℕ) (taken : AreTaken c pages n) (g : IsGiven k c d p) (inside : IsPage d.shape p) (shape : d.shape ≡ c.shape) (few : n < 16) (here : get_or more n 0 ≡ p) (others : (j : ℕ) → j ≢ n → get_or more j 0 ≡ get_or pages j 0) where
  -- a page that was taken before is another
  not_new : (j : ℕ) → j < n → get_or pages j 0 ≢ p
  not_new j l e =
      let (page, mine, out) = taken.mine j l in
      ⊎_elim
      (λ (t : (d ≡ with_stock c d.stock) × (c.stock ≡ d.stock ++ p ∷ [])). out (subst (λ (s : List ℕ). IsAmong s (get_or pages j 0)) (sym t.1) (subst (IsAmong (d.stock ++ p ∷ [])) (sym e) (length d.stock, at_last d.stock p (length d.stock) refl))))
      (λ (t : (c.stock ≡ []) × HasFound k c d p).
      let f = t.1 in
      let fresh : owns p f.middle.account.pool.own ≡ 0 = f.taken.fresh in
      let same : owns p f.middle.account.pool.own ≡ owns p c.account.pool.own = ap (owns p) (scanned_own k c f.middle f.scanned) in
      let is : owns (get_or pages j 0) c.account.pool.own ≡ owns p c.account.pool.own = ap (λ (q : ℕ). owns q c.account.pool.own) e in omega arith)
      g.from

  -- what was kept is kept still, but for the page itself
  still : (q : ℕ) → q ≢ p → IsAmong c.stock q → IsAmong d.stock q
  still q other (i, there) = ⊎_elim
      (λ (t : (d ≡ with_stock c d.stock) × (c.stock ≡ d.stock ++ p ∷ [])). ⊎_elim
      (λ (old : get_elem? d.stock i ≡ some q). (i, old))
      (λ (new : (i ≡ length d.stock) × (p ≡ q)). absurd (other (sym new.1)))
      (at_end d.stock p q i (ap (λ (l : List ℕ). get_elem? l i) (sym t.1) ∙ there)))
      (λ (t : (c.stock ≡ []) × HasFound k c d p). absurd (some-ne-none q (sym there ∙ ap (λ (l : List ℕ). get_elem? l i) t.0)))
      g.from

  back : (q : ℕ) → IsAmong d.stock q → IsAmong c.stock q
  back q (i, there) = ⊎_elim
      (λ (t : (d ≡ with_stock c d.stock) × (c.stock ≡ d.stock ++ p ∷ [])). (i, ap (λ (l : List ℕ). get_elem? l i) t.1 ∙ at_longer d.stock (p ∷ []) i q there))
      (λ (t : (c.stock ≡ []) × HasFound k c d p). (i, ap (λ (l : List ℕ). get_elem? l i) (sym (found_stock k c d p t.1)) ∙ there))
      g.from

  pub take_more : AreTaken d more (n + 1)
  take_more = record {
    own = λ q mine. elim (cases_eq q p) [
      | inl y ↦ inr (n, omega arith, here ∙ sym y)
      | inr y ↦ ⊎_elim
          (λ (h : IsAmong c.stock q). inl (still q y h))
          (λ (h : (t : ℕ) × (t < n) × (get_or pages t 0 ≡ q)). let l : h.0 < n = h.1 in inr (h.0, omega arith, others h.0 (λ z. omega arith) ∙ h.2))
          (taken.own q (let same = g.others q y in omega arith))
    ];
    mine = λ j l. elim (cases_eq j n) [
      | inl y ↦ subst (λ (q : ℕ). IsPage d.shape q × HasOwn d.account q × ¬ (IsAmong d.stock q)) (sym (ap (λ (i : ℕ). get_or more i 0) y ∙ here)) (inside, g.own, g.apart)
      | inr y ↦
          let (page, mine, out) = taken.mine j (omega arith) in
          let same = g.others (get_or pages j 0) (not_new j (omega arith)) in
          subst (λ (q : ℕ). IsPage d.shape q × HasOwn d.account q × ¬ (IsAmong d.stock q)) (sym (others j y)) (subst (λ (s : Shape). IsPage s (get_or pages j 0)) (sym shape) page, omega arith, λ among. out (back (get_or pages j 0) among))
    ];
    apart = λ j u m w e. elim (cases_eq j n) [
      | inl jn ↦ elim (cases_eq u n) [
        | inl un ↦ jn ∙ sym un
        | inr un ↦ absurd (not_new u (omega arith) (sym (others u un) ∙ (sym e ∙ (ap (λ (i : ℕ). get_or more i 0) jn ∙ here))))
      ]
      | inr jn ↦ elim (cases_eq u n) [
        | inl un ↦ absurd (not_new j (omega arith) (sym (others j jn) ∙ (e ∙ (ap (λ (i : ℕ). get_or more i 0) un ∙ here))))
        | inr un ↦ taken.apart j u (omega arith) (omega arith) (sym (others j jn) ∙ (e ∙ others u un))
      ]
    ];
    few = (let more = g.more in let few = taken.few in omega arith);
    size = ⊎_elim
        (λ (t : (d ≡ with_stock c d.stock) × (c.stock ≡ d.stock ++ p ∷ [])). let longer = ap length t.1 ∙ length-append d.stock (p ∷ []) in let size = taken.size in omega arith)
        (λ (t : (c.stock ≡ []) × HasFound k c d p). let none = ap length (found_stock k c d p t.1 ∙ t.0) in omega arith)
        g.from;
    clean = (given_takes k c d p g).clean taken.clean;
  }

pub takes_none : (c : Seated) (pages : List ℕ) → IsStocked c → TakesAll c c pages 0
takes_none c pages s = record { goes = goes_same (length c.account.tree.reached) c; reached = refl; taken = none_taken c pages s; linked = refl }

pub takes_more : (k : Shape) (b c d : Seated) (pages : List ℕ) (n p : ℕ) → TakesAll b c pages n → IsGiven k c d p → IsPage k p → k ≡ d.shape → n < 16 → length pages ≡ 16 → TakesAll b d (set pages n p) (n + 1)
takes_more k b c d pages n p t g inside shape few long = record {
  goes = goes_on (length b.account.tree.reached) (length c.account.tree.reached) b c d (t.goes.longer) t.goes (given_goes k c d p (length c.account.tree.reached) g);
  reached = given_reached k c d p g ∙ t.reached;
  linked = g.linked ∙ t.linked;
  taken = take_more k c d pages (set pages n p) n p t.taken g (subst (λ (s : Shape). IsPage s p) shape inside) (given_takes k c d p g).shape few (get_or-set_same pages n p 0 (omega arith)) (λ j other. get_or-set_other pages n j p 0 other);
}

-- they are fewer than a loader may have
pub few_taken : (c : Seated) (pages : List ℕ) (n : ℕ) → AreTaken c pages n → length c.account.pool.own < most_own
few_taken c pages n k = let few = k.few in let size = k.size in omega arith

pub few_stocked : (c : Seated) → IsStocked c → length c.account.pool.own < most_own
few_stocked c s = let few = s.few in let size = s.size in omega arith

-- ---- kept again

pub may_keep : (c : Seated) (pages : List ℕ) (n m : ℕ) → AreTaken c pages n → m + 1 ≡ n → IsPage c.shape (get_or pages m 0) × HasOwn c.account (get_or pages m 0) × ¬ (IsAmong c.stock (get_or pages m 0)) × (length c.stock < 32)
may_keep c pages n m taken e = let (page, mine, out) = taken.mine m (omega arith) in (page, mine, out, let size = taken.size in omega arith)

pub keep_one : (c d : Seated) (pages : List ℕ) (n m : ℕ) → AreTaken c pages n → m + 1 ≡ n → d ≡ with_stock c (c.stock ++ get_or pages m 0 ∷ []) → AreTaken d pages m
keep_one c d pages n m taken e kept = subst (λ (x : Seated). AreTaken x pages m) (sym kept) record {
  own = λ q mine. ⊎_elim
      (λ (h : IsAmong c.stock q). let (i, there) = h in inl (i, at_longer c.stock (get_or pages m 0 ∷ []) i q there))
      (λ (h : (t : ℕ) × (t < n) × (get_or pages t 0 ≡ q)). elim (cases_eq h.0 m) [
        | inl y ↦ inl (length c.stock, at_last c.stock (get_or pages m 0) (length c.stock) refl ∙ ap some (sym (ap (λ (i : ℕ). get_or pages i 0) y) ∙ h.2))
        | inr y ↦ let l : h.0 < n = h.1 in inr (h.0, omega arith, h.2)
      ])
      (taken.own q mine);
  mine = λ t l. let (page, mine, out) = taken.mine t (omega arith) in (
    page,
    mine,
    λ among. let (i, there) = among in ⊎_elim
        (λ (old : get_elem? c.stock i ≡ some (get_or pages t 0)). out (i, old))
        (λ (new : (i ≡ length c.stock) × (get_or pages m 0 ≡ get_or pages t 0)). let same : m ≡ t = taken.apart m t (omega arith) (omega arith) new.1 in omega arith)
        (at_end c.stock (get_or pages m 0) (get_or pages t 0) i there),
  );
  apart = λ t u l o. taken.apart t u (omega arith) (omega arith);
  few = (let longer = length-append c.stock (get_or pages m 0 ∷ []) in let few = taken.few in omega arith);
  size = (let longer = length-append c.stock (get_or pages m 0 ∷ []) in let size = taken.size in omega arith);
  clean = taken.clean;
}

-- ---- no page was found

pub none_more : (k : Shape) (c d : Seated) (pages : List ℕ) (n : ℕ) → AreTaken c pages n → d.shape ≡ c.shape → IsRefused k c d → AreTaken d pages n
none_more k c d pages n taken shape r = record {
  own = λ q mine. ⊎_elim
      (λ (h : IsAmong c.stock q). inl (subst (λ (l : List ℕ). IsAmong l q) (sym r.stock) h))
      (λ (h : (t : ℕ) × (t < n) × (get_or pages t 0 ≡ q)). inr h)
      (taken.own q (let same = ap (owns q) r.own in omega arith));
  mine = λ t l. let (page, mine, out) = taken.mine t l in
      (subst (λ (s : Shape). IsPage s (get_or pages t 0)) (sym shape) page, (let same = ap (owns (get_or pages t 0)) r.own in omega arith), λ among. out (subst (λ (l : List ℕ). IsAmong l (get_or pages t 0)) r.stock among));
  apart = taken.apart;
  few = (let own : length d.account.pool.own ≡ length c.account.pool.own = ap length r.own in let same = ap length r.stock in let few = taken.few in omega arith);
  size = (let same = ap length r.stock in let size = taken.size in omega arith);
  clean = refused_clean k c d r taken.clean;
}

pub all_refused : (k : Shape) (b c d e : Seated) (pages : List ℕ) (n need : ℕ) → TakesAll b c pages n → c.stock ≡ [] → IsRefused k c d → e ≡ with_stock d e.stock → length e.stock ≡ length d.stock + n → n < need → WasRefused k b e need
all_refused k b c d e pages n need t empty r kept size few =
    let w = refused_on k (length b.account.tree.reached) b c d 1 t.goes (was_refused k c d empty r) in
    let none = ap length (r.stock ∙ empty) in
    record {
      answers = record {
        table = ap (λ (x : Seated). x.table) kept ∙ w.answers.table;
        shape = ap (λ (x : Seated). x.shape) kept ∙ w.answers.shape;
        loads = w.answers.loads;
        grows = subst (λ (x : Seated). LoadsOn b.account x.account) (sym kept) w.answers.grows;
        rest = ap (λ (x : Seated). rest_of x.account) kept ∙ w.answers.rest;
      };
      before = c;
      empty = empty;
      after = d;
      refused = r;
      end = kept;
      short = omega arith;
    }

pub all_refused_reached : (k : Shape) (b c d e : Seated) (pages : List ℕ) (n : ℕ) → TakesAll b c pages n → IsRefused k c d → e ≡ with_stock d e.stock → e.account.tree.reached ≡ b.account.tree.reached
all_refused_reached k b c d e pages n t r kept = ap (λ (x : Seated). x.account.tree.reached) kept ∙ (refused_reached k c d r ∙ t.reached)
