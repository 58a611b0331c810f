-- A plan speaks of the places of new pages alone, so it may be joined with the places of the others.
use Rattle.std.proofs.Common.{◌≡◌, ℕ, ◌<◌, Bool, true, false, List, [], ◌∷◌, ◌++◌, sym, ap, ◌∙◌, subst}
use Rattle.board_core.specs.declared.tree.Reached.{Reached}
use Rattle.board_core.specs.declared.tree.Way.TheVariants.{Branch}
use Rattle.board_core.specs.ClassTree.{Place, at_way, IsWay, Follows, PageStands, IsBelow}
use Rattle.board_core.specs.Split.{NewHasSlot}
use Rattle.board_core.specs.Plan.{Plan}

module _ (W : ℕ → ℕ → ℕ) (v t : ℕ → Place) (codes : ℕ → List ℕ) (New : ℕ → Type 0) (rs : List Reached) (y x : Reached) (k first : ℕ) (e : (q : ℕ) → New q → v q ≡ t q) where
  back : (b : Bool) (n q i : ℕ) → NewHasSlot W t New b n q i → NewHasSlot W v New b n q i
  back b n q i a = record { new = a.new; kind = ap (λ (p : Place). p.leaf) (e q a.new) ∙ a.kind; room = a.room; some_n = a.some_n; there = a.there }

  forth : (b : Bool) (n q i : ℕ) → NewHasSlot W v New b n q i → NewHasSlot W t New b n q i
  forth b n q i a = record { new = a.new; kind = ap (λ (p : Place). p.leaf) (sym (e q a.new)) ∙ a.kind; room = a.room; some_n = a.some_n; there = a.there }

  pub replaced : Plan W v codes New rs y x k first → Plan W t codes New rs y x k first
  replaced p = record {
    inner = p.inner;
    kind = p.kind;
    room = p.room;
    leaf = p.leaf;
    old = p.old;
    low = p.low;
    full = p.full;
    head = let h = p.head in subst (λ (P : Place). New first × (P.from ≡ y.page) × (P.way ≡ Branch k) × (P.path ≡ x.path) × (P.rank ≡ 0)) (e first h.0) h;
    inner_first = ap (λ (P : Place). P.leaf) (sym (e first p.head.0)) ∙ p.inner_first;
    ranks = λ q n. subst (λ (P : Place). P.rank < 2) (e q n) (p.ranks q n);
    below = λ q n. subst (λ (P : Place). IsBelow x.path P.path) (e q n) (p.below q n);
    pages = λ q n. subst (λ (P : Place). PageStands (W q) P) (e q n) (p.pages q n);
    named = λ q n o. subst (λ (P : Place). New P.from × (W P.from (at_way P.way) ≡ q) × Follows (W P.from) (t P.from) P.way P) (e q n)
        (let h = p.named q n o in (h.0, h.1, subst (λ (P : Place). Follows (W (v q).from) P (v q).way (v q)) (e (v q).from h.0) h.2));
    leads = λ q to n way some_n. let h = p.leads q to n (subst (λ (P : Place). IsWay P to) (sym (e q n)) way) some_n in
        subst (λ (P : Place). New (W q (at_way to)) × (P.from ≡ q) × (P.way ≡ to)) (e (W q (at_way to)) h.0) h;
    alone = λ q r n m path rank. p.alone q r n m ((λ i. (e q n i).path) ∙ (path ∙ λ i. (sym (e r m) i).path)) ((λ i. (e q n i).rank) ∙ (rank ∙ λ i. (sym (e r m) i).rank));
    apart = λ n q r i j a b path. p.apart n q r i j (back false n q i a) (back false n r j b) ((λ i. (e q a.new i).path) ∙ (path ∙ λ i. (sym (e r b.new) i).path));
    begun = λ c q i a. let h = p.begun c q i (back false c q i a) in (h.0, h.1, subst (λ (P : Place). IsBelow (P.path ++ c ∷ []) (codes h.0)) (e q a.new) h.2);
    rows = λ n q r i j a b. p.rows n q r i j (back true n q i a) (back true n r j b);
    entries = λ n q i a. let h = p.entries n q i (back true n q i a) in (h.0, subst (λ (P : Place). IsBelow P.path (codes n)) (e q a.new) h.1);
    keeps = λ n h. let c = p.keeps n h in (c.0, c.1, forth true n c.0 c.1 c.2);
  }
