-- The next page of a leaf of the last depth is loaded before its entries, and such a leaf is gone to again.
use Rattle.std.proofs.Common.{◌≡◌, ◌≢◌, ℕ, zero, suc, ◌+◌, ◌<◌, ◌≤◌, ◌⊎◌, Bool, true, false, cond, List, [], ◌∷◌, ◌++◌, length, set, get_or, sym, refl, ap, ◌∙◌, subst, arith, inl, inr, ⊎_elim, eq-eqb, ne_eqb}
use mathlib.Core.Option.{some, none, some-injective, some-ne-none}
use mathlib.Core.Logic.{dite}
use native.Mathlib.Decide.{ℕ_discrete}
use lib.ListN.{get_elem?}
use Rattle.atomic_table.specs.Table.{step, keeps, Allows}
use Rattle.atomic_table.proofs.Lists.{set_again}
use Rattle.htss_defs.specs.declared.shape.Shape.{Shape}
use Rattle.htss_defs.specs.declared.history.Event.{Event}
use Rattle.board_core.specs.declared.account.Account.{Account}
use Rattle.board_core.specs.declared.account.View.{View}
use Rattle.board_core.specs.declared.tree.Reached.{Reached}
use Rattle.board_core.specs.declared.tree.TreeAccount.{TreeAccount}
use Rattle.board_core.specs.declared.tree.Link.TheVariants.{Unread}
use Rattle.board_core.specs.declared.tree.Way.TheVariants.{More}
use Rattle.board_core.specs.Each.{Each, In}
use Rattle.board_core.specs.Words.{Parts, parts_of}
use Rattle.board_core.specs.Histories.{history_of}
use Rattle.board_core.specs.Accounts.{with_me}
use Rattle.board_core.specs.Held.{held_in}
use Rattle.board_core.specs.Sheets.{Sheet, sheet_of, IsLinked}
use Rattle.board_core.specs.MarkRule.{IsAmong}
use Rattle.board_core.specs.Rows.{codes_in, IsPlaced}
use Rattle.board_core.specs.ClassTree.{Place, chained, header_of, Follows, IsFrom, Stands, Tree}
use Rattle.board_core.specs.KnownPages.{place_of, IsFullLeaf, ReachedFits, AreKept, KnowsPages, Lasts}
use Rattle.board_core.specs.KnownRule.{Knows}
use Rattle.board_core.specs.OldRows.{IsOldRow}
use Rattle.board_core.specs.Loaded.{IsPage, page_word}
use Rattle.board_core.specs.Holds.{Rule, Holds}
use Rattle.board_core.specs.After.{visited, next_of}
use Rattle.board_core.specs.Steps.{Mine}
use Rattle.board_core.specs.Passing.{MayPassLeaf, after_gone, after_passed, PassesLeaf, after_kept, KeepsLeaves, kept_at, AreKeptOf, MayBeRecalled, MayRecall, recalled, after_recalled, Recalls}
use Rattle.board_core.proofs.Lists.{each_none, each_cons, each_snoc, each_append}
use Rattle.board_core.proofs.KnownSteps.{arrives}
use Rattle.board_core.proofs.PageLoads.{at_visit, more_path}
use Rattle.board_core.proofs.PoolTree.{pool_reaches}
use Rattle.board_core.proofs.OwnFrame.{own_same}
use Rattle.board_core.proofs.RowFrame.{rows_same, placed_begun}
use Rattle.board_core.proofs.TreeFrame.{known_codes, tree_told}
use Rattle.board_core.proofs.ChainFrame.{same_pages}
use Rattle.board_core.proofs.LoadPage.{known_here, held_snoc}
use Rattle.board_core.proofs.Stepped.{still}
use Rattle.board_core.proofs.Treed.{by_passing, page_at, busy_page}
use Rattle.board_core.proofs.Pooled.{linked_kept}

-- what is kept is found by its page
abbrev IsAt : List Reached → ℕ → Reached → Type 0
IsAt xs page y = In y xs × (y.page ≡ page)

kept_cons : (y : Reached) (ys : List Reached) (page : ℕ) → (y.page ≢ page → IsAt ys page (kept_at ys page)) → IsAt (y ∷ ys) page (kept_at (y ∷ ys) page)
kept_cons y ys page rest = dite (ℕ_discrete y.page page)
    (λ e. subst (λ (b : Bool). IsAt (y ∷ ys) page (cond b y (kept_at ys page))) (sym (eq-eqb y.page page e)) ((0, refl), e))
    (λ ne. let h = rest ne in subst (λ (b : Bool). IsAt (y ∷ ys) page (cond b y (kept_at ys page))) (sym (ne_eqb y.page page ne)) ((suc h.0.0, h.0.1), h.1))

pub kept_there : (xs : List Reached) (page : ℕ) (x : Reached) (j : ℕ) → get_elem? xs j ≡ some x → x.page ≡ page → In (kept_at xs page) xs × ((kept_at xs page).page ≡ page)
kept_there [] page x j e is = absurd (some-ne-none x (sym e))
kept_there (y ∷ ys) page x zero e is = kept_cons y ys page (λ ne. absurd (ne (ap (λ (z : Reached). z.page) (some-injective y x e) ∙ is)))
kept_there (y ∷ ys) page x (suc j) e is = kept_cons y ys page (λ _. kept_there ys page x j e is)

-- no row is of the first 0 events
no_row : (k : Shape) (regions slots : ℕ → ℕ) (n : ℕ) → IsOldRow k regions slots 0 n → ⊥
no_row k regions slots n o = let before = o.before in omega arith

-- of the page nothing is read yet
pub record IsFresh (y : Reached) : Type 0 where
  pub slots : y.slots ≡ []
  pub links : y.links ≡ []
  pub zero : y.zero ≡ false
  pub more : y.more ≡ Unread

module _ (w : ℕ → ℕ → ℕ) (s : Sheet) (m : ℕ → Place) (codes : ℕ → List ℕ) (placed : ℕ → Type 0) (old : ℕ → ℕ → Type 0) (t : Tree w s m codes placed) (a : TreeAccount) (k : Knows w s m codes placed old a)
    (n : ℕ) (within : n < length a.reached) (leaf : (visited a.reached n).leaf ≡ true) (deep : chained ≤ length (visited a.reached n).path) (v : ℕ) (word : w (visited a.reached n).page 1 ≡ v) (some_v : v ≢ 0) where
  abbrev x : Reached
  x = visited a.reached n

  fits : ReachedFits w s m x
  fits = k.known.fits n x (at_visit a.reached n within)

  -- a leaf of the last depth does not leave the tree
  stays : IsLinked s x.page
  stays = ⊎_elim (λ (l : IsLinked s x.page). l) (λ (o : IsFullLeaf (w x.page) x). let low = o.low in absurd (omega arith)) (fits.old leaf)

  from : IsFrom s m x.page More v
  from = subst (λ (p : ℕ). IsFrom s m x.page More p) word (t.leads x.page More stays tt (λ e. some_v (sym word ∙ e)))

  behind : ((m v).path ≡ (m x.page).path) × ((m v).rank ≡ (m x.page).rank + 1) × ((m v).leaf ≡ (m x.page).leaf)
  behind = more_path (w x.page) (m x.page) (m v).way (m v) from.by (subst (λ (p : ℕ). Follows (w p) (m p) (m v).way (m v)) from.from (t.named v from.linked from.below).follows)

  -- the next page is one of the tree, of the next rank
  pub next_stands : IsLinked s v × ((m v).rank ≡ x.rank + 1)
  next_stands = (from.linked, behind.1 ∙ ap (λ (p : Place). p.rank + 1) (fits.place stays))

  pub passed_lasts : Lasts s m (next_of x v)
  passed_lasts =
      let here = fits.place stays in
      let path : (m v).path ≡ x.path = behind.0 ∙ ap (λ (p : Place). p.path) here in
      let rank : (m v).rank ≡ x.rank + 1 = behind.1 ∙ ap (λ (p : Place). p.rank + 1) here in
      let kind : (m v).leaf ≡ x.leaf = behind.2 ∙ ap (λ (p : Place). p.leaf) here in
      record { leaf = leaf; deep = deep; linked = from.linked; place = λ j. record { path = path j; rank = rank j; leaf = kind j; from = from.from j; way = from.by j } }

module _ (w : ℕ → ℕ → ℕ) (s : Sheet) (m : ℕ → Place) (codes : ℕ → List ℕ) (placed : ℕ → Type 0) (old : ℕ → ℕ → Type 0) (t : Tree w s m codes placed) (a : TreeAccount) (k : Knows w s m codes placed old a) where
  -- what is known once a leaf that lasts was reached, where no row is old
  pub law_gone : (y : Reached) → Lasts s m y → IsFresh y → ((r : ℕ) → old 0 r → ⊥) → Knows w s m codes placed old (record a { front = 0; reached = a.reached ++ y ∷ [] })
  law_gone y lasts fresh none_old =
      let stands : (r : ℕ) → old 0 r → Stands w s m r = λ r o. absurd (none_old r o) in
      let known : KnowsPages w s m codes (old 0) a.reached = known_codes w s m codes codes (old a.front) (old 0) a.reached (λ r o. absurd (none_old r o)) (λ r o. refl) k.known in record {
        known = arrives w s m codes placed (old 0) t stands a.reached known y record { linked = lasts.linked; place = lasts.place; slots = fresh.slots; links = fresh.links; zero = fresh.zero; more = fresh.more; chain = inr (lasts.leaf, none_old) };
        kept = each_snoc (λ (z : Reached). z.leaf ≡ true → IsLinked s z.page ⊎ AreKept (w z.page) codes placed z.path) a.reached y (λ _. inl lasts.linked) k.kept;
        pairs = each_snoc (λ (z : Reached). length z.links ≡ length z.slots) a.reached y (ap length fresh.links ∙ sym (ap length fresh.slots)) k.pairs;
        olds = λ r o. absurd (none_old r o);
        lasts = k.lasts;
      }

  -- a leaf of the last depth that was reached lasts
  pub reached_lasts : (j : ℕ) → j < length a.reached → (visited a.reached j).leaf ≡ true → chained ≤ length (visited a.reached j).path → Lasts s m (visited a.reached j)
  reached_lasts j within leaf deep =
      let x : Reached = visited a.reached j in
      let fits = k.known.fits j x (at_visit a.reached j within) in
      let linked : IsLinked s x.page = ⊎_elim (λ (l : IsLinked s x.page). l) (λ (o : IsFullLeaf (w x.page) x). let low = o.low in absurd (omega arith)) (fits.old leaf) in
      record { leaf = leaf; deep = deep; linked = linked; place = fits.place linked }

  -- two of them are kept
  pub law_kept : (x y : Reached) → Lasts s m x → Lasts s m y → Knows w s m codes placed old (record a { lasting = a.lasting ++ x ∷ y ∷ [] })
  law_kept x y lasts_x lasts_y = record {
    known = k.known;
    kept = k.kept;
    pairs = k.pairs;
    olds = k.olds;
    lasts = each_append (Lasts s m) a.lasting (x ∷ y ∷ []) k.lasts (each_cons (Lasts s m) x (y ∷ []) lasts_x (each_cons (Lasts s m) y [] lasts_y (each_none (Lasts s m))));
  }

  -- a leaf of this one's chain
  pub recalled_lasts : (x to : Reached) → Lasts s m x → MayBeRecalled a.lasting x to → Lasts s m (recalled x to)
  recalled_lasts x to lasts known = ⊎_elim
      (λ (e : to ≡ x). record {
        leaf = refl;
        deep = lasts.deep;
        linked = subst (λ (z : Reached). IsLinked s z.page) (sym e) lasts.linked;
        place = ap (λ (z : Reached). m z.page) e ∙ (lasts.place ∙ (λ i. record { path = x.path; rank = (sym e i).rank; leaf = lasts.leaf i; from = (sym e i).from; way = (sym e i).way }));
      })
      (λ (h : In to a.lasting × AreKeptOf a.lasting x.page to.page).
      let c = h.1 in
      let f = k.lasts c.one_there.0 c.one c.one_there.1 in
      let o = k.lasts c.other_there.0 c.other c.other_there.1 in
      let g = k.lasts h.0.0 to h.0.1 in
      let same : to.path ≡ x.path = ap (λ (P : Place). P.path) (sym g.place ∙ (ap m (sym c.other_page) ∙ o.place)) ∙ (c.path ∙ ap (λ (P : Place). P.path) (sym f.place ∙ (ap m c.one_page ∙ lasts.place))) in
      record { leaf = refl; deep = lasts.deep; linked = g.linked; place = g.place ∙ (λ i. record { path = same i; rank = to.rank; leaf = g.leaf i; from = to.from; way = to.way }) })
      known

module _ (k : Shape) (p : Parts) (h : List Event) (vs : List View) (id : ℕ) (v : View) (r : Rule k p h vs) (at : get_elem? vs id ≡ some v) where
  lasts_here : (j : ℕ) → MayPassLeaf k v.me j → Lasts (sheet_of p.pool.states vs) r.tree.place (visited v.me.tree.reached j)
  lasts_here j may = reached_lasts p.pages (sheet_of p.pool.states vs) r.tree.place (codes_in k p.regions) (IsPlaced vs) (IsOldRow k p.regions p.log.slots) r.tree.tree v.me.tree (known_here k p h vs id v r at) j may.visit.reached may.leaf may.deep

  -- the account may speak of less rows as old, reach pages that are linked, and keep leaves
  told_rule : (t : TreeAccount) → t.front ≤ v.me.tree.front → t.begun ≡ v.me.tree.begun → t.placed ≡ v.me.tree.placed
      → ((j q : ℕ) → get_elem? (held_in t.reached) j ≡ some q → IsAmong (held_in v.me.tree.reached) q ⊎ ((0 < v.me.pool.announced) × IsLinked (sheet_of p.pool.states vs) q))
      → Knows p.pages (sheet_of p.pool.states vs) r.tree.place (codes_in k p.regions) (IsPlaced vs) (IsOldRow k p.regions p.log.slots) t
      → Rule k p h (set vs id (with_me v (record v.me { tree = t })))
  told_rule t front begun placed news knows =
      let a : Account = record v.me { tree = t } in
      let s : Sheet = sheet_of p.pool.states vs in
      by_passing k p p.pages h vs id v a r at
      record { who = refl; log = refl; room = refl; entries = refl; shown = refl; heads = refl; facts = refl; codes = refl; marks = refl } (λ q there. subst (In q) (sym placed) there) front
      (pool_reaches k p.pool vs id v t r.pool at news (let e : length t.begun ≡ length v.me.tree.begun = ap length begun in omega arith))
      (own_same p.pages vs id v a r.own at refl)
      (rows_same k vs id v a r.rows at refl refl refl begun placed)
      (same_pages p.pages s (sheet_of p.pool.states (set vs id (with_me v a))) (linked_kept p.pool.states vs id v a at (λ _. refl) (λ _. refl)))
      (tree_told k p.pool.states p.pages (codes_in k p.regions) (IsOldRow k p.regions p.log.slots) vs id v a at (λ _. refl) refl begun placed (λ q. placed_begun k vs q r.rows) r.tree knows)

  -- a leaf that lasts was reached
  gone_rule : (y : Reached) → 0 < v.me.pool.announced → IsFresh y → Lasts (sheet_of p.pool.states vs) r.tree.place y → Rule k p h (set vs id (with_me v (after_gone v.me y)))
  gone_rule y pinned fresh lasts = told_rule (after_gone v.me y).tree (omega arith) refl refl
      (λ i q e. ⊎_elim (λ (o : IsAmong (held_in v.me.tree.reached) q). inl o)
      (λ (o : q ≡ y.page). inr (pinned, subst (λ (z : ℕ). IsLinked (sheet_of p.pool.states vs) z) (sym o) lasts.linked))
      (held_snoc v.me.tree.reached y i q e))
      (law_gone p.pages (sheet_of p.pool.states vs) r.tree.place (codes_in k p.regions) (IsPlaced vs) (IsOldRow k p.regions p.log.slots) r.tree.tree v.me.tree (known_here k p h vs id v r at) y lasts fresh (no_row k p.regions p.log.slots))

  pub pass_leaf : (j n : ℕ) → MayPassLeaf k v.me j → p.pages (visited v.me.tree.reached j).page 1 ≡ n → Rule k p h (set vs id (with_me v (after_passed v.me j n)))
  pass_leaf j zero may word = subst (λ (l : List View). Rule k p h l) (sym (set_again vs id v at)) r
  pass_leaf j (suc n) may word = gone_rule (next_of (visited v.me.tree.reached j) (suc n)) may.pinned record { slots = refl; links = refl; zero = refl; more = refl }
      (passed_lasts p.pages (sheet_of p.pool.states vs) r.tree.place (codes_in k p.regions) (IsPlaced vs) (IsOldRow k p.regions p.log.slots) r.tree.tree v.me.tree (known_here k p h vs id v r at) j may.visit.reached may.leaf may.deep (suc n) word (λ e. omega arith))

  pub keep_leaves : (i j : ℕ) → MayPassLeaf k v.me i → MayPassLeaf k v.me j → Rule k p h (set vs id (with_me v (after_kept v.me i j)))
  keep_leaves i j may_i may_j = told_rule (after_kept v.me i j).tree (omega arith) refl refl (λ n q e. inl (n, e))
      (law_kept p.pages (sheet_of p.pool.states vs) r.tree.place (codes_in k p.regions) (IsPlaced vs) (IsOldRow k p.regions p.log.slots) r.tree.tree v.me.tree (known_here k p h vs id v r at)
      (visited v.me.tree.reached i) (visited v.me.tree.reached j) (lasts_here i may_i) (lasts_here j may_j))

  recall_lasts : (j : ℕ) (to : Reached) → MayRecall k v.me j to → Lasts (sheet_of p.pool.states vs) r.tree.place (recalled (visited v.me.tree.reached j) to)
  recall_lasts j to may = recalled_lasts p.pages (sheet_of p.pool.states vs) r.tree.place (codes_in k p.regions) (IsPlaced vs) (IsOldRow k p.regions p.log.slots) r.tree.tree v.me.tree (known_here k p h vs id v r at) (visited v.me.tree.reached j) to (lasts_here j may.may) may.kept

  pub recall : (j : ℕ) (to : Reached) → MayRecall k v.me j to → Rule k p h (set vs id (with_me v (after_recalled v.me j to)))
  recall j to may = gone_rule (recalled (visited v.me.tree.reached j) to) may.may.pinned record { slots = refl; links = refl; zero = refl; more = refl } (recall_lasts j to may)

  -- its header, and its rank
  pub recall_shows : (j : ℕ) (to : Reached) → MayRecall k v.me j to → (p.pages to.page 0 ≡ header_of (place_of (recalled (visited v.me.tree.reached j) to))) × (to.rank < k.chain)
  recall_shows j to may =
      let y = recall_lasts j to may in
      (subst (λ (P : Place). p.pages to.page 0 ≡ header_of P) y.place (r.tree.tree.pages to.page y.linked).header, subst (λ (P : Place). P.rank < k.chain) y.place (r.tree.ranks to.page y.linked))

  -- where it leads
  pub pass_leads : (j n : ℕ) → MayPassLeaf k v.me j → p.pages (visited v.me.tree.reached j).page 1 ≡ n → n ≢ 0 → (p.pool.states n ≢ 0) × ((visited v.me.tree.reached j).rank + 1 < k.chain)
  pass_leads j n may word some_n =
      let l = next_stands p.pages (sheet_of p.pool.states vs) r.tree.place (codes_in k p.regions) (IsPlaced vs) (IsOldRow k p.regions p.log.slots) r.tree.tree v.me.tree (known_here k p h vs id v r at) j may.visit.reached may.leaf may.deep n word some_n in
      let one : p.pool.states n ≡ 1 = l.0.busy in
      let rank = l.1 in
      let most = r.tree.ranks n l.0 in (λ free. omega arith, omega arith)

pub pass_allowed : (k : Shape) (slots id j at_word x : ℕ) (m : Mine) → at_word ≡ page_word k (visited m.0.me.tree.reached j).page 1 → m.0.shape ≡ k → MayPassLeaf k m.0.me j
    → Allows (Holds k) slots id m at_word (λ n. n) (PassesLeaf j (step slots at_word 0 x none) m)
pass_allowed k slots id j at_word x m is shape may s h _ at _ =
    let p : Parts = parts_of k s.words in
    let y : Reached = visited m.0.me.tree.reached j in
    let found : ℕ = get_or s.words at_word 0 in
    let same : p.pages y.page 1 ≡ found = page_at k s.words y.page 1 may.visit.inside (omega arith) ∙ ap (λ (z : ℕ). get_or s.words z 0) (sym is) in (
      with_me m.0 (after_passed m.0.me j found),
      keeps,
      tt,
      still k s at_word id m.1 m.0 (after_passed m.0.me j found) h (pass_leaf k p (history_of k p) s.views id m.0 h.rule at j found may same),
      record {
        after = refl;
        page = λ some_n. subst (λ (z : Shape). IsPage z found) (sym shape) (busy_page k s.words found (pass_leads k p (history_of k p) s.views id m.0 h.rule at j found may same some_n).0);
        rank = λ some_n. subst (λ (z : Shape). y.rank + 1 < z.chain) (sym shape) (pass_leads k p (history_of k p) s.views id m.0 h.rule at j found may same some_n).1;
      },
    )

pub keep_allowed : (k : Shape) (slots id i j at_word : ℕ) (m : Mine) → MayPassLeaf k m.0.me i → MayPassLeaf k m.0.me j → Allows (Holds k) slots id m at_word (λ n. n) (KeepsLeaves i j (step slots at_word 0 0 none) m)
keep_allowed k slots id i j at_word m may_i may_j s h _ at _ = (
  with_me m.0 (after_kept m.0.me i j),
  keeps,
  tt,
  still k s at_word id m.1 m.0 (after_kept m.0.me i j) h (keep_leaves k (parts_of k s.words) (history_of k (parts_of k s.words)) s.views id m.0 h.rule at i j may_i may_j),
  refl,
)

pub recall_allowed : (k : Shape) (slots id j at_word : ℕ) (to : Reached) (m : Mine) → at_word ≡ page_word k to.page 0 → m.0.shape ≡ k → MayRecall k m.0.me j to
    → Allows (Holds k) slots id m at_word (λ n. n) (Recalls j to (step slots at_word 0 0 none) m)
recall_allowed k slots id j at_word to m is shape may s h _ at _ =
    let p : Parts = parts_of k s.words in
    let found : ℕ = get_or s.words at_word 0 in
    let same : p.pages to.page 0 ≡ found = page_at k s.words to.page 0 may.inside (omega arith) ∙ ap (λ (z : ℕ). get_or s.words z 0) (sym is) in
    let shows = recall_shows k p (history_of k p) s.views id m.0 h.rule at j to may in (
      with_me m.0 (after_recalled m.0.me j to),
      keeps,
      tt,
      still k s at_word id m.1 m.0 (after_recalled m.0.me j to) h (recall k p (history_of k p) s.views id m.0 h.rule at j to may),
      record {
        after = refl;
        header = sym same ∙ shows.0;
        rank = subst (λ (z : Shape). to.rank < z.chain) (sym shape) shows.1;
      },
    )
