-- The tree part of the rule under the exchange that puts own pages in a full leaf's place.
use Rattle.std.proofs.Common.{◌≡◌, ◌≢◌, ℕ, ◌+◌, ◌*◌, ◌%◌, ◌<◌, ◌≤◌, Bool, true, false, List, [], ◌∷◌, ◌++◌, set, length, sym, refl, ap, ◌∙◌, subst, arith, inl, inr, ⊎_elim}
use mathlib.Core.Option.{some}
use mathlib.Core.Logic.{dite}
use native.Mathlib.Decide.{ℕ_discrete}
use lib.ListN.{get_elem?}
use Rattle.htss_defs.specs.declared.shape.Shape.{Shape}
use Rattle.board_core.specs.declared.account.Account.{Account}
use Rattle.board_core.specs.declared.account.View.{View}
use Rattle.board_core.specs.declared.tree.TreeAccount.{TreeAccount}
use Rattle.board_core.specs.Each.{Each}
use Rattle.board_core.specs.Words.{PoolWords}
use Rattle.board_core.specs.Accounts.{with_me}
use Rattle.board_core.specs.Held.{held_in}
use Rattle.board_core.specs.HeldRule.{HeldFits}
use Rattle.board_core.specs.Sheets.{Sheet, sheet_of, IsLinked}
use Rattle.board_core.specs.PoolRule.{PoolRule}
use Rattle.board_core.specs.Rows.{HasRow, IsBegun, IsPlaced}
use Rattle.board_core.specs.ClassTree.{Place, chained, kind_of, header_of, Stands, IsBelow, Tree}
use Rattle.board_core.specs.Turns.{IsPut, Turns}
use Rattle.board_core.specs.Split.{MaySplit}
use Rattle.board_core.specs.declared.tree.Reached.{Reached}
use Rattle.board_core.specs.KnownPages.{place_of, AreKept, Lasts}
use Rattle.board_core.specs.KnownRule.{Knows}
use Rattle.board_core.specs.TreeRule.{CodeBegun, TreeRule}
use Rattle.board_core.proofs.Everyone.{mine, moved}
use Rattle.board_core.proofs.PoolFrame.{each_both}
use Rattle.board_core.proofs.Kept.{kept_same}
use Rattle.board_core.proofs.TreeFrame.{same_placed, rows_stay, placed_split}
use Rattle.board_core.proofs.ChainFrame.{IsAlone, KeepsPages}
use Rattle.board_core.proofs.Linked.{held_free}
use Rattle.board_core.proofs.Split.{is_low, splits, split_known, split_kept, leaf_place, no_more}

module _ (k : Shape) (pool : PoolWords) (w u : ℕ → ℕ → ℕ) (c : ℕ → List ℕ) (old : ℕ → ℕ → Type 0) (vs : List View) (id : ℕ) (v : View) (a : Account) (m : ℕ → Place) (New : ℕ → Type 0) (q i leaf first : ℕ)
    (r : TreeRule k pool.states w c old vs) (rules : PoolRule k pool vs) (at : get_elem? vs id ≡ some v) (chain : 2 ≤ k.chain) (same : a.tree ≡ v.me.tree)
    (was : (n : ℕ) → IsPlaced vs n → IsBegun vs n)
    (may : MaySplit w (sheet_of pool.states vs) r.place m c New q i leaf first) (put : IsPut w u q (3 + 2 * i) first)
    (turn : Turns (sheet_of pool.states vs) (sheet_of pool.states (set vs id (with_me v a))) New leaf) (places : (p : ℕ) → IsLinked (sheet_of pool.states vs) p → m p ≡ r.place p) where
  abbrev ws : List View
  ws = set vs id (with_me v a)

  abbrev s : Sheet
  s = sheet_of pool.states vs

  abbrev z : Sheet
  z = sheet_of pool.states (set vs id (with_me v a))

  plus : (n : ℕ) → IsPlaced vs n → IsPlaced ws n
  plus = rows_stay vs id v a at (λ x. x.tree.placed) (ap (λ (x : TreeAccount). x.placed) same)

  minus : (n : ℕ) → IsPlaced ws n → IsPlaced vs n
  minus n h = ⊎_elim (λ (t : IsPlaced vs n). t) (λ (t : HasRow n a.tree.placed). (id, v, at, 0, v.me, refl, subst (λ (x : TreeAccount). HasRow n x.placed) same t)) (placed_split vs id v a at n h)

  begun_stays : (n : ℕ) → IsBegun vs n → IsBegun ws n
  begun_stays = rows_stay vs id v a at (λ x. x.tree.begun) (ap (λ (x : TreeAccount). x.begun) same)

  tree : Tree u z m c (IsPlaced ws)
  tree = same_placed u z m c (IsPlaced vs) (IsPlaced ws) plus minus (splits w u s z r.place m c (IsPlaced vs) New q i leaf first r.tree may put turn places)

  -- a new page is not the one with the link
  new_word : (p j : ℕ) → New p → u p j ≡ w p j
  new_word p j n = put.others p j (inl (λ y. let own = turn.own p n in let none : s.owned p ≡ 0 = ap s.owned y ∙ may.inner.owned in omega arith))

  -- the entries of the leaf are rows that were begun
  entry_begun : (j : ℕ) → j < 14 → IsBegun vs (w leaf (2 + j))
  entry_begun j room = was (w leaf (2 + j)) (r.tree.entries (w leaf (2 + j)) leaf j record { linked = may.leaf; kind = may.old; room = room; some_n = may.full j room; there = refl }).0

  codes_begun : CodeBegun u z m c (IsBegun ws)
  codes_begun n p j h = ⊎_elim
      (λ (y : IsLinked s p × (p ≢ leaf)).
      let b = r.begun n p j record { linked = y.0; kind = ap (λ (P : Place). P.leaf) (sym (places p y.0)) ∙ h.kind; room = h.room; some_n = h.some_n; there = sym (put.others p (2 + 2 * j) (inr (omega arith))) ∙ h.there } in
      (b.0, begun_stays b.0 b.1, subst (λ (P : Place). IsBelow (P.path ++ n ∷ []) (c b.0)) (sym (places p y.0)) b.2))
      (λ (y : New p).
      let b = may.begun n p j record { new = y; kind = h.kind; room = h.room; some_n = h.some_n; there = sym (new_word p (2 + 2 * j) y) ∙ h.there } in
      (w leaf (2 + b.0), begun_stays (w leaf (2 + b.0)) (entry_begun b.0 b.1), b.2))
      (turn.either p h.linked)

  -- a leaf of the last depth is not the one that is split
  deeper : (y : Reached) → Lasts s r.place y → y.page ≢ leaf
  deeper y l is =
      let low : length (r.place y.page).path < chained = subst (λ (p : ℕ). length (r.place p).path < chained) (sym is) (is_low (length (r.place leaf).path) may.low) in
      let deep : chained ≤ length (r.place y.page).path = subst (λ (P : Place). chained ≤ length P.path) (sym l.place) l.deep in omega arith

  one : (x : Account) → Knows w s r.place c (IsPlaced vs) old x.tree → Each (HeldFits s x.pool.announced) (held_in x.tree.reached) → Knows u z m c (IsPlaced ws) old x.tree
  one x h held =
      let free = held_free s x.pool.announced x.tree.reached held in
      let stands : (n : ℕ) → old x.tree.front n → Stands w s r.place n × (n ≢ 0) = λ n o. let d = h.olds n o in (r.tree.placed n d.0, d.1) in record {
        known = split_known w u s z r.place m c (IsPlaced vs) New q i leaf first r.tree may put turn places (old x.tree.front) stands x.tree.reached h.known free;
        kept = λ j y there e. ⊎_elim (λ (l : IsLinked z y.page). inl l)
            (λ (t : AreKept (u y.page) c (IsPlaced vs) y.path). inr (kept_same (u y.page) (u y.page) c (IsPlaced vs) (IsPlaced ws) y.path plus (λ _ _. refl) t))
            (split_kept w u s z r.place m c (IsPlaced vs) New q i leaf first r.tree may put turn places (old x.tree.front) stands x.tree.reached h.known free h.kept j y there e);
        pairs = h.pairs;
        olds = λ n o. let d = h.olds n o in (plus n d.0, d.1);
        lasts = λ j y there. let l = h.lasts j y there in record { leaf = l.leaf; deep = l.deep; linked = turn.stays y.page l.linked (deeper y l); place = places y.page l.linked ∙ l.place };
      }

  pub split_tree : TreeRule k pool.states u c old ws
  split_tree = record {
    place = m;
    tree = tree;
    ranks = λ p l. ⊎_elim (λ (y : IsLinked s p × (p ≢ leaf)). subst (λ (P : Place). P.rank < k.chain) (sym (places p y.0)) (r.ranks p y.0)) (λ (y : New p). let low = may.ranks p y in omega arith) (turn.either p l);
    begun = codes_begun;
    known = moved (λ x. Knows w s r.place c (IsPlaced vs) old x.tree × Each (HeldFits s x.pool.announced) (held_in x.tree.reached)) (λ x. Knows u z m c (IsPlaced ws) old x.tree) vs id v a at
        (subst (λ (t : TreeAccount). Knows u z m c (IsPlaced ws) old t) (sym same) (one v.me (mine (λ x. Knows w s r.place c (IsPlaced vs) old x.tree) vs id v at r.known) (mine (λ x. Each (HeldFits s x.pool.announced) (held_in x.tree.reached)) vs id v at rules.held)))
        (λ x _ f. one x f.0 f.1) (each_both _ _ vs r.known rules.held);
  }

  -- the leaf is alone in its chain, and the word is a link
  leaf_header : (P : Place) → P.leaf ≡ true → P.rank ≡ 0 → header_of P ≡ 1 + 4 * length P.path
  leaf_header P e rank = (λ t. kind_of (e t) + 4 * length P.path + 32 * rank t) ∙ omega arith

  inner_header : (P : Place) → P.leaf ≡ false → header_of P % 4 ≡ 2
  inner_header P e = ap (λ (b : Bool). (kind_of b + 4 * length P.path + 32 * P.rank) % 4) e ∙ omega arith

  alone : IsAlone (w leaf)
  alone = record {
    first = let header : w leaf 0 ≡ 1 + 4 * length (r.place leaf).path = (r.tree.pages leaf may.leaf).header ∙ leaf_header (r.place leaf) may.old (leaf_place w u s z r.place m c (IsPlaced vs) New q i leaf first r.tree may put turn places).2 in let low = may.low in omega arith;
    last = no_more w u s z r.place m c (IsPlaced vs) New q i leaf first r.tree may put turn places;
  }

  pub split_keeps : KeepsPages w u s z
  split_keeps = record {
    linked = λ p l. dite (ℕ_discrete p leaf) (λ y. inr (subst (λ (x : ℕ). IsAlone (w x)) (sym y) alone)) (λ y. inl (turn.stays p l y));
    words = λ p j l some_n. dite (ℕ_discrete p q)
        (λ y. dite (ℕ_discrete j (3 + 2 * i))
        (λ e. inr record { inner = ap (λ (x : ℕ). w x 0 % 4) y ∙ (ap (λ (x : ℕ). x % 4) (r.tree.pages q may.inner).header ∙ inner_header (r.place q) may.kind); pair = i; place = e })
        (λ e. inl (put.others p j (inr e))))
        (λ y. inl (put.others p j (inl y)));
  }
