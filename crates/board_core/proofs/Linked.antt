-- A word of a linked page that was 0 is exchanged, and own pages may come into the tree: what all such steps leave, of pages, of what
-- anybody knows, and of the whole part.
use Rattle.std.proofs.Common.{◌≡◌, ◌≢◌, ℕ, zero, suc, ◌+◌, ◌<◌, ◌≤◌, ◌⊎◌, Bool, true, false, cond, eqb, List, [], ◌∷◌, ◌++◌, set, sym, refl, ap, ◌∙◌, subst, arith, inl, inr, ⊎_elim, eq-eqb, ne_eqb}
use mathlib.Core.Option.{some, some-injective, some-ne-none}
use mathlib.Core.Logic.{dite}
use native.Mathlib.Decide.{ℕ_discrete}
use lib.ListN.{get_elem?}
use Rattle.atomic_table.proofs.Lists.{set_here}
use Rattle.htss_defs.specs.declared.shape.Shape.{Shape}
use Rattle.board_core.specs.declared.account.Account.{Account}
use Rattle.board_core.specs.declared.account.View.{View}
use Rattle.board_core.specs.declared.pool.Own.{Own}
use Rattle.board_core.specs.declared.room.Row.{Row}
use Rattle.board_core.specs.declared.tree.Reached.{Reached}
use Rattle.board_core.specs.declared.tree.TreeAccount.{TreeAccount}
use Rattle.board_core.specs.Each.{Each, In}
use Rattle.board_core.specs.Words.{PoolWords, stored_page}
use Rattle.board_core.specs.Accounts.{with_me}
use Rattle.board_core.specs.Held.{held_in, leaf_of}
use Rattle.board_core.specs.HeldRule.{HeldFits}
use Rattle.board_core.specs.Sheets.{Sheet, sheet_of, IsLinked, where_page, owns, parts}
use Rattle.board_core.specs.PoolRule.{PoolRule}
use Rattle.board_core.specs.OwnRule.{OwnFits}
use Rattle.board_core.specs.Rows.{HasRow, IsBegun, IsPlaced, entry_word}
use Rattle.board_core.specs.ClassTree.{Place, HasSlot, IsBelow, Tree, slot_at}
use Rattle.board_core.specs.Turns.{IsPut, Turns}
use Rattle.board_core.specs.Fill.{IsOneMore}
use Rattle.board_core.specs.KnownPages.{IsFullLeaf, KnowsPages}
use Rattle.board_core.specs.KnownRule.{Knows}
use Rattle.board_core.specs.TreeRule.{TreeRule}
use Rattle.board_core.proofs.Lists.{one_of, inside}
use Rattle.board_core.proofs.Everyone.{mine, moved, at_most, total_same, total_changed}
use Rattle.board_core.proofs.Some.{some_changed}
use Rattle.board_core.proofs.PageSums.{where_same}
use Rattle.board_core.proofs.PoolFrame.{each_both}
use Rattle.board_core.proofs.Stored.{stored_here, stored_else, page_here, page_else}
use Rattle.board_core.proofs.KnownSteps.{Stays, known_words, turned_stays}
use Rattle.board_core.proofs.FilledKnown.{other_word}
use Rattle.board_core.proofs.Kept.{kept_words}
use Rattle.board_core.proofs.TreeFrame.{placed_split, rows_stay}
use Rattle.board_core.proofs.ChainFrame.{KeepsPages}
use Rattle.board_core.proofs.TreeStays.{lasts_same}

-- ---- one word of one page

pub put_is : (w : ℕ → ℕ → ℕ) (q i n : ℕ) → IsPut w (stored_page w q i n) q i n
put_is w q i n = record {
  here = page_here w q i n i ∙ stored_here (w q) i n;
  others = λ p j o. dite (ℕ_discrete p q)
      (λ y. ap (λ x. stored_page w q i n x j) y ∙ (page_here w q i n j ∙ (⊎_elim (λ (a : p ≢ q). absurd (a y)) (λ (b : j ≢ i). stored_else (w q) i n j b) o ∙ ap (λ x. w x j) (sym y))))
      (λ y. page_else w q i n p j y);
}

-- a function with one value changed
abbrev pub with_at : {A : Type 0} → (ℕ → A) → ℕ → A → ℕ → A
with_at f n x m = cond (eqb m n) x (f m)

pub at_here : {A : Type 0} (f : ℕ → A) (n : ℕ) (x : A) → with_at f n x n ≡ x
at_here f n x = ap (λ b. cond b x (f n)) (eq-eqb n n refl)

pub at_else : {A : Type 0} (f : ℕ → A) (n m : ℕ) (x : A) → m ≢ n → with_at f n x m ≡ f m
at_else f n m x other = ap (λ b. cond b x (f m)) (ne_eqb m n other)

-- ---- own pages

-- an own page is owned
pub owned_some : (os : List Own) (j : ℕ) (o : Own) → get_elem? os j ≡ some o → 1 ≤ owns o.page os
owned_some os j o there = let one = where_same o.page o.page 1 refl in let h = one_of (λ (i : Own). where_page o.page i.page 1) os j o there in omega arith

-- words of own pages stay where one word of a page that is none of them changed
pub own_kept : (w u : ℕ → ℕ → ℕ) (q i n : ℕ) (os : List Own) → IsPut w u q i n → owns q os ≡ 0 → Each (OwnFits w) os → Each (OwnFits u) os
own_kept w u q i n os e none h j o there = record { words = λ a x g. e.others o.page a (inl (λ y. let some_o = owned_some os j o there in let z : owns o.page os ≡ 0 = ap (λ k. owns k os) y ∙ none in omega arith)) ∙ (h j o there).words a x g }

-- the pages that left the account's own
abbrev pub Left : List Own → List Own → ℕ → Type 0
Left before after p = owns p after < owns p before

-- which pages are linked where own pages were let go
pub turned_in : (k : Shape) (w : PoolWords) (vs : List View) (id : ℕ) (v : View) (b : Account) → PoolRule k w vs → get_elem? vs id ≡ some v → b.pool.parted ≡ v.me.pool.parted
    → ((p : ℕ) → IsLinked (sheet_of w.states vs) p → p ≢ 0) → ((q : ℕ) → owns q b.pool.own ≤ owns q v.me.pool.own)
    → Turns (sheet_of w.states vs) (sheet_of w.states (set vs id (with_me v b))) (Left v.me.pool.own b.pool.own) 0
turned_in k w vs id v b r at parted numbered less =
    let s : Sheet = sheet_of w.states vs in
    let z : Sheet = sheet_of w.states (set vs id (with_me v b)) in
    let own_sum : (p : ℕ) → z.owned p + owns p v.me.pool.own ≡ s.owned p + owns p b.pool.own = λ p. total_changed (λ x. owns p x.pool.own) vs id v b at in
    let own_part : (p : ℕ) → owns p v.me.pool.own ≤ s.owned p = λ p. at_most (λ x. owns p x.pool.own) vs id v at in
    let part_same : (p : ℕ) → z.parted p ≡ s.parted p = λ p. total_same (λ x. parts p x.pool.parted) vs id v b at (ap (parts p) parted) in record {
      own = λ p n. let o = own_part p in omega arith;
      stays = λ p h _. let o = own_sum p in let le = less p in let c = part_same p in let none = h.owned in let none2 = h.parted in record { busy = h.busy; owned = omega arith; parted = omega arith };
      comes = λ p n. let o = own_sum p in let one = own_part p in let c = part_same p in let fits = r.pages p in let once = fits.once in
          record { busy = fits.busy (omega arith); owned = omega arith; parted = omega arith };
      either = λ p h. let none = h.owned in let none2 = h.parted in let c = part_same p in let o = own_sum p in let le = less p in
          dite (ℕ_discrete (s.owned p) 0)
          (λ y. let l : IsLinked s p = record { busy = h.busy; owned = y; parted = omega arith } in inl (l, numbered p l))
          (λ y. inr (omega arith));
    }

-- ---- what anybody knows

-- a reached leaf is held
first_held : (b : Bool) (p : ℕ) (ps : List ℕ) → b ≡ true → In p (leaf_of b p ps)
first_held true p ps e = (zero, refl)
first_held false p ps e = absurd cc

shifted : (b : Bool) (p x : ℕ) (ps : List ℕ) → In x ps → In x (leaf_of b p ps)
shifted true p x ps (j, e) = (suc j, e)
shifted false p x ps h = h

pub held_at : (rs : List Reached) (j : ℕ) (x : Reached) → get_elem? rs j ≡ some x → x.leaf ≡ true → In x.page (held_in rs)
held_at [] j x there leaf = absurd (some-ne-none x (sym there))
held_at (r ∷ rs) zero x there leaf = subst (λ (y : Reached). In y.page (leaf_of r.leaf r.page (held_in rs))) (some-injective r x there) (first_held r.leaf r.page (held_in rs) (ap (λ (y : Reached). y.leaf) (some-injective r x there) ∙ leaf))
held_at (r ∷ rs) (suc j) x there leaf = shifted r.leaf r.page x.page (held_in rs) (held_at rs j x there leaf)

-- so it is nobody's own
pub held_free : (s : Sheet) (announced : ℕ) (rs : List Reached) → Each (HeldFits s announced) (held_in rs) → Each (λ x. x.leaf ≡ true → s.owned x.page ≡ 0) rs
held_free s announced rs held j x there leaf = let h = held_at rs j x there leaf in (held h.0 x.page h.1).owned

-- an own page is reached by nobody
pub unreached : (s : Sheet) (p : ℕ) → 0 < s.owned p → (x : Reached) → (x.leaf ≡ false → IsLinked s x.page) → (x.leaf ≡ true → s.owned x.page ≡ 0) → (b : Bool) → x.leaf ≡ b → x.page ≢ p
unreached s p some_o x inner leaf true e y = let none : s.owned p ≡ 0 = ap s.owned (sym y) ∙ leaf e in omega arith
unreached s p some_o x inner leaf false e y = let none : s.owned p ≡ 0 = ap s.owned (sym y) ∙ (inner e).owned in omega arith

-- a word that was 0 was stored, and new pages came in that nobody reached
module _ (w u : ℕ → ℕ → ℕ) (s z : Sheet) (m v : ℕ → Place) (c : ℕ → List ℕ) (placed places : ℕ → Type 0) (old : ℕ → ℕ → Type 0) (New : ℕ → Type 0) (q i n : ℕ)
    (t : Tree w s m c placed) (l : IsLinked s q) (zero_word : w q i ≡ 0) (e : IsPut w u q i n) (turn : Turns s z New 0) (same : (p : ℕ) → IsLinked s p → v p ≡ m p) (plus : (r : ℕ) → placed r → places r) where
  still : (p : ℕ) → IsLinked s p → IsLinked z p
  still p o = turn.stays p o (t.numbered p o)

  stays : (rs : List Reached) (f : ℕ) → KnowsPages w s m c (old f) rs → Each (λ x. x.leaf ≡ true → s.owned x.page ≡ 0) rs → Each (Stays w u s z m v) rs
  stays rs f k free j x there = record {
    inner = λ _ o. still x.page o;
    place = λ o. ⊎_elim (λ (a : IsLinked s x.page × (x.page ≢ 0)). (a.0, same x.page a.0))
        (λ (a : New x.page). absurd (unreached s x.page (turn.own x.page a) x (k.fits j x there).inner (free j x there) x.leaf refl refl)) (turn.either x.page o);
    slots = λ a b some_b y. e.others x.page (slot_at x.leaf a) (other_word w q i zero_word x.page (slot_at x.leaf a) b some_b y) ∙ y;
    more = λ p h. let f = (k.fits j x there).more p h in e.others x.page 1 (other_word w q i zero_word x.page 1 p f.2 f.0);
    old = λ _ o. inl (still x.page o);
    turned = λ _ g. turned_stays s z m v still same x g;
    still = λ _ o. dite (ℕ_discrete x.page q)
        (λ y. inl (subst (λ (p : ℕ). IsLinked z p) (sym y) (still q l)))
        (λ y. inr (subst (λ (g : ℕ → ℕ). IsFullLeaf g x) (λ a b. sym (e.others x.page b (inl y)) a) o));
  }

  pub knows_linked : (a : TreeAccount) → Each (λ x. x.leaf ≡ true → s.owned x.page ≡ 0) a.reached → Knows w s m c placed old a → Knows u z v c places old a
  knows_linked a free k =
      let each = stays a.reached a.front k.known free in record {
        known = known_words w u s z m v c (old a.front) a.reached k.known each (λ j x there _ o r h b. inl (still x.page o)) (λ r o. (k.olds r o).1);
        kept = kept_words w u s z m v c placed places (old a.front) a.reached t k.known plus each (λ j x there _ o. inl (still x.page o)) k.kept;
        pairs = k.pairs;
        olds = λ r o. let d = k.olds r o in (plus r d.0, d.1);
        lasts = lasts_same s z m v still same a.lasting k.lasts;
      }

-- pages of the tree stay in it, with their words other than 0
pub keeps_linked : (w u : ℕ → ℕ → ℕ) (s z : Sheet) (q i n : ℕ) → ((p : ℕ) → IsLinked s p → IsLinked z p) → w q i ≡ 0 → IsPut w u q i n → KeepsPages w u s z
keeps_linked w u s z q i n more zero_word e = record { linked = λ p l. inl (more p l); words = λ p j l some_n. inl (e.others p j (other_word w q i zero_word p j (w p j) some_n refl)) }

-- ---- rows that are placed

pub row_more : (n : ℕ) (rows : List Row) (r : Row) → HasRow n rows → HasRow n (rows ++ r ∷ [])
row_more n (x ∷ rows) r (y, (zero, there), is) = (y, (zero, there), is)
row_more n (x ∷ rows) r (y, (suc j, there), is) = let h = row_more n rows r (y, (j, there), is) in (h.0, (suc h.1.0, h.1.1), h.2)
row_more n [] r (y, (j, there), is) = absurd (some-ne-none y (sym there))

row_last : (rows : List Row) (r : Row) → HasRow (entry_word r) (rows ++ r ∷ [])
row_last [] r = (r, (zero, refl), refl)
row_last (x ∷ rows) r = let h = row_last rows r in (h.0, (suc h.1.0, h.1.1), h.2)

row_either : (n : ℕ) (rows : List Row) (r : Row) → HasRow n (rows ++ r ∷ []) → HasRow n rows ⊎ (n ≡ entry_word r)
row_either n [] r (y, (zero, there), is) = inr (sym is ∙ ap entry_word (sym (some-injective r y there)))
row_either n [] r (y, (suc j, there), is) = absurd (some-ne-none y (sym there))
row_either n (x ∷ rows) r (y, (zero, there), is) = inl (y, (zero, there), is)
row_either n (x ∷ rows) r (y, (suc j, there), is) = ⊎_elim (λ (h : HasRow n rows). inl (h.0, (suc h.1.0, h.1.1), h.2)) (λ (h : n ≡ entry_word r). inr h) (row_either n rows r (y, (j, there), is))

pub one_more : (vs : List View) (id : ℕ) (v : View) (a : Account) (r : Row) → get_elem? vs id ≡ some v → a.tree.placed ≡ v.me.tree.placed ++ r ∷ [] → IsOneMore (IsPlaced vs) (IsPlaced (set vs id (with_me v a))) (entry_word r)
one_more vs id v a r at is = record {
  old = λ n h. some_changed (λ x. HasRow n x.tree.placed) vs id v a at (λ t. subst (λ (l : List Row). HasRow n l) (sym is) (row_more n v.me.tree.placed r t)) h;
  new = (id, with_me v a, set_here vs id (with_me v a) (inside vs id v at), 0, a, refl, subst (λ (l : List Row). HasRow (entry_word r) l) (sym is) (row_last v.me.tree.placed r));
  all = λ n h. ⊎_elim (λ (t : IsPlaced vs n). inl t)
      (λ (t : HasRow n a.tree.placed). ⊎_elim (λ (y : HasRow n v.me.tree.placed). inl (id, v, at, 0, v.me, refl, y)) (λ (y : n ≡ entry_word r). inr y)
      (row_either n v.me.tree.placed r (subst (λ (l : List Row). HasRow n l) is t)))
      (placed_split vs id v a at n h);
}

-- ---- the whole part

module _ (k : Shape) (pool : PoolWords) (w u : ℕ → ℕ → ℕ) (c : ℕ → List ℕ) (old : ℕ → ℕ → Type 0) (vs : List View) (id : ℕ) (v : View) (a : Account) (q i n : ℕ) (m : ℕ → Place)
    (r : TreeRule k pool.states w c old vs) (rules : PoolRule k pool vs) (at : get_elem? vs id ≡ some v) where
  -- what the step owes
  pub record Links : Type 0 where
    pub parted : a.pool.parted ≡ v.me.pool.parted
    pub less : (p : ℕ) → owns p a.pool.own ≤ owns p v.me.pool.own
    pub begun : a.tree.begun ≡ v.me.tree.begun
    pub placed : (x : ℕ) → IsPlaced vs x → IsPlaced (set vs id (with_me v a)) x
    pub linked : IsLinked (sheet_of pool.states vs) q
    pub zero_word : w q i ≡ 0
    pub put : IsPut w u q i n
    pub places : (p : ℕ) → IsLinked (sheet_of pool.states vs) p → m p ≡ r.place p
    pub tree : Tree u (sheet_of pool.states (set vs id (with_me v a))) m c (IsPlaced (set vs id (with_me v a)))
    pub ranks : (p : ℕ) → Left v.me.pool.own a.pool.own p → (m p).rank < k.chain
    pub codes : (x p j : ℕ) → HasSlot u (sheet_of pool.states (set vs id (with_me v a))) m false x p j
        → HasSlot w (sheet_of pool.states vs) r.place false x p j ⊎ ((y : ℕ) × IsBegun vs y × IsBelow ((m p).path ++ x ∷ []) (c y))
    pub learns : Knows u (sheet_of pool.states (set vs id (with_me v a))) m c (IsPlaced (set vs id (with_me v a))) old v.me.tree → Knows u (sheet_of pool.states (set vs id (with_me v a))) m c (IsPlaced (set vs id (with_me v a))) old a.tree

  pub link_tree : Links → TreeRule k pool.states u c old (set vs id (with_me v a))
  link_tree o =
      let s : Sheet = sheet_of pool.states vs in
      let ws : List View = set vs id (with_me v a) in
      let z : Sheet = sheet_of pool.states ws in
      let turn = turned_in k pool vs id v a rules at o.parted r.tree.numbered o.less in
      let begun : (x : ℕ) → IsBegun vs x → IsBegun ws x = rows_stay vs id v a at (λ y. y.tree.begun) o.begun in
      let one : (x : Account) → Knows w s r.place c (IsPlaced vs) old x.tree → Each (HeldFits s x.pool.announced) (held_in x.tree.reached) → Knows u z m c (IsPlaced ws) old x.tree =
      λ x h held. knows_linked w u s z r.place m c (IsPlaced vs) (IsPlaced ws) old (Left v.me.pool.own a.pool.own) q i n r.tree o.linked o.zero_word o.put turn o.places o.placed x.tree (held_free s x.pool.announced x.tree.reached held) h in record {
        place = m;
        tree = o.tree;
        ranks = λ p l. ⊎_elim (λ (y : IsLinked s p × (p ≢ 0)). subst (λ (P : Place). P.rank < k.chain) (sym (o.places p y.0)) (r.ranks p y.0)) (λ (y : Left v.me.pool.own a.pool.own p). o.ranks p y) (turn.either p l);
        begun = λ x p j h. ⊎_elim
            (λ (y : HasSlot w s r.place false x p j). let b = r.begun x p j y in (b.0, begun b.0 b.1, subst (λ (P : Place). IsBelow (P.path ++ x ∷ []) (c b.0)) (sym (o.places p y.linked)) b.2))
            (λ (y : (y : ℕ) × IsBegun vs y × IsBelow ((m p).path ++ x ∷ []) (c y)). (y.0, begun y.0 y.1, y.2)) (o.codes x p j h);
        known = moved (λ x. Knows w s r.place c (IsPlaced vs) old x.tree × Each (HeldFits s x.pool.announced) (held_in x.tree.reached)) (λ x. Knows u z m c (IsPlaced ws) old x.tree) vs id v a at
            (o.learns (one v.me (mine (λ x. Knows w s r.place c (IsPlaced vs) old x.tree) vs id v at r.known) (mine (λ x. Each (HeldFits s x.pool.announced) (held_in x.tree.reached)) vs id v at rules.held)))
            (λ x _ f. one x f.0 f.1) (each_both _ _ vs r.known rules.held);
      }
