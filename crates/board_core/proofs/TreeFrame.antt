-- The class tree under steps that change no page word: the same pages are linked, the same rows placed, and their codes stay.
use Rattle.std.proofs.Common.{◌≡◌, ◌≢◌, ℕ, zero, suc, ◌+◌, ◌*◌, ◌<◌, ◌⊎◌, Bool, true, false, List, [], ◌∷◌, ◌++◌, set, sym, refl, ap, ◌∙◌, subst, arith, inl, inr, ⊎_elim, length}
use mathlib.Core.Option.{some, some-injective, some-ne-none}
use lib.ListN.{get_elem?}
use Rattle.htss_defs.specs.declared.shape.Shape.{Shape}
use Rattle.board_core.specs.declared.account.Account.{Account}
use Rattle.board_core.specs.declared.account.View.{View}
use Rattle.board_core.specs.declared.account.Who.TheVariants.{Opener, Note}
use Rattle.board_core.specs.declared.room.Row.{Row}
use Rattle.board_core.specs.declared.tree.TreeAccount.{TreeAccount}
use Rattle.board_core.specs.declared.tree.Reached.{Reached}
use Rattle.board_core.specs.declared.tree.Link.TheVariants.{Absent}
use Rattle.board_core.specs.Each.{Each}
use Rattle.board_core.specs.Accounts.{account, view, opener, with_me, keeping, gone, accounts_in, caller_after, EachAccount}
use Rattle.board_core.specs.RoomRule.{SomeAccount}
use Rattle.board_core.specs.Sheets.{Sheet, sheet_of, IsLinked, owns}
use Rattle.board_core.specs.Rows.{HasRow, IsBegun, IsPlaced}
use Rattle.board_core.specs.ClassTree.{Place, IsBelow, Tree, slot_at}
use Rattle.board_core.specs.KnownPages.{ReachedFits, HasEarlier, IsInChain, EndTells, IsEnd, AreKept, KnowsPages, IsTurned, Lasts}
use Rattle.board_core.specs.KnownRule.{Knows, KnownRule}
use Rattle.board_core.specs.TreeRule.{TreeRule}
use Rattle.board_core.specs.After.{after_made, root}
use Rattle.board_core.proofs.Lists.{each_none, each_cons}
use Rattle.board_core.proofs.Everyone.{mine, moved, changed, each_more, each_left, each_gathered}
use Rattle.board_core.proofs.Some.{some_changed, some_more, some_left, some_gathered}
use Rattle.board_core.proofs.KnownSteps.{arrives}
use Rattle.board_core.proofs.TreeStays.{tree_same, known_same, lasts_same}
use Rattle.board_core.proofs.Filled.{first_place, opens}
use Rattle.board_core.proofs.PoolFrame.{sheet_same}

-- ---- codes that stay where rows are placed

tree_codes : (w : ℕ → ℕ → ℕ) (s : Sheet) (m : ℕ → Place) (c d : ℕ → List ℕ) (placed : ℕ → Type 0) → ((n : ℕ) → placed n → d n ≡ c n) → Tree w s m c placed → Tree w s m d placed
tree_codes w s m c d placed same t = record {
  root = t.root;
  top = t.top;
  numbered = t.numbered;
  pages = t.pages;
  named = t.named;
  leads = t.leads;
  alone = t.alone;
  apart = t.apart;
  rows = t.rows;
  entries = λ n p i h. let e = t.entries n p i h in (e.0, subst (λ (l : List ℕ). IsBelow (m p).path l) (sym (same n e.0)) e.1);
  placed = t.placed;
}

tells_codes : (c d : ℕ → List ℕ) (rs : List Reached) (b : Bool) (x : Reached) (r : ℕ) → d r ≡ c r → EndTells c rs b x r → EndTells d rs b x r
tells_codes c d rs true x r same e = λ below. e (subst (λ (l : List ℕ). IsBelow x.path l) same below)
tells_codes c d rs false x r same e = λ code rest is. e code rest (sym same ∙ is)

pub known_codes : (w : ℕ → ℕ → ℕ) (s : Sheet) (m : ℕ → Place) (c d : ℕ → List ℕ) (old older : ℕ → Type 0) (rs : List Reached) → ((r : ℕ) → older r → old r) → ((r : ℕ) → old r → d r ≡ c r) → KnowsPages w s m c old rs → KnowsPages w s m d older rs
known_codes w s m c d old older rs less same k = record {
  fits = k.fits;
  chain = λ j x there. ⊎_elim (λ (e : HasEarlier rs x). inl e) (λ (n : (x.leaf ≡ true) × ((r : ℕ) → old r → ⊥)). inr (n.0, λ r o. n.1 r (less r o))) (k.chain j x there);
  ends = λ j x there is r o. tells_codes c d rs x.leaf x r (same r (less r o)) (k.ends j x there is r (less r o));
  turned = k.turned;
  absent = λ j x there i code a b r o below. k.absent j x there i code a b r (less r o) (subst (λ (l : List ℕ). IsBelow (x.path ++ code ∷ []) l) (same r (less r o)) below);
  gone = λ j x there e r o below. k.gone j x there e r (less r o) (subst (λ (l : List ℕ). IsBelow x.path l) (same r (less r o)) below);
}

-- the same rows, said of other accounts
pub same_placed : (w : ℕ → ℕ → ℕ) (s : Sheet) (m : ℕ → Place) (c : ℕ → List ℕ) (placed places : ℕ → Type 0) → ((n : ℕ) → placed n → places n) → ((n : ℕ) → places n → placed n) → Tree w s m c placed → Tree w s m c places
same_placed w s m c placed places plus minus t = tree_same w w s s m c placed places (λ p l. l) (λ p l. l) (λ p i l. refl) plus minus t

-- ---- one caller

module _ (w : ℕ → ℕ → ℕ) (s z : Sheet) (m : ℕ → Place) (c d : ℕ → List ℕ) (placed places : ℕ → Type 0) (old older : ℕ → ℕ → Type 0)
    (more : (p : ℕ) → IsLinked s p → IsLinked z p) (less : (p : ℕ) → IsLinked z p → IsLinked s p) (plus : (n : ℕ) → placed n → places n) (same : (n : ℕ) → placed n → d n ≡ c n) where
  pub knows_moved : (t : TreeAccount) → ((r : ℕ) → older t.front r → old t.front r) → Knows w s m c placed old t → Knows w z m d places older t
  knows_moved t fewer k = record {
    known = known_codes w z m c d (old t.front) (older t.front) t.reached fewer (λ r o. same r (k.olds r o).0)
        (known_same w w s z m c placed places more less (λ p i l. refl) (old t.front) t.reached (λ n o. (k.olds n o).1) (λ j x there i. refl) k.known);
    kept = λ j x there leaf. ⊎_elim (λ (l : IsLinked s x.page). inl (more x.page l))
        (λ (a : AreKept (w x.page) c placed x.path). inr record {
          placed = λ i within. plus (w x.page (2 + i)) (a.placed i within);
          below = λ i within. subst (λ (l : List ℕ). IsBelow x.path l) (sym (same (w x.page (2 + i)) (a.placed i within))) (a.below i within);
          differ = a.differ;
        }) (k.kept j x there leaf);
    pairs = k.pairs;
    olds = λ r o. let e = k.olds r (fewer r o) in (plus r e.0, e.1);
    lasts = lasts_same s z m m more (λ p l. refl) t.lasting k.lasts;
  }

abbrev pub blank_tree : TreeAccount
blank_tree = record { front = 0; reached = []; lasting = []; begun = []; placed = [] }

-- a caller that has reached nothing
pub knows_nothing : (w : ℕ → ℕ → ℕ) (s : Sheet) (m : ℕ → Place) (c : ℕ → List ℕ) (placed : ℕ → Type 0) (old : ℕ → ℕ → Type 0) (t : TreeAccount) → t.reached ≡ [] → ((r : ℕ) → old t.front r → placed r × (r ≢ 0)) → Each (Lasts s m) t.lasting → Knows w s m c placed old t
knows_nothing w s m c placed old t none olds lasts = record {
  known = subst (λ (l : List Reached). KnowsPages w s m c (old t.front) l) (sym none) record {
    fits = each_none (ReachedFits w s m);
    chain = each_none (IsInChain (old t.front) []);
    ends = each_none (λ x. IsEnd x.leaf x → (r : ℕ) → old t.front r → EndTells c [] x.leaf x r);
    turned = each_none (λ x. x.leaf ≡ true → IsTurned s m x);
    absent = each_none (λ x. (i code : ℕ) → get_elem? x.links i ≡ some Absent → get_elem? x.slots i ≡ some code → (r : ℕ) → old t.front r → IsBelow (x.path ++ code ∷ []) (c r) → ⊥);
    gone = each_none (λ x. x.leaf ≡ true → (r : ℕ) → old t.front r → IsBelow x.path (c r) → IsLinked s x.page ⊎ ((i : ℕ) × (i < 14) × (w x.page (2 + i) ≡ r)));
  };
  kept = subst (λ (l : List Reached). Each (λ x. x.leaf ≡ true → IsLinked s x.page ⊎ AreKept (w x.page) c placed x.path) l) (sym none) (each_none (λ x. x.leaf ≡ true → IsLinked s x.page ⊎ AreKept (w x.page) c placed x.path));
  pairs = subst (λ (l : List Reached). Each (λ x. length x.links ≡ length x.slots) l) (sym none) (each_none (λ x. length x.links ≡ length x.slots));
  olds = olds;
  lasts = lasts;
}

-- a caller that has reached the root
pub knows_root : (w : ℕ → ℕ → ℕ) (s : Sheet) (m : ℕ → Place) (c : ℕ → List ℕ) (placed : ℕ → Type 0) (old : ℕ → ℕ → Type 0) → Tree w s m c placed → (t : TreeAccount) → t.reached ≡ root ∷ [] → ((r : ℕ) → old t.front r → placed r × (r ≢ 0)) → Each (Lasts s m) t.lasting → Knows w s m c placed old t
knows_root w s m c placed old tree t is olds lasts =
    let none = knows_nothing w s m c placed old (record t { reached = [] }) refl olds lasts in
    let here : KnowsPages w s m c (old t.front) (root ∷ []) = arrives w s m c placed (old t.front) tree (λ r o. tree.placed r (olds r o).0) [] none.known root record {
      linked = tree.root;
      place = tree.top;
      slots = refl;
      links = refl;
      zero = refl;
      more = refl;
      chain = inl (λ above. absurd (omega arith));
    } in record {
      known = subst (λ (l : List Reached). KnowsPages w s m c (old t.front) l) (sym is) here;
      kept = subst (λ (l : List Reached). Each (λ x. x.leaf ≡ true → IsLinked s x.page ⊎ AreKept (w x.page) c placed x.path) l) (sym is)
          (each_cons (λ (x : Reached). x.leaf ≡ true → IsLinked s x.page ⊎ AreKept (w x.page) c placed x.path) root [] (λ leaf. absurd cc) (each_none (λ (x : Reached). x.leaf ≡ true → IsLinked s x.page ⊎ AreKept (w x.page) c placed x.path)));
      pairs = subst (λ (l : List Reached). Each (λ x. length x.links ≡ length x.slots) l) (sym is) (each_cons (λ (x : Reached). length x.links ≡ length x.slots) root [] refl (each_none (λ (x : Reached). length x.links ≡ length x.slots)));
      olds = olds;
      lasts = lasts;
    }

-- ---- the whole part

-- the same pages are linked, and the rows that were begun and placed still are
pub record SameTree (s z : Sheet) (c d : ℕ → List ℕ) (vs ws : List View) : Type 0 where
  pub more : (p : ℕ) → IsLinked s p → IsLinked z p
  pub less : (p : ℕ) → IsLinked z p → IsLinked s p
  pub plus : (n : ℕ) → IsPlaced vs n → IsPlaced ws n
  pub minus : (n : ℕ) → IsPlaced ws n → IsPlaced vs n
  pub begun : (n : ℕ) → IsBegun vs n → IsBegun ws n
  pub codes : (n : ℕ) → IsBegun vs n → d n ≡ c n
  pub placed : (n : ℕ) → IsPlaced vs n → IsBegun vs n

pub tree_moved : (k : Shape) (f g : ℕ → ℕ) (w : ℕ → ℕ → ℕ) (c d : ℕ → List ℕ) (old older : ℕ → ℕ → Type 0) (vs ws : List View) → EachAccount (λ x. (r : ℕ) → older x.tree.front r → old x.tree.front r) vs
    → SameTree (sheet_of f vs) (sheet_of g ws) c d vs ws
    → (r : TreeRule k f w c old vs)
    → (KnownRule w (sheet_of g ws) r.place d (IsPlaced ws) older vs → KnownRule w (sheet_of g ws) r.place d (IsPlaced ws) older ws)
    → TreeRule k g w d older ws
tree_moved k f g w c d old older vs ws fewer e r lift =
    let s : Sheet = sheet_of f vs in
    let z : Sheet = sheet_of g ws in
    let codes_placed : (n : ℕ) → IsPlaced vs n → d n ≡ c n = λ n h. e.codes n (e.placed n h) in record {
      place = r.place;
      tree = tree_same w w s z r.place d (IsPlaced vs) (IsPlaced ws) e.more e.less (λ p i l. refl) e.plus e.minus (tree_codes w s r.place c d (IsPlaced vs) codes_placed r.tree);
      ranks = λ p l. r.ranks p (e.less p l);
      begun = λ n p i h. let b = r.begun n p i record { linked = e.less p h.linked; kind = h.kind; room = h.room; some_n = h.some_n; there = h.there } in
          (b.0, e.begun b.0 b.1, subst (λ (l : List ℕ). IsBelow ((r.place p).path ++ n ∷ []) l) (sym (e.codes b.0 b.1)) b.2);
      known = lift (λ j v at i a there. knows_moved w s z r.place c d (IsPlaced vs) (IsPlaced ws) old older e.more e.less e.plus codes_placed a.tree (fewer j v at i a there) (r.known j v at i a there));
    }

-- ---- a step of one account that keeps what it knows of the tree

pub rows_stay : (vs : List View) (id : ℕ) (v : View) (a : Account) → get_elem? vs id ≡ some v → (rows : Account → List Row) → rows a ≡ rows v.me → (n : ℕ) → SomeAccount (λ x. HasRow n (rows x)) vs → SomeAccount (λ x. HasRow n (rows x)) (set vs id (with_me v a))
rows_stay vs id v a at rows same n h = some_changed (λ x. HasRow n (rows x)) vs id v a at (λ t. subst (λ (l : List Row). HasRow n l) (sym same) t) h

-- what is so of all trees, and of a blank one, is so in the other views; and what is so of some, and not of a blank one
abbrev pub TreeLift : List View → List View → Type 1
TreeLift vs ws = (F : TreeAccount → Type 0) → F blank_tree → EachAccount (λ x. F x.tree) vs → EachAccount (λ x. F x.tree) ws

abbrev pub TreeKeeps : List View → List View → Type 1
TreeKeeps vs ws = (F : TreeAccount → Type 0) → (F blank_tree → ⊥) → SomeAccount (λ x. F x.tree) vs → SomeAccount (λ x. F x.tree) ws

no_row : (n : ℕ) → HasRow n [] → ⊥
no_row n (r, there, is) = some-ne-none r (sym there.1)

placed_back : (vs ws : List View) → TreeLift vs ws → (n : ℕ) → IsPlaced ws n → IsPlaced vs n
placed_back vs ws lift n (j, v, at, i, a, there, h) =
    lift (λ t. (x : ℕ) → HasRow x t.placed → IsPlaced vs x) (λ x none. absurd (no_row x none)) (λ j u at i b there x here. (j, u, at, i, b, there, here)) j v at i a there n h

pub tree_lifted : (k : Shape) (f g : ℕ → ℕ) (w : ℕ → ℕ → ℕ) (c d : ℕ → List ℕ) (old older : ℕ → ℕ → Type 0) (vs ws : List View) → EachAccount (λ x. (r : ℕ) → older x.tree.front r → old x.tree.front r) vs → ((a : ℕ) → older 0 a → ⊥)
    → ((p : ℕ) → IsLinked (sheet_of f vs) p → IsLinked (sheet_of g ws) p) → ((p : ℕ) → IsLinked (sheet_of g ws) p → IsLinked (sheet_of f vs) p)
    → ((n : ℕ) → IsBegun vs n → d n ≡ c n) → ((n : ℕ) → IsPlaced vs n → IsBegun vs n)
    → TreeLift vs ws → TreeKeeps vs ws → TreeRule k f w c old vs → TreeRule k g w d older ws
tree_lifted k f g w c d old older vs ws fewer none more less codes placed lift keeps r =
    tree_moved k f g w c d old older vs ws fewer record {
      more = more;
      less = less;
      plus = λ n. keeps (λ t. HasRow n t.placed) (no_row n);
      minus = placed_back vs ws lift;
      begun = λ n. keeps (λ t. HasRow n t.begun) (no_row n);
      codes = codes;
      placed = placed;
    } r (lift (λ t. Knows w (sheet_of g ws) r.place d (IsPlaced ws) older t) (knows_nothing w (sheet_of g ws) r.place d (IsPlaced ws) older blank_tree refl (λ a o. absurd (none a o)) (each_none (Lasts (sheet_of g ws) r.place))))

-- the sheet is the same
pub linked_same : (s z : Sheet) → z ≡ s → (p : ℕ) → IsLinked s p → IsLinked z p
linked_same s z e p l = subst (λ (x : Sheet). IsLinked x p) (sym e) l

-- a step of one account that keeps what it knows of the tree
pub lift_same : (vs : List View) (id : ℕ) (v : View) (a : Account) → get_elem? vs id ≡ some v → a.tree ≡ v.me.tree → TreeLift vs (set vs id (with_me v a))
lift_same vs id v a at same F blank all = changed (λ x. F x.tree) vs id v a at (subst F (sym same) (mine (λ x. F x.tree) vs id v at all)) all

pub keeps_same : (vs : List View) (id : ℕ) (v : View) (a : Account) → get_elem? vs id ≡ some v → a.tree ≡ v.me.tree → TreeKeeps vs (set vs id (with_me v a))
keeps_same vs id v a at same F blank t = some_changed (λ x. F x.tree) vs id v a at (λ h. subst F (sym same) h) t

-- ---- a step of one account that changes what it knows

-- where a row is placed after it
pub placed_split : (vs : List View) (id : ℕ) (v : View) (a : Account) → get_elem? vs id ≡ some v → (n : ℕ) → IsPlaced (set vs id (with_me v a)) n → IsPlaced vs n ⊎ HasRow n a.tree.placed
placed_split vs id v a at n (j, u, there, i, x, here, h) =
    moved (λ y. (r : ℕ) → HasRow r y.tree.placed → IsPlaced vs r) (λ y. (r : ℕ) → HasRow r y.tree.placed → IsPlaced vs r ⊎ HasRow r a.tree.placed) vs id v a at (λ r t. inr t) (λ y _ f r t. inl (f r t))
    (λ j2 u2 at2 i2 b there2 r t. (j2, u2, at2, i2, b, there2, t)) j u there i x here n h

-- all that it has reached is told anew
pub tree_told : (k : Shape) (f : ℕ → ℕ) (w : ℕ → ℕ → ℕ) (c : ℕ → List ℕ) (old : ℕ → ℕ → Type 0) (vs : List View) (id : ℕ) (v : View) (a : Account) → get_elem? vs id ≡ some v
    → ((q : ℕ) → owns q a.pool.own ≡ owns q v.me.pool.own) → a.pool.parted ≡ v.me.pool.parted → a.tree.begun ≡ v.me.tree.begun → a.tree.placed ≡ v.me.tree.placed → ((n : ℕ) → IsPlaced vs n → IsBegun vs n)
    → (r : TreeRule k f w c old vs) → Knows w (sheet_of f vs) r.place c (IsPlaced vs) old a.tree → TreeRule k f w c old (set vs id (with_me v a))
tree_told k f w c old vs id v a at own parted begun placed was r knows =
    let ws : List View = set vs id (with_me v a) in
    let s : Sheet = sheet_of f vs in
    let z : Sheet = sheet_of f ws in
    let sheet : z ≡ s = sheet_same f vs id v a at own parted in
    let plus : (n : ℕ) → IsPlaced vs n → IsPlaced ws n = rows_stay vs id v a at (λ x. x.tree.placed) placed in
    tree_moved k f f w c c old old vs ws (λ j u spot i x there r o. o) record {
      more = linked_same s z sheet;
      less = linked_same z s (sym sheet);
      plus = plus;
      minus = λ n h. ⊎_elim (λ (t : IsPlaced vs n). t) (λ (t : HasRow n a.tree.placed). (id, v, at, 0, v.me, refl, subst (λ (l : List Row). HasRow n l) placed t)) (placed_split vs id v a at n h);
      begun = rows_stay vs id v a at (λ x. x.tree.begun) begun;
      codes = λ _ _. refl;
      placed = was;
    } r (λ all. changed (λ x. Knows w z r.place c (IsPlaced ws) old x.tree) vs id v a at
    (knows_moved w s z r.place c c (IsPlaced vs) (IsPlaced ws) old old (linked_same s z sheet) (linked_same z s (sym sheet)) plus (λ _ _. refl) a.tree (λ _ o. o) knows) all)

-- ---- splits, joins and the opening

pub tree_note : (k : Shape) (f : ℕ → ℕ) (w : ℕ → ℕ → ℕ) (c : ℕ → List ℕ) (old : ℕ → ℕ → Type 0) (vs : List View) (shape : Shape) (front : ℕ) → ((a : ℕ) → old 0 a → ⊥) → ((n : ℕ) → IsPlaced vs n → IsBegun vs n)
    → sheet_of f (vs ++ view shape (account Note front) ∷ []) ≡ sheet_of f vs → TreeRule k f w c old vs → TreeRule k f w c old (vs ++ view shape (account Note front) ∷ [])
tree_note k f w c old vs shape front none placed sheet r =
    let n : View = view shape (account Note front) in
    let ws : List View = vs ++ n ∷ [] in
    tree_lifted k f f w c c old old vs ws (λ j u spot i x there r o. o) none (linked_same (sheet_of f vs) (sheet_of f ws) sheet) (linked_same (sheet_of f ws) (sheet_of f vs) (sym sheet)) (λ _ _. refl) placed
    (λ F blank all. each_more (λ x. F x.tree) vs (account Note front) n refl refl blank all) (λ F _ t. some_more (λ x. F x.tree) vs n t) r

pub tree_caller : (k : Shape) (f : ℕ → ℕ) (w : ℕ → ℕ → ℕ) (c : ℕ → List ℕ) (old : ℕ → ℕ → Type 0) (vs : List View) (id m : ℕ) (v : View) → ((a : ℕ) → old 0 a → ⊥) → ((n : ℕ) → IsPlaced vs n → IsBegun vs n) → get_elem? vs id ≡ some v
    → sheet_of f (set vs id (with_me v (after_made v.me)) ++ view k (account (caller_after k m) 0) ∷ []) ≡ sheet_of f vs → TreeRule k f w c old vs → TreeRule k f w c old (set vs id (with_me v (after_made v.me)) ++ view k (account (caller_after k m) 0) ∷ [])
tree_caller k f w c old vs id m v none placed at sheet r =
    let a : Account = after_made v.me in
    let n : View = view k (account (caller_after k m) 0) in
    let mid : List View = set vs id (with_me v a) in
    let ws : List View = mid ++ n ∷ [] in
    tree_lifted k f f w c c old old vs ws (λ j u spot i x there r o. o) none (linked_same (sheet_of f vs) (sheet_of f ws) sheet) (linked_same (sheet_of f ws) (sheet_of f vs) (sym sheet)) (λ _ _. refl) placed
    (λ F blank all. each_more (λ x. F x.tree) mid (account (caller_after k m) 0) n refl refl blank (lift_same vs id v a at refl F blank all))
    (λ F blank t. some_more (λ x. F x.tree) mid n (keeps_same vs id v a at refl F blank t)) r

pub tree_note_goes : (k : Shape) (f : ℕ → ℕ) (w : ℕ → ℕ → ℕ) (c : ℕ → List ℕ) (old : ℕ → ℕ → Type 0) (vs : List View) (other front : ℕ) (u : View) → ((a : ℕ) → old 0 a → ⊥) → ((n : ℕ) → IsPlaced vs n → IsBegun vs n)
    → get_elem? vs other ≡ some u → u ≡ view u.shape (account Note front) → sheet_of f (set vs other gone) ≡ sheet_of f vs → TreeRule k f w c old vs → TreeRule k f w c old (set vs other gone)
tree_note_goes k f w c old vs other front u none placed there is sheet r =
    let ws : List View = set vs other gone in
    tree_lifted k f f w c c old old vs ws (λ j u spot i x there r o. o) none (linked_same (sheet_of f vs) (sheet_of f ws) sheet) (linked_same (sheet_of f ws) (sheet_of f vs) (sym sheet)) (λ _ _. refl) placed
    (λ F blank all. each_left (λ x. F x.tree) vs other blank all)
    (λ F blank t. some_left (λ x. F x.tree) vs other u there
    (λ h. blank (of_note F front (subst (λ (x : View). (i : ℕ) × (a : Account) × (get_elem? (accounts_in x) i ≡ some a) × F a.tree) is h))) t) r
  where
    of_note : (F : TreeAccount → Type 0) (front : ℕ) → (i : ℕ) × (a : Account) × (get_elem? (account Note front ∷ []) i ≡ some a) × F a.tree → F blank_tree
    of_note F front (zero, a, there, h) = subst (λ (x : Account). F x.tree) (sym (some-injective (account Note front) a there)) h
    of_note F front (suc i, a, there, h) = absurd (some-ne-none a (sym there))

pub tree_gather : (k : Shape) (f : ℕ → ℕ) (w : ℕ → ℕ → ℕ) (c : ℕ → List ℕ) (old : ℕ → ℕ → Type 0) (vs : List View) (id other : ℕ) (v u : View) → ((a : ℕ) → old 0 a → ⊥) → ((n : ℕ) → IsPlaced vs n → IsBegun vs n)
    → get_elem? vs id ≡ some v → ¬ (other ≡ id) → get_elem? vs other ≡ some u → sheet_of f (set (set vs id (keeping v u)) other gone) ≡ sheet_of f vs → TreeRule k f w c old vs → TreeRule k f w c old (set (set vs id (keeping v u)) other gone)
tree_gather k f w c old vs id other v u none placed at apart there sheet r =
    let ws : List View = set (set vs id (keeping v u)) other gone in
    tree_lifted k f f w c c old old vs ws (λ j u spot i x there r o. o) none (linked_same (sheet_of f vs) (sheet_of f ws) sheet) (linked_same (sheet_of f ws) (sheet_of f vs) (sym sheet)) (λ _ _. refl) placed
    (λ F blank all. each_gathered (λ x. F x.tree) vs id other v u at there blank all) (λ F _ t. some_gathered (λ x. F x.tree) vs id other v u at apart there t) r

-- a board of one page
pub tree_open : (k : Shape) (f : ℕ → ℕ) (w : ℕ → ℕ → ℕ) (c : ℕ → List ℕ) (old : ℕ → ℕ → Type 0) → ((a : ℕ) → old 0 a → ⊥) → 0 < k.chain → w 1 0 ≡ 2 → ((i : ℕ) → 0 < i → w 1 i ≡ 0) → f 1 ≡ 1 → ((p : ℕ) → f p ≡ 1 → p ≡ 1) → TreeRule k f w c old (opener k ∷ [])
tree_open k f w c old none some_chain head blank first only =
    let vs : List View = opener k ∷ [] in
    let nobody : (n : ℕ) → IsPlaced vs n → ⊥ = λ n h. no_row n (each_open (λ t. (x : ℕ) → HasRow x t.placed → HasRow x []) (λ x t. t) h.0 h.1 h.2 h.3 h.4 h.5 n h.6) in
    let t : Tree w (sheet_of f vs) (λ p. first_place) c (λ r. ⊥) = opens w (sheet_of f vs) c head blank record { busy = first; owned = refl; parted = refl } (λ p l. only p l.busy) in record {
      place = λ p. first_place;
      tree = tree_same w w (sheet_of f vs) (sheet_of f vs) (λ p. first_place) c (λ r. ⊥) (IsPlaced vs) (λ p l. l) (λ p l. l) (λ p i l. refl) (λ n h. absurd h) nobody t;
      ranks = λ p l. some_chain;
      begun = λ n p i h. absurd (h.some_n (sym h.there ∙ (ap (λ x. w x (slot_at false i)) (only p h.linked.busy) ∙ blank (2 + 2 * i) (omega arith))));
      known = each_open (λ t. Knows w (sheet_of f vs) (λ p. first_place) c (IsPlaced vs) old t) (knows_nothing w (sheet_of f vs) (λ p. first_place) c (IsPlaced vs) old blank_tree refl (λ a o. absurd (none a o)) (each_none (Lasts (sheet_of f vs) (λ p. first_place))));
    }
  where
    each_open : (F : TreeAccount → Type 0) → F blank_tree → EachAccount (λ x. F x.tree) (opener k ∷ [])
    each_open F t = each_cons (λ (u : View). Each (λ x. F x.tree) (accounts_in u)) (opener k) [] (each_cons (λ (x : Account). F x.tree) (account (Opener 0) 0) [] t (each_none (λ (x : Account). F x.tree))) (each_none (λ (u : View). Each (λ x. F x.tree) (accounts_in u)))
