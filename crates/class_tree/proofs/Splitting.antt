-- The pages that are made of a full leaf's rows may take its place; where too few were found, it is said how many were needed.
use Rattle.std.proofs.Common.{◌≡◌, ℕ, zero, suc, ◌+◌, ◌<◌, ◌≤◌, true, List, [], ◌∷◌, ◌++◌, length, get_or, take, drop, refl, sym, ap, ◌∙◌, subst, arith, inl, inr, ⊎_elim, length-take-le, take-append-drop, ◌*◌}
use Rattle.std.proofs.Math.ListN.{get_or-eq_default}
use Rattle.std.proofs.lemmas.Bool.{cases_lt}
use mathlib.Core.Option.{some, some-injective, some-ne-none}
use lib.ListN.{get_elem?}
use Rattle.htss_defs.specs.declared.shape.Shape.{Shape}
use Rattle.board_core.specs.declared.account.Account.{Account}
use Rattle.board_core.specs.declared.tree.Reached.{Reached}
use Rattle.board_core.specs.Each.{In}
use Rattle.board_core.specs.MarkRule.{IsAmong}
use Rattle.board_core.specs.ClassTree.{Place as TreePlace, root_place, IsBelow}
use Rattle.board_core.specs.Loaded.{IsPage, HasOwn, HasCode}
use Rattle.board_core.specs.Rows.{block_named, atom_named, own_codes}
use Rattle.board_core.specs.declared.entry.Entry.TheVariants.{NoPage as PageWanted}
use Rattle.board_core.specs.After.{visited, noted}
use Rattle.board_core.proofs.Lists.{inside}
use Rattle.board_core.specs.Plan.{own_word, IsWhole, MayHaveCodes, Plan}
use Rattle.board_core.specs.Steps.{MayExchangeLeaf, MayLink}
use Rattle.board_core.proofs.PageLoads.{at_visit}
use Rattle.board.specs.Seated.{Place, Seated, IsOf}
use Rattle.leaf_split.specs.Groups.{AreRows, AreApart, AreGroups}
use Rattle.leaf_split.specs.Pages.{pages_of, word_of, ArePages, ArePlaces, AreNew, IsFullRead}
use Rattle.leaf_split.specs.Places.{place_at, settled}
use Rattle.leaf_split.proofs.Built.{plan}
use Rattle.leaf_split.proofs.Facts.{page_facts}
use Rattle.leaf_split.proofs.Settled.{places}
use Rattle.class_tree.specs.declared.walks.Stop.{Stop}
use Rattle.class_tree.specs.declared.walks.Slot.{Slot}
use Rattle.class_tree.specs.declared.walks.Target.{Target}
use Rattle.class_tree.specs.Inserting.{AreNextCodes, NeedsPages}
use Rattle.class_tree.specs.Linking.{IsBehindFull}
use Rattle.class_tree.specs.Refusing.{WasRefused, LacksPages}
use Rattle.class_tree.specs.Splitting.{IsAtFull, Learns, AreRowsOf, AreTaken, TakesAll, AreStored, AreFilled, StoresOnly, IsMade}
use Rattle.class_tree.specs.Loading.{LoadsOn}
use Rattle.class_tree.specs.Walking.{here, Rest, rest_of, shown_of, Goes}
use Rattle.class_tree.proofs.Pages.{within, target_kept}
use Rattle.class_tree.proofs.Grown.{equal_shown, same_high, goes_on}
use Rattle.class_tree.proofs.Loadings.{lists_of, grows_equal, grows_on}
use Rattle.class_tree.proofs.Chain.{depth_is}
use Rattle.class_tree.proofs.Searching.{refused_on}
use Rattle.class_tree.proofs.Pairs.{pair_load, pair_same, longer_path, codes_long}
use Rattle.class_tree.proofs.Behind.{same_at}
use Rattle.class_tree.proofs.Reading.{learns_reached, code_still, row_still}
use Rattle.class_tree.proofs.Filling.{words_there, is_whole}
use Rattle.class_tree.proofs.Counting.{may_on, take_most}
use Rattle.board_core.specs.CountRule.{most_linked, insertions_of}

-- ---- the first of a list

pub taken_at : (l : List ℕ) (n j : ℕ) → j < n → get_or (take n l) j 0 ≡ get_or l j 0
taken_at [] zero j less = refl
taken_at [] (suc n) j less = refl
taken_at (x ∷ l) zero j less = absurd (omega arith)
taken_at (x ∷ l) (suc n) zero less = refl
taken_at (x ∷ l) (suc n) (suc j) less = taken_at l n j (omega arith)

pub taken_is : (l : List ℕ) (n j x : ℕ) → get_elem? (take n l) j ≡ some x → (j < n) × (get_or l j 0 ≡ x)
taken_is [] zero j x e = absurd (some-ne-none x (sym e))
taken_is [] (suc n) j x e = absurd (some-ne-none x (sym e))
taken_is (y ∷ l) zero j x e = absurd (some-ne-none x (sym e))
taken_is (y ∷ l) (suc n) zero x e = (omega arith, some-injective y x e)
taken_is (y ∷ l) (suc n) (suc j) x e = let (less, is) = taken_is l n j x e in (omega arith, is)

pub taken_there : (l : List ℕ) (n j : ℕ) → j < n → n ≤ length l → get_elem? (take n l) j ≡ some (get_or l j 0)
taken_there [] n j less most = absurd (omega arith)
taken_there (y ∷ l) zero j less most = absurd (omega arith)
taken_there (y ∷ l) (suc n) zero less most = refl
taken_there (y ∷ l) (suc n) (suc j) less most = taken_there l n j (omega arith) (omega arith)

taken_less : (l : List ℕ) (n j : ℕ) → j < length (take n l) → j < n
taken_less [] zero j less = absurd (omega arith)
taken_less [] (suc n) j less = absurd (omega arith)
taken_less (y ∷ l) zero j less = absurd (omega arith)
taken_less (y ∷ l) (suc n) zero less = omega arith
taken_less (y ∷ l) (suc n) (suc j) less = let h = taken_less l n j (omega arith) in omega arith

-- ---- what no step of the split changes

pub learns_goes : (n : ℕ) (c d : Seated) → Learns c d → Goes n c d
learns_goes n c d l =
    let reached = learns_reached c d l in record {
      table = ap (λ (x : Seated). x.table) l.only;
      shape = ap (λ (x : Seated). x.shape) l.only;
      rest = ap (λ (x : Seated). rest_of x.account) l.only;
      grows = l.grows;
      longer = (let same = ap length reached in omega arith);
      stays = λ j _. ap (λ (r : List Reached). shown_of (visited r j)) reached;
    }

pub stores_reached : (c d : Seated) (Touched : ℕ → Type 0) → StoresOnly c d Touched → d.account.tree.reached ≡ c.account.tree.reached
stores_reached c d Touched s = ap (λ (x : Seated). x.account.tree.reached) s.after

pub stores_goes : (n : ℕ) (c d : Seated) (Touched : ℕ → Type 0) → StoresOnly c d Touched → Goes n c d
stores_goes n c d Touched s =
    let reached = stores_reached c d Touched s in record {
      table = ap (λ (x : Seated). x.table) s.after;
      shape = ap (λ (x : Seated). x.shape) s.after;
      rest = ap (λ (x : Seated). rest_of x.account) s.after;
      grows = grows_equal c.account d.account (ap (λ (x : Seated). lists_of x.account) s.after);
      longer = (let same = ap length reached in omega arith);
      stays = λ j _. ap (λ (r : List Reached). shown_of (visited r j)) reached;
    }

-- the walk stands there still
pub full_same : (k : Shape) (a b : Account) (x : Slot) (s : Stop) (depth : ℕ) (t : Target) → b.tree.reached ≡ a.tree.reached → rest_of b ≡ rest_of a → IsBehindFull k a x s depth t → IsBehindFull k b x s depth t
full_same k a b x s depth t e rest h =
    let pin : b.pool.announced ≡ a.pool.announced = ap (λ (r : Rest). r.announced) rest in record {
      leaf = record { at = same_at k a b s (take (depth + 1) t.codes) 0 14 true e pin h.leaf.at; deep = h.leaf.deep; target = target_kept k a b t rest h.leaf.target };
      low = h.low;
      pair = pair_same k a b x depth t e pin h.pair;
      above = same_high a b depth (equal_shown a b e) h.above;
      other = h.other;
    }

pub at_full : (k : Shape) (a : Account) (x : Slot) (s : Stop) (depth : ℕ) (t : Target) → IsBehindFull k a x s depth t → IsAtFull k a s (depth + 1)
at_full k a x s depth t h =
    let l = h.leaf in record {
      inside = l.at.inside;
      reached = within k a s (take (depth + 1) t.codes) 0 14 true l.at;
      there = l.at.there;
      leaf = l.at.kind;
      deep = ap length l.at.on ∙ depth_is k a t (depth + 1) l.deep l.target;
      low = h.low;
      full = l.at.size;
    }

pub are_rows : (a : Account) (x : Reached) (rows nexts : List ℕ) → AreRowsOf a x rows nexts 14 → AreRows (λ i. get_or rows i 0) (λ i. get_or nexts i 0)
are_rows a x rows nexts h = record { rows = λ i less. (h i less).some_n; nexts = λ i less. (h i less).some_c }

pub rows_still : (a b : Account) (s : Stop) (rows nexts : List ℕ) → b.tree.reached ≡ a.tree.reached → LoadsOn a b → AreRowsOf a (here a s) rows nexts 14 → AreRowsOf b (here b s) rows nexts 14
rows_still a b s rows nexts e g h i less = row_still a b s i (get_or rows i 0) (get_or nexts i 0) e g (h i less)

-- ---- the plan

module _ (k : Shape) (a : Account) (x : Slot) (s : Stop) (depth count need : ℕ) (t : Target) (pages rows nexts : List ℕ) (code held : ℕ → ℕ) (entry : ℕ → ℕ → ℕ)
    (h : IsBehindFull k a x s depth t) (r : AreRowsOf a (here a s) rows nexts 14) (g : AreGroups (λ i. get_or rows i 0) (λ i. get_or nexts i 0) 14 count code held entry)
    (size : need ≡ pages_of count) (room : need ≤ length pages)
    (mine : (i : ℕ) → i < need → HasOwn a (get_or pages i 0)) (apart : (i j : ℕ) → i < need → j < need → get_or pages i 0 ≡ get_or pages j 0 → i ≡ j)
    (filled : AreFilled a.pool.own (take need pages) (word_of (depth + 1) count code entry (λ i. get_or (take need pages) i 0)) (length (take need pages))) where
  abbrev used : List ℕ
  used = take need pages

  abbrev number : ℕ → ℕ
  number i = get_or (take need pages) i 0

  long : length used ≡ need
  long = length-take-le need pages room

  deep : length (here a s).path ≡ depth + 1
  deep = (at_full k a x s depth t h).deep

  owned : (i : ℕ) → i < need → HasOwn a (number i)
  owned i less = subst (HasOwn a) (sym (taken_at pages need i less)) (mine i less)

  stored : (i : ℕ) → i < need → AreStored a.pool.own (number i) (word_of (depth + 1) count code entry number i) 16
  stored i less = filled i (let l = long in omega arith)

  abbrev stands : ℕ → TreePlace
  stands = settled (place_at (here a s).path code number (here a x.stop).page x.index) (λ p. root_place) 0 used

  differ : (codes : ℕ → List ℕ) → MayHaveCodes a (here a s) codes → AreApart (λ i. get_or rows i 0)
  differ codes m i j less low same = m.differ i j (get_or rows j 0) ((r i less).read ∙ ap some same) (r j low).read

  is_read : (codes : ℕ → List ℕ) → MayHaveCodes a (here a s) codes → IsFullRead codes a.tree.reached (here a x.stop) (here a s) x.index (λ i. get_or rows i 0) (λ i. get_or nexts i 0)
  is_read codes m = record {
    inner = (x.stop.number, at_visit a.tree.reached x.stop.number h.pair.reached);
    kind = h.pair.kind;
    room = h.pair.room;
    leaf = (s.number, at_visit a.tree.reached s.number (at_full k a x s depth t h).reached);
    old = h.leaf.at.kind;
    low = (let low = h.low in let same = deep in omega arith);
    full = h.leaf.at.size;
    slots = λ i less. (r i less).read;
    below = λ i less. m.next (get_or rows i 0) (get_or nexts i 0) (i, (r i less).read) (r i less).code;
  }

  are_new : AreNew (IsAmong used) (pages_of count) number
  are_new = record {
    new = λ i less. (i, taken_there pages need i (omega arith) room ∙ ap some (sym (taken_at pages need i (omega arith))));
    all = λ q among. let (i, there) = among in let (less, is) = taken_is pages need i q there in (i, omega arith, taken_at pages need i less ∙ is);
    apart = λ i j less low e. apart i j (omega arith) (omega arith) (sym (taken_at pages need i (omega arith)) ∙ (e ∙ taken_at pages need j (omega arith)));
  }

  are_pages : ArePages (own_word a.pool.own) (length (here a s).path) count code number entry
  are_pages = subst (λ (d : ℕ). ArePages (own_word a.pool.own) d count code number entry) (sym deep)
      (page_facts (depth + 1) count code number entry g.unset (own_word a.pool.own) (λ i j less low.
      (words_there a.pool.own (number i) (word_of (depth + 1) count code entry number i) 16 (owned i (omega arith)) (omega arith) (stored i (omega arith))).1 j low))

  are_placed : ArePlaces stands (here a s).path count code number (here a x.stop).page x.index
  are_placed = places (here a s).path count code (here a x.stop).page x.index used (λ p. root_place) record {
    apart = λ i j less low e. apart i j (let l = long in omega arith) (let l = long in omega arith)
        (sym (taken_at pages need i (let l = long in omega arith)) ∙ (e ∙ taken_at pages need j (let l = long in omega arith)));
  } (let l = long in omega arith)

  planned : (codes : ℕ → List ℕ) → MayHaveCodes a (here a s) codes → Plan (own_word a.pool.own) stands codes (IsAmong used) a.tree.reached (here a x.stop) (here a s) x.index (number 0)
  planned codes m = plan (own_word a.pool.own) stands codes (IsAmong used) a.tree.reached (here a x.stop) (here a s) x.index count (λ i. get_or rows i 0) (λ i. get_or nexts i 0) code held entry number
      (are_rows a (here a s) rows nexts r) (differ codes m) g (is_read codes m) are_new are_pages are_placed

  some_code : 0 < count
  some_code = let (j, i, less, is) = g.into 0 (omega arith) in elim (cases_lt j count) [
    | inl low ↦ omega arith
    | inr low ↦ let none = g.bare j low in absurd (omega arith)
  ]

  pub some_page : 0 < need
  some_page = let some = some_code in omega arith

  pub may_exchange : MayLink a (length used) → MayExchangeLeaf k a x.stop.number x.index (get_or t.codes depth 0) s.number used (get_or pages 0 0)
  may_exchange few =
      let f = at_full k a x s depth t h in
      let codes = codes_long k a t h.leaf.target in
      let first : number 0 ≡ get_or pages 0 0 = taken_at pages need 0 some_page in record {
        load = pair_load k a x depth t h.pair;
        visit = record { reached = f.reached; inside = subst (IsPage k) (sym f.there) f.inside };
        leaf = f.leaf;
        path = h.leaf.at.on ∙ (sym (longer_path t.codes depth (let low = h.low in omega arith)) ∙ (λ i. sym h.pair.on i ++ get_or t.codes depth 0 ∷ []));
        rank = h.leaf.at.at;
        low = (let low = h.low in let same = deep in omega arith);
        whole = λ j q there. let (less, is) = taken_is pages need j q there in
            let same : number j ≡ q = taken_at pages need j less ∙ is in
            subst (IsWhole a) same (is_whole a (number j) (word_of (depth + 1) count code entry number j) (owned j less) (stored j less));
        few = few;
        places = stands;
        plan = λ all m. subst (Plan (own_word a.pool.own) stands all (IsAmong used) a.tree.reached (here a x.stop) (here a s) x.index) first (planned all m);
      }

-- ---- too few pages

module _ (a : Account) (x : Reached) (rows nexts codes : List ℕ) (count : ℕ) (held : ℕ → ℕ) (entry : ℕ → ℕ → ℕ) (full : length x.slots ≡ 14) (r : AreRowsOf a x rows nexts 14)
    (g : AreGroups (λ i. get_or rows i 0) (λ i. get_or nexts i 0) 14 count (λ i. get_or codes i 0) held entry) (room : count ≤ length codes) where
  abbrev Coded : ℕ → ℕ → Type 0
  Coded n c = HasCode a (block_named n) (atom_named n) (length x.path) c

  from : (j c : ℕ) → get_elem? (take count codes) j ≡ some c → (n : ℕ) × In n x.slots × Coded n c
  from j c there =
      let (less, is) = taken_is codes count j c there in
      let (i, low, row, code) = g.from j 0 (g.some j less) in
      (get_or rows i 0, (i, (r i low).read), subst (Coded (get_or rows i 0)) (code ∙ is) (r i low).code)

  all : (i n : ℕ) → get_elem? x.slots i ≡ some n → (c : ℕ) × In c (take count codes) × Coded n c
  all i n there =
      let low : i < 14 = (let inside_list = inside x.slots i n there in omega arith) in
      let (j, l, less, is) = g.into i low in
      let (o, below, row, code) = g.from j l less in
      let some_j : j < count = elim (cases_lt j count) [
        | inl y ↦ y
        | inr y ↦ let none = g.bare j y in absurd (omega arith)
      ] in
      let same : get_or rows o 0 ≡ n = row ∙ (is ∙ some-injective (get_or rows i 0) n (sym (r i low).read ∙ there)) in
      (get_or codes j 0, (j, taken_there codes count j some_j room), subst (λ (m : ℕ × ℕ). Coded m.0 m.1) (λ t. (same t, code t)) (r o below).code)

  pub next_codes : AreNextCodes a x (take count codes)
  next_codes = record {
    once = λ i j c there here.
        let (less, is) = taken_is codes count i c there in
        let (low, too) = taken_is codes count j c here in g.apart i j less low (is ∙ sym too);
    from = from;
    all = all;
  }

next_still : (a b : Account) (x : Reached) (codes : List ℕ) → LoadsOn a b → AreNextCodes a x codes → AreNextCodes b x codes
next_still a b x codes g h = record {
  once = h.once;
  from = λ j c there. let (n, among, code) = h.from j c there in (n, among, code_still a b (block_named n) (atom_named n) (length x.path) c g code);
  all = λ i n there. let (c, among, code) = h.all i n there in (c, among, code_still a b (block_named n) (atom_named n) (length x.path) c g code);
}

pub needs_pages : (k : Shape) (a : Account) (x : Slot) (s : Stop) (depth count need : ℕ) (t : Target) (rows nexts codes : List ℕ) (held : ℕ → ℕ) (entry : ℕ → ℕ → ℕ) → IsBehindFull k a x s depth t → AreRowsOf a (here a s) rows nexts 14
    → AreGroups (λ i. get_or rows i 0) (λ i. get_or nexts i 0) 14 count (λ i. get_or codes i 0) held entry → need ≡ pages_of count → NeedsPages k a t.row need
needs_pages k a x s depth count need t rows nexts codes held entry h r g size =
    let f = at_full k a x s depth t h in
    let l = h.leaf in
    let room : count ≤ length codes = elim (cases_lt (length codes) count) [
      | inl less ↦ absurd (g.set (length codes) less (get_or-eq_default codes 0 (omega arith)))
      | inr most ↦ most
    ] in
    let counted : length (take count codes) ≡ count = length-take-le count codes room in record {
      leaf = here a s;
      there = (s.number, at_visit a.tree.reached s.number f.reached);
      kind = f.leaf;
      low = (let low = h.low in let deep = f.deep in omega arith);
      full = f.full;
      below = subst (λ (p : List ℕ). IsBelow p (own_codes k a t.row)) (sym l.at.on) (drop (depth + 1) t.codes, sym l.target.codes_are ∙ sym (take-append-drop (depth + 1) t.codes));
      codes = take count codes;
      next = next_codes a (here a s) rows nexts codes count held entry f.full r g room;
      pages = omega arith;
    }

pub lacks_pages : (k : Shape) (c d e : Seated) (x : Slot) (s : Stop) (depth count need : ℕ) (t : Target) (rows nexts codes : List ℕ) (held : ℕ → ℕ) (entry : ℕ → ℕ → ℕ) → IsBehindFull k c.account x s depth t → Learns c d → AreRowsOf d.account (here d.account s) rows nexts 14
    → AreGroups (λ i. get_or rows i 0) (λ i. get_or nexts i 0) 14 count (λ i. get_or codes i 0) held entry → need ≡ pages_of count → WasRefused k d e need → e.account.tree.reached ≡ d.account.tree.reached → LacksPages k c e t.row
lacks_pages k c d e x s depth count need t rows nexts codes held entry h l r g size w reached =
    let a : Account = e.account in
    let rest : rest_of (record a { entries = c.account.entries }) ≡ rest_of c.account = ap (λ (q : Rest). record q { entries = c.account.entries }) (w.answers.rest ∙ ap (λ (q : Rest). record q { entries = q.entries ++ noted w.answers.loads (PageWanted ∷ []) }) (ap (λ (q : Seated). rest_of q.account) l.only)) in
    let at_e : IsBehindFull k (record a { entries = c.account.entries }) x s depth t = full_same k c.account (record a { entries = c.account.entries }) x s depth t (reached ∙ learns_reached c d l) rest h in
    let needs : NeedsPages k (record a { entries = c.account.entries }) t.row need = needs_pages k (record a { entries = c.account.entries }) x s depth count need t rows nexts codes held entry at_e (rows_still d.account (record a { entries = c.account.entries }) s rows nexts reached (grows_on d.account a (record a { entries = c.account.entries }) w.answers.grows (grows_equal a (record a { entries = c.account.entries }) refl)) r) g size in record {
      need = need;
      refused = refused_on k 0 c d e need (learns_goes 0 c d l) w;
      needed = inr record { leaf = needs.leaf; there = needs.there; kind = needs.kind; low = needs.low; full = needs.full; below = needs.below; codes = needs.codes; next = next_still (record a { entries = c.account.entries }) a needs.leaf needs.codes (grows_equal (record a { entries = c.account.entries }) a refl) needs.next; pages = needs.pages };
    }

-- ---- the pages are ready

pub taken_after : (c d : Seated) (pages : List ℕ) (n : ℕ) (Touched : ℕ → Type 0) → StoresOnly c d Touched → AreTaken c pages n → AreTaken d pages n
taken_after c d pages n Touched s k =
    let stock : d.stock ≡ c.stock = ap (λ (x : Seated). x.stock) s.after in
    let shape : d.shape ≡ c.shape = ap (λ (x : Seated). x.shape) s.after in record {
      own = λ q mine. ⊎_elim
          (λ (h : IsAmong c.stock q). inl (subst (λ (l : List ℕ). IsAmong l q) (sym stock) h))
          (λ (h : (t : ℕ) × (t < n) × (get_or pages t 0 ≡ q)). inr h)
          (k.own q (let same = s.same q in omega arith));
      mine = λ t l. let (page, mine, out) = k.mine t l in
          (subst (λ (z : Shape). IsPage z (get_or pages t 0)) (sym shape) page, (let same = s.same (get_or pages t 0) in omega arith), λ among. out (subst (λ (z : List ℕ). IsAmong z (get_or pages t 0)) stock among));
      apart = k.apart;
      few = (let own = s.size in let same = ap length stock in let few = k.few in omega arith);
      size = (let same = ap length stock in let size = k.size in omega arith);
      clean = ap (λ (x : Seated). x.account.pool.parted) s.after ∙ k.clean;
    }

pub takes_after : (c d e : Seated) (pages : List ℕ) (n : ℕ) → Learns c d → TakesAll d e pages n → (f : Seated) (Touched : ℕ → Type 0) → StoresOnly e f Touched → TakesAll c f pages n
takes_after c d e pages n l t f Touched s =
    let before = learns_goes (length c.account.tree.reached) c d l in record {
      goes = goes_on (length c.account.tree.reached) (length c.account.tree.reached) c e f (omega arith) (goes_on (length c.account.tree.reached) (length d.account.tree.reached) c d e before.longer before t.goes) (stores_goes (length c.account.tree.reached) e f Touched s);
      reached = stores_reached e f Touched s ∙ (t.reached ∙ learns_reached c d l);
      taken = taken_after e f pages n Touched s t.taken;
      linked = ap (λ (x : Seated). x.account.counts) s.after ∙ (t.linked ∙ ap (λ (x : Seated). x.account.counts) l.only);
    }

pub is_made : (k : Shape) (c d e f : Seated) (x : Slot) (s : Stop) (depth count need : ℕ) (t : Target) (pages rows nexts : List ℕ) (code held : ℕ → ℕ) (entry : ℕ → ℕ → ℕ) (Touched : ℕ → Type 0)
    → IsBehindFull k c.account x s depth t → Learns c d → AreRowsOf d.account (here d.account s) rows nexts 14 → AreGroups (λ i. get_or rows i 0) (λ i. get_or nexts i 0) 14 count code held entry
    → need ≡ pages_of count → length pages ≡ 16 → TakesAll d e pages need → StoresOnly e f Touched → AreFilled f.account.pool.own (take need pages) (word_of (depth + 1) count code entry (λ i. get_or (take need pages) i 0)) (length (take need pages))
    → MayLink c.account 16 → IsMade k c f x s depth t pages need
is_made k c d e f x s depth count need t pages rows nexts code held entry Touched h l r g size long taken stores filled allowed =
    let few : need ≤ 16 = (let few = g.few in omega arith) in
    let all = takes_after c d e pages need l taken f Touched stores in
    let at_f = full_same k c.account f.account x s depth t all.reached all.goes.rest h in
    let same : f.account.tree.reached ≡ d.account.tree.reached = stores_reached e f Touched stores ∙ taken.reached in
    let rows_f = rows_still d.account f.account s rows nexts same (grows_on d.account e.account f.account taken.goes.grows (stores_goes 0 e f Touched stores).grows) r in
    let mine : (i : ℕ) → i < need → HasOwn f.account (get_or pages i 0) = λ i less. (all.taken.mine i less).1 in
    let room : need ≤ length pages = omega arith in record {
      takes = all;
      few = few;
      some = some_page k f.account x s depth count need t pages rows nexts code held entry at_f rows_f g size room mine all.taken.apart filled;
      may = may_exchange k f.account x s depth count need t pages rows nexts code held entry at_f rows_f g size room mine all.taken.apart filled
          (let may_f = may_on 16 c.account f.account all.goes.rest all.linked allowed in let most = take_most need pages in omega arith);
    }

pub used_mine : (b : Place) (c : Seated) (pages : List ℕ) (n : ℕ) → IsOf b c → AreTaken c pages n → (t : ℕ) → t < length (take n pages) → IsPage b.shape (get_or (take n pages) t 0) × HasOwn c.account (get_or (take n pages) t 0)
used_mine b c pages n of k t less =
    let low : t < n = taken_less pages n t less in
    let (page, mine, out) = k.mine t low in
    subst (λ (p : ℕ). IsPage b.shape p × HasOwn c.account p) (sym (taken_at pages n t low)) (subst (λ (z : Shape). IsPage z (get_or pages t 0)) of.shape page, mine)

pub used_apart : (c : Seated) (pages : List ℕ) (n : ℕ) → AreTaken c pages n → (t u : ℕ) → t < length (take n pages) → u < length (take n pages) → get_or (take n pages) t 0 ≡ get_or (take n pages) u 0 → t ≡ u
used_apart c pages n k t u less low e =
    let a : t < n = taken_less pages n t less in
    let b : u < n = taken_less pages n u low in k.apart t u a b (sym (taken_at pages n t a) ∙ (e ∙ taken_at pages n u b))
