-- From what the account says to what the words are: a plan is a split that the words allow.
use Rattle.std.proofs.Common.{◌≡◌, ◌≢◌, ℕ, ◌+◌, ◌*◌, ◌<◌, ◌≤◌, Bool, true, false, List, [], ◌∷◌, ◌++◌, length, sym, ap, ◌∙◌, subst, arith}
use mathlib.Core.Option.{some}
use lib.ListN.{get_elem?}
use Rattle.board_core.specs.declared.tree.Way.TheVariants.{Branch}
use Rattle.board_core.specs.declared.tree.Reached.{Reached}
use Rattle.board_core.specs.Each.{In}
use Rattle.board_core.specs.Sheets.{Sheet, IsLinked}
use Rattle.board_core.specs.ClassTree.{Place, at_way, slot_at, page_room, Follows, IsWay, PageStands, IsBelow, Tree}
use Rattle.board_core.specs.KnownPages.{place_of, ReachedFits, KnowsPages}
use Rattle.board_core.specs.Split.{NewHasSlot, MaySplit}
use Rattle.board_core.specs.Plan.{Plan}
use Rattle.board_core.proofs.Lists.{inside}
use Rattle.board_core.proofs.Seen.{has_at}

module _ (w W : ℕ → ℕ → ℕ) (s : Sheet) (m v : ℕ → Place) (codes : ℕ → List ℕ) (put old : ℕ → Type 0) (New : ℕ → Type 0) (rs : List Reached) (y x : Reached) (k first : ℕ)
    (t : Tree w s m codes put) (h : KnowsPages w s m codes old rs) (p : Plan W v codes New rs y x k first) (there : w y.page (3 + 2 * k) ≡ x.page) (some_x : x.page ≢ 0) (numbered : (q : ℕ) → New q → (q ≢ 0) × (q ≢ 1))
    (stored : (q : ℕ) → New q → W q ≡ w q) where
  inner_fits : ReachedFits w s m y
  inner_fits = h.fits p.inner.0 y p.inner.1

  leaf_fits : ReachedFits w s m x
  leaf_fits = h.fits p.leaf.0 x p.leaf.1

  inner_linked : IsLinked s y.page
  inner_linked = inner_fits.inner p.kind

  inner_kind : (m y.page).leaf ≡ false
  inner_kind = ap (λ (z : Place). z.leaf) (inner_fits.place inner_linked) ∙ p.kind

  leaf_linked : IsLinked s x.page
  leaf_linked = subst (λ (n : ℕ). IsLinked s n) there (t.leads y.page (Branch k) inner_linked (inner_kind, p.room) (λ z. some_x (sym there ∙ z))).linked

  leaf_place : m x.page ≡ place_of x
  leaf_place = leaf_fits.place leaf_linked

  path : x.path ≡ (m x.page).path
  path = sym (ap (λ (z : Place). z.path) leaf_place)

  to_stored : (b : Bool) (n q i : ℕ) → NewHasSlot w v New b n q i → NewHasSlot W v New b n q i
  to_stored b n q i a = record { new = a.new; kind = a.kind; room = a.room; some_n = a.some_n; there = (λ j. stored q a.new j (slot_at b i)) ∙ a.there }

  from_stored : (b : Bool) (n q i : ℕ) → NewHasSlot W v New b n q i → NewHasSlot w v New b n q i
  from_stored b n q i a = record { new = a.new; kind = a.kind; room = a.room; some_n = a.some_n; there = (λ j. sym (stored q a.new) j (slot_at b i)) ∙ a.there }

  known_slot : (n i : ℕ) → get_elem? x.slots i ≡ some n → (n ≢ 0) × (w x.page (2 + i) ≡ n)
  known_slot n i e = subst (λ (b : Bool). (n ≢ 0) × (w x.page (slot_at b i) ≡ n)) p.old (leaf_fits.known i n e)

  slot_known : (n i : ℕ) → i < 14 → w x.page (2 + i) ≡ n → get_elem? x.slots i ≡ some n
  slot_known n i room e = let full = p.full in let a = has_at x.slots i (omega arith) in a.1 ∙ ap some (sym (known_slot a.0 i a.1).1 ∙ e)

  -- an entry that was read stands there
  read_at : (n : ℕ) → In n x.slots → (j : ℕ) × (j < 14) × (w x.page (2 + j) ≡ n)
  read_at n e = (e.0, let room : length x.slots ≤ page_room x.leaf = leaf_fits.room in let full = p.full in let is = inside x.slots e.0 n e.1 in omega arith, (known_slot n e.0 e.1).1)

  pub planned : MaySplit w s m v codes New y.page k x.page first
  planned = record {
    inner = inner_linked;
    kind = inner_kind;
    room = p.room;
    leaf = leaf_linked;
    old = ap (λ (z : Place). z.leaf) leaf_place ∙ p.old;
    low = subst (λ (l : List ℕ). length l < 5) path p.low;
    there = there;
    full = λ i room z. let full = p.full in let a = has_at x.slots i (omega arith) in let c = known_slot a.0 i a.1 in c.0 (sym c.1 ∙ z);
    numbered = numbered;
    head = let a = p.head in (a.0, a.1, a.2, a.3 ∙ path, a.4);
    inner_first = p.inner_first;
    ranks = p.ranks;
    below = λ q n. subst (λ (l : List ℕ). IsBelow l (v q).path) path (p.below q n);
    pages = λ q n. subst (λ (g : ℕ → ℕ). PageStands g (v q)) (stored q n) (p.pages q n);
    named = λ q n other. let a = p.named q n other in subst (λ (g : ℕ → ℕ). New (v q).from × (g (at_way (v q).way) ≡ q) × Follows g (v (v q).from) (v q).way (v q)) (stored (v q).from a.0) a;
    leads = λ q to n. subst (λ (g : ℕ → ℕ). IsWay (v q) to → g (at_way to) ≢ 0 → New (g (at_way to)) × ((v (g (at_way to))).from ≡ q) × ((v (g (at_way to))).way ≡ to)) (stored q n) (p.leads q to n);
    alone = p.alone;
    apart = λ n q r i j a b. p.apart n q r i j (to_stored false n q i a) (to_stored false n r j b);
    begun = λ c q i a. let e = p.begun c q i (to_stored false c q i a) in let f = read_at e.0 e.1 in (f.0, f.1, subst (λ (n : ℕ). IsBelow ((v q).path ++ c ∷ []) (codes n)) (sym f.2) e.2);
    rows = λ n q r i j a b. p.rows n q r i j (to_stored true n q i a) (to_stored true n r j b);
    entries = λ n q i a. let e = p.entries n q i (to_stored true n q i a) in (read_at n e.0, e.1);
    keeps = λ n j room e. let c = p.keeps n (j, slot_known n j room e) in (c.0, c.1, from_stored true n c.0 c.1 c.2);
  }
