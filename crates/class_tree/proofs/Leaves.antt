-- A chain of leaves goes on at its next page, which another has linked, or which this walk makes with the row and links.
use Rattle.std.proofs.Common.{◌≡◌, ◌≢◌, ℕ, ◌+◌, ◌*◌, ◌<◌, ◌≤◌, true, false, List, [], ◌∷◌, ◌++◌, length, take, drop, refl, sym, ap, ◌∙◌, subst, arith, take-append-drop}
use Rattle.std.specs.Prelude.{Option, Some}
use Rattle.htss_defs.specs.declared.shape.Shape.{Shape}
use Rattle.board_core.specs.declared.account.Account.{Account}
use Rattle.board_core.specs.declared.account.Who.{Who}
use Rattle.board_core.specs.declared.account.Who.TheVariants.{Loader}
use Rattle.board_core.specs.declared.entry.Entry.TheVariants.{ChainFull as ChainWasFull}
use Rattle.board_core.specs.declared.pool.PoolAccount.{PoolAccount}
use Rattle.board_core.specs.declared.room.Row.{Row}
use Rattle.board_core.specs.ClassTree.{chained, kind_of, header_of}
use Rattle.board_core.specs.ChainRule.{HasWalked}
use Rattle.board_core.specs.Loaded.{IsPage, IsToPlace, HasStored, one_word, next_place}
use Rattle.board_core.specs.After.{visited, after_answer, after_linked, after_more, next_of}
use Rattle.board_core.specs.Steps.{MayLinkMoreLeaf, MayLink}
use Rattle.board.specs.Seated.{Place, Seated, IsOf, IsLoader, number_in, with_account, with_stock}
use Rattle.class_tree.specs.declared.walks.Stop.{Stop}
use Rattle.class_tree.specs.declared.walks.Target.{Target}
use Rattle.class_tree.specs.Inserting.{IsStocked, HasFullChain}
use Rattle.class_tree.specs.Linking.{IsNextLeaf, GoesBehind}
use Rattle.class_tree.specs.Refusing.{WasFullChain}
use Rattle.class_tree.specs.Stocked.{IsReady}
use Rattle.class_tree.specs.Walking.{here, Rest, rest_of, shown_of, IsTarget, IsAtLeaf, Goes, Reads, Places, EntersRow, AreFull}
use Rattle.class_tree.proofs.Pages.{target_kept}
use Rattle.class_tree.proofs.Grown.{grown_more, grown_goes, rest_more, lists_more, goes_on, goes_same}
use Rattle.class_tree.proofs.Chain.{IsWhole, whole, whole_less, next_at, IsAtEnd, at_end_of, depth_is, stored_header, next_header, may_load_more, stocked_without}
use Rattle.class_tree.proofs.Entering.{to_place, goes_places}
use Rattle.class_tree.proofs.Loadings.{grows_equal}
use Rattle.class_tree.proofs.Counting.{counts_more, may_on}

-- leaves of the last depth chain
pub deep_enough : (n : ℕ) → n ≡ 5 → chained ≤ n
unfolding chained
deep_enough n is = omega arith

-- ---- whose the caller is, and its stock

pub places_of : (b : Place) (c d : Seated) (row : Row) → Places c d row → IsOf b c → IsOf b d
places_of b c d row p of = record { table = p.table ∙ of.table; shape = p.shape ∙ of.shape }

pub places_loader : (c d : Seated) (row : Row) → Places c d row → IsLoader c → IsLoader d
places_loader c d row p loader = subst (λ (w : Who). w ≡ Loader (number_in w)) (sym (ap (λ (x : Rest). x.who) p.rest)) loader

pub enters_stocked : (c d : Seated) (row : Row) → EntersRow c d row → IsStocked c → IsStocked d
enters_stocked c d row p s = subst (λ (x : PoolAccount × List ℕ). IsStocked (record d { account = record d.account { pool = x.0 }; stock = x.1 })) (λ i. (sym p.pool i, sym p.stock i)) record { own = s.own; few = s.few; size = s.size; clean = s.clean }

-- the row was placed with a new page
pub linked_places : (n : ℕ) (c e f : Seated) (page : ℕ) (row : Row) → Goes n c e → f ≡ with_account e (after_linked e.account page (row ∷ [])) → Places c f row
linked_places n c e f page row g link = goes_places n c e f row g (subst (λ (x : Seated). Places e x row) (sym link) record { table = refl; shape = refl; rest = refl; grows = grows_equal e.account (after_linked e.account page (row ∷ [])) refl })

pub linked_stocked : (k : Shape) (d e f : Seated) (page header first : ℕ) (rows : List Row) → IsReady k d e page header first → f ≡ with_account e (after_linked e.account page rows) → IsStocked f
linked_stocked k d e f page header first rows ready link = stocked_without e f page ready.but (ap (λ (x : Seated). x.stock) link) (ap (λ (x : Seated). x.account.pool.own) link) (ap (λ (x : Seated). x.account.pool.parted) link)

-- ---- the next leaf

leaf_next : (k : Shape) (a b : Account) (s next : Stop) (depth rank n : ℕ) (t : Target) → IsWhole k a s (take depth t.codes) rank true → depth ≤ 5 → IsTarget k a t → b ≡ after_more a s.number n → n ≢ 0 → IsPage k n → next ≡ record { page = n; number = s.number + 1 } → IsAtLeaf k b next depth (rank + 1) 0 t
leaf_next k a b s next depth rank n t w deep target e some_n inside is = record {
  at = next_at k a b s next (take depth t.codes) rank n true w e some_n inside is;
  deep = deep;
  target = target_kept k a b t (ap rest_of e ∙ rest_more a s.number n) target;
}

pub leaf_read : (k : Shape) (c d : Seated) (s next : Stop) (depth rank n : ℕ) (t : Target) → IsAtLeaf k c.account s depth rank 14 t → d ≡ with_account c (after_more c.account s.number n) → n ≢ 0 → IsPage k n → next ≡ record { page = n; number = s.number + 1 } → IsNextLeaf k c d s next depth rank t
leaf_read k c d s next depth rank n t h e some_n inside is =
    let w = whole k c.account s (take depth t.codes) rank true h.at in
    let less = whole_less k c.account s (take depth t.codes) rank true w in record {
      goes = grown_goes (s.number + 1) c d (after_more c.account s.number n) (next_of (here c.account s) n) (omega arith) e (rest_more c.account s.number n) (lists_more c.account s.number n) (grown_more c.account s n less some_n);
      number = ap (λ (x : Stop). x.number) is;
      leaf = leaf_next k c.account d.account s next depth rank n t w h.deep h.target (ap (λ (x : Seated). x.account) e) some_n inside is;
      linked = ap (λ (x : Seated). x.account.counts) e ∙ counts_more c.account s.number n;
    }

pub leaf_end : (k : Shape) (c d e : Seated) (s : Stop) (depth rank word page header first : ℕ) (t : Target) → IsAtLeaf k c.account s depth rank 14 t → d ≡ with_account c (after_more c.account s.number word) → word ≡ 0 → IsReady k d e page header first → IsAtEnd k c e s (take depth t.codes) rank true
leaf_end k c d e s depth rank word page header first t h load none ready = at_end_of k c d e s (take depth t.codes) rank word page header first true (whole k c.account s (take depth t.codes) rank true h.at) load none ready

pub may_link_leaf : (k : Shape) (c d e : Seated) (s : Stop) (rank word page header : ℕ) (t : Target) → IsAtLeaf k c.account s 5 rank 14 t → rank + 1 < k.chain → d ≡ with_account c (after_more c.account s.number word) → word ≡ 0
    → header ≡ kind_of true + 4 * 5 + 32 * (rank + 1) → IsReady k d e page header t.entry → MayLink c.account 1 → MayLinkMoreLeaf k e.account s.number page t.row
may_link_leaf k c d e s rank word page header t h room load none is ready may =
    let path : List ℕ = take 5 t.codes in
    let end = leaf_end k c d e s 5 rank word page header t.entry t h load none ready in
    let w = end.whole_page in
    let target = target_kept k c.account e.account t end.goes.rest h.target in
    let long = depth_is k e.account t 5 h.deep target in record {
      may = record {
        load = may_load_more k e.account s path rank true w;
        rank = (let at = w.at in omega arith);
        new = subst (λ (n : ℕ). HasStored e.account page (one_word (header_of (next_place (here e.account s))) n)) (sym target.entry) (stored_header e.account page header _ t.entry (next_header (here e.account s) path 5 rank header true w.on long w.at w.kind is) ready.stored);
        few = may_on 1 c.account e.account end.goes.rest end.linked may;
      };
      leaf = w.kind;
      deep = deep_enough (length (here e.account s).path) (ap length w.on ∙ long);
      row = subst (λ (p : List ℕ). IsToPlace k e.account p t.row) (sym w.on) (to_place k e.account t 5 target);
    }

pub leaf_lost : (k : Shape) (c d e f g : Seated) (s next : Stop) (depth rank word found page header : ℕ) (t : Target) → IsAtLeaf k c.account s depth rank 14 t → d ≡ with_account c (after_more c.account s.number word) → word ≡ 0
    → IsReady k d e page header t.entry → f ≡ with_account e (after_more e.account s.number found) → found ≢ 0 → IsPage k found → g ≡ with_stock f (f.stock ++ page ∷ []) → next ≡ record { page = found; number = s.number + 1 } → IsNextLeaf k c g s next depth rank t
leaf_lost k c d e f g s next depth rank word found page header t h load none ready link some_n inside keep is =
    let path : List ℕ = take depth t.codes in
    let end = leaf_end k c d e s depth rank word page header t.entry t h load none ready in
    let less = whole_less k e.account s path rank true end.whole_page in
    let goes_f = goes_on (s.number + 1) (s.number + 1) c e f (omega arith) end.goes (grown_goes (s.number + 1) e f (after_more e.account s.number found) (next_of (here e.account s) found) (omega arith) link (rest_more e.account s.number found) (lists_more e.account s.number found) (grown_more e.account s found less some_n)) in
    let leaf_f = leaf_next k e.account f.account s next depth rank found t end.whole_page h.deep (target_kept k c.account e.account t end.goes.rest h.target) (ap (λ (x : Seated). x.account) link) some_n inside is in
    subst (λ (y : Seated). IsNextLeaf k c y s next depth rank t) (sym keep) record {
      goes = record { table = goes_f.table; shape = goes_f.shape; rest = goes_f.rest; grows = goes_f.grows; longer = goes_f.longer; stays = goes_f.stays };
      number = ap (λ (x : Stop). x.number) is;
      leaf = leaf_f;
      linked = ap (λ (x : Seated). x.account.counts) link ∙ (counts_more e.account s.number found ∙ end.linked);
    }

pub some_next : (k : Shape) (c d : Seated) (s : Stop) (depth rank : ℕ) (t : Target) (o : Option Stop) (next : Stop) → o ≡ Some next → GoesBehind k c d s depth rank t o → IsNextLeaf k c d s next depth rank t
some_next k c d s depth rank t o next e g = subst (GoesBehind k c d s depth rank t) e g
