-- A row is put into one leaf, or the leaf is read to its end.
use Rattle.std.proofs.Common.{◌≡◌, ◌≢◌, ℕ, ◌+◌, ◌<◌, true, List, [], ◌∷◌, ◌++◌, length, take, drop, refl, sym, ap, ◌∙◌, subst, arith, take-append-drop}
use Rattle.htss_defs.specs.declared.shape.Shape.{Shape}
use Rattle.board_core.specs.declared.account.Account.{Account}
use Rattle.board_core.specs.declared.room.Row.{Row}
use Rattle.board_core.specs.declared.tree.Reached.{Reached}
use Rattle.board_core.specs.Loaded.{IsPage, IsToPlace}
use Rattle.board_core.specs.After.{after_slot, after_entry}
use Rattle.board_core.specs.Steps.{MayClaimEntry}
use Rattle.board.specs.Seated.{Seated, with_account}
use Rattle.class_tree.specs.declared.walks.Stop.{Stop}
use Rattle.class_tree.specs.declared.walks.Target.{Target}
use Rattle.class_tree.specs.Walking.{here, Rest, rest_of, IsTarget, IsAtLeaf, Goes, Reads, Places, EntersRow}
use Rattle.class_tree.proofs.Pages.{here_slot, size_slot, slot_again, target_kept, within, at_slot}
use Rattle.class_tree.proofs.Loadings.{lists_of, grows_on, grows_equal}

-- the row may be placed below its first codes
pub to_place : (k : Shape) (a : Account) (t : Target) (depth : ℕ) → IsTarget k a t → IsToPlace k a (take depth t.codes) t.row
to_place k a t depth h = record { begun = h.place.begun; fresh = h.place.fresh; below = (drop depth t.codes, sym h.codes_are ∙ sym (take-append-drop depth t.codes)) }

first_zero : (c d : Seated) (s : Stop) (word : ℕ) → d ≡ with_account c (after_slot c.account s.number word) → word ≡ 0 → d ≡ with_account c (after_slot c.account s.number 0)
first_zero c d s word e none = e ∙ ap (λ (n : ℕ). with_account c (after_slot c.account s.number n)) none

pub may_enter : (k : Shape) (c d : Seated) (s : Stop) (depth rank known word : ℕ) (t : Target) → IsAtLeaf k c.account s depth rank known t → known < 14 → d ≡ with_account c (after_slot c.account s.number word) → word ≡ 0 → MayClaimEntry k d.account s.number t.row
may_enter k c d s depth rank known word t h room e none =
    let a : Account = c.account in
    let path : List ℕ = take depth t.codes in
    let less = within k a s path rank known true h.at in
    let same = here_slot a s 0 less in
    let size = h.at.size in
    subst (λ (x : Seated). MayClaimEntry k x.account s.number t.row) (sym (first_zero c d s word e none)) record {
      visit = record { reached = (let longer = size_slot a s 0 in omega arith); inside = subst (IsPage k) (sym (ap (λ (x : Reached). x.page) same ∙ h.at.there)) h.at.inside };
      leaf = ap (λ (x : Reached). x.leaf) same ∙ h.at.kind;
      unread = ap (λ (x : Reached). x.more) same ∙ h.at.unread;
      room = (let kept : length (here (after_slot a s.number 0) s).slots ≡ length (here a s).slots = ap (λ (x : Reached). length x.slots) same in omega arith);
      row = subst (λ (p : List ℕ). IsToPlace k (after_slot a s.number 0) p t.row) (sym (ap (λ (x : Reached). x.path) same ∙ h.at.on)) (to_place k (after_slot a s.number 0) t depth (target_kept k a (after_slot a s.number 0) t refl h.target));
    }

pub entered : (c d e : Seated) (s : Stop) (word : ℕ) (row : Row) → d ≡ with_account c (after_slot c.account s.number word) → e ≡ with_account d (after_entry d.account s.number row) → EntersRow c e row
entered c d e s word row first then =
    let both : e ≡ with_account c (after_entry (after_slot c.account s.number word) s.number row) = then ∙ ap (λ (x : Seated). with_account x (after_entry x.account s.number row)) first in
    subst (λ (x : Seated). EntersRow c x row) (sym both) record { places = record { table = refl; shape = refl; rest = refl; grows = grows_equal c.account (after_entry (after_slot c.account s.number word) s.number row) refl }; pool = refl; stock = refl }

pub entry_read : (k : Shape) (c d e : Seated) (s : Stop) (depth rank known word n : ℕ) (t : Target) → IsAtLeaf k c.account s depth rank known t → d ≡ with_account c (after_slot c.account s.number word) → word ≡ 0 → e ≡ with_account d (after_slot d.account s.number n) → n ≢ 0 → e ≡ with_account c (after_slot c.account s.number n)
entry_read k c d e s depth rank known word n t h first none then some_n =
    then ∙ (ap (λ (x : Seated). with_account x (after_slot x.account s.number n)) (first_zero c d s word first none) ∙ ap (with_account c) (slot_again c.account s n (within k c.account s (take depth t.codes) rank known true h.at) some_n))

-- ---- all entries

pub leaf_within : (k : Shape) (a : Account) (s : Stop) (depth rank known : ℕ) (t : Target) → IsAtLeaf k a s depth rank known t → s.number < length a.tree.reached
leaf_within k a s depth rank known t h = within k a s (take depth t.codes) rank known true h.at

pub leaf_on : (k : Shape) (c d : Seated) (s : Stop) (depth rank known n : ℕ) (t : Target) → IsAtLeaf k c.account s depth rank known t → d ≡ with_account c (after_slot c.account s.number n) → n ≢ 0 → IsAtLeaf k d.account s depth rank (known + 1) t
leaf_on k c d s depth rank known n t h e some_n = subst (λ (x : Seated). IsAtLeaf k x.account s depth rank (known + 1) t) (sym e) record {
  at = at_slot k c.account s (take depth t.codes) rank known n true h.at some_n;
  deep = h.deep;
  target = target_kept k c.account (after_slot c.account s.number n) t refl h.target;
}

pub goes_places : (n : ℕ) (c d e : Seated) (row : Row) → Goes n c d → Places d e row → Places c e row
goes_places n c d e row g p = record {
  table = p.table ∙ g.table;
  shape = p.shape ∙ g.shape;
  rest = p.rest ∙ ap (λ (x : Rest). record x { placed = x.placed ++ row ∷ [] }) g.rest;
  grows = grows_on c.account d.account e.account g.grows p.grows;
}

pub reads_enters : (n : ℕ) (c d e : Seated) (row : Row) → Reads c d n → EntersRow d e row → EntersRow c e row
reads_enters n c d e row r p = record {
  places = record {
    table = p.places.table ∙ ap (λ (x : Seated). x.table) r.only;
    shape = p.places.shape ∙ ap (λ (x : Seated). x.shape) r.only;
    rest = p.places.rest ∙ ap (λ (x : Seated). record (rest_of x.account) { placed = x.account.tree.placed ++ row ∷ [] }) r.only;
    grows = grows_on c.account d.account e.account (grows_equal c.account d.account (ap (λ (x : Seated). lists_of x.account) r.only)) p.places.grows;
  };
  pool = p.pool ∙ ap (λ (x : Seated). x.account.pool) r.only;
  stock = p.stock ∙ ap (λ (x : Seated). x.stock) r.only;
}
