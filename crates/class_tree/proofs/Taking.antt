-- What the calls of the pool leave of a walk.
use Rattle.std.proofs.Common.{◌≡◌, ℕ, List, [], ◌∷◌, ◌++◌, length, refl, sym, ap, ◌∙◌, subst, arith, ⊎_elim, length-append, ◌≤◌, ◌+◌}
use mathlib.Core.Option.{some, some-ne-none}
use lib.ListN.{get_elem?}
use Rattle.htss_defs.specs.declared.shape.Shape.{Shape}
use Rattle.board_core.specs.declared.account.Account.{Account}
use Rattle.board_core.specs.declared.entry.Entry.TheVariants.{NoPage}
use Rattle.board_core.specs.declared.pool.Parted.{Parted}
use Rattle.board_core.specs.declared.tree.Reached.{Reached}
use Rattle.board_core.specs.Sheets.{owns}
use Rattle.board_core.specs.MarkRule.{IsAmong}
use Rattle.board_core.specs.Loaded.{IsPage, HasOwn}
use Rattle.board_core.specs.After.{visited, after_pass, stamp_all, noted}
use Rattle.board_core.proofs.Lists.{at_end}
use Rattle.board.specs.Seated.{Seated, with_stock}
use Rattle.page_pool.specs.Taking.{all_passed, HasScanned, HasFound, IsGiven, IsRefused}
use Rattle.page_pool.proofs.Passing.{risen_is}
use Rattle.page_pool.proofs.Giving.{found_stock}
use Rattle.class_tree.specs.Inserting.{IsStocked}
use Rattle.class_tree.specs.Walking.{Rest, rest_of, shown_of, Goes}
use Rattle.class_tree.specs.Stocked.{IsStockedBut, HasMade, IsReady}
use Rattle.class_tree.specs.Refusing.{WasRefused}
use Rattle.class_tree.proofs.Making.{made_all}
use Rattle.class_tree.proofs.Loadings.{lists_of, grows_on, grows_equal, given_grows, refused_grows}

-- all that the pool leaves alone: its own numbers and own pages are no part of it
abbrev Walk : Type 0
Walk = Rest × List Reached

abbrev pub walk_of : Account → Walk
walk_of a = (rest_of a, a.tree.reached)

passed_walk : (a : Account) (ns : List ℕ) → walk_of (all_passed a ns) ≡ walk_of a
passed_walk a [] = refl
passed_walk a (n ∷ ns) = passed_walk (after_pass a n) ns

scanned_walk : (k : Shape) (c d : Seated) → HasScanned k c d → walk_of d.account ≡ walk_of c.account
scanned_walk k c d s = ap (λ (x : Seated). walk_of x.account) s.passed.after ∙ (passed_walk s.middle.account s.passed.announced ∙ ap (λ (x : Seated). walk_of x.account) (risen_is c s.middle s.epoch s.risen))

passed_clean : (a : Account) (ns : List ℕ) → (all_passed a ns).pool.parted ≡ a.pool.parted
passed_clean a [] = refl
passed_clean a (n ∷ ns) = passed_clean (after_pass a n) ns

scanned_clean : (k : Shape) (c d : Seated) → HasScanned k c d → c.account.pool.parted ≡ [] → d.account.pool.parted ≡ []
scanned_clean k c d s clean = ap (λ (x : Seated). x.account.pool.parted) s.passed.after ∙ (passed_clean s.middle.account s.passed.announced
    ∙ (ap (λ (x : Seated). x.account.pool.parted) (risen_is c s.middle s.epoch s.risen) ∙ ap (λ (us : List Parted). stamp_all s.epoch (stamp_all s.risen.first us)) clean))

scanned_place : (k : Shape) (c d : Seated) → HasScanned k c d → (d.table ≡ c.table) × (d.shape ≡ c.shape)
scanned_place k c d s = (
  ap (λ (x : Seated). x.table) s.passed.after ∙ ap (λ (x : Seated). x.table) (risen_is c s.middle s.epoch s.risen),
  ap (λ (x : Seated). x.shape) s.passed.after ∙ ap (λ (x : Seated). x.shape) (risen_is c s.middle s.epoch s.risen),
)

-- what a page that is taken leaves
pub record Takes (c d : Seated) : Type 0 where
  pub table : d.table ≡ c.table
  pub shape : d.shape ≡ c.shape
  pub walk : walk_of d.account ≡ walk_of c.account
  pub clean : c.account.pool.parted ≡ [] → d.account.pool.parted ≡ []

found_takes : (k : Shape) (c d : Seated) (page : ℕ) → HasFound k c d page → Takes c d
found_takes k c d page f =
    let place = scanned_place k c f.middle f.scanned in record {
      table = ap (λ (x : Seated). x.table) f.after ∙ (ap (λ (x : Seated). x.table) f.taken.after ∙ place.0);
      shape = ap (λ (x : Seated). x.shape) f.after ∙ (ap (λ (x : Seated). x.shape) f.taken.after ∙ place.1);
      walk = ap (λ (x : Seated). walk_of x.account) f.after ∙ (ap (λ (x : Seated). walk_of x.account) f.taken.after ∙ scanned_walk k c f.middle f.scanned);
      clean = λ clean. ap (λ (x : Seated). x.account.pool.parted) f.after ∙ (ap (λ (x : Seated). x.account.pool.parted) f.taken.after ∙ scanned_clean k c f.middle f.scanned clean);
    }

pub given_takes : (k : Shape) (c d : Seated) (page : ℕ) → IsGiven k c d page → Takes c d
given_takes k c d page g = ⊎_elim
    (λ (t : (d ≡ with_stock c d.stock) × (c.stock ≡ d.stock ++ page ∷ [])). record {
      table = ap (λ (x : Seated). x.table) t.0;
      shape = ap (λ (x : Seated). x.shape) t.0;
      walk = ap (λ (x : Seated). walk_of x.account) t.0;
      clean = λ clean. ap (λ (x : Seated). x.account.pool.parted) t.0 ∙ clean;
    })
    (λ (t : (c.stock ≡ []) × HasFound k c d page). found_takes k c d page t.1)
    g.from

pub given_reached : (k : Shape) (c d : Seated) (page : ℕ) → IsGiven k c d page → d.account.tree.reached ≡ c.account.tree.reached
given_reached k c d page g = ap (λ (x : Walk). x.1) (given_takes k c d page g).walk

pub given_goes : (k : Shape) (c d : Seated) (page n : ℕ) → IsGiven k c d page → Goes n c d
given_goes k c d page n g =
    let t = given_takes k c d page g in
    let reached = given_reached k c d page g in record {
      table = t.table;
      shape = t.shape;
      rest = ap (λ (x : Walk). x.0) t.walk;
      grows = given_grows k c d page g;
      longer = (let same = ap length reached in omega arith);
      stays = λ j _. ap (λ (l : List Reached). shown_of (visited l j)) reached;
    }

no_stock : (l : List ℕ) (q : ℕ) → l ≡ [] → IsAmong l q → ⊥
no_stock l q none (i, there) = some-ne-none q (sym there ∙ ap (λ (x : List ℕ). get_elem? x i) none)

-- each other own page is kept still
pub given_but : (k : Shape) (c d : Seated) (page : ℕ) → IsStocked c → IsGiven k c d page → IsStockedBut d page
given_but k c d page s g = record {
  own = λ q other mine.
      let mine_before : HasOwn c.account q = (let same = g.others q other in omega arith) in
      ⊎_elim
      (λ (t : (d ≡ with_stock c d.stock) × (c.stock ≡ d.stock ++ page ∷ [])).
      let (i, there) = s.own q mine_before in
      ⊎_elim
      (λ (old : get_elem? d.stock i ≡ some q). (i, old))
      (λ (new : (i ≡ length d.stock) × (page ≡ q)). absurd (other (sym new.1)))
      (at_end d.stock page q i (ap (λ (l : List ℕ). get_elem? l i) (sym t.1) ∙ there)))
      (λ (t : (c.stock ≡ []) × HasFound k c d page). absurd (no_stock c.stock q t.0 (s.own q mine_before)))
      g.from;
  few = (let more = g.more in let few = s.few in omega arith);
  mine = g.own;
  apart = g.apart;
  room = ⊎_elim
      (λ (t : (d ≡ with_stock c d.stock) × (c.stock ≡ d.stock ++ page ∷ [])). let longer = ap length t.1 ∙ length-append d.stock (page ∷ []) in let size = s.size in omega arith)
      (λ (t : (c.stock ≡ []) × HasFound k c d page). let none = ap length (found_stock k c d page t.1 ∙ t.0) in omega arith)
      g.from;
  clean = (given_takes k c d page g).clean s.clean;
}

-- the page's words were stored after that
pub is_ready : (k : Shape) (c d e : Seated) (page header first : ℕ) → IsStocked c → IsPage k page → IsGiven k c d page → HasMade d e page header first 16 → IsReady k c e page header first
is_ready k c d e page header first s inside g m =
    let taken = given_takes k c d page g in
    let but = given_but k c d page s g in
    let walk : walk_of e.account ≡ walk_of c.account = ap (λ (x : Seated). walk_of x.account) m.after ∙ taken.walk in
    let reached : e.account.tree.reached ≡ c.account.tree.reached = ap (λ (x : Walk). x.1) walk in
    let stock : e.stock ≡ d.stock = ap (λ (x : Seated). x.stock) m.after in record {
      goes = record {
        table = ap (λ (x : Seated). x.table) m.after ∙ taken.table;
        shape = ap (λ (x : Seated). x.shape) m.after ∙ taken.shape;
        rest = ap (λ (x : Walk). x.0) walk;
        grows = grows_on c.account d.account e.account (given_grows k c d page g) (grows_equal d.account e.account (ap (λ (x : Seated). lists_of x.account) m.after));
        longer = (let same = ap length reached in omega arith);
        stays = λ j _. ap (λ (l : List Reached). shown_of (visited l j)) reached;
      };
      reached = reached;
      inside = inside;
      but = record {
        own = λ q other mine. subst (λ (l : List ℕ). IsAmong l q) (sym stock) (but.own q other (let same = m.same q in omega arith));
        few = (let own = m.size in let same = ap length stock in let few = but.few in omega arith);
        mine = (let same = m.same page in let old = but.mine in omega arith);
        apart = λ among. but.apart (subst (λ (l : List ℕ). IsAmong l page) stock among);
        room = (let same = ap length stock in let room = but.room in omega arith);
        clean = ap (λ (x : Seated). x.account.pool.parted) m.after ∙ but.clean;
      };
      stored = made_all d e page header first but.mine m;
      linked = ap (λ (x : Seated). x.account.counts) m.after ∙ g.linked;
    }

-- ---- no page

pub was_refused : (k : Shape) (c d : Seated) → c.stock ≡ [] → IsRefused k c d → WasRefused k c d 1
was_refused k c d empty r =
    let place = scanned_place k c r.middle r.scanned in
    let walk : walk_of r.last.account ≡ walk_of c.account = ap (λ (x : Seated). walk_of x.account) r.looked.after ∙ scanned_walk k c r.middle r.scanned in record {
      answers = record {
        table = ap (λ (x : Seated). x.table) r.after ∙ (ap (λ (x : Seated). x.table) r.looked.after ∙ place.0);
        shape = ap (λ (x : Seated). x.shape) r.after ∙ (ap (λ (x : Seated). x.shape) r.looked.after ∙ place.1);
        loads = r.last.account.loads;
        grows = refused_grows k c d r;
        rest = ap (λ (x : Seated). rest_of x.account) r.after ∙ ap (λ (x : Walk). record x.0 { entries = x.0.entries ++ noted r.last.account.loads (NoPage ∷ []) }) walk;
      };
      before = c;
      empty = empty;
      after = d;
      refused = r;
      end = refl;
      short = (let none = ap length (r.stock ∙ empty) in omega arith);
    }

pub refused_reached : (k : Shape) (c d : Seated) → IsRefused k c d → d.account.tree.reached ≡ c.account.tree.reached
refused_reached k c d r = ap (λ (x : Seated). x.account.tree.reached) r.after ∙ (ap (λ (x : Seated). x.account.tree.reached) r.looked.after ∙ ap (λ (x : Walk). x.1) (scanned_walk k c r.middle r.scanned))

pub refused_clean : (k : Shape) (c d : Seated) → IsRefused k c d → c.account.pool.parted ≡ [] → d.account.pool.parted ≡ []
refused_clean k c d r clean = ap (λ (x : Seated). x.account.pool.parted) r.after ∙ (ap (λ (x : Seated). x.account.pool.parted) r.looked.after ∙ scanned_clean k c r.middle r.scanned clean)

pub refused_stocked : (k : Shape) (c d : Seated) → IsStocked c → IsRefused k c d → IsStocked d
refused_stocked k c d s r = record {
  own = λ q mine. subst (λ (l : List ℕ). IsAmong l q) (sym r.stock) (s.own q (let same = ap (owns q) r.own in omega arith));
  few = (let own : length d.account.pool.own ≡ length c.account.pool.own = ap length r.own in let same = ap length r.stock in let few = s.few in omega arith);
  size = (let same = ap length r.stock in let size = s.size in omega arith);
  clean = refused_clean k c d r s.clean;
}
