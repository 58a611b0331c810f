-- What was loaded stays: of epochs, announcements, states of pages, codes and first words of blocks.
use Rattle.std.proofs.Common.{◌≡◌, ℕ, List, [], ◌∷◌, ◌++◌, sym, ap, ◌∙◌, subst, ⊎_elim}
use lib.ListN.{get_elem?}
use Rattle.htss_defs.specs.declared.shape.Shape.{Shape}
use Rattle.board_core.specs.declared.account.Account.{Account}
use Rattle.board_core.specs.declared.loads.CodeLoad.{CodeLoad}
use Rattle.board_core.specs.declared.loads.StateLoad.{StateLoad}
use Rattle.board_core.specs.declared.loads.WordLoad.{WordLoad}
use Rattle.board_core.specs.After.{after_pass}
use Rattle.board_core.proofs.Lists.{at_longer}
use Rattle.board.specs.Seated.{Seated, with_stock}
use Rattle.page_pool.specs.Taking.{IsPinned, all_passed, HasScanned, HasFound, IsGiven, IsRefused}
use Rattle.page_pool.proofs.Passing.{risen_is}
use Rattle.class_tree.specs.Loading.{LoadsOn}

pub record Lists : Type 0 where
  pub epochs : List ℕ
  pub announcements : List ℕ
  pub states : List StateLoad
  pub lost : List StateLoad
  pub codes : List CodeLoad
  pub heads : List WordLoad

abbrev pub lists_of : Account → Lists
lists_of a = record { epochs = a.loads.epochs; announcements = a.loads.announcements; states = a.loads.states; lost = a.loads.lost; codes = a.loads.codes; heads = a.loads.heads }

pub grows_same : (a : Account) → LoadsOn a a
grows_same a = record { epochs = λ j x e. e; announcements = λ j x e. e; states = λ j x e. e; lost = λ j x e. e; codes = λ j x e. e; heads = λ j x e. e }

pub grows_on : (a b c : Account) → LoadsOn a b → LoadsOn b c → LoadsOn a c
grows_on a b c f g = record {
  epochs = λ j x e. g.epochs j x (f.epochs j x e);
  announcements = λ j x e. g.announcements j x (f.announcements j x e);
  states = λ j x e. g.states j x (f.states j x e);
  lost = λ j x e. g.lost j x (f.lost j x e);
  codes = λ j x e. g.codes j x (f.codes j x e);
  heads = λ j x e. g.heads j x (f.heads j x e);
}

pub grows_equal : (a b : Account) → lists_of b ≡ lists_of a → LoadsOn a b
grows_equal a b e = record {
  epochs = λ j x h. ap (λ (l : Lists). get_elem? l.epochs j) e ∙ h;
  announcements = λ j x h. ap (λ (l : Lists). get_elem? l.announcements j) e ∙ h;
  states = λ j x h. ap (λ (l : Lists). get_elem? l.states j) e ∙ h;
  lost = λ j x h. ap (λ (l : Lists). get_elem? l.lost j) e ∙ h;
  codes = λ j x h. ap (λ (l : Lists). get_elem? l.codes j) e ∙ h;
  heads = λ j x h. ap (λ (l : Lists). get_elem? l.heads j) e ∙ h;
}

-- ---- what the pool loads

-- an epoch more
pub epoch_grows : (a b : Account) (e : ℕ) → lists_of b ≡ record (lists_of a) { epochs = a.loads.epochs ++ e ∷ [] } → LoadsOn a b
epoch_grows a b e is = record {
  epochs = λ j x h. ap (λ (l : Lists). get_elem? l.epochs j) is ∙ at_longer a.loads.epochs (e ∷ []) j x h;
  announcements = λ j x h. ap (λ (l : Lists). get_elem? l.announcements j) is ∙ h;
  states = λ j x h. ap (λ (l : Lists). get_elem? l.states j) is ∙ h;
  lost = λ j x h. ap (λ (l : Lists). get_elem? l.lost j) is ∙ h;
  codes = λ j x h. ap (λ (l : Lists). get_elem? l.codes j) is ∙ h;
  heads = λ j x h. ap (λ (l : Lists). get_elem? l.heads j) is ∙ h;
}

passed_grows : (a : Account) (ns : List ℕ) → LoadsOn a (all_passed a ns)
passed_grows a [] = grows_same a
passed_grows a (n ∷ ns) = grows_on a (after_pass a n) (all_passed (after_pass a n) ns)
    record { epochs = λ j x h. h; announcements = λ j x h. at_longer a.loads.announcements (n ∷ []) j x h; states = λ j x h. h; lost = λ j x h. h; codes = λ j x h. h; heads = λ j x h. h }
    (passed_grows (after_pass a n) ns)

scanned_grows : (k : Shape) (c d : Seated) → HasScanned k c d → LoadsOn c.account d.account
scanned_grows k c d s =
    let risen = risen_is c s.middle s.epoch s.risen in
    let first : LoadsOn c.account s.middle.account = subst (λ (x : Seated). LoadsOn c.account x.account) (sym risen) record {
      epochs = λ j x h. at_longer (c.account.loads.epochs ++ s.risen.first ∷ []) (s.epoch ∷ []) j x (at_longer c.account.loads.epochs (s.risen.first ∷ []) j x h);
      announcements = λ j x h. h;
      states = λ j x h. h;
      lost = λ j x h. h;
      codes = λ j x h. h;
      heads = λ j x h. h;
    } in
    grows_on c.account s.middle.account d.account first (subst (λ (x : Seated). LoadsOn s.middle.account x.account) (sym s.passed.after) (passed_grows s.middle.account s.passed.announced))

-- states more
states_grows : (a b : Account) (ss ls : List StateLoad) → lists_of b ≡ record (lists_of a) { states = a.loads.states ++ ss; lost = a.loads.lost ++ ls } → LoadsOn a b
states_grows a b ss ls is = record {
  epochs = λ j x h. ap (λ (l : Lists). get_elem? l.epochs j) is ∙ h;
  announcements = λ j x h. ap (λ (l : Lists). get_elem? l.announcements j) is ∙ h;
  states = λ j x h. ap (λ (l : Lists). get_elem? l.states j) is ∙ at_longer a.loads.states ss j x h;
  lost = λ j x h. ap (λ (l : Lists). get_elem? l.lost j) is ∙ at_longer a.loads.lost ls j x h;
  codes = λ j x h. ap (λ (l : Lists). get_elem? l.codes j) is ∙ h;
  heads = λ j x h. ap (λ (l : Lists). get_elem? l.heads j) is ∙ h;
}

found_grows : (k : Shape) (c d : Seated) (page : ℕ) → HasFound k c d page → LoadsOn c.account d.account
found_grows k c d page f = grows_on c.account f.middle.account d.account (scanned_grows k c f.middle f.scanned)
    (states_grows f.middle.account d.account f.taken.states f.taken.lost (ap (λ (x : Seated). lists_of x.account) f.after ∙ ap (λ (x : Seated). lists_of x.account) f.taken.after))

pub given_grows : (k : Shape) (c d : Seated) (page : ℕ) → IsGiven k c d page → LoadsOn c.account d.account
given_grows k c d page g = ⊎_elim
    (λ (t : (d ≡ with_stock c d.stock) × (c.stock ≡ d.stock ++ page ∷ [])). grows_equal c.account d.account (ap (λ (x : Seated). lists_of x.account) t.0))
    (λ (t : (c.stock ≡ []) × HasFound k c d page). found_grows k c d page t.1)
    g.from

pub refused_grows : (k : Shape) (c d : Seated) → IsRefused k c d → LoadsOn c.account d.account
refused_grows k c d r = grows_on c.account r.middle.account d.account (scanned_grows k c r.middle r.scanned)
    (states_grows r.middle.account d.account r.looked.states r.looked.lost (ap (λ (x : Seated). lists_of x.account) r.after ∙ ap (λ (x : Seated). lists_of x.account) r.looked.after))

pub pinned_grows : (c d : Seated) → IsPinned c d → LoadsOn c.account d.account
pinned_grows c d p = epoch_grows c.account d.account p.epoch (ap (λ (x : Seated). lists_of x.account) p.after)
