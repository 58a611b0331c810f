-- What is known of a board that was closed.
use Rattle.std.proofs.Common.{◌≡◌, ℕ, zero, suc, ◌≤◌, List, [], ◌∷◌, get_or, refl, sym, subst}
use mathlib.Core.Option.{some, some-injective, some-ne-none}
use lib.ListN.{get_elem?}
use Rattle.htss_defs.specs.declared.shape.Shape.{Shape}
use Rattle.board_core.specs.declared.account.View.{View}
use Rattle.board_core.specs.Words.{Parts, parts_of}
use Rattle.board_core.specs.Histories.{history_of}
use Rattle.board_core.specs.Sheets.{sheet_of}
use Rattle.board_core.proofs.Answered.{known, agree_all}
use Rattle.board_core.proofs.ChainFrame.{tree_true}
use Rattle.board_core.proofs.OldRows.{found_old}
use Rattle.board_core.proofs.FewPages.{few_if_gathered}
use Rattle.board_core.proofs.ManyRows.{many_if_gathered}
use Rattle.board.specs.Closed.{IsSettled, IsShown, Ends, closing}

module _ (k : Shape) (ws : List ℕ) (v : View) (e : Ends k ws v) where
  pub settled : IsSettled (closing k ws v)
  settled = subst (λ (x : List ℕ). IsSettled (closing k x v)) e.4
      (let front = e.2.rule.log.front in let counted = e.2.rule.log.counted in record {
        legal = e.2.rule.log.legal;
        fits = subst (λ (n : ℕ). n ≤ k.log) (sym counted) front;
        loaders = e.2.rule.log.callers;
        stories = e.2.rule.stories.stories e.1 v e.3;
        rooms = e.2.rule.full e.1 v e.3;
        pages = e.2.rule.empty e.1 v e.3;
        chains = λ j a there i n at. tree_true k (parts_of k e.0.words).pages (sheet_of (parts_of k e.0.words).pool.states e.0.views) n.entry (e.2.rule.chains e.1 v e.3 j a there i n at);
        few = λ whole i a there j n spot is. few_if_gathered k e.0 e.1 v e.2 e.3 whole i j a n there spot is;
        full = λ whole i a there j n spot pages is. many_if_gathered k e.0 e.1 v e.2 e.3 whole i a there j n spot pages is;
      })

  pub shown : IsShown (closing k ws v)
  shown = subst (λ (x : List ℕ). IsShown (closing k x v)) e.4
      (let p : Parts = parts_of k e.0.words in record {
        words = p;
        shows = refl;
        may = λ j a there. record { known = known k p e.0.views e.2.rule; agrees = agree_all k p (history_of k p) e.0.views e.2.rule e.1 v e.3 j a there };
        rows = λ n old. found_old k p (history_of k p) e.0.views n e.2.rule old;
      })

-- what a list has at a place
pub at_get : (l : List ℕ) (i w : ℕ) → get_elem? l i ≡ some w → get_or l i 0 ≡ w
at_get [] i w e = absurd (some-ne-none w (sym e))
at_get (x ∷ xs) zero w e = some-injective x w e
at_get (x ∷ xs) (suc i) w e = at_get xs i w e
