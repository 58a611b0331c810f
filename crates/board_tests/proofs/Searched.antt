-- A caller at rest stays so by a search.
use Rattle.std.proofs.Common.{◌≡◌, ℕ, ◌≤◌, List, [], Ok, Err, IfOk, refl, ap, ◌∙◌}
use Rattle.std.specs.Prelude.{Result}
use Rattle.htss_defs.specs.declared.history.SearchError.{SearchError}
use Rattle.htss_defs.specs.declared.history.SearchError.TheVariants.{OverBudget, OutOfMemory}
use Rattle.board_core.specs.declared.entry.Entry.{Entry}
use Rattle.board_core.specs.declared.log.LogAccount.{LogAccount}
use Rattle.board_core.specs.After.{fronted}
use Rattle.board.specs.Seated.{Place, Seated, IsOf, IsAtRest}
use Rattle.searcher.specs.Searched.{IsSearched}

rests_searched : (b : Place) (c d : Seated) (front : ℕ) (es : List Entry) → IsAtRest b c → IsOf b d → IsSearched c.account d.account front es → IsAtRest b d
rests_searched b c d front es rest of s = record {
  of = of;
  free = ap (λ (l : LogAccount). l.holding) s.log ∙ ap fronted rest.free;
  unpinned = s.unpinned;
}

-- whatever the search answers
pub search_rests : (b : Place) (c d : Seated) (r : Result ℕ SearchError) (E F : ℕ → List Entry) → IsAtRest b c → IsOf b d
    → IfOk r (λ f. (c.account.log.seen ≤ f) × IsSearched c.account d.account f (E f))
    → ((at : ℕ) → r ≡ Err (OverBudget at) → (c.account.log.seen ≤ at) × IsSearched c.account d.account at (F at))
    → (r ≡ Err OutOfMemory → (f : ℕ) × IsSearched c.account d.account f []) → IsAtRest b d
search_rests b c d (Ok f) E F rest of found over memory = rests_searched b c d f (E f) rest of found.1
search_rests b c d (Err (OverBudget at)) E F rest of found over memory = rests_searched b c d at (F at) rest of (over at refl).1
search_rests b c d (Err OutOfMemory) E F rest of found over memory = let m = memory refl in rests_searched b c d m.0 [] rest of m.1
