-- A search goes past numbers that no screened record has.
use Rattle.std.proofs.Common.{◌≡◌, ℕ, ◌<◌, ◌≤◌, List, arith, All}
use mathlib.Core.Logic.{dite}
use native.Mathlib.Decide.{dec_le}
use Rattle.std.proofs.Common.{lt_of_not-le}
use Rattle.htss_defs.specs.declared.history.Event.{Event}
use Rattle.htss_defs.specs.declared.history.Hit.{Hit}
use Rattle.htss_defs.specs.Molecule.{Molecule}
use Rattle.htss_defs.specs.QueryGraph.{QueryGraph}
use Rattle.htss_defs.specs.Embedding.{NoEmbedding}
use Rattle.htss_defs.specs.Screened.{IsScreened}
use Rattle.htss_defs.specs.History.{IsLive}
use Rattle.reg_model.specs.Searches.{HasSearched}

-- of no number from k + 1 to n a record is screened, nor embeds the query
pub record AreUnscreened (q : QueryGraph) (h : List Event) (k n : ℕ) : Type 0 where
  pub none : (number : ℕ) (name : List ℕ) (mol : Molecule) → k < number → number ≤ n → IsLive h number name mol → IsScreened q mol → ⊥
  pub embeds : (number : ℕ) (name : List ℕ) (mol : Molecule) → k < number → number ≤ n → IsLive h number name mol → NoEmbedding q mol

further : (xs : List ℕ) (k n : ℕ) → k ≤ n → All (λ x. x ≤ k) xs → All (λ x. x ≤ n) xs
further xs k n more within i d inside = omega (arith, within i d inside)

pub searched_skipped : (q : QueryGraph) (h : List Event) (budget left k n count : ℕ) (hits : List Hit) → k ≤ n → AreUnscreened q h k n → HasSearched q h budget left k count hits → HasSearched q h budget left n count hits
searched_skipped q h budget left k n count hits more none has = let are = has.are in let all = has.are_screened in record {
  are = record {
    rising = are.rising;
    within = further _ k n more are.within;
    each = are.each;
    all = λ number name mol map within live embeds. dite (dec_le number k)
        (λ early. are.all number name mol map early live embeds)
        (λ late. absurd (none.embeds number name mol (lt_of_not-le late) within live map embeds));
  };
  screened = has.screened;
  are_screened = record {
    rising = all.rising;
    within = further _ k n more all.within;
    each = all.each;
    all = λ number name mol within live is. dite (dec_le number k)
        (λ early. all.all number name mol early live is)
        (λ late. absurd (none.none number name mol (lt_of_not-le late) within live is));
  };
  count_is = has.count_is;
  within = has.within;
  paid = has.paid;
}
