-- What the walk over the numbers keeps, whatever the board is by what the account has loaded.
use Rattle.std.proofs.Common.{◌≡◌, ℕ, ◌+◌, ◌-◌, ◌<◌, ◌≤◌, List, [], length, take, slice_index, sym, ap, ◌∙◌, subst, arith}
use Rattle.std.proofs.lemmas.List.{length-take-le, get_or_default}
use mathlib.Core.Logic.{dite}
use native.Mathlib.Decide.{dec_le, ℕ_discrete}
use Rattle.std.proofs.Common.{lt_of_not-le}
use Rattle.std.specs.Prelude.{Option, Some, None, Result, Ok, IfSome, Contains}
use Rattle.std.specs.List.Sorted.{IsNonDecreasing}
use Rattle.htss_defs.specs.declared.out_of_memory.OutOfMemory.{OutOfMemory}
use Rattle.board_core.specs.declared.log.LogAccount.{LogAccount}
use Rattle.searcher.specs.declared.live.Live.{Live}
use Rattle.htss_defs.specs.declared.shape.Shape.{Shape}
use Rattle.htss_defs.specs.declared.history.Event.{Event}
use Rattle.htss_defs.specs.declared.history.Hit.{Hit}
use Rattle.htss_defs.specs.Molecule.{Molecule}
use Rattle.htss_defs.specs.QueryGraph.{QueryGraph}
use Rattle.htss_defs.specs.HitLists.{HitsKept}
use Rattle.htss_defs.specs.History.{IsLive}
use Rattle.htss_defs.specs.Screened.{IsScreened}
use Rattle.htss_defs.specs.Reply.{IsReply, found, over_budget}
use Rattle.screen.specs.Losing.{LosesNone}
use Rattle.reg_model.specs.Searches.{HasSearched, IsOverTo, Counts}
use Rattle.reg_model.proofs.Searching.{found-reply, found-counts, over-reply, searched-none, searched-none_live}
use Rattle.board_core.specs.declared.account.Account.{Account}
use Rattle.board_core.specs.Words.{Parts}
use Rattle.board_core.specs.Histories.{history_of}
use Rattle.board_core.specs.Loaded.{Grows}
use Rattle.board_core.specs.Steps.{MayBe}
use Rattle.board_core.proofs.Grown.{board_before}
use Rattle.board_core.proofs.BlockCauses.{seen_within}
use Rattle.searcher.specs.Walking.{Reads, Whatever, NotLive, IsReadLive, AllScreened, Takes, Spends, Replies, AreFound}
use Rattle.searcher.proofs.Recorded.{live_marked}
use Rattle.searcher.proofs.Skips.{AreUnscreened, searched_skipped}

-- what holds whatever the board was, holds whatever it is
pub whatever_later : (k : Shape) (a b : Account) (front : ℕ) (F : List Event → Type 0) → Grows a b → Whatever k a front F → Whatever k b front F
whatever_later k a b front F grown all p m = all p (board_before k a b grown p m)

-- ---- one number

-- what a step of the search says of any history, where the record of the number is live
abbrev pub StepsOn : ℕ → QueryGraph → (left count : ℕ) → List Hit → (left' count' : ℕ) → List Hit → List ℕ → Molecule → Type 0
StepsOn number asked left count hits left' count' hits' name mol =
    (history : List Event) (budget before : ℕ) → number ≡ before + 1 → IsLive history number name mol → HasSearched asked history budget left before count hits → HasSearched asked history budget left' number count' hits'

pub takes_live : (k : Shape) (a : Account) (front number : ℕ) (asked : QueryGraph) (left count : ℕ) (hits : List Hit) (left' count' : ℕ) (hits' : List Hit) (name : List ℕ) (mol : Molecule) → IsReadLive k a front number name mol
    → StepsOn number asked left count hits left' count' hits' name mol → Whatever k a front (Takes number asked left count hits left' count' hits')
takes_live k a front number asked left count hits left' count' hits' name mol read steps p m budget before next has = steps (take front (history_of k p)) budget before next (read.live p m) has

pub takes_none : (k : Shape) (a : Account) (front number : ℕ) (asked : QueryGraph) (left count : ℕ) (hits : List Hit) → Whatever k a front (NotLive number) → Whatever k a front (Takes number asked left count hits left count hits)
takes_none k a front number asked left count hits none p m budget before next has = searched-none_live asked (take front (history_of k p)) budget left number before count hits next has (none p m)

pub spends_live : (k : Shape) (a : Account) (front number : ℕ) (asked : QueryGraph) (left count : ℕ) (hits : List Hit) (name : List ℕ) (mol : Molecule) → IsReadLive k a front number name mol
    → ((history : List Event) (budget before : ℕ) → number ≡ before + 1 → IsLive history number name mol → HasSearched asked history budget left before count hits → IsOverTo asked history budget number) → Whatever k a front (Spends number asked left count hits)
spends_live k a front number asked left count hits name mol read steps p m budget before next has = steps (take front (history_of k p)) budget before next (read.live p m) has

-- ---- the numbers up to a place

pub record Walked (k : Shape) (a : Account) (query : QueryGraph) (front budget last : ℕ) (asked : QueryGraph) (own left count : ℕ) (hits : HitsKept) : Type 0 where
  pub asked_is : asked ≡ query
  pub own_is : own ≡ front
  pub room : count ≤ last
  pub has : Whatever k a front (λ h. HasSearched query h budget left last count hits.hits)

pub walked_none : (k : Shape) (a : Account) (query : QueryGraph) (front budget : ℕ) (asked : QueryGraph) (own left count : ℕ) (hits : HitsKept) → asked ≡ query → own ≡ front → left ≡ budget → count ≡ 0 → hits.hits ≡ [] → Walked k a query front budget 0 asked own left count hits
walked_none k a query front budget asked own left count hits same own_same whole none empty = record {
  asked_is = same;
  own_is = own_same;
  room = omega arith;
  has = λ p m. subst (λ (x : ℕ × ℕ × List Hit). HasSearched query (take front (history_of k p)) budget x.0 0 x.1 x.2) (λ t. (sym whole t, sym none t, sym empty t)) (searched-none query (take front (history_of k p)) budget);
}

-- the numbers before a place in an ordered list are not past one, and the one at the place is
pub record IsNext (numbers : List ℕ) (index last number : ℕ) : Type 0 where
  pub inside : index < length numbers
  pub is : number ≡ slice_index numbers index
  pub rising : IsNonDecreasing numbers
  pub passed : (i : ℕ) → i < index → slice_index numbers i ≤ last
  pub after : last < number

-- so no record between them is screened
unscreened : (q : QueryGraph) (k : Shape) (p : Parts) (a : Account) (front : ℕ) (numbers : List ℕ) (last next : ℕ) → LosesNone q → MayBe k p a → front ≤ length (history_of k p) → AllScreened q numbers (take front (history_of k p))
    → ((n : ℕ) → last < n → n ≤ next → Contains numbers n → ⊥) → AreUnscreened q (take front (history_of k p)) last next
unscreened q k p a front numbers last next law m few all apart = record {
  none = none;
  embeds = λ number name mol past within live.
      let marked = live_marked k p a front number name mol m few live in
      law.none mol marked.0 marked.1 (none number name mol past within live);
}
  where
    none : (number : ℕ) (name : List ℕ) (mol : Molecule) → last < number → number ≤ next → IsLive (take front (history_of k p)) number name mol → IsScreened q mol → ⊥
    none number name mol past within live is = apart number past within (all number name mol live is)

pub not_between : (numbers : List ℕ) (index last number : ℕ) → IsNext numbers index last number → (n : ℕ) → last < n → n ≤ number - 1 → Contains numbers n → ⊥
not_between numbers index last number next n past within (i, inside, is) =
    let here = next.after in
    let at = get_or_default numbers i n 0 inside in
    let found : slice_index numbers i ≡ n = sym at ∙ is in
    dite (dec_le index i)
    (λ late. let up = next.rising index i 0 late inside in let same = next.is in absurd (omega arith))
    (λ early. let low = next.passed i (lt_of_not-le early) in absurd (omega arith))

pub not_past : (numbers : List ℕ) (last front : ℕ) → ((i : ℕ) → i < length numbers → slice_index numbers i ≤ last) → (n : ℕ) → last < n → n ≤ front → Contains numbers n → ⊥
not_past numbers last front passed n past within (i, inside, is) =
    let at = get_or_default numbers i n 0 inside in
    let found : slice_index numbers i ≡ n = sym at ∙ is in
    let low = passed i inside in absurd (omega arith)

-- the search may go up to the number before the next
module _ (k : Shape) (a : Account) (query : QueryGraph) (front budget last : ℕ) (asked : QueryGraph) (own left count : ℕ) (hits : HitsKept) (w : Walked k a query front budget last asked own left count hits) (law : LosesNone query) (numbers : List ℕ) where
  walked_up : (b : Account) (index number : ℕ) → Grows a b → front ≤ b.log.seen → Whatever k b front (AllScreened query numbers) → IsNext numbers index last number → Whatever k b front (λ h. HasSearched asked h budget left (number - 1) count hits.hits)
  walked_up b index number grown seen all next p m =
      let few = seen_within k p b m front seen in
      let after = next.after in
      let none = unscreened query k p b front numbers last (number - 1) law m few (all p m) (not_between numbers index last number next) in
      subst (λ (g : QueryGraph). HasSearched g (take front (history_of k p)) budget left (number - 1) count hits.hits) (sym w.asked_is)
      (searched_skipped query (take front (history_of k p)) budget left last (number - 1) count hits.hits (omega arith) none (w.has p (board_before k a b grown p m)))

  pub walked_more : (b : Account) (index number : ℕ) (asked' : QueryGraph) (own' left' count' : ℕ) (hits' : HitsKept) → Grows a b → front ≤ b.log.seen → Whatever k b front (AllScreened query numbers) → IsNext numbers index last number → asked' ≡ asked → own' ≡ own → count' ≤ number
      → Whatever k b front (Takes number asked left count hits.hits left' count' hits'.hits) → Walked k b query front budget number asked' own' left' count' hits'
  walked_more b index number asked' own' left' count' hits' grown seen all next same own_same room takes = let after = next.after in record {
    asked_is = same ∙ w.asked_is;
    own_is = own_same ∙ w.own_is;
    room = room;
    has = λ p m. subst (λ (g : QueryGraph). HasSearched g (take front (history_of k p)) budget left' number count' hits'.hits) w.asked_is
        (takes p m budget (number - 1) (omega arith) (walked_up b index number grown seen all next p m));
  }

  pub walked_over : (b : Account) (index number : ℕ) → Grows a b → front ≤ b.log.seen → number ≤ front → Whatever k b front (AllScreened query numbers) → IsNext numbers index last number → Whatever k b front (Spends number asked left count hits.hits) → Replies k b query budget front over_budget
  walked_over b index number grown seen early all next spends = record {
    seen = seen;
    is = λ p m.
        let few = seen_within k p b m front seen in
        let after = next.after in
        let over = spends p m budget (number - 1) (omega arith) (walked_up b index number grown seen all next p m) in
        over-reply query (take front (history_of k p)) budget number (omega (arith, early, length-take-le front (history_of k p) few))
        (subst (λ (g : QueryGraph). IsOverTo g (take front (history_of k p)) budget number) w.asked_is over);
  }

  -- ---- the answer

  pub walked_found : (hits' : HitsKept) → front ≤ a.log.seen → last ≤ front → Whatever k a front (AllScreened query numbers) → ((i : ℕ) → i < length numbers → slice_index numbers i ≤ last) → hits'.hits ≡ hits.hits → hits'.records ≡ count → AreFound k a query budget front hits'
  walked_found hits' seen early all passed hits_are records_are = record {
    replies = record { seen = seen; is = λ p m. subst (λ (l : List Hit). IsReply query budget (take front (history_of k p)) (found l)) (sym hits_are) (found-reply query (history_of k p) front budget left count hits.hits (seen_within k p a m front seen) (whole p m)) };
    screened = λ p m. subst (λ (n : ℕ). Counts query (take front (history_of k p)) n) (sym records_are) (found-counts query (history_of k p) front budget left count hits.hits (seen_within k p a m front seen) (whole p m));
  }
    where
      whole : (p : Parts) → MayBe k p a → HasSearched query (take front (history_of k p)) budget left front count hits.hits
      whole p m =
          let few = seen_within k p a m front seen in
          let none = unscreened query k p a front numbers last front law m few (all p m) (not_past numbers last front passed) in
          searched_skipped query (take front (history_of k p)) budget left last front count hits.hits early none (w.has p m)

-- ---- the numbers that were passed

pub passed_more : (numbers : List ℕ) (index last number : ℕ) → IsNext numbers index last number → (i : ℕ) → i < index + 1 → slice_index numbers i ≤ number
passed_more numbers index last number next i below = let after = next.after in let same = next.is in dite (ℕ_discrete i index)
    (λ e. let here : slice_index numbers i ≡ slice_index numbers index = ap (slice_index numbers) e in omega arith)
    (λ other. let low = next.passed i (omega arith) in omega arith)

pub passed_one : (numbers : List ℕ) (index last : ℕ) → ((i : ℕ) → i < index → slice_index numbers i ≤ last) → slice_index numbers index ≤ last → (i : ℕ) → i < index + 1 → slice_index numbers i ≤ last
passed_one numbers index last passed low i below = dite (ℕ_discrete i index)
    (λ e. let here : slice_index numbers i ≡ slice_index numbers index = ap (slice_index numbers) e in omega arith)
    (λ other. passed i (omega arith))

-- ---- what the code reads

pub seen_still : (a b : Account) (front : ℕ) → Reads a b → a.log.seen ≡ front → b.log.seen ≡ front
seen_still a b front reads seen = ap (λ (l : LogAccount). l.seen) reads.log ∙ seen

pub some_read : (r : Option Live) (one : Live) (F : Live → Type 0) → r ≡ Some one → IfSome r F → F one
some_read r one F is h = subst (λ (o : Option Live). IfSome o F) is h

pub none_read : (r : Option Live) → r ≡ None → (let x : Result (Option Live) OutOfMemory = Ok r in x) ≡ Ok None
none_read r is = ap (λ (o : Option Live). let x : Result (Option Live) OutOfMemory = Ok o in x) is
