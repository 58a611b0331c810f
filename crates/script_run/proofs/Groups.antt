-- The jobs of a group: what each worker did of them, together.
use Rattle.std.proofs.Common.{◌≡◌, ℕ, zero, suc, ◌+◌, ◌%◌, ◌<◌, Bool, true, false, MatchBool, List, [], ◌∷◌, ◌++◌, length, map, take, All, refl, sym, ap, subst, ◌∙◌, arith}
use Rattle.std.proofs.lemmas.List.{length-map}
use Rattle.std.proofs.lemmas.List.Elements.{All-nil, All-cons}
use Rattle.std.proofs.lemmas.Nat.{mod_below}
use mathlib.Core.Option.{some, some-injective, some-ne-none}
use lib.ListN.{get_elem?}
use Rattle.htss_defs.specs.declared.shape.Shape.{Shape}
use Rattle.htss_defs.specs.declared.shape.Field.TheVariants.{Loaders, Searchers}
use Rattle.htss_defs.specs.Shapes.{IsShape}
use Rattle.script_text.specs.declared.script.Group.{Group}
use Rattle.script_text.specs.declared.script.Job.{Job}
use Rattle.script_text.specs.declared.script.Order.{Order}
use Rattle.script_text.specs.declared.script.Order.TheVariants.{Load, Withdraw, Search}
use Rattle.report_text.specs.declared.report.Block.{Block}
use Rattle.report_rules.specs.Dealing.{Dealt, caller_in_turn, dealt_from, dealt_group, loads_in, searches_in}
use Rattle.report_rules.specs.Reports.{Done, IsByItsFile, done_block}
use Rattle.board.specs.Seated.{Place, Seated}
use Rattle.board_core.specs.declared.account.Account.{Account}
use Rattle.board_core.proofs.Lists.{inside}
use Rattle.board_jobs.proofs.Places.{at_map, map_back}
use Rattle.board_jobs.specs.Answering.{who_of}
use Rattle.board_jobs.specs.Ends.{HaveGoneOn, caller_at}
use Rattle.board_jobs.specs.Groups.{AreDone, GroupIsDone}
use Rattle.script_run.specs.declared.gate.Worker.{Worker}
use Rattle.script_run.specs.declared.walk.Outcome.{Outcome}
use Rattle.script_run.specs.Meeting.{SawMost}
use Rattle.script_run.specs.Merging.{AreQueues, IsMerged, places_from, places_of}
use Rattle.script_run.specs.Walking.{Broke, DidAll, DidJobs, DidOwn, GroupIsBroken}
use Rattle.script_run.specs.Workers.{accounts_of, callers_of}
use Rattle.script_run.specs.Working.{AreCallers, OwnBroken, OwnDone}
use Rattle.script_run.proofs.Callers.{have_met, still_callers, who_there}
use Rattle.script_run.proofs.Merges.{blocks_in, same_places}
use Rattle.board_jobs.specs.Pruning.{SearchersStayPruned}
use Rattle.board_jobs.specs.Reading.{SearchersRead}
use Rattle.board_jobs.proofs.Rested.{group_pruned, group_read}
use Rattle.script_run.proofs.Places.{IsSeat, agree, loader_seat, one_there, or_there, searcher_seat, there}
use Rattle.script_run.proofs.Queues.{merged_mapped, merged_queues, one_merged}
use Rattle.script_run.proofs.Together.{AreOwn, together}
use Rattle.script_run.proofs.Walks.{broke_all, broke_answers, broke_none}

-- ---- what each worker did

pub did_count : (b : Place) (files : List (ℕ × List ℕ)) (budget : ℕ) (jobs : List Job) (cs ds : List Seated) (os : List Outcome)
    → DidAll b files budget jobs cs ds os → (length ds ≡ length cs) × (length os ≡ length cs)
did_count b files budget jobs [] [] [] did = (refl, refl)
did_count b files budget jobs (c ∷ cs) (d ∷ ds) (o ∷ os) did =
    let more = did_count b files budget jobs cs ds os did.1 in (ap suc more.0, ap suc more.1)
did_count b files budget jobs [] [] (o ∷ os) did = absurd did
did_count b files budget jobs [] (d ∷ ds) [] did = absurd did
did_count b files budget jobs [] (d ∷ ds) (o ∷ os) did = absurd did
did_count b files budget jobs (c ∷ cs) [] [] did = absurd did
did_count b files budget jobs (c ∷ cs) [] (o ∷ os) did = absurd did
did_count b files budget jobs (c ∷ cs) (d ∷ ds) [] did = absurd did

-- the worker at a place
pub did_at : (b : Place) (files : List (ℕ × List ℕ)) (budget : ℕ) (jobs : List Job) (cs ds : List Seated) (os : List Outcome) → DidAll b files budget jobs cs ds os
    → (i : ℕ) (c d : Seated) (o : Outcome) → get_elem? cs i ≡ some c → get_elem? ds i ≡ some d → get_elem? os i ≡ some o → DidOwn b files budget jobs c d o
did_at b files budget jobs [] ds os did i c d o ec ed eo = absurd (some-ne-none c (sym ec))
did_at b files budget jobs (x ∷ xs) [] os did i c d o ec ed eo = absurd (some-ne-none d (sym ed))
did_at b files budget jobs (x ∷ xs) (y ∷ ys) [] did i c d o ec ed eo = absurd (some-ne-none o (sym eo))
did_at b files budget jobs (x ∷ xs) (y ∷ ys) (p ∷ ps) did zero c d o ec ed eo =
    subst (λ (z : Outcome). DidOwn b files budget jobs c d z) (some-injective p o eo)
    (subst (λ (z : Seated). DidOwn b files budget jobs c z p) (some-injective y d ed)
    (subst (λ (z : Seated). DidOwn b files budget jobs z y p) (some-injective x c ec) did.0))
did_at b files budget jobs (x ∷ xs) (y ∷ ys) (p ∷ ps) did (suc i) c d o ec ed eo = did_at b files budget jobs xs ys ps did.1 i c d o ec ed eo

-- each stands at its place as before
pub worked_callers : (b : Place) (files : List (ℕ × List ℕ)) (budget : ℕ) (jobs : List Job) (cs ds : List Seated) (os : List Outcome)
    → AreCallers b cs → DidAll b files budget jobs cs ds os → AreCallers b ds
worked_callers b files budget jobs cs ds os all did =
    let count = did_count b files budget jobs cs ds os did in
    still_callers b cs ds all count.0
    (λ i c d ec ed.
    let o = there os i (omega (arith, inside cs i c ec, count.1)) in
    let own = did_at b files budget jobs cs ds os did i c d o.0 ec ed o.1 in
    (own.can, own.who))

-- ---- each has gone on by answers

-- whether all of its jobs were done or not
either_broke : (k : Shape) (files : List (ℕ × List ℕ)) (budget : ℕ) (jobs : List Job) (a b : Account) (blocks : List Block) (whole : Bool)
    → MatchBool whole (DidJobs k files budget jobs a b blocks) (Broke k files budget jobs a b) → Broke k files budget jobs a b
either_broke k files budget jobs a b blocks true did = broke_all k files budget jobs a b blocks did
either_broke k files budget jobs a b blocks false did = did

module _ {G : Type 0} where
  as_many_accounts : (ws : List (Worker G)) → length (accounts_of ws) ≡ length (callers_of ws)
  as_many_accounts [] = refl
  as_many_accounts (w ∷ ws) = ap suc (as_many_accounts ws)

  pub group_broken : (b : Place) (files : List (ℕ × List ℕ)) (budget : ℕ) (group : Group) (ws vs : List (Worker G)) (os : List Outcome)
      → AreCallers b (callers_of ws) → DidAll b files budget group.jobs (callers_of ws) (callers_of vs) os → GroupIsBroken b.shape files budget group (accounts_of ws) (accounts_of vs)
  group_broken b files budget group ws vs os all did =
      let cs : List Seated = callers_of ws in
      let ds : List Seated = callers_of vs in
      let count = did_count b files budget group.jobs cs ds os did in
      record {
        count = as_many_accounts vs ∙ count.0 ∙ sym (as_many_accounts ws);
        each = λ i x y before after number.
            let w = map_back (λ (z : Worker G). z.caller.account) ws i x before in
            let v = map_back (λ (z : Worker G). z.caller.account) vs i y after in
            let c : get_elem? cs i ≡ some w.0.caller = at_map (λ (z : Worker G). z.caller) ws i w.0 w.1 in
            let d : get_elem? ds i ≡ some v.0.caller = at_map (λ (z : Worker G). z.caller) vs i v.0 v.1 in
            let o = there os i (omega (arith, inside cs i w.0.caller c, count.1)) in
            let own = did_at b files budget group.jobs cs ds os did i w.0.caller v.0.caller o.0 c d o.1 in
            let jobs : List Dealt = dealt_group b.shape number group in
            let broke : OwnBroken b.shape files budget (caller_at b.shape i) w.0.caller.account v.0.caller.account jobs =
            either_broke b.shape files budget group.jobs w.0.caller.account v.0.caller.account o.0.blocks.items o.0.whole own.did number (caller_at b.shape i)
            (who_there b cs all i w.0.caller c) in
            subst (λ (z : Account). OwnBroken b.shape files budget (caller_at b.shape i) x z jobs) v.2
            (subst (λ (z : Account). OwnBroken b.shape files budget (caller_at b.shape i) z v.0.caller.account jobs) w.2 broke);
      }

  -- nothing was done yet
  pub group_unbegun : (k : Shape) (files : List (ℕ × List ℕ)) (budget : ℕ) (group : Group) (ws : List (Worker G)) → GroupIsBroken k files budget group (accounts_of ws) (accounts_of ws)
  group_unbegun k files budget group ws = record {
    count = refl;
    each = λ i x y before after number.
        subst (λ (z : Account). OwnBroken k files budget (caller_at k i) x z (dealt_group k number group)) (some-injective x y (sym before ∙ after)) (broke_none k files budget group.jobs x (caller_at k i) number);
  }

pub gone_on : (k : Shape) (files : List (ℕ × List ℕ)) (budget : ℕ) (group : Group) (first last : List Account) → GroupIsBroken k files budget group first last → HaveGoneOn k first last
gone_on k files budget group first last broke = record {
  count = broke.count;
  each = λ i a b before after. broke_answers k files budget (caller_at k i) a b (dealt_group k 0 group) (broke.each i a b before after 0);
}

-- ---- where all did their jobs

-- what the caller at this place did of the jobs, and its blocks tell it
record IsOwnAt (k : Shape) (files : List (ℕ × List ℕ)) (budget : ℕ) (jobs : List Dealt) (before after : List Account) (blocks : List (List Block)) (i : ℕ) (own : List Done) : Type 0 where
  did : (a b : Account) → get_elem? before i ≡ some a → get_elem? after i ≡ some b → OwnDone k files budget (caller_at k i) a b jobs own
  told : (l : List Block) → get_elem? blocks i ≡ some l → l ≡ map done_block own

-- a list of what there is at each place
module _ {A : Type 0} where
  at_places : (P : ℕ → A → Type 0) (x : A) (xs : List A) → P 0 x → ((i : ℕ) (a : A) → get_elem? xs i ≡ some a → P (suc i) a) → (i : ℕ) (a : A) → get_elem? (x ∷ xs) i ≡ some a → P i a
  at_places P x xs first rest zero a e = subst (λ (z : A). P 0 z) (some-injective x a e) first
  at_places P x xs first rest (suc i) a e = rest i a e

  listed : (P : ℕ → A → Type 0) (n : ℕ) → ((i : ℕ) → i < n → (a : A) × P i a) → (l : List A) × (length l ≡ n) × ((i : ℕ) (a : A) → get_elem? l i ≡ some a → P i a)
  listed P zero each = ([], refl, λ i a e. absurd (some-ne-none a (sym e)))
  listed P (suc n) each =
      let first = each 0 (omega arith) in
      let rest = listed (λ i. P (suc i)) n (λ i below. each (suc i) (omega arith)) in
      (first.0 ∷ rest.0, ap suc rest.1, at_places P first.0 rest.0 first.1 rest.2)

pub at_whole : (P Q : Type 0) (t : Bool) → t ≡ true → MatchBool t P Q → P
at_whole P Q t e did = subst (λ (z : Bool). MatchBool z P Q) e did

-- the one at this place did its jobs
own_told : (k : Shape) (files : List (ℕ × List ℕ)) (budget number : ℕ) (jobs : List Job) (before after : List Account) (blocks : List (List Block)) (i : ℕ) (a b : Account) (l : List Block)
    → get_elem? before i ≡ some a → get_elem? after i ≡ some b → get_elem? blocks i ≡ some l → who_of (caller_at k i) ≡ a.who → DidJobs k files budget jobs a b l
    → (own : List Done) × IsOwnAt k files budget (dealt_from k number 0 0 jobs) before after blocks i own
own_told k files budget number jobs before after blocks i a b l ea eb el who did =
    let dealt : List Dealt = dealt_from k number 0 0 jobs in
    let mine = did number (caller_at k i) who in (
      mine.0,
      record {
        did = λ x y ex ey.
            subst (λ (z : Account). OwnDone k files budget (caller_at k i) x z dealt mine.0) (one_there after i b y eb ey)
            (subst (λ (z : Account). OwnDone k files budget (caller_at k i) z b dealt mine.0) (one_there before i a x ea ex) mine.1);
        told = λ m em. one_there blocks i m l em el ∙ mine.2;
      },
    )

module _ {G : Type 0} where
  own_at : (b : Place) (files : List (ℕ × List ℕ)) (budget number : ℕ) (jobs : List Job) (ws vs : List (Worker G)) (os : List Outcome)
      → AreCallers b (callers_of ws) → DidAll b files budget jobs (callers_of ws) (callers_of vs) os → All (λ (o : Outcome). o.whole ≡ true) os → (i : ℕ) → i < length ws
      → (own : List Done) × IsOwnAt b.shape files budget (dealt_from b.shape number 0 0 jobs) (accounts_of ws) (accounts_of vs) (map blocks_in os) i own
  own_at b files budget number jobs ws vs os all did whole i below =
      let cs : List Seated = callers_of ws in
      let ds : List Seated = callers_of vs in
      let count = did_count b files budget jobs cs ds os did in
      let w = there ws i below in
      let c : get_elem? cs i ≡ some w.0.caller = at_map (λ (z : Worker G). z.caller) ws i w.0 w.1 in
      let v = there vs i (omega (arith, below, count.0, length-map ws (λ (z : Worker G). z.caller), length-map vs (λ (z : Worker G). z.caller))) in
      let d : get_elem? ds i ≡ some v.0.caller = at_map (λ (z : Worker G). z.caller) vs i v.0 v.1 in
      let o = there os i (omega (arith, inside cs i w.0.caller c, count.1)) in
      let own = did_at b files budget jobs cs ds os did i w.0.caller v.0.caller o.0 c d o.1 in
      let full : o.0.whole ≡ true = subst (λ (z : Outcome). z.whole ≡ true) (or_there os i o.0 o.0 o.1) (whole i o.0 (inside os i o.0 o.1)) in
      own_told b.shape files budget number jobs (accounts_of ws) (accounts_of vs) (map blocks_in os) i w.0.caller.account v.0.caller.account o.0.blocks.items
      (at_map (λ (z : Worker G). z.caller.account) ws i w.0 w.1) (at_map (λ (z : Worker G). z.caller.account) vs i v.0 v.1) (at_map blocks_in os i o.0 o.1) (who_there b cs all i w.0.caller c)
      (at_whole (DidJobs b.shape files budget jobs w.0.caller.account v.0.caller.account o.0.blocks.items) (Broke b.shape files budget jobs w.0.caller.account v.0.caller.account) o.0.whole full own.did)

  -- the list of each worker's own, and its blocks tell it
  own_lists : (b : Place) (files : List (ℕ × List ℕ)) (budget number : ℕ) (jobs : List Job) (ws vs : List (Worker G)) (os : List Outcome)
      → AreCallers b (callers_of ws) → DidAll b files budget jobs (callers_of ws) (callers_of vs) os → All (λ (o : Outcome). o.whole ≡ true) os
      → (owns : List (List Done)) × AreOwn b.shape files budget (dealt_from b.shape number 0 0 jobs) (accounts_of ws) (accounts_of vs) owns
      × (map blocks_in os ≡ map (λ (own : List Done). map done_block own) owns)
  own_lists b files budget number jobs ws vs os all did whole =
      let dealt : List Dealt = dealt_from b.shape number 0 0 jobs in
      let P : ℕ → List Done → Type 0 = IsOwnAt b.shape files budget dealt (accounts_of ws) (accounts_of vs) (map blocks_in os) in
      let owns = listed P (length ws) (own_at b files budget number jobs ws vs os all did whole) in
      let count = did_count b files budget jobs (callers_of ws) (callers_of vs) os did in
      let workers = length-map ws (λ (z : Worker G). z.caller) in
      let lists : length (map blocks_in os) ≡ length (map (λ (own : List Done). map done_block own) owns.0) =
      length-map os blocks_in ∙ count.1 ∙ workers ∙ sym owns.1 ∙ sym (length-map owns.0 (λ (own : List Done). map done_block own)) in (
        owns.0,
        record {
          count = as_many_accounts vs ∙ count.0 ∙ sym (as_many_accounts ws);
          lists = owns.1 ∙ sym workers ∙ sym (as_many_accounts ws);
          each = λ i x y own before after at. (owns.2 i own at).did x y before after;
        },
        agree (map blocks_in os) (map (λ (own : List Done). map done_block own) owns.0) lists
            (λ i x y ex ey.
            let own = map_back (λ (z : List Done). map done_block z) owns.0 i y ey in
            (owns.2 i own.0 own.1).told x ex ∙ own.2),
      )

-- each job is dealt to one of the callers
seat_for : (k : Shape) (n loads searches : ℕ) (order : Order) → IsShape k → n ≡ k.loaders + k.searchers → IsSeat k n (caller_in_turn k loads searches order)
seat_for k n loads searches (Load file) shape count = loader_seat k (loads % k.loaders) n (mod_below loads k.loaders (shape Loaders).0) (omega arith)
seat_for k n loads searches (Withdraw number) shape count = loader_seat k (loads % k.loaders) n (mod_below loads k.loaders (shape Loaders).0) (omega arith)
seat_for k n loads searches (Search file budget) shape count = searcher_seat k (searches % k.searchers) n (mod_below searches k.searchers (shape Searchers).0) (omega arith)

seats_for : (k : Shape) (n number loads searches : ℕ) (jobs : List Job) → IsShape k → n ≡ k.loaders + k.searchers → All (λ (j : Dealt). IsSeat k n j.caller) (dealt_from k number loads searches jobs)
seats_for k n number loads searches [] shape count = All-nil (λ (j : Dealt). IsSeat k n j.caller)
seats_for k n number loads searches (job ∷ jobs) shape count =
    All-cons (λ (j : Dealt). IsSeat k n j.caller) (record { group = number; caller = caller_in_turn k loads searches job.order; job = job })
    (dealt_from k number (loads + loads_in job.order) (searches + searches_in job.order) jobs) (seat_for k n loads searches job.order shape count)
    (seats_for k n number (loads + loads_in job.order) (searches + searches_in job.order) jobs shape count)

-- what is known of the outcomes as they were lent, which are all
module _ {A : Type 0} where
  first_ones : (xs ys : List A) → take (length xs) (xs ++ ys) ≡ xs
  first_ones [] ys = refl
  first_ones (x ∷ xs) ys = ap (λ (l : List A). x ∷ l) (first_ones xs ys)

  lent_all : (lent xs ys : List A) (n : ℕ) → lent ≡ take n (xs ++ ys) → n ≡ length xs → lent ≡ xs
  lent_all lent xs ys n part all = part ∙ ap (λ (m : ℕ). take m (xs ++ ys)) all ∙ first_ones xs ys

pub all_whole : (lent os more : List Outcome) (n : ℕ) → lent ≡ take n (os ++ more) → n ≡ length os → All (λ (o : Outcome). o.whole ≡ true) lent → All (λ (o : Outcome). o.whole ≡ true) os
all_whole lent os more n part all whole = subst (λ (l : List Outcome). All (λ (o : Outcome). o.whole ≡ true) l) (lent_all lent os more n part all) whole

pub lent_queues : (k shape : Shape) (jobs : List Job) (lent os more : List Outcome) (n : ℕ) → lent ≡ take n (os ++ more) → n ≡ length os → shape ≡ k
    → AreQueues (places_from k 0 0 jobs) (map blocks_in os) → AreQueues (places_from shape 0 0 jobs) (map blocks_in lent)
lent_queues k shape jobs lent os more n part all same queues =
    subst (λ (s : Shape). AreQueues (places_from s 0 0 jobs) (map blocks_in lent)) (sym same)
    (subst (λ (l : List Outcome). AreQueues (places_from k 0 0 jobs) (map blocks_in l)) (sym (lent_all lent os more n part all)) queues)

pub all_merged : (k shape : Shape) (jobs : List Job) (blocks : List Block) (lent os more : List Outcome) (n : ℕ) → lent ≡ take n (os ++ more) → n ≡ length os → shape ≡ k
    → IsMerged (places_from shape 0 0 jobs) (map blocks_in lent) blocks → IsMerged (places_from k 0 0 jobs) (map blocks_in os) blocks
all_merged k shape jobs blocks lent os more n part all same merged =
    subst (λ (l : List Outcome). IsMerged (places_from k 0 0 jobs) (map blocks_in l) blocks) (lent_all lent os more n part all)
    (subst (λ (s : Shape). IsMerged (places_from s 0 0 jobs) (map blocks_in lent) blocks) same merged)

module _ {G : Type 0} where
  -- the jobs are done in their order, and the blocks of all workers, merged, tell them
  record AreAllDone (b : Place) (files : List (ℕ × List ℕ)) (budget number : ℕ) (jobs : List Job) (ws xs : List (Worker G)) (os : List Outcome) : Type 0 where
    done : List Done
    dealt_are : map (λ one. one.dealt) done ≡ dealt_from b.shape number 0 0 jobs
    by_files : All (IsByItsFile files budget) done
    are_done : AreDone b.shape (accounts_of ws) (accounts_of xs) done
    merged : IsMerged (places_from b.shape 0 0 jobs) (map blocks_in os) (map done_block done)

  all_done : (b : Place) (files : List (ℕ × List ℕ)) (budget number : ℕ) (jobs : List Job) (ws xs : List (Worker G)) (os : List Outcome)
      → IsShape b.shape → AreCallers b (callers_of ws) → DidAll b files budget jobs (callers_of ws) (callers_of xs) os → All (λ (o : Outcome). o.whole ≡ true) os
      → AreAllDone b files budget number jobs ws xs os
  all_done b files budget number jobs ws xs os shape all did whole =
      let k : Shape = b.shape in
      let before : List Account = accounts_of ws in
      let owns = own_lists b files budget number jobs ws xs os all did whole in
      let t = together k files budget (dealt_from k number 0 0 jobs) before (accounts_of xs) owns.0
      (seats_for k (length before) number 0 0 jobs shape (as_many_accounts ws ∙ all.count)) owns.1 in
      record {
        done = t.done;
        dealt_are = t.dealt_are;
        by_files = t.by_files;
        are_done = t.are_done;
        merged =
            subst (λ (l : List ℕ). IsMerged l (map blocks_in os) (map done_block t.done)) (same_places k number 0 0 0 jobs)
            (subst (λ (l : List (List Block)). IsMerged (places_of k (dealt_from k number 0 0 jobs)) l (map done_block t.done)) (sym owns.2)
            (merged_mapped done_block (places_of k (dealt_from k number 0 0 jobs)) owns.0 t.done t.merged));
      }

  -- the blocks of each worker are as many as its place is listed
  pub all_queues : (b : Place) (files : List (ℕ × List ℕ)) (budget : ℕ) (jobs : List Job) (ws xs : List (Worker G)) (os : List Outcome)
      → IsShape b.shape → AreCallers b (callers_of ws) → DidAll b files budget jobs (callers_of ws) (callers_of xs) os → All (λ (o : Outcome). o.whole ≡ true) os
      → AreQueues (places_from b.shape 0 0 jobs) (map blocks_in os)
  all_queues b files budget jobs ws xs os shape all did whole =
      let are = all_done b files budget 0 jobs ws xs os shape all did whole in
      merged_queues (places_from b.shape 0 0 jobs) (map blocks_in os) (map done_block are.done) are.merged

  -- the jobs are done, their blocks stand in their order, and the callers have met
  pub group_done : (b : Place) (files : List (ℕ × List ℕ)) (budget number : ℕ) (group : Group) (ws xs ys : List (Worker G)) (os : List Outcome) (blocks : List Block)
      → IsShape b.shape → AreCallers b (callers_of ws) → DidAll b files budget group.jobs (callers_of ws) (callers_of xs) os → All (λ (o : Outcome). o.whole ≡ true) os
      → SawMost (callers_of xs) (callers_of ys)
      → IsMerged (places_from b.shape 0 0 group.jobs) (map blocks_in os) blocks
      → (front : ℕ) × (done : List Done) × GroupIsDone b.shape files budget number group (accounts_of ws) (accounts_of ys) front done × (blocks ≡ map done_block done)
  group_done b files budget number group ws xs ys os blocks shape all did whole met merged =
      let are = all_done b files budget number group.jobs ws xs os shape all did whole in (
        met.most,
        are.done,
        record { dealt_are = are.dealt_are; by_files = are.by_files; between = accounts_of xs; jobs = are.are_done; met = have_met xs ys met },
        one_merged (places_from b.shape 0 0 group.jobs) (map blocks_in os) blocks (map done_block are.done) merged are.merged,
      )

  -- what searchers have loaded is pruned
  pub group_prunes : (b : Place) (files : List (ℕ × List ℕ)) (budget : ℕ) (group : Group) (ws xs ys : List (Worker G)) (os : List Outcome)
      → IsShape b.shape → AreCallers b (callers_of ws) → AreCallers b (callers_of ys) → DidAll b files budget group.jobs (callers_of ws) (callers_of xs) os → All (λ (o : Outcome). o.whole ≡ true) os
      → SawMost (callers_of xs) (callers_of ys) → SearchersStayPruned b.shape (accounts_of ws) (accounts_of ys)
  group_prunes b files budget group ws xs ys os shape all last did whole met =
      let are = all_done b files budget 0 group.jobs ws xs os shape all did whole in
      group_pruned b.shape (accounts_of ws) files budget 0 group (accounts_of ys) met.most are.done shape (as_many_accounts ys ∙ last.count)
      (record { dealt_are = are.dealt_are; by_files = are.by_files; between = accounts_of xs; jobs = are.are_done; met = have_met xs ys met })

  -- and of screened records
  pub group_reads : (b : Place) (files : List (ℕ × List ℕ)) (budget : ℕ) (group : Group) (ws xs ys : List (Worker G))
      (os : List Outcome)
      → IsShape b.shape → AreCallers b (callers_of ws) → AreCallers b (callers_of ys)
      → DidAll b files budget group.jobs (callers_of ws) (callers_of xs) os
      → All (λ (o : Outcome). o.whole ≡ true) os
      → SawMost (callers_of xs) (callers_of ys) → SearchersRead b.shape (accounts_of ws) (accounts_of ys)
  group_reads b files budget group ws xs ys os shape all last did whole met =
      let are = all_done b files budget 0 group.jobs ws xs os shape all did whole in
      group_read b.shape (accounts_of ws) files budget 0 group (accounts_of ys) met.most are.done shape
      (as_many_accounts ys ∙ last.count)
      (record {
        dealt_are = are.dealt_are;
        by_files = are.by_files;
        between = accounts_of xs;
        jobs = are.are_done;
        met = have_met xs ys met;
      })
