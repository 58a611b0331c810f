-- The blocks of several workers, taken in turn.
use Rattle.std.proofs.Common.{◌≡◌, ℕ, zero, suc, ◌+◌, ◌<◌, ◌≤◌, List, [], ◌∷◌, ◌++◌, map, length, take, drop, set, get_or, refl, sym, ap, subst, ◌∙◌, arith, append_assoc, append-nil}
use lib.Seq.{map-set}
use Rattle.std.proofs.lemmas.List.{drop_all, get_or-map}
use Rattle.htss_defs.specs.declared.shape.Shape.{Shape}
use Rattle.script_text.specs.declared.script.Job.{Job}
use Rattle.script_text.specs.declared.script.Order.{Order}
use Rattle.script_text.specs.declared.script.Order.TheVariants.{Load, Withdraw, Search}
use Rattle.report_text.specs.declared.report.Block.{Block}
use Rattle.report_rules.specs.Dealing.{dealt_from, caller_in_turn, loads_in, searches_in}
use Rattle.board_jobs.specs.Groups.{place_of}
use Rattle.script_run.specs.Merging.{AreQueues, IsMerged, places_from, places_of}
use Rattle.script_run.specs.declared.walk.Outcome.{Outcome}
use Rattle.script_run.proofs.Queues.{in_turn, turns_merged}

module _ {A : Type 0} where
  drop_first : (l : List A) (i : ℕ) (a : A) → i < length l → a ≡ get_or l i a → drop i l ≡ a ∷ drop (suc i) l
  drop_first [] i a h e = absurd (omega arith)
  drop_first (x ∷ xs) zero a h e = λ k. sym e k ∷ xs
  drop_first (x ∷ xs) (suc i) a h e = drop_first xs i a (omega arith) e

  pub drop_here : (l : List A) (i : ℕ) (a : A) → i < length l → a ≡ get_or l i a → drop i l ≡ a ∷ drop (i + 1) l
  drop_here l i a h e = let n : suc i ≡ i + 1 = omega arith in drop_first l i a h e ∙ ap (λ (m : ℕ). a ∷ drop m l) n

-- an order is one load or withdrawal, or one search
pub counts_few : (order : Order) → loads_in order + searches_in order ≤ 1
counts_few (Load file) = omega arith
counts_few (Withdraw number) = omega arith
counts_few (Search file budget) = omega arith

abbrev pub blocks_in : Outcome → List Block
blocks_in o = o.blocks.items

-- the group's number does not matter for the places
pub same_places : (k : Shape) (n m loads searches : ℕ) (jobs : List Job) → places_of k (dealt_from k n loads searches jobs) ≡ places_of k (dealt_from k m loads searches jobs)
same_places k n m loads searches [] = refl
same_places k n m loads searches (job ∷ jobs) =
    ap (λ (l : List ℕ). place_of k (caller_in_turn k loads searches job.order) ∷ l) (same_places k n m (loads + loads_in job.order) (searches + searches_in job.order) jobs)

-- one job more
pub merge_next : (k : Shape) (loads searches loads' searches' : ℕ) (jobs : List Job) (i : ℕ) (job : Job) (all blocks now : List Block) (outcomes : List Outcome) (place : ℕ) (o next : Outcome)
    → i < length jobs → job ≡ get_or jobs i job → place ≡ place_of k (caller_in_turn k loads searches job.order) → place < length outcomes
    → loads' ≡ loads + loads_in job.order → searches' ≡ searches + searches_in job.order
    → blocks_in next ≡ drop 1 (blocks_in (get_or outcomes place o)) → now ≡ blocks ++ take 1 (blocks_in (get_or outcomes place o))
    → all ≡ blocks ++ in_turn (places_from k loads searches (drop i jobs)) (map blocks_in outcomes)
    → all ≡ now ++ in_turn (places_from k loads' searches' (drop (i + 1) jobs)) (map blocks_in (set outcomes place next))
merge_next k loads searches loads' searches' jobs i job all blocks now outcomes place o next below at is within l s rest taken whole =
    let queues : List (List Block) = map blocks_in outcomes in
    let q : List Block = blocks_in (get_or outcomes place o) in
    let here : get_or queues place [] ≡ q = get_or-map blocks_in outcomes place o [] within in
    let after : List ℕ = places_from k (loads + loads_in job.order) (searches + searches_in job.order) (drop (i + 1) jobs) in
    let step : in_turn (places_from k loads searches (drop i jobs)) queues ≡ take 1 q ++ in_turn after (set queues place (drop 1 q)) =
    ap (λ (x : List Job). in_turn (places_from k loads searches x) queues) (drop_here jobs i job below at)
    ∙ ap (λ (p : ℕ). in_turn (p ∷ after) queues) (sym is)
    ∙ ap (λ (x : List Block). take 1 x ++ in_turn after (set queues place (drop 1 x))) here in
    let kept : set queues place (drop 1 q) ≡ map blocks_in (set outcomes place next) =
    ap (λ (x : List Block). set queues place x) (sym rest) ∙ sym (map-set blocks_in outcomes place next) in
    let last : List ℕ = places_from k loads' searches' (drop (i + 1) jobs) in
    let counted : after ≡ last =
    ap (λ (n : ℕ). places_from k n (searches + searches_in job.order) (drop (i + 1) jobs)) (sym l) ∙ ap (λ (n : ℕ). places_from k loads' n (drop (i + 1) jobs)) (sym s) in
    whole ∙ ap (λ (x : List Block). blocks ++ x) step
    ∙ sym (append_assoc blocks (take 1 q) (in_turn after (set queues place (drop 1 q))))
    ∙ ap (λ (x : List Block). x ++ in_turn after (set queues place (drop 1 q))) (sym taken)
    ∙ ap (λ (x : List (List Block)). now ++ in_turn after x) kept
    ∙ ap (λ (x : List ℕ). now ++ in_turn x (map blocks_in (set outcomes place next))) counted

-- all jobs
pub merge_all : (k : Shape) (loads searches : ℕ) (jobs all : List Job) (i : ℕ) (blocks : List Block) (first now : List Outcome) → length jobs ≤ i → jobs ≡ all
    → AreQueues (places_from k 0 0 all) (map blocks_in first)
    → in_turn (places_from k 0 0 jobs) (map blocks_in first) ≡ blocks ++ in_turn (places_from k loads searches (drop i jobs)) (map blocks_in now)
    → IsMerged (places_from k 0 0 all) (map blocks_in first) blocks
merge_all k loads searches jobs all i blocks first now past is queues whole =
    let done : in_turn (places_from k 0 0 all) (map blocks_in first) ≡ blocks =
    ap (λ (x : List Job). in_turn (places_from k 0 0 x) (map blocks_in first)) (sym is) ∙ whole
    ∙ ap (λ (x : List Job). blocks ++ in_turn (places_from k loads searches x) (map blocks_in now)) (drop_all i jobs past) ∙ append-nil blocks in
    subst (λ (x : List Block). IsMerged (places_from k 0 0 all) (map blocks_in first) x) done (turns_merged (places_from k 0 0 all) (map blocks_in first) queues)
