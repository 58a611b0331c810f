-- The names, atoms and bonds that a searcher loads for each search stay those of screened records, and all of these.
use Rattle.std.proofs.Common.{◌≡◌, ℕ, ◌+◌, ◌≤◌, List, [], ◌∷◌, ◌++◌, length, take}
use Rattle.std.proofs.Common.{sym, refl, ap, ◌∙◌, subst, ⊎_elim, arith}
use mathlib.Core.Option.{some}
use lib.ListN.{get_elem?}
use Rattle.htss_defs.specs.declared.shape.Shape.{Shape}
use Rattle.htss_defs.specs.declared.history.Hit.{Hit}
use Rattle.htss_defs.specs.History.{IsLive}
use Rattle.htss_defs.specs.Molecule.{Molecule}
use Rattle.htss_defs.specs.QueryGraph.{QueryGraph}
use Rattle.htss_defs.specs.Screened.{IsScreened}
use Rattle.board_core.specs.declared.account.Account.{Account}
use Rattle.board_core.specs.declared.entry.Entry.TheVariants.{Answered}
use Rattle.board_core.specs.declared.entry.Noted.{Noted}
use Rattle.board_core.specs.declared.entry.Reply.{Reply}
use Rattle.board_core.specs.declared.entry.Reply.TheVariants.{Hits}
use Rattle.board_core.specs.declared.loads.Loads.{Loads}
use Rattle.board_core.specs.declared.loads.WordLoad.{WordLoad}
use Rattle.board_core.specs.Words.{Parts}
use Rattle.board_core.specs.Histories.{block_at, history_of}
use Rattle.board_core.specs.MarkRule.{ShowsAt}
use Rattle.board_core.specs.Loaded.{Grows}
use Rattle.board_core.specs.Steps.{MayBe}
use Rattle.board_core.proofs.Grown.{board_before, grows_quiet}
use Rattle.board_core.proofs.Lists.{at_end, inside}
use Rattle.searcher.specs.Records.{IsOfScreened, IsTextPlace, ReadsAllScreened, ReadsScreened}
use Rattle.searcher.proofs.Records.{at_before}
use Rattle.searcher.proofs.Whole.{facts_grown}
use Rattle.board_jobs.specs.Groups.{with_seen}
use Rattle.board_jobs.specs.Pruning.{began_at, size_after, facts_then}
use Rattle.board_jobs.specs.Reading.{AreRead, IsLoadedFor}
use Rattle.board_jobs.proofs.Pruned.{began_last, began_left}

-- what is kept of a searcher, of its answers from one on
pub record ReadKept (k : Shape) (first : ℕ) (es : List Noted) (a : Account) : Type 0 where
  pub within : (i : ℕ) (e : Noted) → first ≤ i → get_elem? es i ≡ some e → e.at.facts ≤ length a.loads.facts
  pub read : (p : Parts) → MayBe k p a → AreRead k p first es a.loads.facts

pub read_none : (k : Shape) (es : List Noted) (a : Account) → ReadKept k (length es) es a
read_none k es a = record {
  within = λ i e from there. absurd (past i e from there);
  read = λ p m. record {
    only = λ i e query budget front reply from there. absurd (past i e from there);
    all = λ i e query budget front hits from there. absurd (past i e from there);
  };
}
  where
    past : (i : ℕ) (e : Noted) → length es ≤ i → get_elem? es i ≡ some e → ⊥
    past i e from there = let below = inside es i e there in omega (arith, from, below)

-- callers that meet load nothing
pub read_seen : (k : Shape) (first : ℕ) (es : List Noted) (a : Account) (front : ℕ) → a.log.seen ≤ front
    → ReadKept k first es a → ReadKept k first es (with_seen front a)
read_seen k first es a front more kept = record {
  within = kept.within;
  read = λ p m. kept.read p (board_before k a (with_seen front a)
      (grows_quiet a (with_seen front a) more refl (λ i y here. here)) p m);
}

-- nothing was loaded
pub read_quiet : (k : Shape) (first : ℕ) (es : List Noted) (a b : Account) → Grows a b → b.loads ≡ a.loads
    → ReadKept k first es a → ReadKept k first es b
read_quiet k first es a b grown same kept = record {
  within = λ i e from there. subst (λ (l : Loads). e.at.facts ≤ length l.facts) (sym same) (kept.within i e from there);
  read = λ p m. subst (λ (l : Loads). AreRead k p first es l.facts) (sym same)
      (kept.read p (board_before k a b grown p m));
}

-- one search more
module _ (k : Shape) (first : ℕ) (es : List Noted) (a b : Account) (f : Noted) (query : QueryGraph) (budget front : ℕ)
    (told : Reply) (grown : Grows a b) (rest : size_after facts_then 0 es ≡ length a.loads.facts)
    (entry : f.entry ≡ Answered query budget front told) (at_facts : f.at.facts ≡ length b.loads.facts)
    (read : ReadsScreened k query front a b)
    (all : (hits : List Hit) → told ≡ Hits hits → ReadsAllScreened k query front a b) where
  -- the search is one entry's alone
  same_search : (q : QueryGraph) (own at : ℕ) (r : Reply) → Answered query budget front told ≡ Answered q own at r
      → (query ≡ q) × (front ≡ at) × (told ≡ r)
  same_search q own at r e = (cc, cc, cc)

  told_for : (i : ℕ) (e : Noted) (q : QueryGraph) (own at : ℕ) (r : Reply) → f ≡ e → e.entry ≡ Answered q own at r
      → (query ≡ q) × (front ≡ at) × (told ≡ r)
  told_for i e q own at r same is = same_search q own at r (sym entry ∙ (ap (λ (x : Noted). x.entry) same ∙ is))

  -- what was loaded for an answer before is that which was
  loaded_old : (i : ℕ) (e : Noted) (l : WordLoad) → get_elem? es i ≡ some e → e.at.facts ≤ length a.loads.facts
      → IsLoadedFor i e (es ++ f ∷ []) b.loads.facts l → IsLoadedFor i e es a.loads.facts l
  loaded_old i e l there within is =
      let began = began_left facts_then 0 es (f ∷ []) i (inside es i e there) in
      let from = is.from in
      let to = is.to in
      record {
        index = is.index;
        from = omega (arith, began, from);
        to = to;
        there = at_before a b grown is.index l (omega (arith, to, within)) is.there;
      }

  loaded_still : (i : ℕ) (e : Noted) (l : WordLoad) → get_elem? es i ≡ some e → IsLoadedFor i e es a.loads.facts l
      → IsLoadedFor i e (es ++ f ∷ []) b.loads.facts l
  loaded_still i e l there is =
      let began = began_left facts_then 0 es (f ∷ []) i (inside es i e there) in
      let from = is.from in
      record {
        index = is.index;
        from = omega (arith, began, from);
        to = is.to;
        there = grown.facts is.index l is.there;
      }

  -- and for this one it is all past that
  began_now : (i : ℕ) → i ≡ length es → began_at facts_then 0 (es ++ f ∷ []) i ≡ length a.loads.facts
  began_now i is = ap (began_at facts_then 0 (es ++ f ∷ [])) is ∙ (began_last facts_then 0 es f ∙ rest)

  only_new : (p : Parts) → MayBe k p b → (i : ℕ) (e : Noted) (q : QueryGraph) (own at : ℕ) (r : Reply) → i ≡ length es
      → f ≡ e → e.entry ≡ Answered q own at r
      → (l : WordLoad) → IsLoadedFor i e (es ++ f ∷ []) b.loads.facts l → IsOfScreened k p q at l.place
  only_new p m i e q own at r place same is l loaded =
      let began = began_now i place in
      let from = loaded.from in
      let (query_is, front_is, _) = told_for i e q own at r same is in
      let here : IsOfScreened k p query front l.place = read p m loaded.index l
      (omega (arith, from, began)) loaded.there in
      subst (λ (x : QueryGraph). IsOfScreened k p x at l.place) query_is
      (subst (λ (n : ℕ). IsOfScreened k p query n l.place) front_is here)

  all_new : (p : Parts) → MayBe k p b → (i : ℕ) (e : Noted) (q : QueryGraph) (own at : ℕ) (hits : List Hit)
      → i ≡ length es → f ≡ e → e.entry ≡ Answered q own at (Hits hits)
      → (number : ℕ) (name : List ℕ) (mol : Molecule) → IsLive (take at (history_of k p)) number name mol
      → IsScreened q mol → (block : ℕ) → ShowsAt p.log.front p.log.slots block number
      → (index : ℕ) → IsTextPlace (block_at k p.regions block 0) index
      → (l : WordLoad) × IsLoadedFor i e (es ++ f ∷ []) b.loads.facts l × (l.place ≡ block + index)
  all_new p m i e q own at hits place same is number name mol live screened block shows index text =
      let began = began_now i place in
      let (query_is, front_is, told_is) = told_for i e q own at (Hits hits) same is in
      let was_live = subst (λ (n : ℕ). IsLive (take n (history_of k p)) number name mol) (sym front_is) live in
      let was_screened = subst (λ (x : QueryGraph). IsScreened x mol) (sym query_is) screened in
      let (j, l, past, there, placed) =
      all hits told_is p m number name mol was_live was_screened block shows index text in
      let below = inside b.loads.facts j l there in
      let end : e.at.facts ≡ length b.loads.facts = ap (λ (x : Noted). x.at.facts) (sym same) ∙ at_facts in
      let loaded : IsLoadedFor i e (es ++ f ∷ []) b.loads.facts l =
      record { index = j; from = omega (arith, began, past); to = omega (arith, below, end); there = there } in
      (l, loaded, placed)

  pub read_more : ReadKept k first es a → ReadKept k first (es ++ f ∷ []) b
  read_more kept = record {
    within = λ i e from there. ⊎_elim
        (λ (t : get_elem? es i ≡ some e).
        let old = kept.within i e from t in
        let more = facts_grown a b grown in
        omega (arith, old, more))
        (λ (t : (i ≡ length es) × (f ≡ e)). subst (λ (x : Noted). x.at.facts ≤ length b.loads.facts) t.1
        (omega (arith, at_facts)))
        (at_end es f e i there);
    read = λ p m.
        let was = kept.read p (board_before k a b grown p m) in
        record {
          only = λ i e q own at r from there is l loaded. ⊎_elim
              (λ (t : get_elem? es i ≡ some e). was.only i e q own at r from t is l
              (loaded_old i e l t (kept.within i e from t) loaded))
              (λ (t : (i ≡ length es) × (f ≡ e)). only_new p m i e q own at r t.0 t.1 is l loaded)
              (at_end es f e i there);
          all = λ i e q own at hits from there is number name mol live screened block shows index text. ⊎_elim
              (λ (t : get_elem? es i ≡ some e).
              let (l, loaded, placed) =
              was.all i e q own at hits from t is number name mol live screened block shows index text in
              (l, loaded_still i e l t loaded, placed))
              (λ (t : (i ≡ length es) × (f ≡ e)).
              all_new p m i e q own at hits t.0 t.1 is number name mol live screened block shows index text)
              (at_end es f e i there);
        };
  }
