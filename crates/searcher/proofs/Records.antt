-- Words of blocks that were loaded are those of screened records.
use Rattle.std.proofs.Common.{◌≡◌, ℕ, zero, suc, ◌+◌, ◌<◌, ◌≤◌, List, [], ◌∷◌, length, slice_index, refl, sym, ap, ◌∙◌, subst, ⊎_elim, arith, lt_of_not-le}
use mathlib.Core.Option.{some, some-injective}
use mathlib.Core.Logic.{dite}
use native.Mathlib.Decide.{dec_le}
use lib.ListN.{get_elem?}
use Rattle.htss_defs.specs.declared.shape.Shape.{Shape}
use Rattle.htss_defs.specs.QueryGraph.{QueryGraph}
use Rattle.board_core.specs.declared.account.Account.{Account}
use Rattle.board_core.specs.declared.entry.Entry.{Entry}
use Rattle.board_core.specs.declared.loads.WordLoad.{WordLoad}
use Rattle.board_core.specs.Words.{Parts}
use Rattle.board_core.specs.LogWord.{kind_in, target_in}
use Rattle.board_core.specs.Blocks.{block_size, molecule_in, name_in}
use Rattle.board_core.specs.Histories.{block_at}
use Rattle.board_core.specs.MarkRule.{ShowsAt}
use Rattle.board_core.specs.After.{after_answer, after_fact, after_front, noted}
use Rattle.board_core.specs.Loaded.{Grows, HasLoaded, KnowsHead}
use Rattle.board_core.specs.Steps.{MayBe}
use Rattle.board.specs.Seated.{Seated, with_account}
use Rattle.board_core.proofs.Lists.{at_end, inside}
use Rattle.board_core.proofs.Grown.{board_before, entries_added, grows_quiet, loaded_stays, mark_stays}
use Rattle.board_core.proofs.BlockCauses.{loaded_behind, loaded_live}
use Rattle.searcher.specs.Finding.{Visits}
use Rattle.searcher.specs.Searched.{Loads}
use Rattle.searcher.specs.Walking.{IsOpenBlock, Whatever}
use Rattle.searcher.specs.Records.{AreOfScreened, IsOfBlock, IsOfLive, IsOfScreened, ReadsAt, ReadsOnly, ReadsScreened}

-- ---- what was loaded past an account

pub elem_at : {A : Type 0} (l : List A) (i : ℕ) → i < length l → (a : A) × (get_elem? l i ≡ some a)
elem_at [] i below = absurd (omega arith)
elem_at (x ∷ xs) zero below = (x, refl)
elem_at (x ∷ xs) (suc i) below = elem_at xs i (omega arith)

-- what stands at a place that was there before was there
pub at_before : (b c : Account) → Grows b c → (j : ℕ) (l : WordLoad) → j < length b.loads.facts → get_elem? c.loads.facts j ≡ some l → get_elem? b.loads.facts j ≡ some l
at_before b c grown j l below there =
    let old = elem_at b.loads.facts j below in
    old.1 ∙ ap some (some-injective old.0 l (sym (grown.facts j old.0 old.1) ∙ there))

pub at_none : (a b : Account) (Is : ℕ → Type 0) → length b.loads.facts ≡ length a.loads.facts → ReadsAt a b Is
at_none a b Is same j l past there = let below = inside b.loads.facts j l there in absurd (omega (arith, past, below, same))

pub at_same : (a : Account) (Is : ℕ → Type 0) → ReadsAt a a Is
at_same a Is = at_none a a Is refl

pub at_both : (a b c : Account) (Is : ℕ → Type 0) → Grows b c → ReadsAt a b Is → ReadsAt b c Is → ReadsAt a c Is
at_both a b c Is grown first second j l past there = dite (dec_le (length b.loads.facts) j)
    (λ new. second j l new there)
    (λ old. first j l past (at_before b c grown j l (lt_of_not-le old) there))

pub at_weaker : (a b : Account) (Is Was : ℕ → Type 0) → ((place : ℕ) → Was place → Is place) → ReadsAt a b Was → ReadsAt a b Is
at_weaker a b Is Was weaker all j l past there = weaker l.place (all j l past there)

-- ---- the words of a block

pub word_read : (c n : Seated) (block index word head : ℕ) → n ≡ with_account c (after_fact c.account (block + index) word) → index < block_size head → ReadsAt c.account n.account (IsOfBlock block head)
word_read c n block index word head is small = subst (λ (x : Seated). ReadsAt c.account x.account (IsOfBlock block head)) (sym is)
    (λ j l past there.
    let new : WordLoad = record { place = block + index; word = word } in
    ⊎_elim
    (λ (t : get_elem? c.account.loads.facts j ≡ some l). let below = inside c.account.loads.facts j l t in absurd (omega (arith, below, past)))
    (λ (t : (j ≡ length c.account.loads.facts) × (new ≡ l)). subst (λ (x : WordLoad). IsOfBlock block head x.place) t.1 (omega arith, omega (arith, small)))
    (at_end c.account.loads.facts new l j there))

pub loads_nothing : (a b : Account) (shown marks : ℕ) (heads : List WordLoad) (Is : ℕ → Type 0) → Loads a b shown marks 0 heads → ReadsAt a b Is
loads_nothing a b shown marks heads Is loads = at_none a b Is (let same = loads.words_are in omega (arith, same))

-- ---- the record of a number

pub shows_at : (k : Shape) (p : Parts) (a : Account) (m : MayBe k p a) (number block : ℕ) → HasLoaded k a number block → ShowsAt p.log.front p.log.slots block number
shows_at k p a m number block l =
    let behind = loaded_behind k p a m number block l in
    let above = l.log.above in
    let low = behind.0 in record {
      above = above;
      within = omega (arith, above, low);
      kind = subst (λ (w : ℕ). ¬ (kind_in w ≡ 2)) (sym behind.1) l.kind;
      names = ap target_in behind.1 ∙ l.names;
    }

pub block_read : (k : Shape) (first a b : Account) (front number block head : ℕ) → IsOpenBlock k a front number block → Grows a b → KnowsHead k b block head → number ≤ front → ReadsAt first b (IsOfBlock block head) → ReadsOnly k front number first b
block_read k first a b front number block head o grown known early only p m =
    let loaded = loaded_stays k a b grown number block o.loaded in
    let stands : block_at k p.regions block 0 ≡ head = subst (λ (z : ℕ). block_at k p.regions z 0 ≡ known.load.word) known.place (m.agrees.blocks.heads known.index known.load known.loaded) ∙ known.found in
    at_weaker first b (IsOfLive k p front number) (IsOfBlock block head)
    (λ place within. record {
      block = block;
      shows = shows_at k p b m number block loaded;
      live = loaded_live k p b m number block front o.mark loaded (mark_stays k a b grown block front o.mark o.saw) o.is_open early;
      within = subst (λ (h : ℕ). IsOfBlock block h place) (sym stands) within;
    })
    only

-- ---- number by number

pub screened_none : (k : Shape) (query : QueryGraph) (front : ℕ) (a : Account) → ReadsScreened k query front a a
screened_none k query front a p m = at_none a a (IsOfScreened k p query front) refl

pub screened_more : (k : Shape) (query : QueryGraph) (front index : ℕ) (numbers : List ℕ) (first a b : Account) → Grows a b → index < length numbers → Whatever k b front (AreOfScreened query numbers)
    → ReadsScreened k query front first a → ReadsOnly k front (slice_index numbers index) a b → ReadsScreened k query front first b
screened_more k query front index numbers first a b grown below all old new p m =
    at_both first a b (IsOfScreened k p query front) grown (old p (board_before k a b grown p m))
    (at_weaker a b (IsOfScreened k p query front) (IsOfLive k p front (slice_index numbers index))
    (λ place of. record { number = slice_index numbers index; of = of; screened = all p m index below (name_in (block_at k p.regions of.block)) (molecule_in (block_at k p.regions of.block)) of.live })
    (new p m))

-- ---- a whole search

pub screened_nothing : (k : Shape) (query : QueryGraph) (front : ℕ) (a b : Account) → length b.loads.facts ≡ length a.loads.facts → ReadsScreened k query front a b
screened_nothing k query front a b same p m = at_none a b (IsOfScreened k p query front) same

pub screened_after : (k : Shape) (query : QueryGraph) (front : ℕ) (a b c : Account) → length b.loads.facts ≡ length a.loads.facts → Grows b c → ReadsScreened k query front b c → ReadsScreened k query front a c
screened_after k query front a b c same grown read p m = at_both a b c (IsOfScreened k p query front) grown (at_none a b (IsOfScreened k p query front) same) (read p m)

-- the front was loaded first
pub read_fronted : (c f : Seated) (first : ℕ) (k : Shape) (query : QueryGraph) (front : ℕ) (b : Account) → f ≡ with_account c (after_front c.account first) → ReadsScreened k query front f.account b → ReadsScreened k query front c.account b
read_fronted c f first k query front b is read = subst (λ (x : Seated). ReadsScreened k query front x.account b) is read

-- and then entries were added
pub read_noted : (k : Shape) (query : QueryGraph) (front : ℕ) (a : Account) (b n : Seated) (es : List Entry) → n ≡ with_account b (after_answer b.account es) → ReadsScreened k query front a b.account → ReadsScreened k query front a n.account
read_noted k query front a b n es is read = subst (λ (x : Seated). ReadsScreened k query front a x.account) (sym is)
    (λ p m. read p (board_before k b.account (after_answer b.account es) (grows_quiet b.account (after_answer b.account es) (omega arith) refl (entries_added b.account (after_answer b.account es) (noted b.account.loads es) refl)) p m))

-- a descent loads no word of a name, of atoms or of bonds, and numbers none
pub visits_screened : (k : Shape) (query : QueryGraph) (front : ℕ) (a b : Account) → Visits a b → ReadsScreened k query front a b
visits_screened k query front a b v = screened_nothing k query front a b (ap length v.facts)

pub numbers_read_nothing : (a b c : Account) (few : ℕ) → Visits a b → (marks : ℕ) × (marks ≤ few) × Loads b c 0 marks 0 [] → length c.loads.facts ≡ length a.loads.facts
numbers_read_nothing a b c few v (marks, less, loads) = let same = loads.words_are in let first : length b.loads.facts ≡ length a.loads.facts = ap length v.facts in omega (arith, same, first)
