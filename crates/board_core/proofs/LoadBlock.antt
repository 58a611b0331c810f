-- A word of a block is loaded: its first word, a mark, a code word, or a name, atom or bond word. The block is one that a log word
-- shows which the caller has loaded. For the first word and for codes it's enough that the block is sealed.
use Rattle.std.proofs.Common.{◌≡◌, ◌≢◌, ℕ, ◌+◌, ◌-◌, ◌<◌, ◌≤◌, ◌⊎◌, ⊎_elim, inl, inr, List, set, get_or, refl, sym, ap, ◌∙◌, subst, arith}
use mathlib.Core.Option.{some, none}
use lib.ListN.{get_elem?}
use Rattle.atomic_table.specs.Table.{State, step, keeps, Allows}
use Rattle.htss_defs.specs.declared.shape.Shape.{Shape}
use Rattle.htss_defs.specs.declared.history.Event.{Event}
use Rattle.board_core.specs.declared.account.Account.{Account}
use Rattle.board_core.specs.declared.account.View.{View}
use Rattle.board_core.specs.declared.account.Who.TheVariants.{Gone}
use Rattle.board_core.specs.declared.loads.Loads.{Loads}
use Rattle.board_core.specs.declared.room.Row.{Row}
use Rattle.board_core.specs.Words.{Parts, parts_of, regions_at, regions_size, total_of}
use Rattle.board_core.specs.Blocks.{atoms_in, block_size, shown_at, ended_at}
use Rattle.board_core.specs.Records.{code_word_at}
use Rattle.board_core.specs.Histories.{block_at, history_of}
use Rattle.board_core.specs.Accounts.{with_me}
use Rattle.board_core.specs.FactRule.{FactRule, word_at}
use Rattle.board_core.specs.Loaded.{KnowsBlock, KnowsHead, KnowsRow, IsInTable}
use Rattle.board_core.specs.Holds.{Rule, Holds}
use Rattle.board_core.specs.After.{after_code, after_fact, after_head, after_mark}
use Rattle.board_core.specs.Steps.{Mine, MayBeSome, LoadsHead, LoadsMark, LoadsCode, LoadsFact}
use Rattle.atomic_table.proofs.Lists.{set_here}
use Rattle.board_core.proofs.Answered.{known, agrees}
use Rattle.board_core.proofs.Lists.{inside}
use Rattle.board_core.proofs.FullFrame.{full_same}
use Rattle.board_core.proofs.EmptyFrame.{empty_same}
use Rattle.board_core.proofs.LogFrame.{log_same, hand_at}
use Rattle.board_core.proofs.StoryFrame.{stories_same}
use Rattle.board_core.proofs.LoadFrame.{loads_same, not_later}
use Rattle.board_core.proofs.RecordFrame.{code_within}
use Rattle.board_core.proofs.LoadSealed.{coded_sealed, AreSealed, known_sealed, known_in_table, sealed_in_table, head_is, facts_head, facts_mark, facts_fact, facts_code}
use Rattle.board_core.proofs.Stored.{part_at}
use Rattle.board_core.proofs.Stepped.{by_load, still}
use Rattle.board_core.proofs.SweptFrame.{swept_here}
use Rattle.board_core.proofs.ChainFrame.{chains_same}

-- a load that no part reads but that of what was loaded of blocks
pub load_of_block : (k : Shape) (p : Parts) (h : List Event) (vs : List View) (id : ℕ) (v : View) (l : Loads) → Rule k p h vs → get_elem? vs id ≡ some v → l.shown ≡ v.me.loads.shown → l.epochs ≡ v.me.loads.epochs → l.states ≡ v.me.loads.states → l.lost ≡ v.me.loads.lost → FactRule k p.regions p.log.front (set vs id (with_me v (record v.me { loads = l })))
    → Rule k p h (set vs id (with_me v (record v.me { loads = l })))
load_of_block k p h vs id v l r at same epochs states lost facts =
    let a : Account = record v.me { loads = l } in by_load k p p h h vs id v a r at
    record { who = refl; pool_words = refl; page_words = refl; pool = refl; tree = refl; counts = refl; epochs = epochs; states = states; lost = lost }
    record { words = refl; front = refl; slots = refl; store = refl }
    (log_same k p.log h vs id v a r.log at refl)
    (stories_same k h vs id v a r.stories at refl refl)
    (full_same k vs id v a r.full at refl refl)
    (empty_same k p.pool.states vs id v a r.empty at refl)
    (chains_same k p.pages p.pool.states vs id v a r.chains at refl refl)
    (swept_here k p h vs id v a r at refl)
    (loads_same k p.log p.log vs id v a r.loads at (not_later p.log p.log refl refl) same)
    facts

-- the board after the step is one that may be, by what the account has then loaded
some_board : (k key : Shape) (p : Parts) (vs : List View) (id : ℕ) (v : View) (a : Account) → key ≡ k → get_elem? vs id ≡ some v → Rule k p (history_of k p) (set vs id (with_me v a)) → MayBeSome key a
some_board k key p vs id v a shape at r = subst (λ (z : Shape). MayBeSome z a) (sym shape)
    (p, record { known = known k p (set vs id (with_me v a)) r; agrees = agrees k p (history_of k p) (set vs id (with_me v a)) id (with_me v a) r (set_here vs id (with_me v a) (inside vs id v at)) })

-- the word of the table at a place of the regions
pub found_at : (k : Shape) (ws : List ℕ) (place : ℕ) → regions_at k ≤ place → place < total_of k → word_at k (parts_of k ws).regions place ≡ get_or ws place 0
found_at k ws place from until =
    let i : ℕ = place - regions_at k in
    let within : place < regions_at k + regions_size k = until in
    let inside : i < regions_size k = less place (regions_at k) (regions_size k) from within in
    let back : regions_at k + i ≡ place = again place (regions_at k) from in
    part_at (regions_at k) (regions_size k) ws i inside ∙ ap (λ (z : ℕ). get_or ws z 0) back
  where
    less : (at from size : ℕ) → from ≤ at → at < from + size → at - from < size
    less at from size a b = omega arith

    again : (at from : ℕ) → from ≤ at → from + (at - from) ≡ at
    again at from a = omega arith

-- ---- the first word, and the last mark

-- in each state that may be, the block is a sealed one
abbrev pub SealedIn : Shape → ℕ → Mine → ℕ → Type 0
SealedIn k id m block = (s : State (Unit {0}) View) → Holds k s → get_elem? s.views id ≡ some m.0 → AreSealed s.views block

-- and this is its first word
abbrev pub HeadIn : Shape → ℕ → Mine → ℕ → ℕ → Type 0
HeadIn k id m block head = (s : State (Unit {0}) View) → Holds k s → get_elem? s.views id ≡ some m.0 → block_at k (parts_of k s.words).regions block 0 ≡ head

pub first_word : (k : Shape) (ws : List ℕ) (block : ℕ) → IsInTable k block → block_at k (parts_of k ws).regions block 0 ≡ get_or ws block 0
first_word k ws block fits =
    let from = fits.from in
    let until = fits.until in
    ap (λ (z : ℕ). (parts_of k ws).regions (z - regions_at k)) (first block) ∙ found_at k ws block from (omega arith)
  where
    first : (block : ℕ) → block + 0 ≡ block
    first block = omega arith

pub head_of_sealed : (k : Shape) (slots id block : ℕ) (m : Mine) → SealedIn k id m block → m.0.me.who ≢ Gone → Allows (Holds k) slots id m block (λ n. n) (LoadsHead (step slots block 0 0 none) m)
head_of_sealed k slots id block m sealed here s h _ at _ =
    let p : Parts = parts_of k s.words in
    let found : ℕ = get_or s.words block 0 in
    let is_sealed = sealed s h at in
    let fits = sealed_in_table k p.regions s.views block h.rule.seats h.rule.rooms.rooms is_sealed in
    let same : block_at k p.regions block 0 ≡ found = first_word k s.words block fits.0 in
    let facts = facts_head k p.regions p.log.front s.views id block m.0 h.rule.facts at is_sealed in
    let a : Account = after_head m.0.me block found in
    let shape = h.rule.seats.shapes id m.0 at here in
    let next : Rule k p (history_of k p) (set s.views id (with_me m.0 a)) =
    load_of_block k p (history_of k p) s.views id m.0 a.loads h.rule at refl refl refl refl (subst (λ (w : ℕ). FactRule k p.regions p.log.front (set s.views id (with_me m.0 (after_head m.0.me block w)))) same facts) in (
      with_me m.0 a,
      keeps,
      tt,
      still k s block id m.1 m.0 a h next,
      record { after = refl; may = some_board k m.0.shape p s.views id m.0 a shape at next; until = subst (λ (x : ℕ × Shape). block + block_size x.0 ≤ total_of x.1) (λ t. (same t, sym (h.rule.seats.shapes id m.0 at here) t)) fits.1 },
    )

pub head_allowed : (k : Shape) (slots id block : ℕ) (m : Mine) → KnowsBlock k m.0.me block → m.0.me.who ≢ Gone → Allows (Holds k) slots id m block (λ n. n) (LoadsHead (step slots block 0 0 none) m)
head_allowed k slots id block m knows here = head_of_sealed k slots id block m (λ s h at. known_sealed k (parts_of k s.words).regions (parts_of k s.words).log s.views id block m.0 h.rule.loads h.rule.rooms at knows) here

mark_of_sealed : (k : Shape) (slots id place block : ℕ) (m : Mine) → (place ≡ block + shown_at) ⊎ (place ≡ block + ended_at) → SealedIn k id m block → Allows (Holds k) slots id m place (λ n. n) (LoadsMark (step slots place 0 0 none) m)
mark_of_sealed k slots id place block m is sealed s h _ at _ =
    let p : Parts = parts_of k s.words in
    let found : ℕ = get_or s.words place 0 in
    let is_sealed = sealed s h at in
    let fits = (sealed_in_table k p.regions s.views block h.rule.seats h.rule.rooms.rooms is_sealed).0 in
    let from = fits.from in
    let until = fits.until in
    let inside = ⊎_elim (λ (e : place ≡ block + shown_at). let x : (regions_at k ≤ place) × (place < total_of k) = (omega arith, omega arith) in x) (λ (e : place ≡ block + ended_at). (omega arith, omega arith)) is in
    let same : word_at k p.regions place ≡ found = found_at k s.words place inside.0 inside.1 in
    let seen = (hand_at k p.log (history_of k p) s.views id m.0 h.rule.log at).seen in
    let facts = facts_mark k p.regions p.log.front s.views id block place m.0 h.rule.facts at is_sealed seen is in
    let a : Account = after_mark m.0.me place found in (
      with_me m.0 a,
      keeps,
      tt,
      still k s place id m.1 m.0 a h (load_of_block k p (history_of k p) s.views id m.0 a.loads h.rule at refl refl refl refl (subst (λ (w : ℕ). FactRule k p.regions p.log.front (set s.views id (with_me m.0 (after_mark m.0.me place w)))) same facts)),
      refl,
    )

pub mark_allowed : (k : Shape) (slots id place block : ℕ) (m : Mine) → place ≡ block + ended_at → KnowsBlock k m.0.me block → Allows (Holds k) slots id m place (λ n. n) (LoadsMark (step slots place 0 0 none) m)
mark_allowed k slots id place block m is knows = mark_of_sealed k slots id place block m (inr is) (λ s h at. known_sealed k (parts_of k s.words).regions (parts_of k s.words).log s.views id block m.0 h.rule.loads h.rule.rooms at knows)

-- the first mark of the block of a row of which a code was loaded
pub shown_allowed : (k : Shape) (slots id place block : ℕ) (m : Mine) → place ≡ block + shown_at → KnowsRow m.0.me block → Allows (Holds k) slots id m place (λ n. n) (LoadsMark (step slots place 0 0 none) m)
shown_allowed k slots id place block m is knows = mark_of_sealed k slots id place block m (inl is)
    (λ s h at. coded_sealed k (parts_of k s.words).regions (parts_of k s.words).log.front s.views id block m.0 h.rule.facts at knows)

-- ---- the other words

pub fact_allowed : (k : Shape) (slots id place block head i : ℕ) (m : Mine) → place ≡ block + i → KnowsHead k m.0.me block head → 3 ≤ i → i < block_size head → m.0.me.who ≢ Gone → Allows (Holds k) slots id m place (λ n. n) (LoadsFact (step slots place 0 0 none) m)
fact_allowed k slots id place block head i m is knows past inside_block here s h _ at _ =
    let p : Parts = parts_of k s.words in
    let found : ℕ = get_or s.words place 0 in
    let fits = known_in_table k p.regions p.log s.views id block m.0 h.rule.seats h.rule.loads h.rule.rooms at knows.known in
    let from = fits.0.from in
    let is_head = head_is k p.regions p.log.front s.views id block head m.0 h.rule.facts at knows in
    let until : block + block_size head ≤ total_of k = subst (λ (w : ℕ). block + block_size w ≤ total_of k) is_head fits.1 in
    let same : word_at k p.regions place ≡ found = found_at k s.words place (omega arith) (omega arith) in
    let facts = facts_fact k p.regions p.log s.views id block head i m.0 h.rule.facts h.rule.loads h.rule.rooms at knows inside_block (λ e. omega arith) (λ e. omega arith) in
    let a : Account = after_fact m.0.me place found in
    let next : Rule k p (history_of k p) (set s.views id (with_me m.0 a)) =
    load_of_block k p (history_of k p) s.views id m.0 a.loads h.rule at refl refl refl refl
    (subst (λ (w : ℕ). FactRule k p.regions p.log.front (set s.views id (with_me m.0 (after_fact m.0.me place w)))) same
    (subst (λ (z : ℕ). FactRule k p.regions p.log.front (set s.views id (with_me m.0 (after_fact m.0.me z (word_at k p.regions z))))) (sym is) facts)) in (
      with_me m.0 a,
      keeps,
      tt,
      still k s place id m.1 m.0 a h next,
      record { after = refl; may = some_board k m.0.shape p s.views id m.0 a (h.rule.seats.shapes id m.0 at here) at next },
    )

pub code_of_sealed : (k : Shape) (slots id place head code : ℕ) (row : Row) (m : Mine) → place ≡ row.block + code_word_at head (row.atom - 1) code → SealedIn k id m row.block → HeadIn k id m row.block head → 0 < row.atom → row.atom ≤ atoms_in head → code < 5 → m.0.me.who ≢ Gone
    → Allows (Holds k) slots id m place (λ n. n) (LoadsCode row code (step slots place 0 0 none) m)
code_of_sealed k slots id place head code row m is sealed head_in above atom few here s h _ at _ =
    let p : Parts = parts_of k s.words in
    let found : ℕ = get_or s.words place 0 in
    let is_sealed = sealed s h at in
    let fits = sealed_in_table k p.regions s.views row.block h.rule.seats h.rule.rooms.rooms is_sealed in
    let from = fits.0.from in
    let is_head = head_in s h at in
    let until : row.block + block_size head ≤ total_of k = subst (λ (w : ℕ). row.block + block_size w ≤ total_of k) is_head fits.1 in
    let within = (code_within head (row.atom - 1) code (omega arith) few).1 in
    let same : word_at k p.regions place ≡ found = found_at k s.words place (omega arith) (omega arith) in
    let there : block_at k p.regions row.block (code_word_at head (row.atom - 1) code) ≡ word_at k p.regions place = ap (word_at k p.regions) (sym is) in
    let facts = facts_code k p.regions p.log.front s.views id head code row m.0 h.rule.facts at is_sealed is_head above atom few in
    let a : Account = after_code m.0.me row code found in
    let next : Rule k p (history_of k p) (set s.views id (with_me m.0 a)) =
    load_of_block k p (history_of k p) s.views id m.0 a.loads h.rule at refl refl refl refl
    (subst (λ (w : ℕ). FactRule k p.regions p.log.front (set s.views id (with_me m.0 (after_code m.0.me row code w)))) (there ∙ same) facts) in (
      with_me m.0 a,
      keeps,
      tt,
      still k s place id m.1 m.0 a h next,
      record { after = refl; may = some_board k m.0.shape p s.views id m.0 a (h.rule.seats.shapes id m.0 at here) at next },
    )

pub code_allowed : (k : Shape) (slots id place head code : ℕ) (row : Row) (m : Mine) → place ≡ row.block + code_word_at head (row.atom - 1) code → KnowsHead k m.0.me row.block head → 0 < row.atom → row.atom ≤ atoms_in head → code < 5 → m.0.me.who ≢ Gone
    → Allows (Holds k) slots id m place (λ n. n) (LoadsCode row code (step slots place 0 0 none) m)
code_allowed k slots id place head code row m is knows = code_of_sealed k slots id place head code row m is
    (λ s h at. known_sealed k (parts_of k s.words).regions (parts_of k s.words).log s.views id row.block m.0 h.rule.loads h.rule.rooms at knows.known)
    (λ s h at. head_is k (parts_of k s.words).regions (parts_of k s.words).log.front s.views id row.block head m.0 h.rule.facts at knows)
