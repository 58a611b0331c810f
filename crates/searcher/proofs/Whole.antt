-- The records that a search reads are loaded whole.
use Rattle.std.proofs.Common.{◌≡◌, ℕ, zero, suc, ◌+◌, ◌-◌, ◌<◌, ◌≤◌, List, length, slice_index, refl, sym, ap, ◌∙◌, subst, ⊎_elim, arith, lt_of_not-le}
use Rattle.std.specs.Prelude.{take, Contains}
use mathlib.Core.Logic.{dite}
use native.Mathlib.Decide.{dec_le, ℕ_discrete}
use Rattle.htss_defs.specs.declared.shape.Shape.{Shape}
use Rattle.htss_defs.specs.Molecule.{Molecule}
use Rattle.htss_defs.specs.History.{IsLive}
use Rattle.htss_defs.specs.QueryGraph.{QueryGraph}
use Rattle.board_core.specs.declared.account.Account.{Account}
use Rattle.board_core.specs.declared.entry.Entry.{Entry}
use Rattle.board_core.specs.Words.{Parts}
use Rattle.board_core.specs.Blocks.{block_size, bond_words_at, code_words_at}
use Rattle.board_core.specs.Histories.{block_at, history_of}
use Rattle.board_core.specs.After.{after_answer, after_fact, after_front, noted}
use Rattle.board_core.specs.Loaded.{Grows, KnowsHead}
use Rattle.board_core.specs.Steps.{MayBe}
use Rattle.board.specs.Seated.{Seated, with_account}
use Rattle.board_core.proofs.Lists.{at_last, inside}
use Rattle.board_core.proofs.Grown.{board_before, entries_added, grows_quiet, loaded_stays}
use Rattle.searcher.specs.Walking.{AllScreened, IsOpenBlock, NotLive, Whatever}
use Rattle.searcher.specs.Records.{IsTextPlace, ReadsAllScreened, ReadsLive, ReadsWhole, ReadsWord}
use Rattle.searcher.proofs.Records.{elem_at, shows_at}
use Rattle.searcher.proofs.Walks.{IsNext, not_between, not_past}

-- ---- a word

pub facts_grown : (a b : Account) → Grows a b → length a.loads.facts ≤ length b.loads.facts
facts_grown a b grown = below (length a.loads.facts) refl
  where
    below : (n : ℕ) → n ≡ length a.loads.facts → n ≤ length b.loads.facts
    below zero is = omega arith
    below (suc n) is = let last = elem_at a.loads.facts n (omega (arith, is)) in let less = inside b.loads.facts n last.0 (grown.facts n last.0 last.1) in omega (arith, less)

pub word_later : (a b c : Account) (place : ℕ) → Grows b c → ReadsWord a b place → ReadsWord a c place
word_later a b c place grown (j, l, past, there, is) = (j, l, past, grown.facts j l there, is)

pub word_since : (a b c : Account) (place : ℕ) → Grows a b → ReadsWord b c place → ReadsWord a c place
word_since a b c place grown (j, l, past, there, is) = (j, l, (let more = facts_grown a b grown in omega (arith, past, more)), there, is)

pub words_none : (a b : Account) (block from : ℕ) → (i : ℕ) → from ≤ i → i < from → ReadsWord a b (block + i)
words_none a b block from i past below = absurd (omega arith)

-- one word more of a block
pub words_more : (first : Account) (c n : Seated) (block from index word : ℕ) → n ≡ with_account c (after_fact c.account (block + index) word) → Grows first c.account → Grows c.account n.account
    → ((i : ℕ) → from ≤ i → i < index → ReadsWord first c.account (block + i)) → (i : ℕ) → from ≤ i → i < index + 1 → ReadsWord first n.account (block + i)
words_more first c n block from index word is grown more all i past below = dite (ℕ_discrete i index)
    (λ same. word_since first c.account n.account (block + i) grown (subst (λ (x : Seated). ReadsWord c.account x.account (block + i)) (sym is) (new same)))
    (λ other. word_later first c.account n.account (block + i) more (all i past (omega arith)))
  where
    new : i ≡ index → ReadsWord c.account (after_fact c.account (block + index) word) (block + i)
    new same = (
      length c.account.loads.facts,
      record { place = block + index; word = word },
      omega arith,
      at_last c.account.loads.facts (record { place = block + index; word = word }) (length c.account.loads.facts) refl,
      ap (λ n. block + n) (sym same),
    )

-- ---- a block

pub block_words : (old start first last : Account) (block head codes bonds size : ℕ) → codes ≡ code_words_at head → bonds ≡ bond_words_at head → size ≡ block_size head → Grows old start → Grows start first → Grows first last
    → ((i : ℕ) → 3 ≤ i → i < codes → ReadsWord start first (block + i)) → ((i : ℕ) → bonds ≤ i → i < size → ReadsWord first last (block + i)) → (i : ℕ) → IsTextPlace head i → ReadsWord old last (block + i)
block_words old start first last block head codes bonds size codes_are bonds_are size_is begun grown more low high i is = ⊎_elim
    (λ (t : (3 ≤ i) × (i < code_words_at head)).
    word_since old start last (block + i) begun (word_later start first last (block + i) more (low i t.0 (subst (λ (n : ℕ). i < n) (sym codes_are) t.1))))
    (λ (t : (bond_words_at head ≤ i) × (i < block_size head)).
    word_since old start last (block + i) begun (word_since start first last (block + i) grown (high i (subst (λ (n : ℕ). n ≤ i) (sym bonds_are) t.0) (subst (λ (n : ℕ). i < n) (sym size_is) t.1))))
    is

pub live_whole : (k : Shape) (first a b : Account) (front number block head : ℕ) → IsOpenBlock k a front number block → Grows a b → KnowsHead k b block head → ((i : ℕ) → IsTextPlace head i → ReadsWord first b (block + i)) → ReadsLive k front number first b
live_whole k first a b front number block head o grown known all p m name mol live other shows i is =
    let stands : block_at k p.regions block 0 ≡ head = subst (λ (z : ℕ). block_at k p.regions z 0 ≡ known.load.word) known.place (m.agrees.blocks.heads known.index known.load known.loaded) ∙ known.found in
    let mine = shows_at k p b m number block (loaded_stays k a b grown number block o.loaded) in
    let same : block ≡ other = sym mine.names ∙ shows.names in
    subst (λ (z : ℕ). ReadsWord first b (z + i)) same (all i (subst (λ (h : ℕ). IsTextPlace h i) (ap (λ (z : ℕ). block_at k p.regions z 0) (sym same) ∙ stands) is))

pub none_whole : (k : Shape) (first b : Account) (front number : ℕ) → Whatever k b front (NotLive number) → ReadsLive k front number first b
none_whole k first b front number none p m name mol live = absurd (none p m name mol live)

-- ---- number by number

-- those of these numbers that are not past the last one taken
abbrev pub ReadsUpTo : Shape → ℕ → List ℕ → ℕ → Account → Account → Type 0
ReadsUpTo k front numbers last a b = (p : Parts) → MayBe k p b → (n : ℕ) → Contains numbers n → 0 < n → n ≤ last → (name : List ℕ) (mol : Molecule) → IsLive (take front (history_of k p)) n name mol → ReadsWhole k p a b n

pub up_to_none : (k : Shape) (front : ℕ) (numbers : List ℕ) (a : Account) → ReadsUpTo k front numbers 0 a a
up_to_none k front numbers a p m n has above low = absurd (omega (arith, above, low))

whole_later : (k : Shape) (p : Parts) (a b c : Account) (n : ℕ) → Grows b c → ReadsWhole k p a b n → ReadsWhole k p a c n
whole_later k p a b c n grown all block shows i is = word_later a b c (block + i) grown (all block shows i is)

whole_since : (k : Shape) (p : Parts) (a b c : Account) (n : ℕ) → Grows a b → ReadsWhole k p b c n → ReadsWhole k p a c n
whole_since k p a b c n grown all block shows i is = word_since a b c (block + i) grown (all block shows i is)

pub up_to_more : (k : Shape) (front index last number : ℕ) (numbers : List ℕ) (first a b : Account) → Grows first a → Grows a b → IsNext numbers index last number → ReadsUpTo k front numbers last first a → ReadsLive k front number a b → ReadsUpTo k front numbers number first b
up_to_more k front index last number numbers first a b begun grown next old new p m n has above low name mol live = dite (dec_le n last)
    (λ before. whole_later k p first a b n grown (old p (board_before k a b grown p m) n has above before name mol live))
    (λ after. dite (dec_le n (number - 1))
    (λ between. absurd (not_between numbers index last number next n (lt_of_not-le after) between has))
    (λ here. let same : number ≡ n = omega (arith, low, here) in
    whole_since k p first a b n begun (subst (λ (z : ℕ). ReadsLive k front z a b) same new p m name mol live)))

pub up_to_all : (k : Shape) (query : QueryGraph) (front last : ℕ) (numbers : List ℕ) (a b : Account) → Whatever k b front (AllScreened query numbers) → ((i : ℕ) → i < length numbers → slice_index numbers i ≤ last) → ReadsUpTo k front numbers last a b → ReadsAllScreened k query front a b
up_to_all k query front last numbers a b all passed read p m number name mol live is =
    let has = all p m number name mol live is in
    let above : 0 < number = (let e = live.published.event in let low : 1 ≤ number = e.0 in omega (arith, low)) in
    dite (dec_le number last)
    (λ before. read p m number has above before name mol live)
    (λ past. absurd (not_past numbers last number passed number (lt_of_not-le past) (omega arith) has))

-- ---- a whole search

pub all_after : (k : Shape) (query : QueryGraph) (front : ℕ) (a b c : Account) → Grows a b → ReadsAllScreened k query front b c → ReadsAllScreened k query front a c
all_after k query front a b c grown read p m number name mol live is = whole_since k p a b c number grown (read p m number name mol live is)

pub all_fronted : (c f : Seated) (first : ℕ) (k : Shape) (query : QueryGraph) (front : ℕ) (b : Account) → f ≡ with_account c (after_front c.account first) → ReadsAllScreened k query front f.account b → ReadsAllScreened k query front c.account b
all_fronted c f first k query front b is read = subst (λ (x : Seated). ReadsAllScreened k query front x.account b) is read

pub all_noted : (k : Shape) (query : QueryGraph) (front : ℕ) (a : Account) (b n : Seated) (es : List Entry) → n ≡ with_account b (after_answer b.account es) → ReadsAllScreened k query front a b.account → ReadsAllScreened k query front a n.account
all_noted k query front a b n es is read = subst (λ (x : Seated). ReadsAllScreened k query front a x.account) (sym is)
    (λ p m. read p (board_before k b.account (after_answer b.account es) (grows_quiet b.account (after_answer b.account es) (omega arith) refl (entries_added b.account (after_answer b.account es) (noted b.account.loads es) refl)) p m))
