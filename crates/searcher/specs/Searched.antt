-- What a search leaves of a caller's account.
use Rattle.std.specs.Prelude.{◌≡◌, ℕ, ◌+◌, ◌-◌, ◌≤◌, List, [], ◌∷◌, ◌++◌, length, sum_by}
use Rattle.board_core.specs.declared.account.Account.{Account}
use Rattle.board_core.specs.declared.entry.Entry.{Entry}
use Rattle.board_core.specs.declared.loads.WordLoad.{WordLoad}
use Rattle.board_core.specs.Answers.{answers_in}
use Rattle.board_core.specs.After.{fronted, noted, stamp_all}
use Rattle.board_core.specs.Blocks.{code_words_at, bond_words_at, block_size}
use Rattle.board_core.specs.Loaded.{Grows}

-- how much the second account has loaded past the first: so many log words and marks, so many name, atom and bond words
-- of blocks, and these first words
pub record Loads (a b : Account) (shown marks words : ℕ) (heads : List WordLoad) : Type 0 where
  pub shown_are : length b.loads.shown ≡ length a.loads.shown + shown
  pub marks_are : length b.loads.marks ≡ length a.loads.marks + marks
  pub words_are : length b.loads.facts ≡ length a.loads.facts + words
  pub heads_are : b.loads.heads ≡ a.loads.heads ++ heads

-- the name, atom and bond words of a block, by its first word
abbrev pub words_past : ℕ → ℕ
words_past head = code_words_at head - 3 + (block_size head - bond_words_at head)

-- of so many numbers each log word at most once, and at most one mark and one first word for each; and of each block
-- whose first word was loaded its name, atom and bond words, each once at most
pub record LoadsOnce (a b : Account) (numbers : ℕ) : Type 0 where
  pub shown : ℕ
  pub marks : ℕ
  pub words : ℕ
  pub heads : List WordLoad
  pub loads : Loads a b shown marks words heads
  pub few_shown : shown ≤ numbers
  pub few_marks : marks ≤ numbers
  pub few_heads : length heads ≤ numbers
  pub few_words : words ≤ sum_by (λ h. words_past h.word) heads

-- the second account has loaded the front and more words than the first, and has these entries more, the rows that a
-- search has come to set aside. It was pinned and is no more
pub record IsSearched (a b : Account) (front : ℕ) (es : List Entry) : Type 0 where
  pub grown : Grows a b
  pub who : b.who ≡ a.who
  pub log : b.log ≡ record a.log { seen = front; holding = fronted a.log.holding }
  pub room : b.room ≡ a.room
  pub unpinned : b.pool.announced ≡ 0
  pub own : b.pool.own ≡ a.pool.own
  pub parted : (e : ℕ) × (b.pool.parted ≡ stamp_all e a.pool.parted)
  pub tree : b.tree ≡ record a.tree { front = front; reached = [] }
  pub counts : b.counts ≡ a.counts
  pub fronts : b.loads.fronts ≡ a.loads.fronts ++ front ∷ []
  pub entries : answers_in b.entries ≡ answers_in a.entries ++ noted b.loads es
