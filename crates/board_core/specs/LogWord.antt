-- The fields of a log word. Bits 0 to 39 are the place of a block or the number withdrawn, bits 40 to 47 the loader,
-- bits 48 to 55 the kind: 1 of a publication, 2 of a withdrawal.
use Rattle.std.specs.Prelude.{◌≡◌, ℕ, ◌+◌, ◌*◌, ◌/◌, ◌%◌, ◌^◌}

abbrev pub log_word : ℕ → ℕ → ℕ → ℕ
log_word kind loader target = target + 2 ^ 40 * loader + 2 ^ 48 * kind

abbrev pub target_in : ℕ → ℕ
target_in word = word % 2 ^ 40

abbrev pub loader_in : ℕ → ℕ
loader_in word = word / 2 ^ 40 % 2 ^ 8

abbrev pub kind_in : ℕ → ℕ
kind_in word = word / 2 ^ 48

-- the word shows a block, as each kind of word but a withdrawal does; it ends the record of a number
abbrev pub ShowsBlock : ℕ → Type 0
ShowsBlock word = ¬ (kind_in word ≡ 2)

abbrev pub EndsNumber : ℕ → Type 0
EndsNumber word = kind_in word ≡ 2

-- the word of a publication of the block at a place, and of a withdrawal of a number
abbrev pub publication_word : ℕ → ℕ → ℕ
publication_word loader block = log_word 1 loader block

abbrev pub withdrawal_word : ℕ → ℕ → ℕ
withdrawal_word loader number = log_word 2 loader number
