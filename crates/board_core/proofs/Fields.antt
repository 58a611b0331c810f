-- The fields of a log word give back what it was made of.
use Rattle.std.proofs.Common.{◌≡◌, ℕ, ◌^◌, ◌<◌, arith}
use Rattle.board_core.specs.LogWord.{log_word, target_in, loader_in, kind_in}

pub target_back : (kind loader target : ℕ) → loader < 2 ^ 8 → target < 2 ^ 40 → target_in (log_word kind loader target) ≡ target
target_back kind loader target a b = omega arith

pub loader_back : (kind loader target : ℕ) → loader < 2 ^ 8 → target < 2 ^ 40 → loader_in (log_word kind loader target) ≡ loader
loader_back kind loader target a b = omega arith

pub kind_back : (kind loader target : ℕ) → loader < 2 ^ 8 → target < 2 ^ 40 → kind_in (log_word kind loader target) ≡ kind
kind_back kind loader target a b = omega arith
