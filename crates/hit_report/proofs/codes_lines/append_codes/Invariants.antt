use Rattle.std.proofs.Common.{◌≡◌, ◌++◌, ◌∷◌, take}
use Rattle.std.specs.List.{flat_map}
use Rattle.hit_report.specs.Appends.{KeepsFront}
use Rattle.hit_report.specs.CodesLines.{hex_word}
use Rattle.hit_report.proofs.codes_lines.append_codes.Given as goal

abbrev pub invariant-loop-word : goal.invariant-loop-word
invariant-loop-word l = record {
  words : l.text.items ≡ l.initial.text.items ++ flat_map (λ word. 32 ∷ hex_word word) (take l.word-index l.codes.words);
  front : KeepsFront l.fn.text.items l.text.items;
}
