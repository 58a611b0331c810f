use Rattle.std.proofs.Common.{◌≡◌, ◌++◌, ◌∷◌, take}
use Rattle.std.specs.List.{flat_map}
use Rattle.std.specs.Fmt.{decimal}
use Rattle.hit_report.specs.Appends.{KeepsFront}
use Rattle.hit_report.proofs.hit_lines.append_map.Given as goal

abbrev pub invariant-loop-place : goal.invariant-loop-place
invariant-loop-place l = record {
  places : l.text.items ≡ l.initial.text.items ++ flat_map (λ x. 44 ∷ decimal x) (take l.place-index l.others);
  front : KeepsFront l.fn.text.items l.text.items;
}
