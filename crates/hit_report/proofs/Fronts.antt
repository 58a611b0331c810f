-- A text that only grows keeps its front.
use Rattle.std.proofs.Common.{◌≡◌, ℕ, ◌≤◌, List, ◌++◌, length, take, refl, sym, ap, ◌∙◌, arith}
use Rattle.std.proofs.lemmas.List.{take-take, take_at, length-take, take_all}
use Rattle.hit_report.specs.Appends.{KeepsFront}

pub front_same : (old new : List ℕ) → new ≡ old → KeepsFront old new
front_same old new same = record { kept = ap (take (length old)) same ∙ take_all (length old) old (omega arith) }

pub front_grown : (old added new : List ℕ) → new ≡ old ++ added → KeepsFront old new
front_grown old added new grown = record { kept = ap (take (length old)) grown ∙ take_at old added (length old) refl }

pub front_trans : {old middle new : List ℕ} → KeepsFront old middle → KeepsFront middle new → KeepsFront old new
front_trans {old} {middle} {new} first second =
    let long : length old ≤ length middle = omega (arith, ap length first.kept, length-take (length old) middle) in
    record { kept = sym (take-take (length old) (length middle) new long) ∙ ap (take (length old)) second.kept ∙ first.kept }
