use Rattle.std.proofs.Common.{◌≡◌, ℕ, ◌+◌, List, [], ◌∷◌, ◌++◌, append_assoc, drop, length, map, take, sym, ap, subst, ◌∙◌, arith}
use Rattle.std.proofs.lemmas.List.{length-take-le, take_all, take_more}
use Rattle.htss_defs.specs.Molecule.{Molecule}
use Rattle.report_text.specs.declared.report.LoadLine.{LoadLine}
use Rattle.report_rules.specs.Faults.{first_molecule, naming, namings}
use Rattle.told_history.specs.Named.{IsTable}
use Rattle.told_history.specs.Reads.{outcome_of}
use Rattle.told_history.proofs.Namings.{namings_push}
use Rattle.told_history.proofs.names.name_lines.Goals as goal

pub loop-index-preserved : goal.loop-index-preserved
loop-index-preserved c =
    let lines = c.args.lines.now in
    let i = c.loop-index.index in
    let line = c.index-lines-index.result in
    let outcomes = map outcome_of c.args.records.now in
    let more : take (i + 1) lines ≡ take i lines ++ line ∷ [] = take_more lines i line c.loop-index-test.true ∙ ap (λ (l : LoadLine). take i lines ++ l ∷ []) (sym c.index-lines-index.is) in
    let long : length (take i lines) ≡ i = length-take-le i lines (omega (arith, c.loop-index-test.true)) in
    let step : namings outcomes (take (i + 1) lines) ≡ namings outcomes (take i lines) ++ naming (first_molecule (drop i outcomes)) line =
    ap (namings outcomes) more ∙ namings_push outcomes (take i lines) line ∙ ap (λ (n : ℕ). namings outcomes (take i lines) ++ naming (first_molecule (drop n outcomes)) line) long in
    λ named is. subst (λ (x : List (ℕ × Molecule)). IsTable x c.name_line.new.table)
    (append_assoc named (namings outcomes (take i lines)) (naming (first_molecule (drop i outcomes)) line) ∙ ap (λ (x : List (ℕ × Molecule)). named ++ x) (sym step))
    (c.name_line.ensures (named ++ namings outcomes (take i lines)) (c.loop-index.invariant named is))

pub returns : goal.returns
returns c = λ named is.
    subst (λ (l : List LoadLine). IsTable (named ++ namings (map outcome_of c.args.records.now) l) c.loop-index.table) (take_all c.loop-index.index c.args.lines.now (omega (arith, c.loop-index-test.false)))
    (c.loop-index.invariant named is)
