use Rattle.std.proofs.Common.{List, ℕ, ◌+◌, ap, take, ◌∷◌, ◌∙◌, sym, arith}
use Rattle.report_lines.specs.Reader.{parts_of}
use Rattle.report_lines.proofs.Maps.{last_part, next_part, rest_of}
use Rattle.report_lines.proofs.values.cut_part.Goals as goal

pub returns-in-None-clause-last : goal.returns-in-None-clause-last
returns-in-None-clause-last c = last_part c.args.text.now c.in-None.ensures.missing

pub returns-in-Some-clause-more : goal.returns-in-Some-clause-more
returns-in-Some-clause-more c =
    next_part c.args.text.now c.in-Some.comma c.in-Some.ensures.within c.in-Some.ensures.found c.in-Some.ensures.first
    ∙ ap (λ (rest : List ℕ). take c.in-Some.comma c.args.text.now ∷ parts_of rest) (sym (rest_of c.args.text.now (c.in-Some.comma + 1) (omega (arith, c.in-Some.ensures.within))))
