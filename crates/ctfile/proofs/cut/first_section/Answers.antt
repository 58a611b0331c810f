use Rattle.std.proofs.Common.{true, sym, ap, ◌∙◌}
use Rattle.std.proofs.lemmas.List.{take_rest}
use Rattle.mol_section.specs.Lines.{ends_section}
use Rattle.ctfile.proofs.Looked.{IsLooked-nil, IsFirstSection-cut, IsFirstSection-all, IsSection-closed, NoneEnds-last}
use Rattle.ctfile.proofs.cut.first_section.Goals as goal

pub look-found-requires : goal.look-found-requires
look-found-requires c = IsLooked-nil _

pub returns-in-Some : goal.returns-in-Some
returns-in-Some c =
    let end = rw c.in-Some.is at c.look-found.ensures.end in
    IsFirstSection-cut true _ _ _ (end true)

pub returns-then-starts_with : goal.returns-then-starts_with
returns-then-starts_with c =
    let last = rw c.in_default.is at c.look-found.ensures.none in
    IsFirstSection-cut true _ _ _ (IsSection-closed _ _ _ c.look-found.ensures.looked.passed last
    (ap ends_section (sym (take_rest c.args.bytes.now c.look-found.result.looked.at)) ∙ sym c.starts_with.ensures.value ∙ c.if-starts_with.true))

pub returns-else-starts_with : goal.returns-else-starts_with
returns-else-starts_with c =
    let last = rw c.in_default.is at c.look-found.ensures.none in
    IsFirstSection-all _ (NoneEnds-last _ _ _ c.look-found.ensures.looked.passed last
    (ap ends_section (sym (take_rest c.args.bytes.now c.look-found.result.looked.at)) ∙ sym c.starts_with.ensures.value ∙ c.if-starts_with.false))
