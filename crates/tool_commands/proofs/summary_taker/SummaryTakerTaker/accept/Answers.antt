use Rattle.std.proofs.Common.{◌+◌, ◌++◌, ◌∷◌, [], length, refl, sym, ap, subst}
use Rattle.mol_section.specs.SectionRecord.{accepted}
use Rattle.tool_commands.specs.Takers.{SummaryHolds}
use Rattle.tool_commands.proofs.Summed.{SummaryHolds-accepted}
use Rattle.tool_commands.proofs.Unmarked.{one_marked}
use Rattle.tool_commands.proofs.summary_taker.SummaryTakerTaker.accept.Goals as goal

pub returns-clause-holds : goal.returns-clause-holds
returns-clause-holds c = λ outcomes long marked is same holds.
    let t = c.args.self.now in
    let name = c.args._name.now in
    let mol = c.mark.new.mol in
    let one = one_marked c.args.mol mol marked c.mark.ensures.marked c.mark.ensures.atoms c.mark.ensures.bonds is same in
    let records = t.records + 1 in
    let atoms = t.atoms + length c.atoms.result.now in
    let bonds = t.bonds + length c.bonds.result.now in
    let hits = t.hits + c.from.result in
    subst (λ q. SummaryHolds q records atoms bonds hits (outcomes ++ accepted name marked ∷ [])) (sym c.first_map-found.ensures.same)
    (subst (λ m. SummaryHolds t.matcher records atoms bonds hits (outcomes ++ accepted name m ∷ [])) one
    (SummaryHolds-accepted t.matcher t.records records t.atoms atoms t.bonds bonds t.hits hits c.first_map-found.result name c.first_map-found.new.map.items mol outcomes holds c.first_map-found.ensures.least c.first_map-found.ensures.none refl
    (ap (λ xs. t.atoms + length xs) c.atoms.ensures.items) (ap (λ xs. t.bonds + length xs) c.bonds.ensures.items) (ap (λ n. t.hits + n) c.from.ensures)))
