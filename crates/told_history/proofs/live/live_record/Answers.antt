use Rattle.std.proofs.Common.{ℕ, ◌+◌, ◌-◌, ◌<◌, ◌≤◌, ◌≡◌, length, take, sym, ap, subst, ◌∙◌, inl, inr, arith}
use Rattle.std.specs.Prelude.{Some, slice_get, slice_index_or}
use Rattle.std.proofs.lemmas.Option.{slice_get-get_or}
use Rattle.htss_defs.specs.declared.history.Event.{Event}
use Rattle.htss_defs.specs.Molecule.{Molecule}
use Rattle.htss_defs.specs.History.{IsLive}
use Rattle.report_text.specs.declared.report.LogLine.{LogLine}
use Rattle.report_text.specs.declared.report.LogLine.TheVariants.{Publish, Withdraw}
use Rattle.told_history.specs.Named.{IsNamer}
use Rattle.told_history.proofs.LiveTold.{has_told, live_told, no_record_told, same_length, withdrawn_told}
use Rattle.told_history.proofs.live.live_record.Goals as goal

pub returns-then-at-front-clause-none : goal.returns-then-at-front-clause-none
returns-then-at-front-clause-none c = λ none history tells name mol live.
    let t = c.args.told.now in
    let long = same_length tells.named history t.lines.now tells.history_is in
    withdrawn_told history t.withdrawals.now c.args.front c.args.number tells.withdrawals (omega (arith, long, c.requires.front)) c.requires.some c.requires.within c.if-at-ne0.true c.if-at-front.true name mol live

pub returns-in-Publish-clause-live : goal.returns-in-Publish-clause-live
returns-in-Publish-clause-live c = λ history tells.
    let t = c.args.told.now in
    let n = c.args.number in
    let line = c.index-told-place.result in
    let namer = c.index-told-place-in-Publish.result in
    let long = same_length tells.named history t.lines.now tells.history_is in
    let few : c.args.front ≤ length history = omega (arith, long, c.requires.front) in
    let within : n - 1 < length t.lines.now = omega (arith, c.requires.some, c.requires.within, c.requires.front) in
    let at = slice_get-get_or t.lines.now (n - 1) line within ∙ ap (λ (l : LogLine). Some l) c.in-Publish.is in
    let has = has_told tells.named history t.lines.now n (Publish c.in-Publish.loader c.in-Publish.atoms c.in-Publish.bonds c.in-Publish.name) tells.history_is c.requires.some at in
    let there : n - 1 < length t.table.now = omega (arith, within, c.requires.whole.table) in
    let back : n - 1 + 1 ≡ n = omega (arith, c.requires.some) in
    let named = subst (λ k. IsNamer tells.named k (slice_index_or t.table.now (n - 1) namer)) back (tells.table (n - 1) namer there) in
    let mol = c.molecule_of.ensures.mol tells.named n named in
    subst (λ (m : Molecule). IsLive (take c.args.front history) n c.in-Publish.name m) (sym mol)
    (live_told history t.withdrawals.now c.args.front n tells.withdrawals few c.requires.some c.requires.within c.in-Publish.loader c.in-Publish.name _ has (elim c.else-at-ne0.either [
      | inl later ↦ inr (omega (arith, later.1))
      | inr none ↦ inl (omega (arith, none))
    ]))

pub returns-in-Withdraw-clause-none : goal.returns-in-Withdraw-clause-none
returns-in-Withdraw-clause-none c = λ none history tells name mol live.
    let t = c.args.told.now in
    let n = c.args.number in
    let line = c.index-told-place.result in
    let long = same_length tells.named history t.lines.now tells.history_is in
    let within : n - 1 < length t.lines.now = omega (arith, c.requires.some, c.requires.within, c.requires.front) in
    let at = slice_get-get_or t.lines.now (n - 1) line within ∙ ap (λ (l : LogLine). Some l) c.in-Withdraw.is in
    let has = has_told tells.named history t.lines.now n (Withdraw c.in-Withdraw.loader c.in-Withdraw.number) tells.history_is c.requires.some at in
    no_record_told history t.withdrawals.now c.args.front n tells.withdrawals (omega (arith, long, c.requires.front)) c.requires.some c.requires.within c.in-Withdraw.loader c.in-Withdraw.number has name mol live
