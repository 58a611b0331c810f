-- What a summary counts of one more record.
use Rattle.std.proofs.Common.{◌≡◌, ℕ, ◌+◌, Bool, true, false, List, [], ◌∷◌, ◌++◌, length, refl, sym, ap, subst, ◌∙◌, arith}
use Rattle.std.specs.Prelude.{sum_by}
use mir.Val.{bool_byte}
use Rattle.std.proofs.lemmas.List.{append-nil, length_push}
use Rattle.std.proofs.lemmas.List.Sums.{sum_by_push}
use Rattle.htss_defs.specs.declared.history.Hit.{Hit}
use Rattle.htss_defs.specs.declared.record.NamedMol.{NamedMol}
use Rattle.htss_defs.specs.Molecule.{Molecule}
use Rattle.htss_defs.specs.QueryGraph.{QueryGraph}
use Rattle.htss_defs.specs.Embedding.{IsLeastEmbedding, NoEmbedding}
use Rattle.htss_defs.specs.History.{publications}
use Rattle.htss_defs.specs.Hits.{AreHits}
use Rattle.mol_section.specs.SectionRecord.{Outcome, accepted, refused}
use Rattle.command_ends.specs.RecordTexts.{accepted_records}
use Rattle.tool_commands.specs.Takers.{SummaryHolds}
use Rattle.tool_commands.proofs.Publications.{hits-none, hits-passed, hits-hit}
use Rattle.tool_commands.proofs.Taken.{accepted_records-push}

pub SummaryHolds-none : (query : QueryGraph) → SummaryHolds query 0 0 0 0 []
SummaryHolds-none query = record { records_is = refl; atoms_is = refl; bonds_is = refl; found = []; are = hits-none query; hits_is = refl }

-- the hits with those of one more record
record MoreHits (query : QueryGraph) (records : List NamedMol) (hits : ℕ) : Type 0 where
  found : List Hit
  are : AreHits query (publications records) found
  hits_is : hits ≡ length found

more_hits : (query : QueryGraph) (es : List NamedMol) (e : NamedMol) (hits hits' : ℕ) (found : List Hit) (embeds : Bool) (map : List ℕ) → AreHits query (publications es) found → hits ≡ length found
    → (embeds ≡ true → IsLeastEmbedding query e.mol map) → (embeds ≡ false → NoEmbedding query e.mol) → hits' ≡ hits + bool_byte embeds → MoreHits query (es ++ e ∷ []) hits'
more_hits query es e hits hits' found true map are count least none more =
    let hit : Hit = record { number = length es + 1; name = e.name; map = map } in
    record { found = found ++ hit ∷ []; are = hits-hit query es e found hit are refl refl (least refl); hits_is = omega (arith, more, count, length_push found hit) }
more_hits query es e hits hits' found false map are count least none more = record { found = found; are = hits-passed query es e found are (none refl); hits_is = omega (arith, more, count) }

pub SummaryHolds-accepted : (query : QueryGraph) (records records' atoms atoms' bonds bonds' hits hits' : ℕ) (embeds : Bool) (name map : List ℕ) (mol : Molecule) (outcomes : List Outcome) → SummaryHolds query records atoms bonds hits outcomes
    → (embeds ≡ true → IsLeastEmbedding query mol map) → (embeds ≡ false → NoEmbedding query mol)
    → records' ≡ records + 1 → atoms' ≡ atoms + length mol.atoms → bonds' ≡ bonds + length mol.bonds → hits' ≡ hits + bool_byte embeds
    → SummaryHolds query records' atoms' bonds' hits' (outcomes ++ accepted name mol ∷ [])
SummaryHolds-accepted query records records' atoms atoms' bonds bonds' hits hits' embeds name map mol outcomes holds least none records-more atoms-more bonds-more hits-more =
    let e : NamedMol = record { name = name; mol = mol } in
    let before = accepted_records outcomes in
    let pushed = accepted_records-push outcomes (accepted name mol) in
    let more = more_hits query before e hits hits' holds.found embeds map holds.are holds.hits_is least none hits-more in
    record {
      records_is = omega (arith, records-more, holds.records_is, ap length pushed, length_push before e);
      atoms_is = omega (arith, atoms-more, holds.atoms_is, ap (sum_by (λ (one : NamedMol). length one.mol.atoms)) pushed, sum_by_push (λ (one : NamedMol). length one.mol.atoms) before e);
      bonds_is = omega (arith, bonds-more, holds.bonds_is, ap (sum_by (λ (one : NamedMol). length one.mol.bonds)) pushed, sum_by_push (λ (one : NamedMol). length one.mol.bonds) before e);
      found = more.found;
      are = subst (λ (x : List NamedMol). AreHits query (publications x) more.found) (sym pushed) more.are;
      hits_is = more.hits_is;
    }

pub SummaryHolds-refused : (query : QueryGraph) (records atoms bonds hits line code : ℕ) (outcomes : List Outcome) → SummaryHolds query records atoms bonds hits outcomes → SummaryHolds query records atoms bonds hits (outcomes ++ refused line code ∷ [])
SummaryHolds-refused query records atoms bonds hits line code outcomes holds =
    let pushed = sym (accepted_records-push outcomes (refused line code) ∙ append-nil (accepted_records outcomes)) in
    record {
      records_is = holds.records_is ∙ ap length pushed;
      atoms_is = holds.atoms_is ∙ ap (sum_by (λ (one : NamedMol). length one.mol.atoms)) pushed;
      bonds_is = holds.bonds_is ∙ ap (sum_by (λ (one : NamedMol). length one.mol.bonds)) pushed;
      found = holds.found;
      are = subst (λ (x : List NamedMol). AreHits query (publications x) holds.found) pushed holds.are;
      hits_is = holds.hits_is;
    }
