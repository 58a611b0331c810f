-- The text of `make` (this project's own).
use Rattle.std.specs.Prelude.{◌≡◌, ℕ, List, [], ◌∷◌, ◌++◌, length, sum_by, Bool, true, false, pos}
use lib.Chars.{codes}
use Rattle.htss_defs.specs.declared.record.NamedMol.{NamedMol}
use Rattle.htss_defs.specs.declared.history.Hit.{Hit}
use Rattle.htss_defs.specs.declared.query.QueryAtom.{QueryAtom}
use Rattle.htss_defs.specs.declared.query.QueryBond.{QueryBond}
use Rattle.htss_defs.specs.declared.query.AtomTest.TheVariants.{Element}
use Rattle.htss_defs.specs.QueryGraph.{QueryGraph}
use Rattle.htss_defs.specs.Marked.{IsMarkedQuery, unmarked_query}
use Rattle.htss_defs.specs.History.{publications}
use Rattle.htss_defs.specs.Hits.{AreHits}
use Rattle.mol_section.specs.SectionRecord.{Outcome}
use Rattle.ctfile.specs.RecordList.{IsRecordList}
use Rattle.hit_report.specs.RecordLines.{spaced}
use Rattle.script_text.specs.Generator.{made_file}
use Rattle.command_ends.specs.RecordTexts.{accepted_records}

-- a ring of six carbons, with single and double bonds in turn: the flags of its bonds left out
abbrev pub ring_bond : ℕ → ℕ → ℕ → QueryBond
ring_bond first second kind = record { first = first; second = second; kind = kind; topology = 0; ring = false }

abbrev pub carbon : QueryAtom
carbon = record { test = Element 6; charge = pos 0; mass = 0 }

abbrev pub plain_ring : QueryGraph
plain_ring = record {
  atoms = carbon ∷ carbon ∷ carbon ∷ carbon ∷ carbon ∷ carbon ∷ [];
  bonds = ring_bond 1 2 1 ∷ ring_bond 2 3 2 ∷ ring_bond 3 4 1 ∷ ring_bond 4 5 2 ∷ ring_bond 5 6 1 ∷ ring_bond 6 1 2
      ∷ [];
}

-- that ring, each flag as it is
pub record IsRing (query : QueryGraph) : Type 0 where
  pub shape : unmarked_query query ≡ plain_ring
  pub marked : IsMarkedQuery query

abbrev pub summary_line : ℕ → List NamedMol → ℕ → List ℕ
summary_line count records hits =
    codes "made" ++ spaced count ++ codes " records" ++ spaced (length records)
    ++ codes " atoms" ++ spaced (sum_by (λ one. length one.mol.atoms) records)
    ++ codes " bonds" ++ spaced (sum_by (λ one. length one.mol.bonds) records)
    ++ codes " hits" ++ spaced hits ++ 10 ∷ []

-- one line on the records that the made file has, and on those into which the ring embeds
pub record IsSummary (count seed : ℕ) (text : List ℕ) : Type 0 where
  pub outcomes : List Outcome
  pub are_records : IsRecordList (made_file count seed) outcomes
  pub ring : QueryGraph
  pub is_ring : IsRing ring
  pub hits : List Hit
  pub are_hits : AreHits ring (publications (accepted_records outcomes)) hits
  pub text_is : text ≡ summary_line count (accepted_records outcomes) (length hits)

-- the made file, or the summary in its place
abbrev pub IsMadeText : ℕ → ℕ → Bool → List ℕ → Type 0
IsMadeText count seed false text = text ≡ made_file count seed
IsMadeText count seed true text = IsSummary count seed text

-- what there may be of that text where memory runs out
abbrev pub IsMadeFront : ℕ → ℕ → Bool → List ℕ → Type 0
IsMadeFront count seed false front = (rest : List ℕ) × (made_file count seed ≡ front ++ rest)
IsMadeFront count seed true front = front ≡ []
