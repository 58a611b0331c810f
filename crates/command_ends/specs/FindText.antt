-- The texts of `find`, `check` and `codes`, from the bytes of their files (this project's own).
use Rattle.std.specs.Prelude.{◌≡◌, ◌⊎◌, ℕ, List, ◌++◌, Option, Result, Ok, Err}
use Rattle.htss_defs.specs.QueryGraph.{QueryGraph}
use Rattle.htss_defs.specs.History.{publications}
use Rattle.htss_defs.specs.Reply.{Reply, found, over_budget, IsReply}
use Rattle.hit_report.specs.HitLines.{hits_text, overbudget_line}
use Rattle.hit_report.specs.RecordLines.{query_refused_line}
use Rattle.mol_section.specs.SectionRecord.{Outcome}
use Rattle.ctfile.specs.RecordList.{IsRecordList}
use Rattle.ctfile.specs.Stream.{IsFirstOutcome}
use Rattle.query_mol.specs.declared.query.QueryRefusal.{QueryRefusal}
use Rattle.query_mol.specs.QueryOutcome.{IsFirstQueryOutcome}
use Rattle.outside.specs.Files.{File, WasRead}
use Rattle.command_ends.specs.RecordTexts.{accepted_records, check_text, codes_text, refused_lines}

-- the file was read, and has this query or is refused so
pub record QueryWasRead (told : Option (List File)) (name : List ℕ)
    (outcome : Result QueryGraph QueryRefusal) : Type 0 where
  pub bytes : List ℕ
  pub read : WasRead told name bytes
  pub is : IsFirstQueryOutcome bytes outcome

-- the file was read, and these are the outcomes of its records
pub record RecordsWereRead (told : Option (List File)) (name : List ℕ) (outcomes : List Outcome) : Type 0 where
  pub bytes : List ℕ
  pub read : WasRead told name bytes
  pub are : IsRecordList bytes outcomes

-- the hits, or the budget in their place
abbrev pub reply_text : ℕ → Reply → List ℕ
reply_text budget (found hits) = hits_text hits
reply_text budget over_budget = overbudget_line budget

-- the line of a query that is refused
pub record IsRefusedQueryText (told : Option (List File)) (query : List ℕ) (text : List ℕ) : Type 0 where
  pub refusal : QueryRefusal
  pub query_read : QueryWasRead told query (Err refusal)
  pub text_is : text ≡ query_refused_line refusal.line refusal.code

-- the refused records of the SDfile, and then what a search of the others for this query answers under the budget
pub record IsFoundIn (told : Option (List File)) (sdf : List ℕ) (asked : QueryGraph) (budget : ℕ)
    (text : List ℕ) : Type 0 where
  pub outcomes : List Outcome
  pub records_read : RecordsWereRead told sdf outcomes
  pub reply : Reply
  pub is_reply : IsReply asked budget (publications (accepted_records outcomes)) reply
  pub text_is : text ≡ refused_lines 1 outcomes ++ reply_text budget reply

-- the same for the query of a file
pub record IsFoundText (told : Option (List File)) (sdf query : List ℕ) (budget : ℕ) (text : List ℕ) : Type 0 where
  pub asked : QueryGraph
  pub query_read : QueryWasRead told query (Ok asked)
  pub found_in : IsFoundIn told sdf asked budget text

-- the text of `find`
abbrev pub IsFindText : Option (List File) → List ℕ → List ℕ → ℕ → List ℕ → Type 0
IsFindText told sdf query budget text = IsRefusedQueryText told query text ⊎ IsFoundText told sdf query budget text

-- the records of the SDfile
pub record IsCheckText (told : Option (List File)) (sdf : List ℕ) (text : List ℕ) : Type 0 where
  pub outcomes : List Outcome
  pub records_read : RecordsWereRead told sdf outcomes
  pub text_is : text ≡ check_text outcomes

-- the molecule of the molfile
pub record IsCodesText (told : Option (List File)) (mol : List ℕ) (text : List ℕ) : Type 0 where
  pub bytes : List ℕ
  pub read : WasRead told mol bytes
  pub outcome : Outcome
  pub is : IsFirstOutcome bytes outcome
  pub text_is : text ≡ codes_text outcome
