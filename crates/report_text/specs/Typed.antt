-- What the types of the values of a block say of it, whatever it tells (this project's own).
use Rattle.std.specs.Prelude.{All}
use Rattle.htss_defs.specs.declared.history.Hit.{Hit}
use Rattle.htss_defs.specs.FileName.{IsFileName}
use Rattle.htss_defs.specs.Name.{IsName}
use Rattle.report_text.specs.declared.report.Block.{Block}
use Rattle.report_text.specs.declared.report.Block.TheVariants.{Load, Withdraw, Search}
use Rattle.report_text.specs.declared.report.LoadLine.{LoadLine}
use Rattle.report_text.specs.declared.report.LoadLine.TheVariants.{Published, Refused, DataFull, NoPage, ChainFull}
use Rattle.report_text.specs.declared.report.LoadLine.TheVariants.{LogFull}
use Rattle.report_text.specs.declared.report.SearchLine.{SearchLine}
use Rattle.report_text.specs.declared.report.SearchLine.TheVariants.{Hits, OverBudget, Refused as QueryRefused}
use Rattle.report_text.specs.Values.{IsU16, IsU32, IsU64, IsWithdrawLine}

abbrev pub IsTypedLoadLine : LoadLine → Type 0
IsTypedLoadLine (Published number name) = IsU32 number × IsName name
IsTypedLoadLine (Refused place line code) = IsU32 place × IsU64 line
IsTypedLoadLine (DataFull place left need) = IsU32 place × IsU32 left × IsU32 need
IsTypedLoadLine (NoPage place) = IsU32 place
IsTypedLoadLine (ChainFull place pages) = IsU32 place × IsU32 pages
IsTypedLoadLine (LogFull place front) = IsU32 place × IsU32 front

pub record IsTypedHit (hit : Hit) : Type 0 where
  pub number : IsU32 hit.number
  pub name : IsName hit.name
  pub places : All IsU16 hit.map

abbrev pub IsTypedSearchLine : SearchLine → Type 0
IsTypedSearchLine (Hits front hits rows records) = IsU32 front × All IsTypedHit hits × IsU64 rows × IsU32 records
IsTypedSearchLine (OverBudget front budget) = IsU32 front × IsU64 budget
IsTypedSearchLine (QueryRefused line code) = IsU64 line

-- its numbers and names are of their types
abbrev pub IsTypedBlock : Block → Type 0
IsTypedBlock (Load line file answers) = IsU32 line × IsFileName file × All IsTypedLoadLine answers
IsTypedBlock (Withdraw line number answer) = IsU32 line × IsU32 number × IsWithdrawLine answer
IsTypedBlock (Search line file answer) = IsU32 line × IsFileName file × IsTypedSearchLine answer
