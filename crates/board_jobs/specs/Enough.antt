-- A script whose pool is large enough meets no refusal for want of a page, and one whose chains may be long enough none
-- for a full chain (this project's own).
use Rattle.std.specs.Prelude.{◌≡◌, ℕ, ◌*◌, ◌≤◌, List, All}
use Rattle.htss_defs.specs.declared.record.NamedMol.{NamedMol}
use Rattle.htss_defs.specs.declared.shape.Shape.{Shape}
use Rattle.report_rules.specs.Answers.{to_record, taken, no_page, chain_full}
use Rattle.report_rules.specs.Rules.{Line}
use Rattle.board_core.specs.CountRule.{pages_for}
use Rattle.board_jobs.specs.Begun.{atoms_loaded}

-- the line tells that no page was left for its record
abbrev pub TellsNoPage : Line → Type 0
TellsNoPage line = (one : NamedMol) × (line.answer ≡ to_record (taken one no_page))

-- a line tells that no page was left only where the pages are few for the atoms of all accepted records of all loads
abbrev pub ArePagesEnough : Shape → List Line → Type 0
ArePagesEnough shape lines =
    All (λ line. TellsNoPage line → shape.pages ≤ pages_for (atoms_loaded lines) shape.loaders) lines

-- the line tells that a chain was full for its record
abbrev pub TellsChainFull : Line → Type 0
TellsChainFull line = (one : NamedMol) × (pages : ℕ) × (line.answer ≡ to_record (taken one (chain_full pages)))

-- a line tells that a chain was full only where those atoms are at least seven for each page that a chain may have
abbrev pub AreChainsEnough : Shape → List Line → Type 0
AreChainsEnough shape lines = All (λ line. TellsChainFull line → 7 * shape.chain ≤ atoms_loaded lines) lines
