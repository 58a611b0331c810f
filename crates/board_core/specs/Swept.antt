-- What a descent answers is true: the rows differ and cover the need, and each row of the first events that covers is
-- among them.
use Rattle.std.specs.Prelude.{◌≡◌, ℕ, ◌≤◌, List}
use mathlib.Core.Option.{some}
use lib.ListN.{get_elem?}
use Rattle.htss_defs.specs.declared.shape.Shape.{Shape}
use Rattle.htss_defs.specs.declared.needs.Need.{Need}
use Rattle.htss_defs.specs.declared.codes.Codes.{Codes}
use Rattle.htss_defs.specs.Needs.{Covers}
use Rattle.board_core.specs.declared.account.View.{View}
use Rattle.board_core.specs.declared.room.Row.{Row}
use Rattle.board_core.specs.declared.entry.Entry.{Entry}
use Rattle.board_core.specs.declared.entry.Entry.TheVariants.{Published, Withdrawn, Answered, Unknown, Gone as Ended}
use Rattle.board_core.specs.declared.entry.Entry.TheVariants.{LogFull, DataFull, NoPage, ChainFull, Swept}
use Rattle.board_core.specs.Each.{Each, In}
use Rattle.board_core.specs.Words.{Parts}
use Rattle.board_core.specs.Accounts.{EachAccount}
use Rattle.board_core.specs.OldRows.{IsOldRow}
use Rattle.board_core.specs.Rows.{entry_word, row_named, codes_in, IsPlaced}

-- the codes of the row that a word names, by the table
abbrev pub row_codes : Shape → (ℕ → ℕ) → ℕ → Codes
row_codes k regions n = record { words = codes_in k regions n }

pub record SweptFits (k : Shape) (p : Parts) (need : Need) (front : ℕ) (rows : List Row) : Type 0 where
  pub behind : front ≤ p.log.front
  pub differ : (i j : ℕ) (r : Row) → get_elem? rows i ≡ some r → get_elem? rows j ≡ some r → i ≡ j
  pub cover : Each (λ r. Covers need (row_codes k p.regions (entry_word r))) rows
  pub all : (n : ℕ) → IsOldRow k p.regions p.log.slots front n → Covers need (row_codes k p.regions n)
      → In (row_named n) rows

-- the part of an entry's truth that reads the codes of rows
abbrev pub IsTrueSwept : Shape → Parts → Entry → Type 0
IsTrueSwept k p (Published number event) = Unit {0}
IsTrueSwept k p (Withdrawn number event) = Unit {0}
IsTrueSwept k p (Answered query budget front reply) = Unit {0}
IsTrueSwept k p (Unknown number front) = Unit {0}
IsTrueSwept k p (Ended number at) = Unit {0}
IsTrueSwept k p (LogFull front) = Unit {0}
IsTrueSwept k p (DataFull left need) = Unit {0}
IsTrueSwept k p NoPage = Unit {0}
IsTrueSwept k p (ChainFull pages) = Unit {0}
IsTrueSwept k p (Swept need front rows) = SweptFits k p need front rows

-- and the rows are placed, so their codes stay
abbrev pub ArePlaced : List View → Entry → Type 0
ArePlaced vs (Published number event) = Unit {0}
ArePlaced vs (Withdrawn number event) = Unit {0}
ArePlaced vs (Answered query budget front reply) = Unit {0}
ArePlaced vs (Unknown number front) = Unit {0}
ArePlaced vs (Ended number at) = Unit {0}
ArePlaced vs (LogFull front) = Unit {0}
ArePlaced vs (DataFull left need) = Unit {0}
ArePlaced vs NoPage = Unit {0}
ArePlaced vs (ChainFull pages) = Unit {0}
ArePlaced vs (Swept need front rows) = Each (λ r. IsPlaced vs (entry_word r)) rows

abbrev pub IsSweptOn : Shape → Parts → List View → Entry → Type 0
IsSweptOn k p vs e = IsTrueSwept k p e × ArePlaced vs e

abbrev pub SweptRule : Shape → Parts → List View → Type 0
SweptRule k p vs = EachAccount (λ a. Each (λ n. IsSweptOn k p vs n.entry) a.entries) vs
