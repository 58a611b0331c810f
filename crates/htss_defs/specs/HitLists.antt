-- What a list of hits keeps.
use Rattle.std.specs.Prelude.{ℕ, List, []}
use Rattle.htss_defs.specs.declared.history.Hit.{Hit}

-- what contracts see of a `HitList`
pub record HitsKept : Type 0 where
  pub hits : List Hit
  pub rows : ℕ
  pub records : ℕ

abbrev pub no_hits : HitsKept
no_hits = record { hits = []; rows = 0; records = 0 }
