-- What an exchange of a page word that is 0 leaves of its caller.
use Rattle.std.specs.Prelude.{◌≡◌, ◌≢◌, ℕ, Bool}
use Rattle.htss_defs.specs.declared.shape.Shape.{Shape}
use Rattle.board_core.specs.Loaded.{IsPage}
use Rattle.board_core.specs.After.{after_slot, after_link, after_more}
use Rattle.board_core.specs.Steps.{Claim, LeafBelow, EntryOf, CodeOf, LeafBehind, InnerBehind, after_claim}
use Rattle.board.specs.Seated.{Seated, with_account}

-- a word that was not 0 was loaded
pub record HasLoadedLink (k : Shape) (c d : Seated) (j i code found : ℕ) : Type 0 where
  pub leaf : Bool
  pub after : d ≡ with_account c (after_link c.account j i code found leaf)
  pub page : IsPage k found

pub record HasLoadedMore (k : Shape) (c d : Seated) (j found : ℕ) : Type 0 where
  pub after : d ≡ with_account c (after_more c.account j found)
  pub page : IsPage k found

abbrev pub HasLoadedInstead : Shape → Claim → Seated → Seated → ℕ → Type 0
HasLoadedInstead k (LeafBelow j i code n row) c d found = HasLoadedLink k c d j i code found
HasLoadedInstead k (EntryOf j row) c d found = d ≡ with_account c (after_slot c.account j found)
HasLoadedInstead k (CodeOf j code) c d found = d ≡ with_account c (after_slot c.account j found)
HasLoadedInstead k (LeafBehind j n row) c d found = HasLoadedMore k c d j found
HasLoadedInstead k (InnerBehind j n code) c d found = HasLoadedMore k c d j found

pub record HasClaimed (k : Shape) (claim : Claim) (c d : Seated) (found : ℕ) : Type 0 where
  pub won : found ≡ 0 → d ≡ with_account c (after_claim c.account claim)
  pub lost : found ≢ 0 → HasLoadedInstead k claim c d found
