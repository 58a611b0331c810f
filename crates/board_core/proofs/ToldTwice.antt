-- An account that tells the first of two equal events twice, and the second never, is no true story.
use Rattle.std.proofs.Common.{◌≡◌, ℕ, List, [], ◌∷◌, map, ap}
use Rattle.htss_defs.specs.declared.shape.Shape.{Shape}
use Rattle.htss_defs.specs.declared.history.Event.{Event}
use Rattle.htss_defs.specs.declared.history.Event.TheVariants.{Publish}
use Rattle.htss_defs.specs.Molecule.{Molecule}
use Rattle.board_core.specs.declared.account.Who.TheVariants.{Loader}
use Rattle.board_core.specs.declared.entry.Entry.TheVariants.{Published}
use Rattle.board_core.specs.Accounts.{no_loads}
use Rattle.board_core.specs.After.{noted}
use Rattle.board_core.specs.Truths.{IsTrueStory}

abbrev pub like : Molecule → Event
like mol = Publish 1 [] mol

other_numbers : ◌≡◌ {A = List ℕ} (1 ∷ 2 ∷ []) (1 ∷ 1 ∷ []) → ⊥
other_numbers same = cc

pub told_twice : (k : Shape) (mol : Molecule) → IsTrueStory k (like mol ∷ like mol ∷ []) (Loader 1) (noted no_loads (Published 1 (like mol) ∷ Published 1 (like mol) ∷ [])) → ⊥
told_twice k mol story = other_numbers (ap (map (λ (x : ℕ × Event). x.0)) story.own)
