-- What a block shows is read from its first word and from the words past the marks.
use Rattle.std.proofs.Common.{◌≡◌, ℕ, ◌+◌, ◌*◌, ◌/◌, ◌%◌, ◌^◌, ◌<◌, ◌≤◌, ◌==◌, ◌⊎◌, inl, inr, Bool, cond, sym, ap, ◌∙◌, arith, eq-eqb}
use mathlib.Core.Logic.{dite}
use native.Mathlib.Decide.{ℕ_discrete}
use Rattle.htss_defs.specs.declared.history.Event.{Event}
use Rattle.htss_defs.specs.declared.history.Event.TheVariants.{Publish, Withdraw}
use Rattle.board_core.specs.LogWord.{kind_in, loader_in, target_in}
use Rattle.board_core.specs.Blocks.{first_of, atoms_in, bonds_in, bytes_in, atom_words_at, code_words_at, bond_words_at, block_size, byte_of, atom_of, bond_of, name_in, molecule_in}
use Rattle.board_core.specs.Histories.{shown_by}
use Rattle.board_core.proofs.Shown.{same_first}

-- two blocks with one first word and the same words past the marks
pub record ShowSame (f g : ℕ → ℕ) : Type 0 where
  pub head : g 0 ≡ f 0
  pub words : (i : ℕ) → 3 ≤ i → i < block_size (f 0) → g i ≡ f i

-- the same, of the words that are no codes
pub record ShowAlike (f g : ℕ → ℕ) : Type 0 where
  pub head : g 0 ≡ f 0
  pub words : (i : ℕ) → 3 ≤ i → i < block_size (f 0) → (i < code_words_at (f 0)) ⊎ (bond_words_at (f 0) ≤ i) → g i ≡ f i

pub alike : (f g : ℕ → ℕ) → ShowSame f g → ShowAlike f g
alike f g same = record { head = same.head; words = λ i past within _. same.words i past within }

pub block_least : (head : ℕ) → 3 ≤ block_size head
block_least head = let names : ℕ = (bytes_in head + 7) / 8 in let atoms : ℕ = atoms_in head in let bonds : ℕ = bonds_in head in least names atoms bonds
  where
    least : (names atoms bonds : ℕ) → 3 ≤ 3 + names + atoms + 5 * atoms + bonds
    least names atoms bonds = omega arith

same_byte : (f g : ℕ → ℕ) (i : ℕ) → ShowAlike f g → i < bytes_in (f 0) → byte_of g i ≡ byte_of f i
same_byte f g i same l =
    let place = within (bytes_in (f 0)) (atoms_in (f 0)) (bonds_in (f 0)) l in
    ap (λ w. w / 2 ^ (8 * (i % 8)) % 2 ^ 8) (same.words (3 + i / 8) (omega arith) place.0 (inl place.1))
  where
    within : (bytes atoms bonds : ℕ) → i < bytes → (3 + i / 8 < 3 + (bytes + 7) / 8 + atoms + 5 * atoms + bonds) × (3 + i / 8 < 3 + (bytes + 7) / 8 + atoms)
    within bytes atoms bonds below = (omega arith, omega arith)

pub alike_name : (f g : ℕ → ℕ) → ShowAlike f g → name_in g ≡ name_in f
alike_name f g same = ap (λ h. first_of (byte_of g) (bytes_in h)) same.head ∙ same_first (byte_of f) (byte_of g) (bytes_in (f 0)) (λ i l. same_byte f g i same l)

same_atom : (f g : ℕ → ℕ) (i : ℕ) → ShowAlike f g → i < atoms_in (f 0) → atom_of (g (atom_words_at (g 0) + i)) ≡ atom_of (f (atom_words_at (f 0) + i))
same_atom f g i same l = ap (λ h. atom_of (g (atom_words_at h + i))) same.head ∙ ap atom_of (same.words (atom_words_at (f 0) + i) (past ((bytes_in (f 0) + 7) / 8)) (within ((bytes_in (f 0) + 7) / 8) (atoms_in (f 0)) (bonds_in (f 0)) l) (inl (before ((bytes_in (f 0) + 7) / 8) (atoms_in (f 0)) l)))
  where
    past : (names : ℕ) → 3 ≤ 3 + names + i
    past names = omega arith

    within : (names atoms bonds : ℕ) → i < atoms → 3 + names + i < 3 + names + atoms + 5 * atoms + bonds
    within names atoms bonds below = omega arith

    before : (names atoms : ℕ) → i < atoms → 3 + names + i < 3 + names + atoms
    before names atoms below = omega arith

same_bond : (f g : ℕ → ℕ) (i : ℕ) → ShowAlike f g → i < bonds_in (f 0) → bond_of (g (bond_words_at (g 0) + i)) ≡ bond_of (f (bond_words_at (f 0) + i))
same_bond f g i same l = ap (λ h. bond_of (g (bond_words_at h + i))) same.head ∙ ap bond_of (same.words (bond_words_at (f 0) + i) (past ((bytes_in (f 0) + 7) / 8) (atoms_in (f 0))) (within ((bytes_in (f 0) + 7) / 8) (atoms_in (f 0)) (bonds_in (f 0)) l) (inr (after (bond_words_at (f 0)))))
  where
    past : (names atoms : ℕ) → 3 ≤ 3 + names + atoms + 5 * atoms + i
    past names atoms = omega arith

    within : (names atoms bonds : ℕ) → i < bonds → 3 + names + atoms + 5 * atoms + i < 3 + names + atoms + 5 * atoms + bonds
    within names atoms bonds below = omega arith

    after : (first : ℕ) → first ≤ first + i
    after first = omega arith

pub alike_molecule : (f g : ℕ → ℕ) → ShowAlike f g → molecule_in g ≡ molecule_in f
alike_molecule f g same =
    let atoms : first_of (λ i. atom_of (g (atom_words_at (g 0) + i))) (atoms_in (g 0)) ≡ first_of (λ i. atom_of (f (atom_words_at (f 0) + i))) (atoms_in (f 0)) =
    ap (λ h. first_of (λ i. atom_of (g (atom_words_at (g 0) + i))) (atoms_in h)) same.head ∙ same_first (λ i. atom_of (f (atom_words_at (f 0) + i))) (λ i. atom_of (g (atom_words_at (g 0) + i))) (atoms_in (f 0)) (λ i l. same_atom f g i same l) in
    let bonds : first_of (λ i. bond_of (g (bond_words_at (g 0) + i))) (bonds_in (g 0)) ≡ first_of (λ i. bond_of (f (bond_words_at (f 0) + i))) (bonds_in (f 0)) =
    ap (λ h. first_of (λ i. bond_of (g (bond_words_at (g 0) + i))) (bonds_in h)) same.head ∙ same_first (λ i. bond_of (f (bond_words_at (f 0) + i))) (λ i. bond_of (g (bond_words_at (g 0) + i))) (bonds_in (f 0)) (λ i l. same_bond f g i same l) in
    λ t. record { atoms = atoms t; bonds = bonds t }

pub same_name : (f g : ℕ → ℕ) → ShowSame f g → name_in g ≡ name_in f
same_name f g same = alike_name f g (alike f g same)

pub same_molecule : (f g : ℕ → ℕ) → ShowSame f g → molecule_in g ≡ molecule_in f
same_molecule f g same = alike_molecule f g (alike f g same)

-- the event of a log word
pub same_shown : (f g : ℕ → ℕ) (word : ℕ) → (¬ (kind_in word ≡ 2) → ShowSame f g) → shown_by g word ≡ shown_by f word
same_shown f g word same =
    let shown : (ℕ → ℕ) → Bool → Event = λ block b. cond b (Withdraw (loader_in word) (target_in word)) (Publish (loader_in word) (name_in block) (molecule_in block)) in
    dite (ℕ_discrete (kind_in word) 2)
    (λ two. ap (shown g) (eq-eqb (kind_in word) 2 two) ∙ sym (ap (shown f) (eq-eqb (kind_in word) 2 two)))
    (λ not_two. let blocks = same not_two in
    let name = same_name f g blocks in
    let mol = same_molecule f g blocks in
    λ t. cond (kind_in word == 2) (Withdraw (loader_in word) (target_in word)) (Publish (loader_in word) (name t) (mol t)))
