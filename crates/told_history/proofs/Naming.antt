-- One more line names an event.
use Rattle.std.proofs.Common.{◌≡◌, ◌≢◌, ℕ, zero, suc, ◌+◌, ◌-◌, ◌<◌, ◌≤◌, Bool, true, false, List, [], ◌∷◌, ◌++◌, length, drop, map, refl, sym, ap, subst, ◌∙◌, inl, inr, arith, eq-eqb, ne_eqb}
use Rattle.std.specs.Prelude.{slice_index_or, slice_set, ◌==◌, ◌||◌, if◌then◌else◌}
use Rattle.std.proofs.lemmas.Bool.{cases_eq, cond-true, false≢true}
use Rattle.std.proofs.lemmas.List.{get_or-set_other, length-set}
use Rattle.std.proofs.lemmas.Grind.{get_or-set_at}
use Rattle.htss_defs.specs.Molecule.{Molecule}
use Rattle.mol_section.specs.SectionRecord.{Outcome}
use Rattle.report_rules.specs.Faults.{first_molecule, molecule_named, no_molecule}
use Rattle.told_history.specs.declared.names.Namer.{Namer}
use Rattle.told_history.specs.declared.names.Namer.TheVariants.{Nobody, NoRecord, Record}
use Rattle.told_history.specs.declared.records.RecordRead.{RecordRead}
use Rattle.told_history.specs.declared.records.RecordRead.TheVariants.{Accepted, Refused}
use Rattle.told_history.specs.Reads.{outcome_of}
use Rattle.told_history.specs.Named.{is_named, IsNamer, IsTable, IsWith}

-- one more name
named_more : (named : List (ℕ × Molecule)) (one : ℕ × Molecule) (number : ℕ) → is_named (named ++ one ∷ []) number ≡ (is_named named number || (number == one.0))
named_more [] one number = go (number == one.0)
  where
    go : (b : Bool) → (b || false) ≡ (false || b)
    go true = refl
    go false = refl
named_more (first ∷ named) one number = go (number == first.0) (named_more named one number)
  where
    go : (b : Bool) → is_named (named ++ one ∷ []) number ≡ (is_named named number || (number == one.0)) → (b || is_named (named ++ one ∷ []) number) ≡ ((b || is_named named number) || (number == one.0))
    go true rest = refl
    go false rest = rest

old_molecule : (named : List (ℕ × Molecule)) (one : ℕ × Molecule) (number : ℕ) → is_named named number ≡ true → molecule_named (named ++ one ∷ []) number ≡ molecule_named named number
old_molecule [] one number is = absurd (false≢true is)
old_molecule (first ∷ named) one number is = go (number == first.0) is (λ rest. old_molecule named one number rest)
  where
    go : (b : Bool) → (b || is_named named number) ≡ true → (is_named named number ≡ true → molecule_named (named ++ one ∷ []) number ≡ molecule_named named number)
        → (if b then first.1 else molecule_named (named ++ one ∷ []) number) ≡ (if b then first.1 else molecule_named named number)
    go true is rest = refl
    go false is rest = rest is

new_molecule : (named : List (ℕ × Molecule)) (one : ℕ × Molecule) (number : ℕ) → is_named named number ≡ false → molecule_named (named ++ one ∷ []) number ≡ (if number == one.0 then one.1 else no_molecule)
new_molecule [] one number is = refl
new_molecule (first ∷ named) one number is = go (number == first.0) is (λ rest. new_molecule named one number rest)
  where
    go : (b : Bool) → (b || is_named named number) ≡ false → (is_named named number ≡ false → molecule_named (named ++ one ∷ []) number ≡ (if number == one.0 then one.1 else no_molecule))
        → (if b then first.1 else molecule_named (named ++ one ∷ []) number) ≡ (if number == one.0 then one.1 else no_molecule)
    go true is rest = absurd cc
    go false is rest = rest is

-- an event that no line names
pub unnamed_molecule : (named : List (ℕ × Molecule)) (number : ℕ) → is_named named number ≡ false → molecule_named named number ≡ no_molecule
unnamed_molecule [] number is = refl
unnamed_molecule (first ∷ named) number is = go (number == first.0) is (λ rest. unnamed_molecule named number rest)
  where
    go : (b : Bool) → (b || is_named named number) ≡ false → (is_named named number ≡ false → molecule_named named number ≡ no_molecule) → (if b then first.1 else molecule_named named number) ≡ no_molecule
    go true is rest = absurd cc
    go false is rest = rest is

either : (a b : Bool) → a ≡ true → (a || b) ≡ true
either true b is = refl
either false b is = absurd (false≢true is)

neither : (a b : Bool) → a ≡ false → b ≡ false → (a || b) ≡ false
neither false false x y = refl
neither true b x y = absurd (false≢true (sym x))
neither false true x y = absurd (false≢true (sym y))

second : (a b : Bool) → b ≡ true → (a || b) ≡ true
second true b is = refl
second false b is = is

-- what was known stays, where another event is named, or this one was
stays : (named : List (ℕ × Molecule)) (one : ℕ × Molecule) (number : ℕ) (known : Namer) → IsNamer named number known → (is_named named number ≡ false → number ≢ one.0) → IsNamer (named ++ one ∷ []) number known
stays named one number Nobody is other = named_more named one number ∙ neither (is_named named number) (number == one.0) is (ne_eqb number one.0 (other is))
stays named one number NoRecord is other =
    (named_more named one number ∙ either (is_named named number) (number == one.0) is.0, old_molecule named one number is.0 ∙ is.1)
stays named one number (Record mol) is other =
    (named_more named one number ∙ either (is_named named number) (number == one.0) is.0, old_molecule named one number is.0 ∙ is.1)

-- the number of an event that is none of the log's
pub outside : (named : List (ℕ × Molecule)) (table : List Namer) (number : ℕ) (mol : Molecule) → (1 ≤ number → number ≤ length table → ⊥) → IsTable named table → IsTable (named ++ (number, mol) ∷ []) table
outside named table number mol past is = λ i d within.
    stays named (number, mol) (i + 1) (slice_index_or table i d) (is i d within) (λ _ same. absurd (past (omega (arith, same)) (omega (arith, same, within))))

-- an event that was named before
pub known : (named : List (ℕ × Molecule)) (table : List Namer) (number : ℕ) (mol : Molecule) (d : Namer) → 1 ≤ number → number ≤ length table → (slice_index_or table (number - 1) d ≡ Nobody → ⊥) → IsTable named table → IsTable (named ++ (number, mol) ∷ []) table
known named table number mol d some within not is = λ i e less.
    stays named (number, mol) (i + 1) (slice_index_or table i e) (is i e less)
    (λ none same.
    let at : number - 1 ≡ i = omega (arith, same) in
    absurd (is_nobody i (slice_index_or table i d) (is i d less) none (λ x. not (ap (λ (k : ℕ). slice_index_or table k d) at ∙ x))))
  where
    is_nobody : (i : ℕ) (one : Namer) → IsNamer named (i + 1) one → is_named named (i + 1) ≡ false → (one ≡ Nobody → ⊥) → ⊥
    is_nobody i Nobody is none not = not refl
    is_nobody i NoRecord is none not = false≢true (sym none ∙ is.0)
    is_nobody i (Record mol) is none not = false≢true (sym none ∙ is.0)

-- an event that was not named before
pub written : (named : List (ℕ × Molecule)) (table : List Namer) (number : ℕ) (mol : Molecule) (namer d : Namer) → 1 ≤ number → number ≤ length table → slice_index_or table (number - 1) d ≡ Nobody → IsWith mol namer → IsTable named table
    → IsTable (named ++ (number, mol) ∷ []) (slice_set table (number - 1) namer)
written named table number mol namer d some within nobody with is = λ i e less. elim (cases_eq (i + 1) number) [
  | inl same ↦ (
      let at : i ≡ number - 1 = omega (arith, same) in
      let none : is_named named (i + 1) ≡ false = unnamed i (subst (λ (k : ℕ). slice_index_or table k d ≡ Nobody) (sym at) nobody) (is i d (omega (arith, same, some, within))) in
      subst (IsNamer (named ++ (number, mol) ∷ []) (i + 1)) (sym (get_or-set_at table (number - 1) i namer e at (omega (arith, some, within)))) (here i same none namer with)
      )
  | inr other ↦
      subst (IsNamer (named ++ (number, mol) ∷ []) (i + 1)) (sym (get_or-set_other table (number - 1) i namer e (λ at. other (omega (arith, at, some)))))
      (stays named (number, mol) (i + 1) (slice_index_or table i e) (is i e (omega (arith, less, length-set table (number - 1) namer))) (λ _. other))
]
  where
    unnamed : (i : ℕ) → slice_index_or table i d ≡ Nobody → IsNamer named (i + 1) (slice_index_or table i d) → is_named named (i + 1) ≡ false
    unnamed i nobody is = subst (IsNamer named (i + 1)) nobody is

    here : (i : ℕ) → i + 1 ≡ number → is_named named (i + 1) ≡ false → (namer : Namer) → IsWith mol namer → IsNamer (named ++ (number, mol) ∷ []) (i + 1) namer
    here i same none Nobody with = absurd with
    here i same none NoRecord with =
        (named_more named (number, mol) (i + 1) ∙ second (is_named named (i + 1)) (i + 1 == number) (eq-eqb (i + 1) number same), (new_molecule named (number, mol) (i + 1) none ∙ cond-true (i + 1 == number) mol no_molecule (eq-eqb (i + 1) number same)) ∙ with)
    here i same none (Record one) with =
        (named_more named (number, mol) (i + 1) ∙ second (is_named named (i + 1)) (i + 1 == number) (eq-eqb (i + 1) number same), (new_molecule named (number, mol) (i + 1) none ∙ cond-true (i + 1 == number) mol no_molecule (eq-eqb (i + 1) number same)) ∙ with)

-- ---- the record whose turn it is

pub there : (records : List RecordRead) (k : ℕ) (d : RecordRead) → k < length records → first_molecule (drop k (map outcome_of records)) ≡ first_molecule (outcome_of (slice_index_or records k d) ∷ [])
there [] k d within = absurd (omega arith)
there (first ∷ records) zero d within = head first (map outcome_of records)
  where
    head : (first : RecordRead) (rest : List Outcome) → first_molecule (outcome_of first ∷ rest) ≡ first_molecule (outcome_of first ∷ [])
    head (Accepted name mol) rest = refl
    head (Refused line code) rest = refl
there (first ∷ records) (suc k) d within = there records k d (omega (arith, within))

pub past : (records : List RecordRead) (k : ℕ) → length records ≤ k → no_molecule ≡ first_molecule (drop k (map outcome_of records))
past [] zero over = refl
past [] (suc k) over = refl
past (first ∷ records) zero over = absurd (omega arith)
past (first ∷ records) (suc k) over = past records k (omega (arith, over))
