-- The ring bonds of all that a report names are marked.
use Rattle.std.proofs.Common.{◌≡◌, refl, ◌∙◌, inl, inr, ℕ, zero, suc, ◌+◌, Bool, true, false, List, [], ◌∷◌, ◌++◌, length, drop, All, sym, ap, subst}
use Rattle.std.specs.Prelude.{Some, slice_get, slice_index_or, ◌==◌, if◌then◌else◌}
use Rattle.htss_defs.specs.Molecule.{Molecule}
use Rattle.htss_defs.specs.Marked.{IsMarked}
use Rattle.mol_section.specs.SectionRecord.{IsOutcome, Outcome, accepted, refused}
use Rattle.ctfile.specs.RecordList.{AreOutcomes}
use Rattle.report_text.specs.declared.report.Block.{Block}
use Rattle.report_text.specs.declared.report.Block.TheVariants as block
use Rattle.report_text.specs.declared.report.LoadLine.{LoadLine}
use Rattle.report_text.specs.declared.report.LoadLine.TheVariants.{Published, Refused, DataFull, NoPage, ChainFull, LogFull}
use Rattle.report_rules.specs.Dealing.{Dealt}
use Rattle.report_rules.specs.Faults.{AreNamed, IsNamedIn, first_molecule, molecule_named, naming, namings, no_molecule}
use Rattle.told_history.specs.declared.names.Namer.{Namer}
use Rattle.told_history.specs.declared.names.Namer.TheVariants.{Nobody, NoRecord, Record}
use Rattle.told_history.specs.Named.{IsNamer, IsTable}
use Rattle.told_history.specs.Telling.{IsMarkedNamer}

nothing_there : {X : Type 0} (i : ℕ) (x : X) → slice_get [] i ≡ Some x → ⊥
nothing_there i x at = absurd cc

no_marked : IsMarked no_molecule
no_marked = λ k b at. absurd (nothing_there k b at)

drop_none : (k : ℕ) → drop {A = Outcome} k [] ≡ []
drop_none zero = refl
drop_none (suc k) = refl

-- those of each record of a file
records_marked : (k first : ℕ) (sections : List (List (List ℕ))) (outcomes : List Outcome) → AreOutcomes first sections outcomes → IsMarked (first_molecule (drop k outcomes))
records_marked k first [] outcomes are = subst (λ (o : List Outcome). IsMarked (first_molecule o)) (sym (ap (drop k) are ∙ drop_none k)) no_marked
records_marked k first (section ∷ sections) [] are = absurd are
records_marked zero first (section ∷ sections) (outcome ∷ outcomes) are = here outcome are.0
  where
    here : (outcome : Outcome) → IsOutcome first section outcome → IsMarked (first_molecule (outcome ∷ outcomes))
    here (accepted name mol) is = is.marked
    here (refused line code) is = no_marked
records_marked (suc k) first (section ∷ sections) (outcome ∷ outcomes) are = records_marked k (first + length section + 1) sections outcomes are.1

-- those of each molecule by which an event is named
AreMarkedNames : List (ℕ × Molecule) → Type 0
AreMarkedNames [] = Unit {0}
AreMarkedNames (one ∷ named) = IsMarked one.1 × AreMarkedNames named

both_marked : (named more : List (ℕ × Molecule)) → AreMarkedNames named → AreMarkedNames more → AreMarkedNames (named ++ more)
unfolding AreMarkedNames
both_marked [] more first second = second
both_marked (one ∷ named) more first second = (first.0, both_marked named more first.1 second)

line_marked : (mol : Molecule) (line : LoadLine) → IsMarked mol → AreMarkedNames (naming mol line)
unfolding AreMarkedNames
line_marked mol (Published number name) is = (is, tt)
line_marked mol (Refused place line code) is = tt
line_marked mol (DataFull place left need) is = tt
line_marked mol (NoPage place) is = tt
line_marked mol (ChainFull place pages) is = tt
line_marked mol (LogFull place front) is = tt

drop_more : (k : ℕ) (outcomes : List Outcome) → drop (suc k) outcomes ≡ drop k (drop 1 outcomes)
drop_more k [] = sym (drop_none k)
drop_more k (one ∷ outcomes) = refl

lines_marked : (outcomes : List Outcome) (lines : List LoadLine) → ((k : ℕ) → IsMarked (first_molecule (drop k outcomes))) → AreMarkedNames (namings outcomes lines)
unfolding AreMarkedNames
lines_marked outcomes [] are = tt
lines_marked outcomes (line ∷ lines) are =
    both_marked (naming (first_molecule outcomes) line) (namings (drop 1 outcomes) lines) (line_marked (first_molecule outcomes) line (are 0))
    (lines_marked (drop 1 outcomes) lines (λ k. subst (λ (o : List Outcome). IsMarked (first_molecule o)) (drop_more k outcomes) (are (suc k))))

none_marked : (named : List (ℕ × Molecule)) → named ≡ [] → AreMarkedNames named
unfolding AreMarkedNames
none_marked named is = subst AreMarkedNames (sym is) tt

block_marked : (files : List (ℕ × List ℕ)) (one : Dealt) (here : Block) (named : List (ℕ × Molecule)) → IsNamedIn files one here named → AreMarkedNames named
block_marked files one (block.Withdraw at number answer) named is = none_marked named is
block_marked files one (block.Search at file answer) named is = none_marked named is
block_marked files one (block.Load at file lines) named (inl is) =
    let (mine, bytes, outcomes, there, list, same) = is in
    subst AreMarkedNames (sym same) (lines_marked outcomes lines (λ k. records_marked k 1 _ outcomes list.are_outcomes))
block_marked files one (block.Load at file lines) named (inr is) = none_marked named is.1

named_marked : (files : List (ℕ × List ℕ)) (jobs : List Dealt) (blocks : List Block) (named : List (ℕ × Molecule)) → AreNamed files jobs blocks named → AreMarkedNames named
named_marked files [] blocks named are = none_marked named are
named_marked files (job ∷ jobs) [] named are = none_marked named are
named_marked files (job ∷ jobs) (here ∷ blocks) named are =
    let (front, rest, whole, inside, more) = are in
    subst AreMarkedNames (sym whole) (both_marked front rest (block_marked files job here front inside) (named_marked files jobs blocks rest more))

one_marked : (named : List (ℕ × Molecule)) (number : ℕ) → AreMarkedNames named → IsMarked (molecule_named named number)
unfolding AreMarkedNames
one_marked [] number are = no_marked
one_marked (one ∷ named) number are = go (number == one.0) (one_marked named number are.1)
  where
    go : (b : Bool) → IsMarked (molecule_named named number) → IsMarked (if b then one.1 else molecule_named named number)
    go true rest = are.0
    go false rest = rest

pub table_marked : (files : List (ℕ × List ℕ)) (jobs : List Dealt) (blocks : List Block) (named : List (ℕ × Molecule)) (table : List Namer)
    → AreNamed files jobs blocks named → IsTable named table → All IsMarkedNamer table
table_marked files jobs blocks named table are is = λ i d within. go (i + 1) (slice_index_or table i d) (is i d within)
  where
    go : (number : ℕ) (one : Namer) → IsNamer named number one → IsMarkedNamer one
    go number Nobody is = tt
    go number NoRecord is = tt
    go number (Record mol) is = subst IsMarked is.1 (one_marked named number (named_marked files jobs blocks named are))
