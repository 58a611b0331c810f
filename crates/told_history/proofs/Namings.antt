-- What one more line, and one more block, name.
use Rattle.std.proofs.Common.{◌≡◌, inl, inr, ℕ, zero, suc, ◌+◌, ◌≤◌, List, [], ◌∷◌, ◌++◌, append_assoc, append-nil, length, drop, map, refl, sym, ap, subst, ◌∙◌, arith}
use Rattle.std.specs.Prelude.{Option, Some, None, slice_get}
use Rattle.htss_defs.specs.Molecule.{Molecule}
use Rattle.mol_section.specs.SectionRecord.{Outcome}
use Rattle.ctfile.specs.RecordList.{IsRecordList}
use Rattle.script_text.specs.declared.script.Job.{Job}
use Rattle.script_text.specs.declared.script.Order.{Order}
use Rattle.script_text.specs.declared.script.Order.TheVariants as order
use Rattle.script_text.specs.FilesByLine.{bytes_at}
use Rattle.report_text.specs.declared.report.Block.{Block}
use Rattle.report_text.specs.declared.report.Block.TheVariants as block
use Rattle.report_text.specs.declared.report.LoadLine.{LoadLine}
use Rattle.report_rules.specs.Dealing.{Dealt}
use Rattle.report_rules.specs.Faults.{AreNamed, IsBlockFor, IsNamedIn, first_molecule, naming, namings}
use Rattle.told_history.specs.declared.reads.JobRead.{JobRead}
use Rattle.told_history.specs.declared.reads.JobRead.TheVariants.{Records, Asked, Nothing}
use Rattle.told_history.specs.Named.{AreLinesFor, IsNamedAt, lines_in, records_in}
use Rattle.told_history.specs.Reads.{IsReadFor, outcome_of}

-- ---- one more line

drop_none : (k : ℕ) → drop {A = Outcome} k [] ≡ []
drop_none zero = refl
drop_none (suc k) = refl

drop_one : (k : ℕ) (outcomes : List Outcome) → drop k (drop 1 outcomes) ≡ drop (suc k) outcomes
drop_one k [] = drop_none k
drop_one k (one ∷ outcomes) = refl

pub namings_push : (outcomes : List Outcome) (lines : List LoadLine) (line : LoadLine)
    → namings outcomes (lines ++ line ∷ []) ≡ namings outcomes lines ++ naming (first_molecule (drop (length lines) outcomes)) line
namings_push outcomes [] line = append-nil (naming (first_molecule outcomes) line)
namings_push outcomes (one ∷ lines) line =
    let first = naming (first_molecule outcomes) one in
    ap (λ (x : List (ℕ × Molecule)). first ++ x)
    (namings_push (drop 1 outcomes) lines line ∙ ap (λ (o : List Outcome). namings (drop 1 outcomes) lines ++ naming (first_molecule o) line) (drop_one (length lines) outcomes))
    ∙ sym (append_assoc first (namings (drop 1 outcomes) lines) (naming (first_molecule (drop (suc (length lines)) outcomes)) line))

-- ---- the block at a job's place

pub named_in : (files : List (ℕ × List ℕ)) (one : Dealt) (job : Job) (read : JobRead) (here : Block) (lines : List LoadLine) → one.job ≡ job
    → IsReadFor (bytes_at files job.line) job.order read → AreLinesFor job.line job.order here lines → IsNamedIn files one here (namings (map outcome_of (records_in read)) lines)
named_in files one job read (block.Withdraw at number answer) lines same is are = nothing are
  where
    nothing : AreLinesFor job.line job.order (block.Withdraw at number answer) lines → namings (map outcome_of (records_in read)) lines ≡ []
    nothing (inl is) = ap (namings (map outcome_of (records_in read))) is.1
    nothing (inr is) = ap (namings (map outcome_of (records_in read))) is.1
named_in files one job read (block.Search at file answer) lines same is are = nothing are
  where
    nothing : AreLinesFor job.line job.order (block.Search at file answer) lines → namings (map outcome_of (records_in read)) lines ≡ []
    nothing (inl is) = ap (namings (map outcome_of (records_in read))) is.1
    nothing (inr is) = ap (namings (map outcome_of (records_in read))) is.1
named_in files one job read (block.Load at file answers) lines same is are = go are
  where
    found : (asks : Order) (read : JobRead) (bytes : Option (List ℕ)) → bytes_at files job.line ≡ bytes → IsReadFor bytes asks read → IsBlockFor job.line asks (block.Load at file answers)
        → (there : List ℕ) × (outcomes : List Outcome) × (bytes_at files at ≡ Some there) × IsRecordList there outcomes × (namings (map outcome_of (records_in read)) answers ≡ namings outcomes answers)
    found (order.Load name) (Records records) (Some there) looked is mine = (there, map outcome_of records.items, ap (bytes_at files) mine.0 ∙ looked, is, refl)
    found (order.Load name) (Asked outcome) (Some there) looked is mine = absurd is
    found (order.Load name) Nothing (Some there) looked is mine = absurd is
    found (order.Load name) read None looked is mine = absurd is
    found (order.Withdraw number) read bytes looked is mine = absurd mine
    found (order.Search name own) read bytes looked is mine = absurd mine

    go : AreLinesFor job.line job.order (block.Load at file answers) lines → IsNamedIn files one (block.Load at file answers) (namings (map outcome_of (records_in read)) lines)
    go (inl mine) =
        let (there, outcomes, looked, list, same_names) = found job.order read (bytes_at files job.line) refl is mine.0 in
        inl (
          subst (λ (j : Job). IsBlockFor j.line j.order (block.Load at file answers)) (sym same) mine.0,
          there,
          outcomes,
          looked,
          list,
          ap (namings (map outcome_of (records_in read))) mine.1 ∙ same_names,
        )
    go (inr other) =
        inr (subst (λ (j : Job). IsBlockFor j.line j.order (block.Load at file answers) → ⊥) (sym same) other.0, ap (namings (map outcome_of (records_in read))) other.1)

-- ---- one more block

pub named_push : (files : List (ℕ × List ℕ)) (jobs : List Dealt) (one : Dealt) (blocks : List Block) (named here : List (ℕ × Molecule))
    → AreNamed files jobs blocks named → IsNamedAt files one (slice_get blocks (length jobs)) here → AreNamed files (jobs ++ one ∷ []) blocks (named ++ here)
named_push files [] one [] named here are is = ap (λ (x : List (ℕ × Molecule)). x ++ here) are ∙ is
named_push files [] one (first ∷ blocks) named here are is =
    (here, [], ap (λ (x : List (ℕ × Molecule)). x ++ here) are ∙ sym (append-nil here), is, refl)
named_push files (job ∷ jobs) one [] named here are is = ap (λ (x : List (ℕ × Molecule)). x ++ here) are ∙ is
named_push files (job ∷ jobs) one (first ∷ blocks) named here are is =
    let (front, rest, whole, inside, more) = are in
    (front, rest ++ here, ap (λ (x : List (ℕ × Molecule)). x ++ here) whole ∙ append_assoc front rest here, inside, named_push files jobs one blocks rest here more is)
