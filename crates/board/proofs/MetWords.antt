-- Loads of entries that were read, and of their rows, as the calls ask for them.
use Rattle.std.proofs.Common.{◌≡◌, ◌≢◌, ℕ, ◌+◌, ◌-◌, ◌<◌, ◌≤◌, sym, ap, ◌∙◌, subst}
use mathlib.Core.Option.{none}
use Rattle.atomic_table.specs.Table.{step, Allows}
use Rattle.htss_defs.specs.declared.shape.Shape.{Shape}
use Rattle.board_core.specs.declared.account.Who.TheVariants.{Gone}
use Rattle.board_core.specs.Blocks.{atoms_in}
use Rattle.board_core.specs.Records.{code_word_at}
use Rattle.board_core.specs.Rows.{block_named, atom_named}
use Rattle.board_core.specs.Loaded.{page_word}
use Rattle.board_core.specs.Holds.{Holds}
use Rattle.board_core.specs.After.{visited}
use Rattle.board_core.specs.Steps.{Mine}
use Rattle.board_core.specs.Met.{HasMet, MayLoadEntry, MayLoadMet, LoadsEntry, LoadsMetHead, LoadsMetCode}
use Rattle.board_core.proofs.LoadMet.{met_entry_allowed, met_head_allowed, met_code_allowed}

pub entry_asked : (k : Shape) (slots id q r number index page at_word : ℕ) (m : Mine) → (q ≡ number) × (r ≡ index) → at_word ≡ page_word k page (2 + index) → (visited m.0.me.tree.reached number).page ≡ page → MayLoadEntry k m.0.me number index → m.0.shape ≡ k
    → Allows (Holds k) slots id m at_word (λ n. n) (LoadsEntry q r (step slots at_word 0 0 none) m)
entry_asked k slots id q r number index page at_word m e is same may shape = subst (λ (x : ℕ × ℕ). Allows (Holds k) slots id m at_word (λ n. n) (LoadsEntry x.0 x.1 (step slots at_word 0 0 none) m)) (λ i. (sym e.0 i, sym e.1 i))
    (met_entry_allowed k slots id number index at_word m (is ∙ ap (λ z. page_word k z (2 + index)) (sym same)) may shape)

pub head_asked : (k : Shape) (slots id q number index entry : ℕ) (m : Mine) → q ≡ entry → HasMet m.0.me number index entry → m.0.me.who ≢ Gone → Allows (Holds k) slots id m (block_named entry) (λ n. n) (LoadsMetHead q (step slots (block_named entry) 0 0 none) m)
head_asked k slots id q number index entry m e met here = subst (λ (x : ℕ). Allows (Holds k) slots id m (block_named entry) (λ n. n) (LoadsMetHead x (step slots (block_named entry) 0 0 none) m)) (sym e) (met_head_allowed k slots id number index entry m met here)

pub met_code_asked : (k : Shape) (slots id q r number index entry head code place : ℕ) (m : Mine) → (q ≡ entry) × (r ≡ code) → place ≡ block_named entry + code_word_at head (atom_named entry - 1) code → MayLoadMet m.0.me number index entry head code → 0 < atom_named entry → atom_named entry ≤ atoms_in head → m.0.me.who ≢ Gone
    → Allows (Holds k) slots id m place (λ n. n) (LoadsMetCode q r (step slots place 0 0 none) m)
met_code_asked k slots id q r number index entry head code place m e is may above most here = subst (λ (x : ℕ × ℕ). Allows (Holds k) slots id m place (λ n. n) (LoadsMetCode x.0 x.1 (step slots place 0 0 none) m)) (λ i. (sym e.0 i, sym e.1 i))
    (met_code_allowed k slots id number index entry head code place m is may above most here)
