-- A leaf is passed, as the call asks for it.
use Rattle.std.proofs.Common.{◌≡◌, ℕ, sym, ap, ◌∙◌, subst}
use mathlib.Core.Option.{none}
use Rattle.atomic_table.specs.Table.{step, Allows}
use Rattle.htss_defs.specs.declared.shape.Shape.{Shape}
use Rattle.board_core.specs.Loaded.{page_word}
use Rattle.board_core.specs.Holds.{Holds}
use Rattle.board_core.specs.After.{visited}
use Rattle.board_core.specs.Steps.{Mine}
use Rattle.board_core.specs.Passing.{MayPassLeaf, PassesLeaf}
use Rattle.board_core.proofs.PassLeaf.{pass_allowed}

pub pass_asked : (k : Shape) (slots id q number page at_word : ℕ) (m : Mine) → q ≡ number → at_word ≡ page_word k page 1 → (visited m.0.me.tree.reached number).page ≡ page → m.0.shape ≡ k → MayPassLeaf k m.0.me number
    → Allows (Holds k) slots id m at_word (λ n. n) (PassesLeaf q (step slots at_word 0 0 none) m)
pass_asked k slots id q number page at_word m e is same shape may = subst (λ (x : ℕ). Allows (Holds k) slots id m at_word (λ n. n) (PassesLeaf x (step slots at_word 0 0 none) m)) (sym e)
    (pass_allowed k slots id number at_word 0 m (is ∙ ap (λ z. page_word k z 1) (sym same)) shape may)
