-- The blocks of groups that are done tell of the history that all callers have seen.
use Rattle.std.proofs.Common.{◌≡◌, ℕ, ◌+◌, List, [], ◌∷◌, ◌++◌, map, refl, sym, ap, ◌∙◌, subst}
use Rattle.std.specs.Prelude.{take, All}
use Rattle.std.proofs.lemmas.List.{map-append}
use Rattle.std.proofs.lemmas.List.Elements.{All-append, All-nil}
use Rattle.htss_defs.specs.declared.shape.Shape.{Shape}
use Rattle.htss_defs.specs.Shapes.{IsShape}
use Rattle.script_text.specs.declared.script.Group.{Group}
use Rattle.report_rules.specs.Dealing.{Dealt, dealt}
use Rattle.report_rules.specs.Reports.{Done, done_block, IsByItsFile, IsToldBy}
use Rattle.board_core.specs.declared.account.Account.{Account}
use Rattle.board_core.specs.Words.{Parts}
use Rattle.board_core.specs.Histories.{history_of}
use Rattle.board_jobs.specs.Groups.{AreGroupsDone, AreNew}
use Rattle.board_jobs.specs.Ends.{HaveGoneOn, IsEnd}
use Rattle.board_jobs.proofs.Named.{named}
use Rattle.board_jobs.proofs.Ruled.{ruled}

abbrev dealt_of : (l : List Done) → List Dealt
dealt_of l = map (λ one. one.dealt) l

-- the jobs are those of the groups, each answered by its file
pub all_dealt : (k : Shape) (files : List (ℕ × List ℕ)) (budget number : ℕ) (groups : List Group) (before after : List Account) (front : ℕ) (done : List Done) → AreGroupsDone k files budget number groups before after front done
    → (map (λ one. one.dealt) done ≡ dealt k number groups) × All (IsByItsFile files budget) done
all_dealt k files budget number [] before after front done (same, none_done, seen) = (ap dealt_of none_done, subst (All (IsByItsFile files budget)) (sym none_done) (All-nil (IsByItsFile files budget)))
all_dealt k files budget number (group ∷ groups) before after front done (middle, met, first, rest, one, more, is) =
    let later = all_dealt k files budget (number + 1) groups middle after front rest more in (
      ap dealt_of is ∙ (map-append (λ (d : Done). d.dealt) first rest ∙ (λ i. one.dealt_are i ++ later.0 i)),
      subst (All (IsByItsFile files budget)) (sym is) (All-append (IsByItsFile files budget) first rest one.by_files later.1),
    )

pub told : (k : Shape) (files : List (ℕ × List ℕ)) (budget : ℕ) (groups : List Group) (before middle last : List Account) (front : ℕ) (done : List Done) (p : Parts) → IsShape k → AreNew k before → AreGroupsDone k files budget 1 groups before middle front done → HaveGoneOn k middle last → IsEnd k p last
    → IsToldBy groups files k budget (take front (history_of k p)) (map done_block done)
told k files budget groups before middle last front done p shape new groups_done gone end = record {
  done = done;
  jobs = (all_dealt k files budget 1 groups before middle front done groups_done).0;
  by_files = (all_dealt k files budget 1 groups before middle front done groups_done).1;
  blocks_are = refl;
  rules = ruled k files budget groups before middle last front done p shape new groups_done gone end;
  named = named k files budget groups before middle last front done p new groups_done gone end;
}
