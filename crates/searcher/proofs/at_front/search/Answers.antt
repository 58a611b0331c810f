use Rattle.std.proofs.Common.{◌≡◌, ℕ, ◌≤◌, [], ◌∷◌, Err, refl, sym, ap, ◌∙◌, subst}
use Rattle.std.specs.Prelude.{Result}
use Rattle.htss_defs.specs.declared.history.SearchError.{SearchError}
use Rattle.board_core.specs.declared.entry.Entry.TheVariants.{Answered}
use Rattle.board_core.specs.declared.entry.Reply.TheVariants.{Hits, OverBudget}
use Rattle.searcher.specs.Searched.{IsSearched}
use Rattle.searcher.specs.Records.{ReadsScreened}
use Rattle.searcher.proofs.Records.{read_fronted, read_noted}
use Rattle.searcher.proofs.Turns.{turns_fronted, turns_noted}
use Rattle.searcher.proofs.Whole.{all_fronted, all_noted}
use Rattle.reg_model.specs.Searches.{Counts}
use Rattle.htss_defs.specs.Reply.{IsReply, found, over_budget}
use Rattle.searcher.specs.Walking.{Whatever}
use Rattle.searcher.proofs.Answered.{same_front, search_answered, search_quiet, search_pruned, pruned_noted, whatever_noted}
use Rattle.searcher.proofs.at_front.search.Goals as goal

pub returns-in-Ok-clause-found : goal.returns-in-Ok-clause-found
returns-in-Ok-clause-found c = (
  c.load_front-front.ensures.later,
  search_answered c.args.caller.now c.load_front-front.new.caller c.load_front-front.result c.load_front-front.ensures.after c.load_front-front.ensures.later c.answer.new.caller c.note_hits.new.caller _ refl c.answer.ensures.reads c.note_hits.ensures,
)

pub returns-in-Ok-clause-records : goal.returns-in-Ok-clause-records
returns-in-Ok-clause-records c = whatever_noted c.args.board.now.shape c.answer.new.caller c.note_hits.new.caller (Answered c.args.query.now c.args.budget c.load_front-front.result (Hits c.answer.new.hits.hits) ∷ []) c.load_front-front.result (λ h. Counts c.args.query.now h c.answer.new.hits.records) c.note_hits.ensures c.in-Ok.ensures.found.screened

pub returns-in-Ok-clause-rows : goal.returns-in-Ok-clause-rows
returns-in-Ok-clause-rows c = pruned_noted c.args.caller.now.account c.answer.new.caller c.note_hits.new.caller (Answered c.args.query.now c.args.budget c.load_front-front.result (Hits c.answer.new.hits.hits) ∷ []) c.args.query.now c.answer.new.hits.rows c.note_hits.ensures
    (search_pruned c.args.caller.now c.load_front-front.new.caller c.load_front-front.result c.load_front-front.ensures.after c.load_front-front.ensures.later c.answer.new.caller.account c.args.query.now c.answer.new.hits.rows c.in-Ok.ensures.rows)

pub returns-in-Err-OverBudget-clause-over : goal.returns-in-Err-OverBudget-clause-over
returns-in-Err-OverBudget-clause-over c = λ at e.
    let front = c.load_front-front.result in
    let own = c.in-Err-OverBudget.at in
    let told = c.in-Err-OverBudget.ensures.over own (ap (λ (x : SearchError). let r : Result (Unit {0}) SearchError = Err x in r) c.in-Err-OverBudget.field-0-is) in
    let same : at ≡ front = same_front own at e ∙ told.0 in (
      subst (λ (z : ℕ). c.args.caller.now.account.log.seen ≤ z) (sym same) c.load_front-front.ensures.later,
      subst (λ (x : ℕ × ℕ). IsSearched c.args.caller.now.account c.note_over.new.caller.account x.0 (Answered c.args.query.now c.args.budget x.1 OverBudget ∷ [])) (λ t. (sym same t, sym (same_front own at e) t))
          (search_answered c.args.caller.now c.load_front-front.new.caller front c.load_front-front.ensures.after c.load_front-front.ensures.later c.answer.new.caller c.note_over.new.caller _ refl c.answer.ensures.reads c.note_over.ensures),
      whatever_noted c.args.board.now.shape c.answer.new.caller c.note_over.new.caller (Answered c.args.query.now c.args.budget own OverBudget ∷ []) at (λ h. IsReply c.args.query.now c.args.budget h over_budget) c.note_over.ensures
          (subst (λ (z : ℕ). Whatever c.args.board.now.shape c.answer.new.caller.account z (λ h. IsReply c.args.query.now c.args.budget h over_budget)) (sym same) told.1.is),
      (
        told.2.0,
        pruned_noted c.args.caller.now.account c.answer.new.caller c.note_over.new.caller (Answered c.args.query.now c.args.budget own OverBudget ∷ []) c.args.query.now told.2.0 c.note_over.ensures
            (search_pruned c.args.caller.now c.load_front-front.new.caller front c.load_front-front.ensures.after c.load_front-front.ensures.later c.answer.new.caller.account c.args.query.now told.2.0 told.2.1),
      ),
    )

pub returns-in-Err-OverBudget-clause-read_over : goal.returns-in-Err-OverBudget-clause-read_over
returns-in-Err-OverBudget-clause-read_over c = λ at e.
    let front = c.load_front-front.result in
    let own = c.in-Err-OverBudget.at in
    let told = c.in-Err-OverBudget.ensures.over own (ap (λ (x : SearchError). let r : Result (Unit {0}) SearchError = Err x in r) c.in-Err-OverBudget.field-0-is) in
    subst (λ (z : ℕ). ReadsScreened c.args.board.now.shape c.args.query.now z c.args.caller.now.account c.note_over.new.caller.account) (sym (same_front own at e ∙ told.0))
    (read_noted c.args.board.now.shape c.args.query.now front c.args.caller.now.account c.answer.new.caller c.note_over.new.caller (Answered c.args.query.now c.args.budget own OverBudget ∷ []) c.note_over.ensures
    (read_fronted c.args.caller.now c.load_front-front.new.caller front c.args.board.now.shape c.args.query.now front c.answer.new.caller.account c.load_front-front.ensures.after c.answer.ensures.read))

pub returns-in-Err-OutOfMemory-clause-memory : goal.returns-in-Err-OutOfMemory-clause-memory
returns-in-Err-OutOfMemory-clause-memory c = λ _. (
  c.load_front-front.result,
  search_quiet c.args.caller.now c.load_front-front.new.caller c.load_front-front.result c.load_front-front.ensures.after c.load_front-front.ensures.later c.answer.new.caller c.answer.ensures.reads,
)

pub returns-in-Ok-clause-reply : goal.returns-in-Ok-clause-reply
returns-in-Ok-clause-reply c = whatever_noted c.args.board.now.shape c.answer.new.caller c.note_hits.new.caller (Answered c.args.query.now c.args.budget c.load_front-front.result (Hits c.answer.new.hits.hits) ∷ []) c.load_front-front.result (λ h. IsReply c.args.query.now c.args.budget h (found c.answer.new.hits.hits)) c.note_hits.ensures c.in-Ok.ensures.found.replies.is

pub returns-in-Ok-clause-read : goal.returns-in-Ok-clause-read
returns-in-Ok-clause-read c =
    let k = c.args.board.now.shape in
    let query = c.args.query.now in
    let front = c.load_front-front.result in
    read_noted k query front c.args.caller.now.account c.answer.new.caller c.note_hits.new.caller (Answered query c.args.budget front (Hits c.answer.new.hits.hits) ∷ []) c.note_hits.ensures
    (read_fronted c.args.caller.now c.load_front-front.new.caller front k query front c.answer.new.caller.account c.load_front-front.ensures.after c.answer.ensures.read)

pub returns-in-Ok-clause-whole : goal.returns-in-Ok-clause-whole
returns-in-Ok-clause-whole c =
    let k = c.args.board.now.shape in
    let query = c.args.query.now in
    let front = c.load_front-front.result in
    all_noted k query front c.args.caller.now.account c.answer.new.caller c.note_hits.new.caller (Answered query c.args.budget front (Hits c.answer.new.hits.hits) ∷ []) c.note_hits.ensures
    (all_fronted c.args.caller.now c.load_front-front.new.caller front k query front c.answer.new.caller.account c.load_front-front.ensures.after c.in-Ok.ensures.whole)

pub returns-in-Ok-clause-turn : goal.returns-in-Ok-clause-turn
returns-in-Ok-clause-turn c =
    let k = c.args.board.now.shape in
    let front = c.load_front-front.result in
    turns_noted k c.args.caller.now.account c.answer.new.caller c.note_hits.new.caller (Answered c.args.query.now c.args.budget front (Hits c.answer.new.hits.hits) ∷ []) c.note_hits.ensures
    (turns_fronted c.args.caller.now c.load_front-front.new.caller front k c.answer.new.caller.account c.load_front-front.ensures.after c.answer.ensures.turn)

pub returns-in-Err-OverBudget-clause-turn : goal.returns-in-Err-OverBudget-clause-turn
returns-in-Err-OverBudget-clause-turn c =
    let k = c.args.board.now.shape in
    let front = c.load_front-front.result in
    turns_noted k c.args.caller.now.account c.answer.new.caller c.note_over.new.caller (Answered c.args.query.now c.args.budget c.in-Err-OverBudget.at OverBudget ∷ []) c.note_over.ensures
    (turns_fronted c.args.caller.now c.load_front-front.new.caller front k c.answer.new.caller.account c.load_front-front.ensures.after c.answer.ensures.turn)

pub returns-in-Err-OutOfMemory-clause-turn : goal.returns-in-Err-OutOfMemory-clause-turn
returns-in-Err-OutOfMemory-clause-turn c =
    turns_fronted c.args.caller.now c.load_front-front.new.caller c.load_front-front.result c.args.board.now.shape c.answer.new.caller.account c.load_front-front.ensures.after c.answer.ensures.turn
