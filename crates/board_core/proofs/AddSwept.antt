-- What a descent answers is added, at a load of the lock whose value is not used.
use Rattle.std.proofs.Common.{◌≡◌, ℕ, List, [], ◌∷◌, set, refl}
use mathlib.Core.Option.{some, none}
use lib.ListN.{get_elem?}
use Rattle.atomic_table.specs.Table.{step, keeps, Allows}
use Rattle.htss_defs.specs.declared.shape.Shape.{Shape}
use Rattle.htss_defs.specs.declared.needs.Need.{Need}
use Rattle.board_core.specs.declared.account.Account.{Account}
use Rattle.board_core.specs.declared.account.View.{View}
use Rattle.board_core.specs.declared.entry.Entry.{Entry}
use Rattle.board_core.specs.declared.entry.Entry.TheVariants.{Swept}
use Rattle.board_core.specs.declared.entry.Noted.{Noted}
use Rattle.board_core.specs.declared.room.Row.{Row}
use Rattle.board_core.specs.Words.{Parts, parts_of}
use Rattle.board_core.specs.Histories.{history_of}
use Rattle.board_core.specs.Accounts.{with_me}
use Rattle.board_core.specs.Truths.{IsTrueLog, IsTrueRoom, IsTruePool, IsTrueStory}
use Rattle.board_core.specs.ChainRule.{IsTrueChain}
use Rattle.board_core.specs.StoryRule.{StoryRule}
use Rattle.board_core.specs.Sheets.{sheet_of}
use Rattle.board_core.specs.Swept.{IsSweptOn}
use Rattle.board_core.specs.Sweeps.{MaySweep}
use Rattle.board_core.specs.Holds.{Rule, Holds}
use Rattle.board_core.specs.After.{noted, after_answer}
use Rattle.board_core.specs.Steps.{Mine, Answers}
use Rattle.board_core.proofs.Lists.{each_none, each_cons}
use Rattle.board_core.proofs.Everyone.{mine, changed}
use Rattle.board_core.proofs.StoryFrame.{before_same, story_longer}
use Rattle.board_core.proofs.FullFrame.{full_more}
use Rattle.board_core.proofs.EmptyFrame.{empty_more}
use Rattle.board_core.proofs.LogFrame.{log_same}
use Rattle.board_core.proofs.LoadFrame.{loads_same, not_later}
use Rattle.board_core.proofs.SweptFrame.{swept_more}
use Rattle.board_core.proofs.ChainFrame.{chains_more}
use Rattle.board_core.proofs.Stepped.{by_log, still}

module _ (k : Shape) (p : Parts) (vs : List View) (id : ℕ) (v : View) (need : Need) (front : ℕ) (rows : List Row) (r : Rule k p (history_of k p) vs) (at : get_elem? vs id ≡ some v) (may : MaySweep k v.me need front rows) where
  abbrev told : List Entry
  told = Swept need front rows ∷ []

  abbrev after : Account
  after = after_answer v.me (Swept need front rows ∷ [])

  stories : StoryRule k (history_of k p) (set vs id (with_me v (after_answer v.me (Swept need front rows ∷ []))))
  stories = record {
    stories = changed (λ x. IsTrueStory k (history_of k p) x.who x.entries) vs id v (after_answer v.me (Swept need front rows ∷ [])) at
        (story_longer k (history_of k p) v.me.who v.me.entries (noted v.me.loads (Swept need front rows ∷ [])) refl
        (each_cons (λ (n : Noted). IsTrueLog k (history_of k p) n.entry) _ [] tt (each_none (λ (n : Noted). IsTrueLog k (history_of k p) n.entry))) (mine (λ x. IsTrueStory k (history_of k p) x.who x.entries) vs id v at r.stories.stories))
        r.stories.stories;
    none_before = before_same (history_of k p) vs id v (after_answer v.me (Swept need front rows ∷ [])) at refl r.stories.none_before;
  }

  pub note_swept : Rule k p (history_of k p) (set vs id (with_me v (after_answer v.me (Swept need front rows ∷ []))))
  note_swept = by_log k p p (history_of k p) (history_of k p) vs id v (after_answer v.me (Swept need front rows ∷ [])) r at
      record { who = refl; pool_words = refl; page_words = refl; pool = refl; tree = refl; counts = refl; epochs = refl; states = refl; lost = refl }
      record { words = refl; front = refl; slots = refl; store = refl }
      record { heads = refl; facts = refl; codes = refl; marks = refl }
      (log_same k p.log (history_of k p) vs id v (after_answer v.me (Swept need front rows ∷ [])) r.log at refl)
      stories
      (full_more k vs id v (after_answer v.me (Swept need front rows ∷ [])) (Swept need front rows ∷ []) r.full at (each_cons (IsTrueRoom _) (Swept need front rows) [] tt (each_none (IsTrueRoom _))) refl refl)
      (empty_more k p.pool.states vs id v (after_answer v.me (Swept need front rows ∷ [])) (Swept need front rows ∷ []) r.empty at (each_cons (IsTruePool k p.pool.states) (Swept need front rows) [] tt (each_none (IsTruePool k p.pool.states))) refl)
      (chains_more k p.pages p.pool.states vs id v (after_answer v.me (Swept need front rows ∷ [])) (Swept need front rows ∷ []) r.chains at refl
      (each_cons (IsTrueChain k p.pages (sheet_of p.pool.states vs)) (Swept need front rows) [] tt (each_none (IsTrueChain k p.pages (sheet_of p.pool.states vs)))) refl)
      (swept_more k p (history_of k p) vs id v (after_answer v.me (Swept need front rows ∷ [])) (Swept need front rows ∷ []) r at
      (each_cons (IsSweptOn k p vs) (Swept need front rows) [] (may p vs record { rule = r; id = id; view = v; at = at; me = refl }) (each_none (IsSweptOn k p vs))) refl)
      (loads_same k p.log p.log vs id v (after_answer v.me (Swept need front rows ∷ [])) r.loads at (not_later p.log p.log refl refl) refl)

pub swept_allowed : (k : Shape) (slots id : ℕ) (m : Mine) (need : Need) (front : ℕ) (rows : List Row) → MaySweep k m.0.me need front rows → Allows (Holds k) slots id m 1 (λ n. n) (Answers (Swept need front rows ∷ []) (step slots 1 0 0 none) m)
swept_allowed k slots id m need front rows may s h _ at _ = (
  with_me m.0 (after_answer m.0.me (Swept need front rows ∷ [])),
  keeps,
  tt,
  still k s 1 id m.1 m.0 (after_answer m.0.me (Swept need front rows ∷ [])) h (note_swept k (parts_of k s.words) s.views id m.0 need front rows h.rule at may),
  refl,
)
