-- Entries are added: what a step that answers leaves, and that true answers are true of the board.
use Rattle.std.proofs.Common.{◌≡◌, ◌<◌, ◌≤◌, ℕ, zero, suc, List, [], ◌∷◌, ◌++◌, set, sym, refl, subst}
use mathlib.Core.Option.{some}
use lib.ListN.{get_elem?}
use Rattle.htss_defs.specs.declared.shape.Shape.{Shape}
use Rattle.htss_defs.specs.declared.history.Event.{Event}
use Rattle.board_core.specs.declared.account.Account.{Account}
use Rattle.board_core.specs.declared.account.View.{View}
use Rattle.board_core.specs.declared.account.Who.{Who}
use Rattle.board_core.specs.declared.entry.Entry.{Entry}
use Rattle.board_core.specs.declared.entry.Noted.{Noted}
use Rattle.board_core.specs.declared.loads.Loads.{Loads}
use Rattle.board_core.specs.Each.{Each}
use Rattle.board_core.specs.Words.{Parts}
use Rattle.board_core.specs.Histories.{history_of}
use Rattle.board_core.specs.Accounts.{with_me, EachAccount}
use Rattle.board_core.specs.Truths.{IsTrueLog, IsTrueStory}
use Rattle.board_core.specs.StoryRule.{StoryRule}
use Rattle.board_core.proofs.RecordFrame.{known_records}
use Rattle.board_core.proofs.MarkKnown.{known_marks}
use Rattle.board_core.specs.Holds.{Rule}
use Rattle.board_core.specs.After.{noted}
use Rattle.board_core.specs.MarkRule.{ShowsAt, MarkRule}
use Rattle.board_core.specs.RoomRule.{IsSealed, SomeAccount}
use Rattle.board_core.specs.Steps.{Known, FirstMark, Agrees, AreTrue}
use Rattle.board_core.proofs.Lists.{each_none, each_cons}
use Rattle.board_core.proofs.Everyone.{mine, changed}
use Rattle.board_core.proofs.StoryFrame.{before_same, story_longer}

-- entries that are noted are as true as they were
noted_true : (k : Shape) (h : List Event) (l : Loads) (es : List Entry) → Each (IsTrueLog k h) es → Each (λ n. IsTrueLog k h n.entry) (noted l es)
noted_true k h l [] all = each_none (λ n. IsTrueLog k h n.entry)
noted_true k h l (e ∷ es) all = each_cons (λ n. IsTrueLog k h n.entry) _ (noted l es) (all zero e refl) (noted_true k h l es (λ j. all (suc j)))

-- the first mark of a sealed block
first_mark : (k : Shape) (p : Parts) (vs : List View) (block : ℕ) → MarkRule k p.regions p.log.front p.log.slots vs → SomeAccount (λ x. IsSealed x.room.sealed block) vs → FirstMark k p block
first_mark k p vs block r (j, u, at, i, a, there, (b, s, in_list, place)) =
    let first = (r.marks j u at i a there b s in_list).first in
    subst (FirstMark k p) place record { told = λ number above within is. subst (ShowsAt p.log.front p.log.slots s.place) is (first.told (subst (λ (z : ℕ). 0 < z) (sym is) above) (subst (λ (z : ℕ). z ≤ p.log.front) (sym is) within)); stands = first.stands }

-- what each account knows agrees with the board
pub agree_all : (k : Shape) (p : Parts) (h : List Event) (vs : List View) → Rule k p h vs → EachAccount (Agrees k p) vs
agree_all k p h vs r j u at i x there = record {
  seen = (r.log.hands j u at i x there).seen;
  shown = r.loads j u at i x there;
  blocks = r.facts.stand j u at i x there;
  swept = λ t n here. (r.swept j u at i x there t n here).0;
  firsts = λ n l loaded. first_mark k p vs l.row.block r.marks ((r.facts.of_blocks j u at i x there).codes n l loaded).sealed;
}

pub agrees : (k : Shape) (p : Parts) (h : List Event) (vs : List View) (id : ℕ) (v : View) → Rule k p h vs → get_elem? vs id ≡ some v → Agrees k p v.me
agrees k p h vs id v r at = mine (Agrees k p) vs id v at (agree_all k p h vs r)

pub known : (k : Shape) (p : Parts) (vs : List View) → Rule k p (history_of k p) vs → Known k p
known k p vs r = record {
  front = r.log.front;
  legal = r.log.legal;
  blocks = record { records = known_records k p vs r.records r.rooms; marks = known_marks k p vs r.marks r.rooms };
}

-- a step that adds true entries, and changes nothing else that this part reads
pub answered_stories : (k : Shape) (p : Parts) (vs : List View) (id : ℕ) (v : View) (a : Account) (es : List Entry) → Rule k p (history_of k p) vs → get_elem? vs id ≡ some v → AreTrue k v.me es
    → a.who ≡ v.me.who → a.entries ≡ v.me.entries ++ noted v.me.loads es → StoryRule k (history_of k p) (set vs id (with_me v a))
answered_stories k p vs id v a es r at true_all who entries =
    let h : List Event = history_of k p in
    let longer : IsTrueStory k h v.me.who (v.me.entries ++ noted v.me.loads es) = story_longer k h v.me.who v.me.entries (noted v.me.loads es) true_all.silent
    (noted_true k h v.me.loads es (true_all.each p (known k p vs r) (agrees k p h vs id v r at))) (mine (λ x. IsTrueStory k h x.who x.entries) vs id v at r.stories.stories) in record {
      stories = changed (λ x. IsTrueStory k h x.who x.entries) vs id v a at (subst (λ (x : Who × List Noted). IsTrueStory k h x.0 x.1) (λ i. (sym who i, sym entries i)) longer) r.stories.stories;
      none_before = before_same h vs id v a at who r.stories.none_before;
    }
