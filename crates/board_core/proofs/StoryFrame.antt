-- True accounts: what a step leaves of them, and what one more entry or event leaves.
use Rattle.std.proofs.Common.{◌≡◌, ◌≢◌, ℕ, ◌<◌, ◌≤◌, List, [], ◌∷◌, ◌++◌, length, set, sym, refl, ap, ◌∙◌, subst, arith, append_assoc, append-nil, length-append}
use Rattle.std.specs.Prelude.{take}
use mathlib.Core.Option.{some}
use lib.ListN.{get_elem?}
use Rattle.htss_defs.specs.declared.shape.Shape.{Shape}
use Rattle.htss_defs.specs.declared.history.Event.{Event}
use Rattle.board_core.specs.declared.account.Account.{Account}
use Rattle.board_core.specs.declared.account.View.{View}
use Rattle.board_core.specs.declared.account.Who.{Who}
use Rattle.board_core.specs.declared.account.Who.TheVariants.{Opener, Loader, Searcher, Note, Gone}
use Rattle.board_core.specs.Each.{Each}
use Rattle.board_core.specs.Accounts.{with_me}
use Rattle.board_core.specs.declared.entry.Entry.{Entry}
use Rattle.board_core.specs.declared.entry.Entry.TheVariants.{Published, Withdrawn, Answered, Unknown, Gone as Ended, LogFull, DataFull, NoPage, ChainFull, Swept}
use Rattle.board_core.specs.declared.entry.Noted.{Noted}
use Rattle.htss_defs.specs.Reply.{IsReply}
use lib.Seq.{take-append-le}
use Rattle.board_core.specs.Accounts.{made_by}
use Rattle.board_core.specs.Histories.{IsPublished, caller_of, events_by}
use Rattle.board_core.specs.Truths.{IsTrueLog, IsTrueStory, told_by, told_in, own_events, reply_of}
use Rattle.board_core.specs.SeatRule.{made}
use Rattle.board_core.specs.StoryRule.{StoryRule}
use Rattle.board_core.proofs.Everyone.{mine, changed, total_same}
use Rattle.board_core.proofs.Events.{event_more, withdraws_more, by_other}
use Rattle.board_core.proofs.Lists.{each_append}

-- a step that makes no caller
pub before_same : (h : List Event) (vs : List View) (id : ℕ) (v : View) (a : Account) → get_elem? vs id ≡ some v → a.who ≡ v.me.who → ((c : ℕ) → made vs < c → events_by c h ≡ []) → (c : ℕ) → made (set vs id (with_me v a)) < c → events_by c h ≡ []
before_same h vs id v a at who before c past = let as_many : made (set vs id (with_me v a)) ≡ made vs = total_same (λ x. made_by x.who) vs id v a at (ap made_by who) in before c (omega arith)

-- a step that adds no entry
pub stories_same : (k : Shape) (h : List Event) (vs : List View) (id : ℕ) (v : View) (a : Account) → StoryRule k h vs → get_elem? vs id ≡ some v → a.who ≡ v.me.who → a.entries ≡ v.me.entries → StoryRule k h (set vs id (with_me v a))
stories_same k h vs id v a r at who entries = record {
  stories = changed (λ x. IsTrueStory k h x.who x.entries) vs id v a at
      (subst (λ (x : Who × List Noted). IsTrueStory k h x.0 x.1) (λ i. (sym who i, sym entries i)) (mine (λ x. IsTrueStory k h x.who x.entries) vs id v at r.stories)) r.stories;
  none_before = before_same h vs id v a at who r.none_before;
}

-- ---- entries

pub told_in-append : (xs ys : List Noted) → told_in (xs ++ ys) ≡ told_in xs ++ told_in ys
told_in-append [] ys = refl
told_in-append (x ∷ xs) ys = ap (λ l. told_by x.entry ++ l) (told_in-append xs ys) ∙ sym (append_assoc (told_by x.entry) (told_in xs) (told_in ys))

-- true entries were added that tell of no event
pub story_longer : (k : Shape) (h : List Event) (who : Who) (entries more : List Noted) → told_in more ≡ [] → Each (λ n. IsTrueLog k h n.entry) more → IsTrueStory k h who entries → IsTrueStory k h who (entries ++ more)
story_longer k h who entries more silent true_more t = record {
  each = each_append (λ n. IsTrueLog k h n.entry) entries more t.each true_more;
  own = t.own ∙ sym (told_in-append entries more ∙ (ap (λ l. told_in entries ++ l) silent ∙ append-nil (told_in entries)));
}

-- ---- a longer history

-- the first events are as they were
first_events : (h : List Event) (e : Event) (front : ℕ) → front ≤ length h → take front (h ++ e ∷ []) ≡ take front h
first_events h e front within = take-append-le front h (e ∷ []) within

pub true_more : (k : Shape) (h : List Event) (e : Event) (x : Entry) → IsTrueLog k h x → IsTrueLog k (h ++ e ∷ []) x
true_more k h e (Published number event) t = event_more h e number event t
true_more k h e (Withdrawn number event) t = event_more h e number event t
true_more k h e (Answered query budget front reply) t = let within : front ≤ length h = t.0 in
    (omega (arith, length-append h (e ∷ [])), subst (λ (g : List Event). IsReply query budget g (reply_of reply)) (sym (first_events h e front within)) t.1)
true_more k h e (Unknown number front) t = let within : front ≤ length h = t.0 in
    (omega (arith, length-append h (e ∷ [])), subst (λ (g : List Event). ¬ (IsPublished g number)) (sym (first_events h e front within)) t.1)
true_more k h e (Ended number at) t = withdraws_more h e at number t
true_more k h e (LogFull front) t = let within : front ≤ length h = t.0 in (omega (arith, length-append h (e ∷ [])), t.1)
true_more k h e (DataFull left need) t = tt
true_more k h e NoPage t = tt
true_more k h e (ChainFull pages) t = tt
true_more k h e (Swept need front rows) t = tt

-- an event by another caller
own_later : (h : List Event) (e : Event) (who : Who) → who ≢ Loader (caller_of e) → own_events (h ++ e ∷ []) who ≡ own_events h who
own_later h e (Loader n) other = by_other h e n (λ same. other (ap (λ z. Loader z) (sym same)))
own_later h e (Searcher n) other = refl
own_later h e (Opener n) other = refl
own_later h e Note other = refl
own_later h e Gone other = refl

pub story_later : (k : Shape) (h : List Event) (e : Event) (who : Who) (entries : List Noted) → who ≢ Loader (caller_of e) → IsTrueStory k h who entries → IsTrueStory k (h ++ e ∷ []) who entries
story_later k h e who entries other t = record { each = λ j n there. true_more k h e n.entry (t.each j n there); own = own_later h e who other ∙ t.own }
