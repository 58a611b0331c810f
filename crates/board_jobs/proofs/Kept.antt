-- What is kept of the lines so far, where so much was done to the accounts; one answer more, and callers that meet.
use Rattle.std.proofs.Common.{◌≡◌, ℕ, ◌+◌, ◌<◌, ◌≤◌, ◌⊎◌, Bool, cond, List, [], ◌∷◌, ◌++◌, length, get_or, map, set, sym, ap, subst, ◌∙◌, inl, inr, ⊎_elim, All, arith}
use Rattle.std.specs.Prelude.{sum_by}
use Rattle.std.proofs.lemmas.List.Elements.{All-nil, All-push, All-weaker}
use Rattle.std.proofs.lemmas.List.Sums.{sum_by_push}
use mathlib.Core.Option.{some, some-injective}
use mathlib.Core.Logic.{dite}
use native.Mathlib.Decide.{ℕ_discrete}
use lib.ListN.{get_elem?}
use Rattle.htss_defs.specs.declared.history.Event.{Event}
use Rattle.htss_defs.specs.declared.shape.Shape.{Shape}
use Rattle.report_rules.specs.Answers.{Answer, to_record, to_search, to_withdrawal, own_number}
use Rattle.report_rules.specs.Answers.{not_accepted, taken, published, no_room, no_page, chain_full, log_full}
use Rattle.report_rules.specs.Dealing.{Caller}
use Rattle.report_rules.specs.Rules.{Line, marks, used_by, words_used, KeepsRule}
use Rattle.board_core.specs.declared.account.Account.{Account}
use Rattle.board_core.specs.Each.{Each}
use Rattle.board_core.specs.Words.{Parts}
use Rattle.board_core.specs.Histories.{history_of}
use Rattle.board_core.specs.Truths.{IsTrueLog}
use Rattle.board_core.proofs.Lists.{each_kept, inside}
use Rattle.board_jobs.specs.Answering.{IsAnswered, Says}
use Rattle.board_jobs.specs.Groups.{place_of, with_seen, HaveMet, AreNew}
use Rattle.board_jobs.specs.Rooms.{HadRoom, HaveHadRoom}
use Rattle.board_jobs.specs.Telling.{tells}
use Rattle.board_jobs.proofs.Places.{at_map, at_set, map_back, set_else, set_here}
use Rattle.board_jobs.proofs.Marks.{AreSeen, IsOwn, Before, all_later}
use Rattle.board_jobs.proofs.Stand.{Stands}
use Rattle.board_jobs.proofs.Keeping.{MayOwn, told_true, owns_are, answer_keeps}
use Rattle.board_jobs.proofs.Fits.{IsCaller, one_place, same_caller, other_caller}

-- the account of the line's caller has seen its marks
pub record HasSeen (k : Shape) (accounts : List Account) (line : Line) : Type 0 where
  pub by : Account
  pub there : get_elem? accounts (place_of k line.caller) ≡ some by
  pub seen : AreSeen by.log.seen line

-- each line keeps its rule, and what it used had room; none is of a group after this one; callers have seen the
-- marks of their lines, and all have seen those of groups before this one; own numbers are of own events; and the words that a caller's
-- lines have used are those in use
pub record Kept (k : Shape) (h : List Event) (group : ℕ) (accounts : List Account) (lines : List Line) : Type 0 where
  pub rules : (earlier later : List Line) (line : Line) → lines ≡ earlier ++ line ∷ later → KeepsRule k h earlier line
  pub until : All (λ line. line.group ≤ group) lines
  pub rooms : HaveHadRoom k lines
  pub own : All (HasSeen k accounts) lines
  pub old : All (λ line. line.group < group → Each (λ a. AreSeen a.log.seen line) accounts) lines
  pub owns : All (λ line. All (IsOwn h line.caller) (own_number line.answer)) lines
  pub room : (caller : Caller) → IsCaller k caller → (a : Account) → get_elem? accounts (place_of k caller) ≡ some a → sum_by (used_by caller) lines ≡ length a.room.used

-- ---- a list that is split at a line

no_tail : (xs ys : List Line) (y : Line) → [] ≡ xs ++ y ∷ ys → ⊥
no_tail [] ys y e = absurd cc
no_tail (x ∷ xs) ys y e = absurd cc

head_same : (x y : Line) (xs ys : List Line) → x ∷ xs ≡ y ∷ ys → x ≡ y
head_same x y xs ys e = cc

tail_same : (x y : Line) (xs ys : List Line) → x ∷ xs ≡ y ∷ ys → xs ≡ ys
tail_same x y xs ys e = cc

-- at its last line, or before it
pub split_last : (lines earlier later : List Line) (x y : Line) → lines ++ x ∷ [] ≡ earlier ++ y ∷ later → ((lines ≡ earlier) × (x ≡ y)) ⊎ ((rest : List Line) × (lines ≡ earlier ++ y ∷ rest))
split_last [] [] later x y e = inl (λ i. [], head_same x y [] later e)
split_last [] (z ∷ earlier) later x y e = absurd (no_tail earlier later y (tail_same x z [] (earlier ++ y ∷ later) e))
split_last (w ∷ lines) [] later x y e = inr (lines, ap (λ first. first ∷ lines) (head_same w y (lines ++ x ∷ []) later e))
split_last (w ∷ lines) (z ∷ earlier) later x y e =
    let same = head_same w z (lines ++ x ∷ []) (earlier ++ y ∷ later) e in
    ⊎_elim
    (λ (t : (lines ≡ earlier) × (x ≡ y)). inl (ap (λ first. first ∷ lines) same ∙ ap (λ rest. z ∷ rest) t.0, t.1))
    (λ (t : (rest : List Line) × (lines ≡ earlier ++ y ∷ rest)). inr (t.0, ap (λ first. first ∷ lines) same ∙ ap (λ rest. z ∷ rest) t.1))
    (split_last lines earlier later x y (tail_same w z (lines ++ x ∷ []) (earlier ++ y ∷ later) e))

-- ---- words that a line has used

used_own : (caller : Caller) (line : Line) → caller ≡ line.caller → used_by caller line ≡ words_used line.answer
used_own caller line same = ap (λ c. used_by c line) same ∙ ap (λ (b : Bool). cond b (words_used line.answer) 0) (same_caller line.caller)

used_none : (caller : Caller) (line : Line) → ¬ (line.caller ≡ caller) → used_by caller line ≡ 0
used_none caller line other = ap (λ (b : Bool). cond b (words_used line.answer) 0) (other_caller line.caller caller other)

-- ---- a record that was stored had room

says_room : (k : Shape) (used : ℕ) (b : Account) (answer : Answer) → Says k used b answer → 0 < words_used answer → used + words_used answer ≤ k.room
says_room k used b (to_record (not_accepted at code)) says uses = absurd (omega arith)
says_room k used b (to_record (taken one (published number))) says uses = says
says_room k used b (to_record (taken one (no_room left need))) says uses = absurd (omega arith)
says_room k used b (to_record (taken one no_page)) says uses = says
says_room k used b (to_record (taken one (chain_full pages))) says uses = says.1
says_room k used b (to_record (taken one (log_full front))) says uses = says.1
says_room k used b (to_withdrawal number answer) says uses = absurd (omega arith)
says_room k used b (to_search answer) says uses = absurd (omega arith)

-- ---- no lines yet

pub kept_new : (k : Shape) (h : List Event) (accounts : List Account) → AreNew k accounts → Kept k h 1 accounts []
kept_new k h accounts new = record {
  rules = λ earlier later line none. absurd (no_tail earlier later line none);
  until = All-nil (λ line. line.group ≤ 1);
  rooms = λ earlier later line none. absurd (no_tail earlier later line none);
  own = All-nil (HasSeen k accounts);
  old = All-nil (λ line. line.group < 1 → Each (λ a. AreSeen a.log.seen line) accounts);
  owns = All-nil (λ line. All (IsOwn h line.caller) (own_number line.answer));
  room = λ caller is a there. sym (ap (λ (x : Account). length x.room.used) (new.1 (place_of k caller) a there));
}

module _ (k : Shape) (p : Parts) (group : ℕ) (accounts : List Account) (lines : List Line) (kept : Kept k (history_of k p) group accounts lines) where
  -- ---- one answer more

  module _ (line : Line) (here : line.group ≡ group) (is : IsCaller k line.caller) (a b : Account) (at : get_elem? accounts (place_of k line.caller) ≡ some a) where
    before_line : Before (history_of k p) lines line a
    before_line = record {
      own = λ i d within same.
          let seen : HasSeen k accounts (get_or lines i d) = kept.own i d within in
          let one : seen.by ≡ a = some-injective seen.by a (sym seen.there ∙ (ap (λ (c : Caller). get_elem? accounts (place_of k c)) same ∙ at)) in
          subst (λ (x : Account). AreSeen x.log.seen (get_or lines i d)) one seen.seen;
      old = λ i d within early. kept.old i d within (omega (arith, early, here)) (place_of k line.caller) a at;
      owns = kept.owns;
      room = kept.room line.caller is a at;
    }

    -- the accounts that the answer leaves
    abbrev left : List Account
    left = set accounts (place_of k line.caller) b

    put : get_elem? left (place_of k line.caller) ≡ some b
    put = set_here accounts (place_of k line.caller) b (inside accounts (place_of k line.caller) a at)

    seen_more : a.log.seen ≤ b.log.seen → (one : Line) → HasSeen k accounts one → HasSeen k left one
    seen_more more one seen = dite (ℕ_discrete (place_of k one.caller) (place_of k line.caller))
        (λ same.
        let old : seen.by ≡ a = some-injective seen.by a (sym seen.there ∙ (ap (get_elem? accounts) same ∙ at)) in
        let now : HasSeen k left one = record {
          by = b;
          there = ap (get_elem? left) same ∙ put;
          seen = all_later a.log.seen b.log.seen (marks one) more (subst (λ (x : Account). AreSeen x.log.seen one) old seen.seen);
        } in now)
        (λ other.
        let now : HasSeen k left one = record {
          by = seen.by;
          there = set_else accounts (place_of k line.caller) (place_of k one.caller) b other ∙ seen.there;
          seen = seen.seen;
        } in now)

    room_more : length b.room.used ≡ length a.room.used + words_used line.answer → (caller : Caller) → IsCaller k caller → (x : Account) → get_elem? left (place_of k caller) ≡ some x
        → sum_by (used_by caller) (lines ++ line ∷ []) ≡ length x.room.used
    room_more used caller one x there =
        let sum = sum_by_push (used_by caller) lines line in
        ⊎_elim
        (λ (t : (place_of k caller ≡ place_of k line.caller) × (b ≡ x)).
        let same : caller ≡ line.caller = one_place k caller line.caller one is t.0 in
        let mine = used_own caller line same in
        let was : sum_by (used_by caller) lines ≡ length a.room.used = kept.room caller one a (ap (get_elem? accounts) t.0 ∙ at) in
        let new : length b.room.used ≡ length x.room.used = ap (λ (y : Account). length y.room.used) t.1 in
        omega (arith, sum, mine, was, used, new))
        (λ (t : ¬ (place_of k caller ≡ place_of k line.caller) × (get_elem? accounts (place_of k caller) ≡ some x)).
        let none = used_none caller line (λ (e : line.caller ≡ caller). t.0 (ap (place_of k) (sym e))) in
        let was : sum_by (used_by caller) lines ≡ length x.room.used = kept.room caller one x t.1 in
        omega (arith, sum, none, was))
        (at_set accounts (place_of k line.caller) (place_of k caller) b x there)

    had_room : IsAnswered k line.caller a b line.answer → HadRoom k lines line
    had_room answered uses = let before = before_line.room in let room = says_room k (length a.room.used) b line.answer answered.says uses in omega (arith, before, room)

    pub kept_answer : IsAnswered k line.caller a b line.answer → Stands k p b → MayOwn line.caller line.answer → Kept k (history_of k p) group (set accounts (place_of k line.caller) b) (lines ++ line ∷ [])
    kept_answer answered stands may =
        let told : Each (IsTrueLog k (history_of k p)) (tells line.caller line.answer) = told_true k p line.caller a b line.answer answered stands in
        let owns : All (IsOwn (history_of k p) line.caller) (own_number line.answer) = owns_are k p line.caller line.answer may told in
        let more = answered.seen in
        record {
          rules = λ earlier later one split. ⊎_elim
              (λ (t : (lines ≡ earlier) × (line ≡ one)). subst (λ e. KeepsRule k (history_of k p) e one) t.0 (subst (λ x. KeepsRule k (history_of k p) lines x) t.1 (answer_keeps k p lines line a b line.answer answered stands before_line told owns)))
              (λ (t : (rest : List Line) × (lines ≡ earlier ++ one ∷ rest)). kept.rules earlier t.0 one t.1)
              (split_last lines earlier later line one split);
          until = All-push (λ one. one.group ≤ group) lines line kept.until (omega (arith, here));
          rooms = λ earlier later one split. ⊎_elim
              (λ (t : (lines ≡ earlier) × (line ≡ one)). subst (λ e. HadRoom k e one) t.0 (subst (λ x. HadRoom k lines x) t.1 (had_room answered)))
              (λ (t : (rest : List Line) × (lines ≡ earlier ++ one ∷ rest)). kept.rooms earlier t.0 one t.1)
              (split_last lines earlier later line one split);
          own = All-push (HasSeen k left) lines line (All-weaker (HasSeen k accounts) (HasSeen k left) (seen_more more) lines kept.own) (record { by = b; there = put; seen = answered.marks });
          old = All-push (λ one. one.group < group → Each (λ x. AreSeen x.log.seen one) left) lines line
              (λ i d within early. each_kept (λ (x : Account). AreSeen x.log.seen (get_or lines i d)) accounts (place_of k line.caller) b
              (all_later a.log.seen b.log.seen (marks (get_or lines i d)) more (kept.old i d within early (place_of k line.caller) a at)) (kept.old i d within early))
              (λ early. absurd (omega (arith, early, here)));
          owns = All-push (λ one. All (IsOwn (history_of k p) one.caller) (own_number one.answer)) lines line kept.owns owns;
          room = room_more answered.used;
        }

  -- ---- the callers have met

  met_seen : (front : ℕ) → Each (λ a. a.log.seen ≤ front) accounts → (one : Line) → HasSeen k accounts one → AreSeen front one
  met_seen front most one seen = all_later seen.by.log.seen front (marks one) (most (place_of k one.caller) seen.by seen.there) seen.seen

  met_own : (front : ℕ) → Each (λ a. a.log.seen ≤ front) accounts → (one : Line) → HasSeen k accounts one → HasSeen k (map (with_seen front) accounts) one
  met_own front most one seen = record { by = with_seen front seen.by; there = at_map (with_seen front) accounts (place_of k one.caller) seen.by seen.there; seen = met_seen front most one seen }

  kept_seen : (front : ℕ) → Each (λ a. a.log.seen ≤ front) accounts → Kept k (history_of k p) (group + 1) (map (with_seen front) accounts) lines
  kept_seen front most = record {
    rules = kept.rules;
    until = All-weaker (λ one. one.group ≤ group) (λ one. one.group ≤ group + 1) (λ one within. omega (arith, within)) lines kept.until;
    rooms = kept.rooms;
    own = All-weaker (HasSeen k accounts) (HasSeen k (map (with_seen front) accounts)) (met_own front most) lines kept.own;
    old = λ i d within early j x there.
        let back = map_back (with_seen front) accounts j x there in
        subst (λ (y : Account). AreSeen y.log.seen (get_or lines i d)) back.2 (met_seen front most (get_or lines i d) (kept.own i d within));
    owns = kept.owns;
    room = λ caller is x there.
        let back = map_back (with_seen front) accounts (place_of k caller) x there in
        kept.room caller is back.0 back.1 ∙ ap (λ (y : Account). length y.room.used) back.2;
  }

  pub kept_met : (after : List Account) (front : ℕ) → HaveMet accounts after front → Kept k (history_of k p) (group + 1) after lines
  kept_met after front met = subst (λ (l : List Account). Kept k (history_of k p) (group + 1) l lines) (sym met.after_is) (kept_seen front met.most)
