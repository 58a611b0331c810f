-- The two marks of blocks: what a step leaves of them that stores no mark and shows no event.
use Rattle.std.proofs.Common.{◌≡◌, ℕ, ◌-◌, ◌<◌, ◌≤◌, List, set, sym, refl, ap, ◌∙◌, subst, arith}
use mathlib.Core.Option.{some}
use lib.ListN.{get_elem?}
use Rattle.htss_defs.specs.declared.shape.Shape.{Shape}
use Rattle.board_core.specs.declared.account.Account.{Account}
use Rattle.board_core.specs.declared.account.View.{View}
use Rattle.board_core.specs.declared.log.Pending.{Pending}
use Rattle.board_core.specs.declared.room.RoomAccount.{RoomAccount}
use Rattle.board_core.specs.declared.room.Sealed.{Sealed}
use Rattle.board_core.specs.Each.{Each}
use Rattle.board_core.specs.LogWord.{kind_in, target_in}
use Rattle.board_core.specs.Accounts.{nothing, with_me, EachAccount}
use Rattle.board_core.specs.RoomRule.{Store, store_of, SomeAccount}
use Rattle.board_core.specs.MarkRule.{ShowsAt, EndsAt, is_shown_by, is_ended_by, PendingFits, AreListed, MarksFit, MarkRule}
use Rattle.board_core.proofs.Everyone.{mine, changed}
use Rattle.board_core.proofs.LogFrame.{nothing_shows, nothing_ends, nothing_logged}
use Rattle.board_core.proofs.Some.{some_changed}

-- ---- events of the log, where the words behind the front are as they were

pub shows_moved : (front later : ℕ) (slots other : ℕ → ℕ) (block number : ℕ) → ((i : ℕ) → i < front → other i ≡ slots i) → number ≤ later → ShowsAt front slots block number → ShowsAt later other block number
shows_moved front later slots other block number same inside s =
    let above = s.above in
    let within = s.within in
    let is : other (number - 1) ≡ slots (number - 1) = same (number - 1) (omega arith) in record {
      above = above;
      within = inside;
      kind = subst (λ (w : ℕ). ¬ (kind_in w ≡ 2)) (sym is) s.kind;
      names = ap target_in is ∙ s.names;
    }

pub ends_moved : (front later : ℕ) (slots other : ℕ → ℕ) (block number : ℕ) → ((i : ℕ) → i < front → other i ≡ slots i) → number ≤ later → target_in (slots (number - 1)) ≤ later → EndsAt front slots block number → EndsAt later other block number
ends_moved front later slots other block number same inside shown_inside s =
    let above = s.above in
    let within = s.within in
    let is : other (number - 1) ≡ slots (number - 1) = same (number - 1) (omega arith) in record {
      above = above;
      within = inside;
      kind = ap kind_in is ∙ s.kind;
      shown = subst (ShowsAt later other block) (sym (ap target_in is)) (shows_moved front later slots other block (target_in (slots (number - 1))) same shown_inside s.shown);
    }

-- the number that a withdrawal names is behind the front too
pub ends_same : (front : ℕ) (slots other : ℕ → ℕ) (block number : ℕ) → ((i : ℕ) → i < front → other i ≡ slots i) → EndsAt front slots block number → EndsAt front other block number
ends_same front slots other block number same s = ends_moved front front slots other block number same s.within s.shown.within s

-- ---- the marks of a block

-- where each account that has it pending gives one that still has
pub fits_kept : (k : Shape) (regions : ℕ → ℕ) (front : ℕ) (slots other : ℕ → ℕ) (vs ws : List View) (published : List ℕ) (s : Sealed) → ((i : ℕ) → i < front → other i ≡ slots i) → (SomeAccount (is_shown_by s.place) vs → SomeAccount (is_shown_by s.place) ws) → (SomeAccount (is_ended_by s.place) vs → SomeAccount (is_ended_by s.place) ws)
    → MarksFit k regions front slots vs published s → MarksFit k regions front other ws published s
fits_kept k regions front slots other vs ws published s same shows ends f =
    let first = f.first in
    let last = f.last in
    let back : (i : ℕ) → i < front → slots i ≡ other i = λ i behind. sym (same i behind) in record {
      first = record {
        told = λ above within. shows_moved front front slots other s.place _ same within (first.told above within);
        ahead = λ past. (let t = first.ahead past in (t.0, shows t.1));
        stands = λ number t. first.stands number (shows_moved front front other slots s.place number back t.within t);
      };
      last = record {
        told = λ above within. ends_same front slots other s.place _ same (last.told above within);
        ahead = λ past. (let t = last.ahead past in (t.0, ends t.1));
        stands = λ number t. last.stands number (ends_same front other slots s.place number back t);
      };
      noted = λ number t. f.noted number (shows_moved front front other slots s.place number back t.within t);
    }

-- the same, of all blocks of some accounts
pub marks_kept : (k : Shape) (regions : ℕ → ℕ) (front : ℕ) (slots other : ℕ → ℕ) (vs ws us : List View) → ((i : ℕ) → i < front → other i ≡ slots i) → ((block : ℕ) → SomeAccount (is_shown_by block) vs → SomeAccount (is_shown_by block) ws) → ((block : ℕ) → SomeAccount (is_ended_by block) vs → SomeAccount (is_ended_by block) ws)
    → EachAccount (λ x. Each (MarksFit k regions front slots vs x.room.published) x.room.sealed) us → EachAccount (λ x. Each (MarksFit k regions front other ws x.room.published) x.room.sealed) us
marks_kept k regions front slots other vs ws us same shows ends all j u there i x here b s in_list = fits_kept k regions front slots other vs ws x.room.published s same (shows s.place) (ends s.place) (all j u there i x here b s in_list)

-- an account with nothing pending
pub quiet_pending : (k : Shape) (regions : ℕ → ℕ) (front : ℕ) (slots : ℕ → ℕ) (p : Pending) → p ≡ nothing → PendingFits k regions front slots p
quiet_pending k regions front slots p quiet = record {
  shows = λ block e. absurd (nothing_shows p block quiet e);
  ends = λ e is. absurd (nothing_ends p e quiet is);
  publication = λ word e _. absurd (nothing_logged p word quiet e);
  withdrawal = λ word e _. absurd (nothing_logged p word quiet e);
}

-- a step that changes neither the account's room nor what it has pending
pub marks_like : (k : Shape) (regions : ℕ → ℕ) (front : ℕ) (slots : ℕ → ℕ) (vs : List View) (id : ℕ) (v : View) (a : Account) → MarkRule k regions front slots vs → get_elem? vs id ≡ some v → a.room ≡ v.me.room → a.log.pending ≡ v.me.log.pending → MarkRule k regions front slots (set vs id (with_me v a))
marks_like k regions front slots vs id v a r at room pending =
    let ws : List View = set vs id (with_me v a) in
    let all = marks_kept k regions front slots slots vs ws vs (λ i _. refl)
    (λ block. some_changed (is_shown_by block) vs id v a at (λ t. ap (λ (q : Pending). q.shows) pending ∙ t))
    (λ block. some_changed (is_ended_by block) vs id v a at (λ t. (t.0, ap (λ (q : Pending). q.ends) pending ∙ t.1, t.2))) r.marks in record {
      pending = changed (λ x. PendingFits k regions front slots x.log.pending) vs id v a at (subst (PendingFits k regions front slots) (sym pending) (mine (λ x. PendingFits k regions front slots x.log.pending) vs id v at r.pending)) r.pending;
      marks = changed (λ x. Each (MarksFit k regions front slots ws x.room.published) x.room.sealed) vs id v a at
          (subst (λ (x : RoomAccount). Each (MarksFit k regions front slots ws x.published) x.sealed) (sym room) (mine (λ x. Each (MarksFit k regions front slots ws x.room.published) x.room.sealed) vs id v at all)) all;
      listed = changed (λ x. AreListed x.room) vs id v a at (subst AreListed (sym room) (mine (λ x. AreListed x.room) vs id v at r.listed)) r.listed;
    }

pub marks_same : (k : Shape) (regions : ℕ → ℕ) (front : ℕ) (slots : ℕ → ℕ) (vs : List View) (id : ℕ) (v : View) (a : Account) → MarkRule k regions front slots vs → get_elem? vs id ≡ some v → store_of a ≡ store_of v.me → MarkRule k regions front slots (set vs id (with_me v a))
marks_same k regions front slots vs id v a r at same = marks_like k regions front slots vs id v a r at (ap (λ (x : Store). x.room) same) (ap (λ (x : Store). x.pending) same)
