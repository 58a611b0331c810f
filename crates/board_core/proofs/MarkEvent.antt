-- The two marks of blocks, where the log word of an event is stored past the front.
use Rattle.std.proofs.Common.{◌≡◌, ℕ, ◌^◌, ◌<◌, ◌⊎◌, List, set, sym, ap, ◌∙◌, subst, arith, inl, inr}
use Rattle.std.specs.Prelude.{Some}
use mathlib.Core.Option.{some}
use lib.ListN.{get_elem?}
use Rattle.htss_defs.specs.declared.shape.Shape.{Shape}
use Rattle.board_core.specs.declared.account.Account.{Account}
use Rattle.board_core.specs.declared.account.View.{View}
use Rattle.board_core.specs.declared.log.Ending.{Ending}
use Rattle.board_core.specs.declared.log.Pending.{Pending}
use Rattle.board_core.specs.Each.{Each}
use Rattle.board_core.specs.Words.{stored}
use Rattle.board_core.specs.LogWord.{kind_in, target_in}
use Rattle.board_core.specs.Accounts.{with_me}
use Rattle.board_core.specs.MarkRule.{is_shown_by, is_ended_by, PendingFits, AreListed, MarksFit, MarkRule}
use Rattle.board_core.specs.After.{after_logged}
use Rattle.board_core.specs.Steps.{IsPublicationOf, IsWithdrawalOf, MayLog}
use Rattle.board_core.proofs.Everyone.{mine, changed, moved}
use Rattle.board_core.proofs.LogFrame.{same_some}
use Rattle.board_core.proofs.Some.{some_changed}
use Rattle.board_core.proofs.Fields.{target_back, kind_back}
use Rattle.board_core.proofs.Stored.{stored_else}
use Rattle.board_core.proofs.MarkFrame.{shows_moved, marks_kept}

-- what is pending, where the words behind the front are as they were
pending_moved : (k : Shape) (regions : ℕ → ℕ) (front : ℕ) (slots other : ℕ → ℕ) (p : Pending) → ((i : ℕ) → i < front → other i ≡ slots i) → PendingFits k regions front slots p → PendingFits k regions front other p
pending_moved k regions front slots other p same f = record {
  shows = f.shows;
  ends = λ e is. (let t = f.ends e is in (shows_moved front front slots other e.block e.target same t.0.within t.0, t.1));
  publication = f.publication;
  withdrawal = f.withdrawal;
}

not_two : {n : ℕ} → n ≡ 1 → n ≡ 2 → ⊥
not_two a b = omega arith

-- the word is that of the event that is pending
word_shows : (a : Account) (loader word : ℕ) → loader < 2 ^ 8 → IsPublicationOf a loader word ⊎ IsWithdrawalOf a loader word → ¬ (kind_in word ≡ 2) → a.log.pending.shows ≡ Some (target_in word)
word_shows a loader word small (inl t) not_a_withdrawal = t.1 ∙ ap (λ (z : ℕ). Some z) (sym (ap target_in t.3 ∙ target_back 1 loader t.0 small t.2))
word_shows a loader word small (inr t) not_a_withdrawal = absurd (not_a_withdrawal (ap kind_in t.3 ∙ kind_back 2 loader t.0.target small t.2))

word_ends : (a : Account) (loader word : ℕ) → loader < 2 ^ 8 → IsPublicationOf a loader word ⊎ IsWithdrawalOf a loader word → kind_in word ≡ 2 → (e : Ending) × (a.log.pending.ends ≡ Some e) × (e.target ≡ target_in word)
word_ends a loader word small (inl t) two = absurd (not_two (ap kind_in t.3 ∙ kind_back 1 loader t.0 small t.2) two)
word_ends a loader word small (inr t) two = (t.0, t.1, sym (ap target_in t.3 ∙ target_back 2 loader t.0.target small t.2))

logged_pending : (k : Shape) (regions : ℕ → ℕ) (front : ℕ) (slots : ℕ → ℕ) (a : Account) (loader word : ℕ) → MayLog k a loader word → PendingFits k regions front slots a.log.pending → PendingFits k regions front slots (after_logged a word).log.pending
logged_pending k regions front slots a loader word may f = record {
  shows = f.shows;
  ends = f.ends;
  publication = λ other e. subst (λ (w : ℕ). ¬ (kind_in w ≡ 2) → a.log.pending.shows ≡ Some (target_in w)) (same_some word other e) (word_shows a loader word may.small may.kind);
  withdrawal = λ other e. subst (λ (w : ℕ). kind_in w ≡ 2 → (x : Ending) × (a.log.pending.ends ≡ Some x) × (x.target ≡ target_in w)) (same_some word other e) (word_ends a loader word may.small may.kind);
}

pub event_marks : (k : Shape) (regions : ℕ → ℕ) (front : ℕ) (slots : ℕ → ℕ) (vs : List View) (id loader word : ℕ) (v : View) → MarkRule k regions front slots vs → get_elem? vs id ≡ some v → MayLog k v.me loader word → MarkRule k regions front (stored slots front word) (set vs id (with_me v (after_logged v.me word)))
event_marks k regions front slots vs id loader word v r at may =
    let a : Account = after_logged v.me word in
    let ws : List View = set vs id (with_me v a) in
    let other : ℕ → ℕ = stored slots front word in
    let same : (i : ℕ) → i < front → other i ≡ slots i = λ i behind. stored_else slots front word i (λ e. omega arith) in
    let all = marks_kept k regions front slots other vs ws vs same (λ block. some_changed (is_shown_by block) vs id v a at (λ t. t)) (λ block. some_changed (is_ended_by block) vs id v a at (λ t. t)) r.marks in record {
      pending = moved (λ x. PendingFits k regions front slots x.log.pending) (λ x. PendingFits k regions front other x.log.pending) vs id v a at
          (logged_pending k regions front other v.me loader word may (pending_moved k regions front slots other v.me.log.pending same (mine (λ x. PendingFits k regions front slots x.log.pending) vs id v at r.pending)))
          (λ x _ f. pending_moved k regions front slots other x.log.pending same f) r.pending;
      marks = changed (λ x. Each (MarksFit k regions front other ws x.room.published) x.room.sealed) vs id v a at (mine (λ x. Each (MarksFit k regions front other ws x.room.published) x.room.sealed) vs id v at all) all;
      listed = changed (λ x. AreListed x.room) vs id v a at (mine (λ x. AreListed x.room) vs id v at r.listed) r.listed;
    }
