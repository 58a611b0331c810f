-- The two marks of blocks, where a seat is split or joined, and of a board as it is opened.
use Rattle.std.proofs.Common.{◌≡◌, ℕ, zero, suc, List, [], ◌∷◌, ◌++◌, set, sym, refl, subst}
use mathlib.Core.Option.{some, some-injective, some-ne-none}
use lib.ListN.{get_elem?}
use Rattle.htss_defs.specs.declared.shape.Shape.{Shape}
use Rattle.board_core.specs.declared.account.Account.{Account}
use Rattle.board_core.specs.declared.account.View.{View}
use Rattle.board_core.specs.declared.account.Who.TheVariants.{Opener, Note, Gone}
use Rattle.board_core.specs.declared.log.Pending.{Pending}
use Rattle.board_core.specs.Each.{Each}
use Rattle.board_core.specs.Words.{Parts}
use Rattle.board_core.specs.Accounts.{account, with_me, keeping, gone, view, opener, accounts_in, caller_after, EachAccount}
use Rattle.board_core.specs.MarkRule.{is_shown_by, is_ended_by, PendingFits, AreListed, MarksFit, MarkRule}
use Rattle.board_core.specs.After.{after_made}
use Rattle.board_core.proofs.Lists.{each_none, each_cons}
use Rattle.board_core.proofs.Everyone.{each_more, each_left, each_gathered}
use Rattle.board_core.proofs.LogFrame.{nothing_shows, nothing_ends}
use Rattle.board_core.proofs.Some.{some_more, some_left, some_gathered}
use Rattle.board_core.proofs.MarkFrame.{marks_kept, marks_like, quiet_pending}

-- nothing is noted as published
none_listed : AreListed record { used = []; sealed = []; published = [] }
none_listed place t = absurd (some-ne-none place (sym t.1))

-- ---- a view was added, of an account that knows a front and no more

marks_more : (k : Shape) (regions : ℕ → ℕ) (front : ℕ) (slots : ℕ → ℕ) (vs : List View) (n : View) → MarkRule k regions front slots vs → n.me ≡ account n.me.who n.me.log.seen → n.kept ≡ [] → MarkRule k regions front slots (vs ++ n ∷ [])
marks_more k regions front slots vs n r is none_kept =
    let a : Account = account n.me.who n.me.log.seen in
    let ws : List View = vs ++ n ∷ [] in record {
      pending = each_more (λ x. PendingFits k regions front slots x.log.pending) vs a n is none_kept (quiet_pending k regions front slots a.log.pending refl) r.pending;
      marks = each_more (λ x. Each (MarksFit k regions front slots ws x.room.published) x.room.sealed) vs a n is none_kept (each_none (MarksFit k regions front slots ws []))
          (marks_kept k regions front slots slots vs ws vs (λ i _. refl) (λ block. some_more (is_shown_by block) vs n) (λ block. some_more (is_ended_by block) vs n) r.marks);
      listed = each_more (λ x. AreListed x.room) vs a n is none_kept none_listed r.listed;
    }

pub marks_note : (k : Shape) (p : Parts) (vs : List View) (v : View) → MarkRule k p.regions p.log.front p.log.slots vs → MarkRule k p.regions p.log.front p.log.slots (vs ++ view v.shape (account Note v.me.log.seen) ∷ [])
marks_note k p vs v r = marks_more k p.regions p.log.front p.log.slots vs (view v.shape (account Note v.me.log.seen)) r refl refl

pub marks_caller : (k : Shape) (p : Parts) (vs : List View) (id m : ℕ) (v : View) → MarkRule k p.regions p.log.front p.log.slots vs → get_elem? vs id ≡ some v
    → MarkRule k p.regions p.log.front p.log.slots (set vs id (with_me v (after_made v.me)) ++ view k (account (caller_after k m) 0) ∷ [])
marks_caller k p vs id m v r at = marks_more k p.regions p.log.front p.log.slots (set vs id (with_me v (after_made v.me))) (view k (account (caller_after k m) 0))
    (marks_like k p.regions p.log.front p.log.slots vs id v (after_made v.me) r at refl refl) refl refl

-- ---- a note's seat goes

-- it has nothing pending
no_note : (F : Account → Type 0) (front : ℕ) (w : View) → w ≡ view w.shape (account Note front) → ¬ (F (account Note front)) → (i : ℕ) × (a : Account) × (get_elem? (accounts_in w) i ≡ some a) × F a → ⊥
no_note F front w is none t = no_one F front none (subst (λ (x : View). (i : ℕ) × (a : Account) × (get_elem? (accounts_in x) i ≡ some a) × F a) is t)
  where
    no_one : (F : Account → Type 0) (front : ℕ) → ¬ (F (account Note front)) → (i : ℕ) × (a : Account) × (get_elem? (account Note front ∷ []) i ≡ some a) × F a → ⊥
    no_one F front none (zero, a, there, f) = none (subst F (sym (some-injective (account Note front) a there)) f)
    no_one F front none (suc i, a, there, f) = some-ne-none a (sym there)

pub marks_hear : (k : Shape) (p : Parts) (vs : List View) (other front : ℕ) (w : View) → MarkRule k p.regions p.log.front p.log.slots vs → get_elem? vs other ≡ some w → w ≡ view w.shape (account Note front) → MarkRule k p.regions p.log.front p.log.slots (set vs other gone)
marks_hear k p vs other front w r there is =
    let ws : List View = set vs other gone in
    let quiet : Pending = (account Note front).log.pending in record {
      pending = each_left (λ x. PendingFits k p.regions p.log.front p.log.slots x.log.pending) vs other (quiet_pending k p.regions p.log.front p.log.slots (account Gone 0).log.pending refl) r.pending;
      marks = each_left (λ x. Each (MarksFit k p.regions p.log.front p.log.slots ws x.room.published) x.room.sealed) vs other (each_none (MarksFit k p.regions p.log.front p.log.slots ws []))
          (marks_kept k p.regions p.log.front p.log.slots p.log.slots vs ws vs (λ i _. refl)
          (λ block. some_left (is_shown_by block) vs other w there (no_note (is_shown_by block) front w is (nothing_shows quiet block refl)))
          (λ block. some_left (is_ended_by block) vs other w there (no_note (is_ended_by block) front w is (λ t. nothing_ends quiet t.0 refl t.1))) r.marks);
      listed = each_left (λ x. AreListed x.room) vs other none_listed r.listed;
    }

-- ---- a caller is gathered

pub marks_gather : (k : Shape) (p : Parts) (vs : List View) (id other : ℕ) (v w : View) → MarkRule k p.regions p.log.front p.log.slots vs → get_elem? vs id ≡ some v → ¬ (other ≡ id) → get_elem? vs other ≡ some w → MarkRule k p.regions p.log.front p.log.slots (set (set vs id (keeping v w)) other gone)
marks_gather k p vs id other v w r at apart there =
    let ws : List View = set (set vs id (keeping v w)) other gone in record {
      pending = each_gathered (λ x. PendingFits k p.regions p.log.front p.log.slots x.log.pending) vs id other v w at there (quiet_pending k p.regions p.log.front p.log.slots (account Gone 0).log.pending refl) r.pending;
      marks = each_gathered (λ x. Each (MarksFit k p.regions p.log.front p.log.slots ws x.room.published) x.room.sealed) vs id other v w at there (each_none (MarksFit k p.regions p.log.front p.log.slots ws []))
          (marks_kept k p.regions p.log.front p.log.slots p.log.slots vs ws vs (λ i _. refl)
          (λ block. some_gathered (is_shown_by block) vs id other v w at apart there)
          (λ block. some_gathered (is_ended_by block) vs id other v w at apart there) r.marks);
      listed = each_gathered (λ x. AreListed x.room) vs id other v w at there none_listed r.listed;
    }

-- ---- a board as it is opened

only : (F : Account → Type 0) (k : Shape) (a : Account) → F a → EachAccount F (view k a ∷ [])
only F k a f = each_cons (λ (u : View). Each F (accounts_in u)) (view k a) [] (each_cons F a [] f (each_none F)) (each_none (λ (u : View). Each F (accounts_in u)))

pub marks_open : (k : Shape) (p : Parts) → MarkRule k p.regions p.log.front p.log.slots (opener k ∷ [])
marks_open k p = record {
  pending = only (λ x. PendingFits k p.regions p.log.front p.log.slots x.log.pending) k (account (Opener 0) 0) (quiet_pending k p.regions p.log.front p.log.slots (account (Opener 0) 0).log.pending refl);
  marks = only (λ x. Each (MarksFit k p.regions p.log.front p.log.slots (opener k ∷ []) x.room.published) x.room.sealed) k (account (Opener 0) 0) (each_none (MarksFit k p.regions p.log.front p.log.slots (opener k ∷ []) []));
  listed = only (λ x. AreListed x.room) k (account (Opener 0) 0) none_listed;
}
