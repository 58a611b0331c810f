-- Staged records stay staged under a publication of another, and where the log was full.
use Rattle.std.proofs.Common.{◌≡◌, ◌≢◌, ℕ, List, [], ◌∷◌, ◌++◌, refl, sym, subst, ⊎_elim}
use Rattle.std.proofs.lemmas.List.{append-nil}
use mathlib.Core.Option.{some}
use lib.ListN.{get_elem?}
use Rattle.htss_defs.specs.declared.shape.Shape.{Shape}
use Rattle.board_core.specs.declared.account.Account.{Account}
use Rattle.board_core.specs.declared.entry.Entry.{Entry}
use Rattle.board_core.specs.MarkRule.{IsAmong}
use Rattle.board_core.specs.After.{after_free}
use Rattle.board_core.proofs.Lists.{at_end}
use Rattle.board.specs.Seated.{Seated, with_account}
use Rattle.board.specs.Staging.{Staging, IsStaged, StayStaged, StayStagedBut}
use Rattle.board.proofs.StagedStays.{staged_stays, room_same}
use Rattle.pub_log.specs.Locking.{after_publication}

stay_published : (k : Shape) (a : Account) (loader : ℕ) (s : Staging) → StayStagedBut s.block k a (after_publication a loader s)
stay_published k a loader s t other h = staged_stays k a (after_publication a loader s) t h
    record { who = refl; more = []; used = sym (append-nil a.room.used); sealed = λ block is. is; placed = λ row is. is }
    (λ among. ⊎_elim (λ (o : get_elem? a.room.published among.0 ≡ some t.block). h.written.fresh (among.0, o)) (λ o. other (sym o.1)) (at_end a.room.published s.block t.block among.0 among.1))

pub others_published : (k : Shape) (c d : Seated) (loader : ℕ) (s : Staging) → d ≡ with_account c (after_publication c.account loader s) → StayStagedBut s.block k c.account d.account
others_published k c d loader s is = subst (λ (x : Seated). StayStagedBut s.block k c.account x.account) (sym is) (stay_published k c.account loader s)

pub others_freed : (k : Shape) (c d : Seated) (es : List Entry) → d ≡ with_account c (after_free c.account es) → StayStaged k c.account d.account
others_freed k c d es is = subst (λ (x : Seated). StayStaged k c.account x.account) (sym is) (room_same k c.account (after_free c.account es) refl refl refl)
