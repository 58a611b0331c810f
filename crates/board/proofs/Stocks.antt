-- The own pages that a caller keeps, and the caller's fields after a step that takes or retires a page.
use Rattle.std.proofs.Common.{◌≡◌, ℕ, Bool, ◌<◌, List, [], ◌∷◌, ◌++◌, length, refl, sym, ap, ◌∙◌, subst, arith, ⊎_elim, append-nil}
use Rattle.std.specs.Prelude.{Option, Some, None, option_to_list, IfSome}
use mathlib.Core.Option.{some}
use mathlib.Core.Logic.{dite}
use native.Mathlib.Decide.{ℕ_discrete}
use lib.ListN.{get_elem?}
use Rattle.atomic_table.specs.Table.{Step}
use Rattle.atomic_table.specs.Seated.{TableId}
use Rattle.atomic_table.proofs.Lists.{at_longer, at_last}
use Rattle.htss_defs.specs.declared.shape.Shape.{Shape}
use Rattle.board_core.specs.declared.account.Account.{Account}
use Rattle.board_core.specs.declared.pool.Own.{Own}
use Rattle.board_core.specs.SeatRule.{WhoFits}
use Rattle.board_core.specs.MarkRule.{IsAmong}
use Rattle.board_core.specs.Loaded.{IsPage, HasOwn}
use Rattle.board_core.specs.Sheets.{owns}
use Rattle.board_core.specs.After.{after_retire}
use Rattle.board_core.specs.Steps.{Mine, Takes, TakesPage, became}
use Rattle.board_core.proofs.Lists.{inside, each_none, each_snoc, at_end}
use Rattle.board.specs.declared.seats.Tail.{Tail}
use Rattle.board.specs.Tails.{AreTails}
use Rattle.board.specs.Seated.{Seated, IsStock, who_of, with_stock}
use Rattle.board.proofs.Tied.{seated}

-- ---- the pages that are kept

pub stock_none : (k : Shape) (own : List Own) → IsStock k own []
stock_none k own = record { pages = each_none (λ p. IsPage k p × 0 < owns p own); apart = λ i j p here there. let none_here = inside [] i p here in absurd (omega arith) }

pub stock_empty : (k : Shape) (own : List Own) (l : List ℕ) → l ≡ [] → IsStock k own l
stock_empty k own l e = subst (IsStock k own) (sym e) (stock_none k own)

-- a page more is the caller's own
pub stock_more : (k : Shape) (own : List Own) (o : Own) (stock : List ℕ) → IsStock k own stock → IsStock k (o ∷ own) stock
stock_more k own o stock s = record { pages = λ j p there. let old = s.pages j p there in let more : 0 < owns p own = old.1 in (old.0, omega arith); apart = s.apart }

pub stock_snoc : (k : Shape) (own : List Own) (q : ℕ) (stock : List ℕ) → IsPage k q → 0 < owns q own → ¬ (IsAmong stock q) → IsStock k own stock → IsStock k own (stock ++ q ∷ [])
stock_snoc k own q stock within mine apart s = record {
  pages = each_snoc (λ p. IsPage k p × 0 < owns p own) stock q (within, mine) s.pages;
  apart = λ i j p here there. ⊎_elim
      (λ (a : get_elem? stock i ≡ some p). ⊎_elim
      (λ (b : get_elem? stock j ≡ some p). s.apart i j p a b)
      (λ (b : (j ≡ length stock) × (q ≡ p)). absurd (apart (i, a ∙ ap some (sym b.1))))
      (at_end stock q p j there))
      (λ (a : (i ≡ length stock) × (q ≡ p)). ⊎_elim
      (λ (b : get_elem? stock j ≡ some p). absurd (apart (j, b ∙ ap some (sym a.1))))
      (λ (b : (j ≡ length stock) × (q ≡ p)). a.0 ∙ sym b.0)
      (at_end stock q p j there))
      (at_end stock q p i here);
}

pub stock_pushed : (k : Shape) (own : List Own) (q : ℕ) (stock new : List ℕ) → new ≡ stock ++ q ∷ [] → IsPage k q → 0 < owns q own → ¬ (IsAmong stock q) → IsStock k own stock → IsStock k own new
stock_pushed k own q stock new e within mine apart s = subst (IsStock k own) (sym e) (stock_snoc k own q stock within mine apart s)

-- the last page is kept no more
pub stock_last : (k : Shape) (own : List Own) (q : ℕ) (stock : List ℕ) → IsStock k own (stock ++ q ∷ []) → IsStock k own stock × (IsPage k q × 0 < owns q own) × ¬ (IsAmong stock q)
stock_last k own q stock s = (
  record { pages = λ j p there. s.pages j p (at_longer stock (q ∷ []) j p there); apart = λ i j p here there. s.apart i j p (at_longer stock (q ∷ []) i p here) (at_longer stock (q ∷ []) j p there) },
  s.pages (length stock) q (at_last stock q (length stock) refl),
  λ t. let before = inside stock t.0 q t.1 in let same = s.apart t.0 (length stock) q (at_longer stock (q ∷ []) t.0 q t.1) (at_last stock q (length stock) refl) in omega arith,
)

pub stock_popped : (k : Shape) (own : List Own) (old new : List ℕ) (r : Option ℕ) → old ≡ new ++ option_to_list r → IsStock k own old → IsStock k own new
stock_popped k own old new (Some q) e s = (stock_last k own q new (subst (IsStock k own) e s)).0
stock_popped k own old new None e s = subst (IsStock k own) (e ∙ append-nil new) s

-- what a page that was kept is
abbrev pub IsPopped : Seated → Seated → ℕ → Type 0
IsPopped c d page = (d ≡ with_stock c d.stock) × (c.stock ≡ d.stock ++ page ∷ []) × IsPage c.shape page × HasOwn c.account page × ¬ (IsAmong d.stock page)

pub popped : (t : TableId) (l : Shape) (a : Account) (old new : List ℕ) (n : ℕ) (r : Option ℕ) → old ≡ new ++ option_to_list r → IsStock l a.pool.own old → IfSome r (IsPopped (seated t l a old n) (seated t l a new n))
popped t l a old new n (Some q) e s = let last = stock_last l a.pool.own q new (subst (IsStock l a.pool.own) e s) in (refl, e, last.1.0, last.1.1, last.2)
popped t l a old new n None e s = tt

-- ---- the caller's fields, and what its seat is

pub record HasSeat (seen used : ℕ) (loader : Bool) (number : ℕ) (stock : List ℕ) (tails : List Tail) (next : ℕ) (m : Mine) : Type 0 where
  pub facts : (seen ≡ m.0.me.log.seen) × (m.0.me.who ≡ who_of loader number) × (m.0.kept ≡ []) × (m.1 ≡ []) × (used ≡ length m.0.me.room.used) × WhoFits m.0.shape m.0.me.who × IsStock m.0.shape m.0.me.pool.own stock × IsPage m.0.shape next × AreTails m.0.shape m.0.me.tree.lasting tails

-- the lock was taken or not
pub lock_seat : (seen used : ℕ) (loader : Bool) (number : ℕ) (stock : List ℕ) (tails : List Tail) (next found : ℕ) (s : Step (Unit {0})) (m n : Mine) → Takes s m found n → HasSeat seen used loader number stock tails next m → HasSeat seen used loader number stock tails next n
lock_seat seen used loader number stock tails next found s m n t h = dite (ℕ_discrete found 0)
    (λ free. subst (HasSeat seen used loader number stock tails next) (sym (t.won free)) record { facts = h.facts })
    (λ taken. subst (HasSeat seen used loader number stock tails next) (sym (t.lost taken)) h)

-- a page was taken or not
pub page_seat : (seen used : ℕ) (loader : Bool) (number : ℕ) (stock : List ℕ) (tails : List Tail) (next q found : ℕ) (s : Step (Unit {0})) (m n : Mine) → TakesPage q s m found n → HasSeat seen used loader number stock tails next m → HasSeat seen used loader number stock tails next n
page_seat seen used loader number stock tails next q found s m n t h =
    let (a, b, c, d, e, f, kept, page, leaves) = h.facts in
    dite (ℕ_discrete found s.first)
    (λ won. subst (HasSeat seen used loader number stock tails next) (sym (t.won won)) record { facts = (a, b, c, d, e, f, stock_more m.0.shape m.0.me.pool.own (record { page = q; words = [] }) stock kept, page, leaves) })
    (λ lost. subst (HasSeat seen used loader number stock tails next) (sym (t.lost lost)) record { facts = h.facts })

-- a page was retired
pub retire_seat : (seen used : ℕ) (loader : Bool) (number : ℕ) (stock : List ℕ) (tails : List Tail) (next q : ℕ) (m n : Mine) → n ≡ became m (after_retire m.0.me q) → HasSeat seen used loader number stock tails next m → HasSeat seen used loader number stock tails next n
retire_seat seen used loader number stock tails next q m n t h = subst (HasSeat seen used loader number stock tails next) (sym t) record { facts = h.facts }
