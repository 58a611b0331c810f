-- The log word of an event to come, and what is left once it is shown and the lock is freed.
use Rattle.std.proofs.Common.{◌≡◌, ◌≢◌, ℕ, Bool, cond, ◌^◌, ◌<◌, [], refl, sym, ap, ◌∙◌, subst, inl, inr, ne_eqb, arith}
use Rattle.htss_defs.specs.declared.shape.Shape.{Shape}
use Rattle.htss_defs.specs.declared.history.Event.TheVariants.{Publish, Withdraw}
use Rattle.board_core.specs.declared.account.Account.{Account}
use Rattle.board_core.specs.declared.log.Ending.{Ending}
use Rattle.board_core.specs.declared.log.Pending.{Pending}
use Rattle.board_core.specs.Blocks.{name_in, molecule_in}
use Rattle.board_core.specs.RoomRule.{own_block, store_of}
use Rattle.board_core.specs.LogRule.{word_or_0}
use Rattle.board_core.specs.LogWord.{kind_in, loader_in, target_in, publication_word, withdrawal_word}
use Rattle.board_core.specs.Steps.{MayLog, MayMark, MayPublish, event_by}
use Rattle.board_core.specs.After.{after_shows, after_ends, after_logged, after_event, after_free}
use Rattle.board_core.proofs.Fields.{target_back, loader_back, kind_back}
use Rattle.board.specs.Seated.{Seated, IsLoader, with_account, number_of}
use Rattle.board.specs.Staging.{Staging, IsStaged}
use Rattle.pub_log.specs.Locking.{IsHeld, after_publication}

-- ---- the log word may be stored

pub may_log_publication : (k : Shape) (c d : Seated) (block n word : ℕ) → d ≡ with_account c (after_shows c.account block) → IsHeld k c.account c.account.log.seen → c.account.log.seen < k.log → IsLoader c → n ≡ number_of c → n < 2 ^ 8 → block < 2 ^ 40
    → word ≡ publication_word n block → MayLog k d.account (number_of d) word
may_log_publication k c d block n word is h room loader number few small w = subst (λ (s : Seated). MayLog k s.account (number_of s) word) (sym is) record {
  holding = h.holding;
  who = loader;
  small = omega arith;
  room = room;
  not_yet = ap (λ (p : Pending). p.logged) h.quiet;
  kind = inl (block, refl, small, w ∙ ap (λ (z : ℕ). publication_word z block) number);
}

pub may_log_withdrawal : (k : Shape) (c d : Seated) (e : Ending) (n word : ℕ) → d ≡ with_account c (after_ends c.account e) → MayMark k c.account → IsLoader c → n ≡ number_of c → n < 2 ^ 8 → e.target < 2 ^ 40
    → word ≡ withdrawal_word n e.target → MayLog k d.account (number_of d) word
may_log_withdrawal k c d e n word is may loader number few small w = subst (λ (s : Seated). MayLog k s.account (number_of s) word) (sym is) record {
  holding = may.holding;
  who = loader;
  small = omega arith;
  room = may.room;
  not_yet = ap (λ (p : Pending). p.logged) may.quiet;
  kind = inr (e, refl, small, w ∙ ap (λ (z : ℕ). withdrawal_word z e.target) number);
}

-- ---- a staged record is shown

-- the word of its publication shows it
pub publication_shows : (k : Shape) (a : Account) (loader : ℕ) (s : Staging) → IsStaged k a s → loader < 2 ^ 8 → s.block < 2 ^ 40 → event_by k a (publication_word loader s.block) ≡ Publish loader s.name s.mol
publication_shows k a loader s staged few small =
    let word : ℕ = publication_word loader s.block in
    let one : kind_in word ≡ 1 = kind_back 1 loader s.block few small in
    let other : kind_in word ≢ 2 = λ two. one_two (kind_in word) one two in
    ap (λ (b : Bool). cond b (Withdraw (loader_in word) (target_in word)) (Publish (loader_in word) (name_in (own_block k (store_of a) (target_in word))) (molecule_in (own_block k (store_of a) (target_in word))))) (ne_eqb (kind_in word) 2 other)
    ∙ ((λ i. Publish (loader_back 1 loader s.block few small i) (name_in (own_block k (store_of a) (target_back 1 loader s.block few small i))) (molecule_in (own_block k (store_of a) (target_back 1 loader s.block few small i))))
    ∙ (λ i. Publish loader (staged.written.name_is i) (staged.written.mol_is i)))
  where
    one_two : (z : ℕ) → z ≡ 1 → z ≡ 2 → ⊥
    one_two z a b = absurd (omega arith)

-- and its mark may be stored
pub may_publish : (k : Shape) (a : Account) (s : Staging) (block : ℕ) → block ≡ s.block → IsHeld k a a.log.seen → a.log.seen < k.log → IsStaged k a s → MayPublish k a block
may_publish k a s block is h room staged = subst (MayPublish k a) (sym is) record {
  may = record { holding = h.holding; room = room; quiet = h.quiet };
  sealed = staged.written.sealed;
  fresh = staged.written.fresh;
  placed = staged.placed;
}

pub publication_added : (k : Shape) (c d e f g : Seated) (s : Staging) (n word : ℕ) → IsStaged k c.account s → n ≡ number_of c → n < 2 ^ 8 → s.block < 2 ^ 40 → word ≡ publication_word n s.block
    → d ≡ with_account c (after_shows c.account s.block) → e ≡ with_account d (after_logged d.account word)
    → f ≡ with_account e (after_event e.account (event_by k e.account (word_or_0 e.account.log.pending.logged))) → g ≡ with_account f (after_free f.account [])
    → g ≡ with_account c (after_publication c.account (number_of c) s)
publication_added k c d e f g s n word staged number few small w first second third last =
    let is : word ≡ publication_word (number_of c) s.block = w ∙ ap (λ (z : ℕ). publication_word z s.block) number in
    let shows : event_by k c.account word ≡ Publish (number_of c) s.name s.mol = ap (event_by k c.account) is ∙ publication_shows k c.account (number_of c) s staged (subst (λ (z : ℕ). z < 2 ^ 8) number few) small in
    last ∙ (ap (λ (x : Seated). with_account x (after_free x.account [])) (third
    ∙ ap (λ (x : Seated). with_account x (after_event x.account (event_by k x.account (word_or_0 x.account.log.pending.logged)))) (second ∙ ap (λ (x : Seated). with_account x (after_logged x.account word)) first))
    ∙ (λ i. with_account c (after_free (after_event (after_logged (after_shows c.account s.block) (is i)) (shows i)) [])))
