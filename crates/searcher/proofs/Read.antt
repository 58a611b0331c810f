-- Accounts that have only loaded more, and what one load adds.
use Rattle.std.proofs.Common.{◌≡◌, ℕ, refl, sym, ◌∙◌, subst}
use Rattle.board_core.specs.declared.account.Account.{Account}
use Rattle.board_core.specs.After.{after_shown, after_head, after_mark, after_fact}
use Rattle.board.specs.Seated.{Place, Seated, IsOf, with_account}
use Rattle.board_core.proofs.Grown.{grows_same, grows_trans, grows_shown, grows_head, grows_mark, grows_fact}
use Rattle.searcher.specs.Walking.{Reads}

pub reads_same : (a : Account) → Reads a a
reads_same a = record { grown = grows_same a; who = refl; log = refl; room = refl; pool = refl; tree = refl; counts = refl; fronts = refl; codes = refl; entries = refl }

pub reads_trans : (a b c : Account) → Reads a b → Reads b c → Reads a c
reads_trans a b c f g = record {
  grown = grows_trans a b c f.grown g.grown;
  who = g.who ∙ f.who;
  log = g.log ∙ f.log;
  room = g.room ∙ f.room;
  pool = g.pool ∙ f.pool;
  tree = g.tree ∙ f.tree;
  counts = g.counts ∙ f.counts;
  fronts = g.fronts ∙ f.fronts;
  codes = g.codes ∙ f.codes;
  entries = g.entries ∙ f.entries;
}

pub of_after : (b : Place) (c n : Seated) (a : Account) → n ≡ with_account c a → IsOf b c → IsOf b n
of_after b c n a is fits = subst (λ (x : Seated). IsOf b x) (sym is) record { table = fits.table; shape = fits.shape }

-- ---- one load, by what the call says of the caller

module _ (c n : Seated) where
  reads_after : (a : Account) → n ≡ with_account c a → Reads c.account a → Reads c.account n.account
  reads_after a is reads = subst (λ (x : Seated). Reads c.account x.account) (sym is) reads

  pub reads_shown : (place word : ℕ) → n ≡ with_account c (after_shown c.account place word) → Reads c.account n.account
  reads_shown place word is = reads_after (after_shown c.account place word) is
      record { grown = grows_shown c.account place word; who = refl; log = refl; room = refl; pool = refl; tree = refl; counts = refl; fronts = refl; codes = refl; entries = refl }

  pub reads_head : (place word : ℕ) → n ≡ with_account c (after_head c.account place word) → Reads c.account n.account
  reads_head place word is = reads_after (after_head c.account place word) is
      record { grown = grows_head c.account place word; who = refl; log = refl; room = refl; pool = refl; tree = refl; counts = refl; fronts = refl; codes = refl; entries = refl }

  pub reads_mark : (place word : ℕ) → n ≡ with_account c (after_mark c.account place word) → Reads c.account n.account
  reads_mark place word is = reads_after (after_mark c.account place word) is
      record { grown = grows_mark c.account place word; who = refl; log = refl; room = refl; pool = refl; tree = refl; counts = refl; fronts = refl; codes = refl; entries = refl }

  pub reads_fact : (place word : ℕ) → n ≡ with_account c (after_fact c.account place word) → Reads c.account n.account
  reads_fact place word is = reads_after (after_fact c.account place word) is
      record { grown = grows_fact c.account place word; who = refl; log = refl; room = refl; pool = refl; tree = refl; counts = refl; fronts = refl; codes = refl; entries = refl }
