-- What the log word and the last mark tell of a number, and the record that is read of its block.
use Rattle.std.proofs.Common.{◌≡◌, ℕ, ◌+◌, ◌-◌, ◌<◌, ◌≤◌, List, length, refl, sym, ◌∙◌, subst, arith}
use Rattle.std.specs.Prelude.{take}
use Rattle.htss_defs.specs.declared.shape.Shape.{Shape}
use Rattle.htss_defs.specs.Molecule.{Molecule}
use Rattle.htss_defs.specs.Marked.{IsMarked}
use Rattle.htss_defs.specs.History.{IsLive}
use Rattle.board_core.specs.declared.account.Account.{Account}
use Rattle.board_core.specs.Words.{log_at}
use Rattle.board_core.specs.LogWord.{kind_in, target_in}
use Rattle.board_core.specs.Blocks.{ended_at, name_in, molecule_in}
use Rattle.board_core.specs.Records.{ShowsRecord}
use Rattle.board_core.specs.Histories.{history_of}
use Rattle.board_core.specs.After.{after_shown, after_mark}
use Rattle.board_core.specs.Loaded.{HasLoaded, KnowsBlock, SawMark, IsOpenMark, IsInTable, HasBlock}
use Rattle.board_core.specs.Steps.{MayBeSome}
use Rattle.board.specs.Seated.{Seated, with_account}
use Rattle.board_core.proofs.Grown.{has_log_word, saw_mark, grows_mark, loaded_stays, mark_stays}
use Rattle.board_core.proofs.BlockCauses.{withdrawal_not_live, gone_not_live, loaded_live, seen_within}
use Rattle.board_core.proofs.LoadedBlock.{record_loaded}
use Rattle.searcher.specs.Walking.{Reads, IsOpenBlock, Whatever, NotLive, IsReadLive}

module _ (k : Shape) (c n : Seated) where
  -- ---- the log word of the number

  pub withdrawal_none : (number word front : ℕ) → n ≡ with_account c (after_shown c.account (log_at k + (number - 1)) word) → 0 < number → number ≤ k.log → c.account.log.seen ≡ front → kind_in word ≡ 2 → Whatever k n.account front (NotLive number)
  withdrawal_none number word front is above inside seen two =
      let a : Account = after_shown c.account (log_at k + (number - 1)) word in
      subst (λ (x : Seated). Whatever k x.account front (NotLive number)) (sym is)
      (λ p m. withdrawal_not_live k p a m number word front (has_log_word k c.account number word above inside) two (seen_within k p a m front (omega arith)))

  pub publication_loaded : (number word : ℕ) → n ≡ with_account c (after_shown c.account (log_at k + (number - 1)) word) → 0 < number → number ≤ k.log → ¬ (kind_in word ≡ 2) → HasLoaded k n.account number (target_in word)
  publication_loaded number word is above inside other = subst (λ (x : Seated). HasLoaded k x.account number (target_in word)) (sym is)
      record { word = word; log = has_log_word k c.account number word above inside; kind = other; names = refl }

  -- ---- the last mark

  marked_loaded : (number block mark : ℕ) → HasLoaded k c.account number block → HasLoaded k (after_mark c.account (block + ended_at) mark) number block
  marked_loaded number block mark l = loaded_stays k c.account (after_mark c.account (block + ended_at) mark) (grows_mark c.account (block + ended_at) mark) number block l

  marked_saw : (block front mark : ℕ) → c.account.log.seen ≡ front → SawMark (after_mark c.account (block + ended_at) mark) block front mark
  marked_saw block front mark seen = subst (λ (z : ℕ). SawMark (after_mark c.account (block + ended_at) mark) block z mark) seen (saw_mark c.account block mark)

  pub ended_none : (number block front mark : ℕ) → n ≡ with_account c (after_mark c.account (block + ended_at) mark) → HasLoaded k c.account number block → c.account.log.seen ≡ front → 0 < mark → mark ≤ front → Whatever k n.account front (NotLive number)
  ended_none number block front mark is l seen above within = subst (λ (x : Seated). Whatever k x.account front (NotLive number)) (sym is)
      (λ p m. gone_not_live k p (after_mark c.account (block + ended_at) mark) m number block front mark (marked_loaded number block mark l) (marked_saw block front mark seen) above within)

  pub still_open : (number block front mark : ℕ) → n ≡ with_account c (after_mark c.account (block + ended_at) mark) → HasLoaded k c.account number block → IsInTable k block → c.account.log.seen ≡ front → IsOpenMark front mark → IsOpenBlock k n.account front number block
  still_open number block front mark is l place seen free = subst (λ (x : Seated). IsOpenBlock k x.account front number block) (sym is)
      record { loaded = marked_loaded number block mark l; place = place; mark = mark; saw = marked_saw block front mark seen; is_open = free }

-- ---- the record

pub block_known : (k : Shape) (a : Account) (front number block : ℕ) → IsOpenBlock k a front number block → KnowsBlock k a block
block_known k a front number block o = (number, o.loaded)

pub is_record : (k : Shape) (a : Account) (block : ℕ) (words : ℕ → ℕ) → HasBlock k a block words → MayBeSome k a → ShowsRecord words
is_record k a block words h (p, m) = (record_loaded k p a m block words h).0

pub read_live : (k : Shape) (a b : Account) (front number block : ℕ) (words : ℕ → ℕ) (name : List ℕ) (mol : Molecule) → IsOpenBlock k a front number block → Reads a b → number ≤ front → HasBlock k b block words → MayBeSome k b → name ≡ name_in words → mol ≡ molecule_in words → IsReadLive k b front number name mol
read_live k a b front number block words name mol o reads early h may named shown =
    let r = is_record k b block words h may in
    let atoms = r.molecule.atoms.1 in record {
      marked = subst IsMarked (sym shown) r.marked;
      atoms = subst (λ (m : Molecule). length m.atoms ≤ 999) (sym shown) atoms;
      live = λ p m.
          let same = record_loaded k p b m block words h in
          let live = loaded_live k p b m number block front o.mark (loaded_stays k a b reads.grown number block o.loaded) (mark_stays k a b reads.grown block front o.mark o.saw) o.is_open early in
          subst (λ (x : List ℕ × Molecule). IsLive (take front (history_of k p)) number x.0 x.1) (λ t. (sym (named ∙ same.1) t, sym (shown ∙ same.2) t)) live;
    }
