-- A log word is loaded, behind the front that was seen.
use Rattle.std.proofs.Common.{◌≡◌, ◌≢◌, ℕ, ◌+◌, ◌<◌, List, set, get_or, sym, refl, ap, ◌∙◌, subst, arith}
use mathlib.Core.Option.{some, none}
use lib.ListN.{get_elem?}
use Rattle.atomic_table.specs.Table.{step, keeps, Allows}
use Rattle.htss_defs.specs.declared.shape.Shape.{Shape}
use Rattle.htss_defs.specs.declared.history.Event.{Event}
use Rattle.board_core.specs.declared.account.Account.{Account}
use Rattle.board_core.specs.declared.account.View.{View}
use Rattle.board_core.specs.Each.{Each}
use Rattle.board_core.specs.Words.{Parts, parts_of, log_at}
use Rattle.board_core.specs.Histories.{history_of}
use Rattle.board_core.specs.Accounts.{with_me}
use Rattle.board_core.specs.LoadRule.{LoadFits}
use Rattle.board_core.proofs.FullFrame.{full_same}
use Rattle.board_core.proofs.EmptyFrame.{empty_same}
use Rattle.board_core.specs.Holds.{Rule, Holds}
use Rattle.board_core.specs.After.{after_shown}
use Rattle.board_core.specs.declared.account.Who.TheVariants.{Gone}
use Rattle.board_core.specs.LogWord.{kind_in, target_in}
use Rattle.board_core.specs.Loaded.{IsInTable}
use Rattle.board_core.specs.Steps.{Mine, LoadsLog}
use Rattle.board_core.proofs.LoadSealed.{sealed_in_table}
use Rattle.board_core.proofs.Lists.{each_snoc}
use Rattle.board_core.proofs.Everyone.{mine, changed}
use Rattle.board_core.proofs.LogFrame.{log_same, hand_at}
use Rattle.board_core.proofs.StoryFrame.{stories_same}
use Rattle.board_core.proofs.Stepped.{St, by_log, still}
use Rattle.board_core.proofs.Stored.{part_at}
use Rattle.board_core.proofs.SweptFrame.{swept_here}
use Rattle.board_core.proofs.ChainFrame.{chains_same}

same_place : (base i j place : ℕ) → place ≡ base + i → place ≡ base + j → i ≡ j
same_place base i j place a b = omega arith

pub load_log : (k : Shape) (p : Parts) (h : List Event) (vs : List View) (id i : ℕ) (v : View) → Rule k p h vs → get_elem? vs id ≡ some v → i < v.me.log.seen → Rule k p h (set vs id (with_me v (after_shown v.me (log_at k + i) (p.log.slots i))))
load_log k p h vs id i v r at behind =
    let a : Account = after_shown v.me (log_at k + i) (p.log.slots i) in
    let seen = (hand_at k p.log h vs id v r.log at).seen in by_log k p p h h vs id v a r at
    record { who = refl; pool_words = refl; page_words = refl; pool = refl; tree = refl; counts = refl; epochs = refl; states = refl; lost = refl }
    record { words = refl; front = refl; slots = refl; store = refl }
    record { heads = refl; facts = refl; codes = refl; marks = refl }
    (log_same k p.log h vs id v a r.log at refl)
    (stories_same k h vs id v a r.stories at refl refl)
    (full_same k vs id v a r.full at refl refl)
    (empty_same k p.pool.states vs id v a r.empty at refl)
    (chains_same k p.pages p.pool.states vs id v a r.chains at refl refl)
    (swept_here k p h vs id v a r at refl)
    (changed (λ x. Each (LoadFits k p.log) x.loads.shown) vs id v a at
    (each_snoc (LoadFits k p.log) v.me.loads.shown record { place = log_at k + i; word = p.log.slots i; front = v.me.log.seen }
    record { seen = seen; log = λ j inside place. let e = same_place (log_at k) i j (log_at k + i) refl place in (omega arith, ap p.log.slots (sym e)) }
    (mine (λ x. Each (LoadFits k p.log) x.loads.shown) vs id v at r.loads))
    r.loads)

-- the block that it publishes is in the table
log_block : (k : Shape) (s : St) (id i found : ℕ) (m : Mine) → Holds k s → get_elem? s.views id ≡ some m.0 → m.0.me.who ≢ Gone → i < (parts_of k s.words).log.front → (parts_of k s.words).log.slots i ≡ found → ¬ (kind_in found ≡ 2) → IsInTable m.0.shape (target_in found)
log_block k s id i found m h at here behind same kind =
    let p : Parts = parts_of k s.words in
    let (j, u, there, spot, b, its, shown) = h.rule.rooms.named i behind (subst (λ (w : ℕ). ¬ (kind_in w ≡ 2)) (sym same) kind) in
    let fits = sealed_in_table k p.regions s.views (target_in (p.log.slots i)) h.rule.seats h.rule.rooms.rooms (j, u, there, spot, b, its, shown.1) in
    subst (λ (x : Shape × ℕ). IsInTable x.0 (target_in x.1)) (λ t. (sym (h.rule.seats.shapes id m.0 at here) t, same t)) fits.0

pub log_allowed : (k : Shape) (slots id place i : ℕ) (m : Mine) → place ≡ log_at k + i → i < m.0.me.log.seen → m.0.me.who ≢ Gone → Allows (Holds k) slots id m place (λ n. n) (LoadsLog (step slots place 0 0 none) m)
log_allowed k slots id place i m is behind here s h _ at _ =
    let p : Parts = parts_of k s.words in
    let found : ℕ = get_or s.words place 0 in
    let seen = (hand_at k p.log (history_of k p) s.views id m.0 h.rule.log at).seen in
    let front = h.rule.log.front in
    let same : p.log.slots i ≡ found = part_at (log_at k) k.log s.words i (omega arith) ∙ ap (λ (z : ℕ). get_or s.words z 0) (sym is) in (
      with_me m.0 (after_shown m.0.me place found),
      keeps,
      tt,
      still k s place id m.1 m.0 (after_shown m.0.me place found) h
          (subst (λ (x : ℕ × ℕ). Rule k p (history_of k p) (set s.views id (with_me m.0 (after_shown m.0.me x.0 x.1)))) (λ t. (sym is t, same t)) (load_log k p (history_of k p) s.views id i m.0 h.rule at behind)),
      record { after = refl; block = λ kind. log_block k s id i found m h at here (omega arith) same kind },
    )
