-- The history that the words show: how long it is, when it stays, how it grows, and what the word of its event says.
use Rattle.std.proofs.Common.{◌≡◌, ℕ, zero, suc, ◌+◌, ◌<◌, ◌==◌, Bool, true, false, cond, List, [], ◌∷◌, ◌++◌, length, sym, refl, ap, ◌∙◌, subst, arith, length-append, eq-eqb, ne_eqb}
use mathlib.Core.Logic.{dite}
use native.Mathlib.Decide.{ℕ_discrete}
use Rattle.htss_defs.specs.declared.shape.Shape.{Shape}
use Rattle.htss_defs.specs.declared.history.Event.{Event}
use Rattle.htss_defs.specs.declared.history.Event.TheVariants.{Publish, Withdraw}
use Rattle.htss_defs.specs.Molecule.{Molecule}
use Rattle.board_core.specs.Words.{Parts}
use Rattle.board_core.specs.LogWord.{kind_in, loader_in, target_in}
use Rattle.board_core.specs.Blocks.{first_of, name_in, molecule_in}
use Rattle.board_core.specs.Histories.{block_at, event_of, history_of, caller_of, MayFollow, MayShow}

pub length_first : {A : Type 0} (f : ℕ → A) (n : ℕ) → length (first_of f n) ≡ n
length_first f zero = refl
length_first f (suc n) = let h = length_first f n in omega (arith, length-append (first_of f n) (f n ∷ []))

pub same_first : {A : Type 0} (f g : ℕ → A) (n : ℕ) → ((i : ℕ) → i < n → g i ≡ f i) → first_of g n ≡ first_of f n
same_first f g zero same = refl
same_first f g (suc n) same = let h = same_first f g n (λ i l. same i (omega arith)) in let last = same n (omega arith) in λ t. h t ++ last t ∷ []

pub history_counted : (k : Shape) (p : Parts) → length (history_of k p) ≡ p.log.front
history_counted k p = length_first (λ i. event_of k p.regions (p.log.slots i)) p.log.front

-- the words behind the front are as they were, and so are the regions
pub history_same : (k : Shape) (p q : Parts) → q.log.front ≡ p.log.front → q.regions ≡ p.regions → ((i : ℕ) → i < p.log.front → q.log.slots i ≡ p.log.slots i) → history_of k q ≡ history_of k p
history_same k p q front regions slots =
    ap (λ n. first_of (λ i. event_of k q.regions (q.log.slots i)) n) front
    ∙ same_first (λ i. event_of k p.regions (p.log.slots i)) (λ i. event_of k q.regions (q.log.slots i)) p.log.front (λ i l. ap (λ (x : (ℕ → ℕ) × ℕ). event_of k x.0 x.1) (λ t. (regions t, slots i l t)))

-- the front moves by one
pub history_grown : (k : Shape) (p : Parts) → history_of k (record p { log = record p.log { front = p.log.front + 1 } }) ≡ history_of k p ++ event_of k p.regions (p.log.slots p.log.front) ∷ []
history_grown k p = ap (first_of (λ i. event_of k p.regions (p.log.slots i))) (next p.log.front)
  where
    next : (n : ℕ) → n + 1 ≡ suc n
    next n = omega arith

-- ---- the event of a word

by_kind : (b : Bool) (loader target : ℕ) (name : List ℕ) (mol : Molecule) → caller_of (cond b (Withdraw loader target) (Publish loader name mol)) ≡ loader
by_kind true loader target name mol = refl
by_kind false loader target name mol = refl

pub caller_shown : (k : Shape) (regions : ℕ → ℕ) (word : ℕ) → caller_of (event_of k regions word) ≡ loader_in word
caller_shown k regions word = by_kind (kind_in word == 2) (loader_in word) (target_in word) (name_in (block_at k regions (target_in word))) (molecule_in (block_at k regions (target_in word)))

pub may_follow : (k : Shape) (regions : ℕ → ℕ) (h : List Event) (word : ℕ) → MayShow h word → MayFollow h (event_of k regions word)
may_follow k regions h word may =
    let name : List ℕ = name_in (block_at k regions (target_in word)) in
    let mol : Molecule = molecule_in (block_at k regions (target_in word)) in
    let shown : Bool → Event = λ b. cond b (Withdraw (loader_in word) (target_in word)) (Publish (loader_in word) name mol) in
    dite (ℕ_discrete (kind_in word) 2)
    (λ two. subst (λ (b : Bool). MayFollow h (shown b)) (sym (eq-eqb (kind_in word) 2 two)) (may two))
    (λ other. subst (λ (b : Bool). MayFollow h (shown b)) (sym (ne_eqb (kind_in word) 2 other)) tt)
