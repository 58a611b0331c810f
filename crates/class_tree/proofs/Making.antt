-- The words of a new page are stored.
use Rattle.std.proofs.Common.{◌≡◌, ℕ, zero, suc, cond, ◌+◌, ◌<◌, ◌==◌, List, [], ◌∷◌, ◌++◌, length, get_or, take, refl, sym, ap, ◌∙◌, subst, arith, eq-eqb, ne_eqb, take-suc, length-take-le}
use Rattle.std.proofs.lemmas.List.{take-take}
use mathlib.Core.Option.{some-injective, some-ne-none}
use mathlib.Core.Logic.{dite}
use native.Mathlib.Decide.{ℕ_discrete}
use Rattle.htss_defs.specs.declared.shape.Shape.{Shape}
use Rattle.board_core.specs.declared.pool.Own.{Own}
use Rattle.board_core.specs.Each.{Each}
use Rattle.board_core.specs.Words.{zeros}
use Rattle.board_core.specs.Sheets.{owns}
use Rattle.board_core.specs.Loaded.{IsPage, HasOwn, HasStored, one_word}
use Rattle.board_core.specs.After.{with_word, put_if, put_own, after_own}
use Rattle.board_core.specs.Steps.{MayStoreOwn}
use Rattle.board_core.proofs.StoreOwn.{owns_put, length_put}
use Rattle.board.specs.Seated.{Place, Seated, IsOf, with_account}
use Rattle.class_tree.specs.Stocked.{HasMade, fresh_word}

zeros_none : (n i : ℕ) → get_or (zeros n) i 0 ≡ 0
zeros_none zero i = refl
zeros_none (suc n) zero = refl
zeros_none (suc n) (suc i) = zeros_none n i

-- the words one by one, and as a list
word_is : (header first i : ℕ) → fresh_word header first i ≡ get_or (one_word header first) i 0
word_is header first zero = refl
word_is header first (suc zero) = refl
word_is header first (suc (suc zero)) = refl
word_is header first (suc (suc (suc i))) =
    ap (λ b. cond b header (cond (suc (suc (suc i)) == 2) first 0)) (ne_eqb (suc (suc (suc i))) 0 (λ e. omega arith))
    ∙ (ap (λ b. cond b first 0) (ne_eqb (suc (suc (suc i))) 2 (λ e. omega arith)) ∙ sym (zeros_none 13 i))

-- ---- one word more

-- the words that were stored so far, in each entry of the page
abbrev AreStored : List ℕ → ℕ → ℕ → List Own → Type 0
AreStored words page count os = 0 < count → Each (λ o. o.page ≡ page → o.words ≡ take count words) os

first_words : (words : List ℕ) (o : Own) (i : ℕ) → (0 < i → o.words ≡ take i words) → take i o.words ≡ take i words
first_words words o zero h = refl
first_words words o (suc i) h = ap (take (suc i)) (h (omega arith)) ∙ take-take (suc i) (suc i) words (omega arith)

put_here : (words : List ℕ) (page i n : ℕ) (o x : Own) → i < length words → get_or words i 0 ≡ n → (0 < i → o.page ≡ page → o.words ≡ take i words) → put_if page i n o ≡ x → x.page ≡ page → x.words ≡ take (suc i) words
put_here words page i n o x less is h e at = dite (ℕ_discrete page o.page)
    (λ same.
    let new : put_if page i n o ≡ with_word i n o = ap (λ b. cond b (with_word i n o) o) (eq-eqb page o.page same) in
    ap (λ (z : Own). z.words) (sym e ∙ new) ∙ (ap (λ (l : List ℕ). l ++ n ∷ []) (first_words words o i (λ above. h above (sym same))) ∙ (ap (λ (z : ℕ). take i words ++ z ∷ []) (sym is) ∙ sym (take-suc words i 0 less))))
    (λ other.
    let old : put_if page i n o ≡ o = ap (λ b. cond b (with_word i n o) o) (ne_eqb page o.page other) in
    absurd (other (sym at ∙ ap (λ (z : Own). z.page) (sym e ∙ old))))

put_stored : (words : List ℕ) (page i n : ℕ) (os : List Own) → i < length words → get_or words i 0 ≡ n → AreStored words page i os → AreStored words page (suc i) (put_own page i n os)
put_stored words page i n [] less is h more j x there at = absurd (some-ne-none x (sym there))
put_stored words page i n (o ∷ os) less is h more zero x there at = put_here words page i n o x less is (λ above. h above 0 o refl) (some-injective (put_if page i n o) x there) at
put_stored words page i n (o ∷ os) less is h more (suc j) x there at = put_stored words page i n os less is (λ above j. h above (suc j)) more j x there at

-- ---- the loop

pub made_none : (c : Seated) (page header first : ℕ) → HasMade c c page header first 0
made_none c page header first = record { after = refl; same = λ q. refl; size = refl; stored = λ none. absurd (omega arith) }

pub made_of : (b : Place) (c d : Seated) (page header first count : ℕ) → IsOf b c → HasMade c d page header first count → IsOf b d
made_of b c d page header first count of h = subst (IsOf b) (sym h.after) record { table = of.table; shape = of.shape }

pub may_store : (k : Shape) (c d : Seated) (page header first i : ℕ) → IsPage k page → HasOwn c.account page → i < 16 → HasMade c d page header first i → MayStoreOwn k d.account page i
may_store k c d page header first i inside mine small h = record {
  inside = inside;
  small = small;
  own = (let same = h.same page in omega arith);
  before = λ j o there at. dite (ℕ_discrete i 0)
      (λ none. omega arith)
      (λ above. let size = length-take-le i (one_word header first) (omega arith) in let words : length o.words ≡ length (take i (one_word header first)) = ap length (h.stored (omega arith) j o there at) in omega arith);
}

pub made_more : (c d e : Seated) (page header first i word : ℕ) → i < 16 → HasMade c d page header first i → word ≡ fresh_word header first i → e ≡ with_account d (after_own d.account page i word) → HasMade c e page header first (i + 1)
made_more c d e page header first i word small h is after =
    let own : e.account.pool.own ≡ put_own page i word d.account.pool.own = ap (λ (x : Seated). x.account.pool.own) after in record {
      after = (after ∙ (λ t. with_account d (record d.account { pool = record d.account.pool { own = sym own t } })))
          ∙ ap (λ (x : Seated). with_account x (record x.account { pool = record x.account.pool { own = e.account.pool.own } })) h.after;
      same = λ q. ap (owns q) own ∙ (owns_put page i word q d.account.pool.own ∙ h.same q);
      size = ap length own ∙ (length_put page i word d.account.pool.own ∙ h.size);
      stored = λ more. subst (λ (x : ℕ × List Own). Each (λ o. o.page ≡ page → o.words ≡ take x.0 (one_word header first)) x.1) (λ t. ((let z : suc i ≡ i + 1 = omega arith in z) t, sym own t))
          (put_stored (one_word header first) page i word d.account.pool.own small (sym (word_is header first i) ∙ sym is) h.stored (omega arith));
    }

pub made_all : (c d : Seated) (page header first : ℕ) → HasOwn c.account page → HasMade c d page header first 16 → HasStored d.account page (one_word header first)
made_all c d page header first mine h = record { own = (let same = h.same page in omega arith); stored = h.stored (omega arith) }
