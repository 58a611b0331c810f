-- The words of the pages that take a full leaf's place are stored.
use Rattle.std.proofs.Common.{◌≡◌, ◌≢◌, ℕ, zero, suc, cond, ◌+◌, ◌<◌, ◌≤◌, List, [], ◌∷◌, ◌++◌, length, get_or, take, refl, sym, ap, ◌∙◌, subst, arith, inl, inr, eq-eqb, ne_eqb}
use Rattle.std.proofs.lemmas.Bool.{cases_eq}
use mathlib.Core.Option.{some-injective, some-ne-none}
use Rattle.htss_defs.specs.declared.shape.Shape.{Shape}
use Rattle.board_core.specs.declared.account.Account.{Account}
use Rattle.board_core.specs.declared.pool.Own.{Own}
use Rattle.board_core.specs.Sheets.{owns}
use Rattle.board_core.specs.Loaded.{IsPage, HasOwn}
use Rattle.board_core.specs.Plan.{words_at, own_word, IsWhole}
use Rattle.board_core.specs.After.{with_word, put_if, put_own, after_own}
use Rattle.board_core.specs.Steps.{MayStoreOwn}
use Rattle.board_core.proofs.PageSums.{where_other}
use Rattle.board_core.proofs.StoreOwn.{owns_put, length_put}
use Rattle.board.specs.Seated.{Place, Seated, IsOf, with_account}
use Rattle.class_tree.specs.Splitting.{AreStored, AreFilled, StoresOnly}

-- ---- the words of one page go on by one

size_with : (i n : ℕ) (ws : List ℕ) → i ≤ length ws → length (take i ws ++ n ∷ []) ≡ i + 1
size_with zero n ws l = omega arith
size_with (suc i) n [] l = absurd (omega arith)
size_with (suc i) n (w ∷ ws) l = let h = size_with i n ws (omega arith) in omega arith

with_before : (i n : ℕ) (ws : List ℕ) (j : ℕ) → i ≤ length ws → j < i → get_or (take i ws ++ n ∷ []) j 0 ≡ get_or ws j 0
with_before zero n ws j l m = absurd (omega arith)
with_before (suc i) n [] j l m = absurd (omega arith)
with_before (suc i) n (w ∷ ws) zero l m = refl
with_before (suc i) n (w ∷ ws) (suc j) l m = with_before i n ws j (omega arith) (omega arith)

with_here : (i n : ℕ) (ws : List ℕ) → i ≤ length ws → get_or (take i ws ++ n ∷ []) i 0 ≡ n
with_here zero n ws l = refl
with_here (suc i) n [] l = absurd (omega arith)
with_here (suc i) n (w ∷ ws) l = with_here i n ws (omega arith)

-- the words of an own page
abbrev Has : (ℕ → ℕ) → ℕ → Own → Type 0
Has word n o = (length o.words ≡ n) × ((i : ℕ) → i < n → get_or o.words i 0 ≡ word i)

word_more : (word : ℕ → ℕ) (i n : ℕ) (o : Own) → n ≡ word i → (0 < i → Has word i o) → Has word (i + 1) (with_word i n o)
word_more word i n o is h =
    let room : i ≤ length o.words = elim (cases_eq i 0) [
      | inl z ↦ omega arith
      | inr z ↦ let s = (h (omega arith)).0 in omega arith
    ] in (
      size_with i n o.words room,
      λ j l. elim (cases_eq j i) [
        | inl y ↦ ap (λ (k : ℕ). get_or (take i o.words ++ n ∷ []) k 0) y ∙ (with_here i n o.words room ∙ (is ∙ ap word (sym y)))
        | inr y ↦ with_before i n o.words j room (omega arith) ∙ (h (omega arith)).1 j (omega arith)
      ],
    )

put_one : (word : ℕ → ℕ) (page i n : ℕ) (o x : Own) → n ≡ word i → (0 < i → o.page ≡ page → Has word i o) → put_if page i n o ≡ x → x.page ≡ page → Has word (i + 1) x
put_one word page i n o x is h e at = elim (cases_eq page o.page) [
  | inl same ↦
      let new : put_if page i n o ≡ with_word i n o = ap (λ b. cond b (with_word i n o) o) (eq-eqb page o.page same) in
      subst (Has word (i + 1)) (sym new ∙ e) (word_more word i n o is (λ above. h above (sym same)))
  | inr other ↦
      let old : put_if page i n o ≡ o = ap (λ b. cond b (with_word i n o) o) (ne_eqb page o.page other) in
      absurd (other (sym at ∙ ap (λ (z : Own). z.page) (sym e ∙ old)))
]

put_stored : (word : ℕ → ℕ) (page i n : ℕ) (os : List Own) → n ≡ word i → AreStored os page word i → AreStored (put_own page i n os) page word (i + 1)
put_stored word page i n [] is h more j x there at = absurd (some-ne-none x (sym there))
put_stored word page i n (o ∷ os) is h more zero x there at = put_one word page i n o x is (λ above. h above 0 o refl) (some-injective (put_if page i n o) x there) at
put_stored word page i n (o ∷ os) is h more (suc j) x there at = put_stored word page i n os is (λ above j. h above (suc j)) (omega arith) j x there at

-- another page is as it was
put_else : (word : ℕ → ℕ) (page i n q count : ℕ) (os : List Own) → q ≢ page → AreStored os q word count → AreStored (put_own page i n os) q word count
put_else word page i n q count [] other h above j x there at = absurd (some-ne-none x (sym there))
put_else word page i n q count (o ∷ os) other h above zero x there at =
    let is : put_if page i n o ≡ x = some-injective (put_if page i n o) x there in
    elim (cases_eq page o.page) [
      | inl same ↦
          let new : put_if page i n o ≡ with_word i n o = ap (λ b. cond b (with_word i n o) o) (eq-eqb page o.page same) in
          absurd (other (sym at ∙ (ap (λ (z : Own). z.page) (sym is ∙ new) ∙ sym same)))
      | inr else ↦
          let old : put_if page i n o ≡ o = ap (λ b. cond b (with_word i n o) o) (ne_eqb page o.page else) in
          let same : o ≡ x = sym old ∙ is in
          subst (Has word count) same (h above 0 o refl (ap (λ (z : Own). z.page) same ∙ at))
    ]
put_else word page i n q count (o ∷ os) other h above (suc j) x there at = put_else word page i n q count os other (λ more k. h more (suc k)) above j x there at

-- ---- loops of stores

pub only_none : (c : Seated) (Touched : ℕ → Type 0) → StoresOnly c c Touched
only_none c Touched = record { after = refl; same = λ q. refl; size = refl; others = λ q o word n h. h }

pub stored_none : (own : List Own) (page : ℕ) (word : ℕ → ℕ) → AreStored own page word 0
stored_none own page word more = absurd (omega arith)

pub only_more : (c d e : Seated) (Touched : ℕ → Type 0) (p i n : ℕ) → StoresOnly c d Touched → Touched p → e ≡ with_account d (after_own d.account p i n) → StoresOnly c e Touched
only_more c d e Touched p i n h t after =
    let own : e.account.pool.own ≡ put_own p i n d.account.pool.own = ap (λ (x : Seated). x.account.pool.own) after in record {
      after = (after ∙ (λ t. with_account d (record d.account { pool = record d.account.pool { own = sym own t } })))
          ∙ ap (λ (x : Seated). with_account x (record x.account { pool = record x.account.pool { own = e.account.pool.own } })) h.after;
      same = λ q. ap (owns q) own ∙ (owns_put p i n q d.account.pool.own ∙ h.same q);
      size = ap length own ∙ (length_put p i n d.account.pool.own ∙ h.size);
      others = λ q o word m old. subst (λ (os : List Own). AreStored os q word m) (sym own) (put_else word p i n q m d.account.pool.own (λ y. o (subst Touched (sym y) t)) (h.others q o word m old));
    }

pub only_then : (c d e : Seated) (T U V : ℕ → Type 0) → StoresOnly c d T → StoresOnly d e U → ((q : ℕ) → T q → V q) → ((q : ℕ) → U q → V q) → StoresOnly c e V
only_then c d e T U V h k s t = record {
  after = k.after ∙ ap (λ (x : Seated). with_account x (record x.account { pool = record x.account.pool { own = e.account.pool.own } })) h.after;
  same = λ q. k.same q ∙ h.same q;
  size = k.size ∙ h.size;
  others = λ q o word n old. k.others q (λ y. o (t q y)) word n (h.others q (λ y. o (s q y)) word n old);
}

pub only_wider : (c d : Seated) (T U : ℕ → Type 0) → StoresOnly c d T → ((q : ℕ) → T q → U q) → StoresOnly c d U
only_wider c d T U h s = record { after = h.after; same = h.same; size = h.size; others = λ q o word n old. h.others q (λ y. o (s q y)) word n old }

pub only_of : (b : Place) (c d : Seated) (Touched : ℕ → Type 0) → IsOf b c → StoresOnly c d Touched → IsOf b d
only_of b c d Touched of h = subst (IsOf b) (sym h.after) record { table = of.table; shape = of.shape }

pub page_more : (d e : Seated) (p i n : ℕ) (word : ℕ → ℕ) → AreStored d.account.pool.own p word i → n ≡ word i → e ≡ with_account d (after_own d.account p i n) → AreStored e.account.pool.own p word (i + 1)
page_more d e p i n word h is after = subst (λ (os : List Own). AreStored os p word (i + 1)) (sym (ap (λ (x : Seated). x.account.pool.own) after)) (put_stored word p i n d.account.pool.own is h)

pub may_store_next : (k : Shape) (c d : Seated) (Touched : ℕ → Type 0) (p i : ℕ) (word : ℕ → ℕ) → IsPage k p × HasOwn c.account p → i < 16 → StoresOnly c d Touched → AreStored d.account.pool.own p word i → MayStoreOwn k d.account p i
may_store_next k c d Touched p i word mine small h stored = record {
  inside = mine.0;
  small = small;
  own = (let same = h.same p in let own = mine.1 in omega arith);
  before = λ j o there at. elim (cases_eq i 0) [
    | inl none ↦ omega arith
    | inr above ↦ let size = (stored (omega arith) j o there at).0 in omega arith
  ];
}

pub pages_more : (d e : Seated) (pages : List ℕ) (word : ℕ → ℕ → ℕ) (n : ℕ) → AreFilled d.account.pool.own pages word n → AreStored e.account.pool.own (get_or pages n 0) (word n) 16 → StoresOnly d e (λ q. q ≡ get_or pages n 0)
    → ((t : ℕ) → t < n → get_or pages t 0 ≢ get_or pages n 0) → AreFilled e.account.pool.own pages word (n + 1)
pages_more d e pages word n old new h apart t less = elim (cases_eq t n) [
  | inl is ↦ subst (λ (z : ℕ). AreStored e.account.pool.own (get_or pages z 0) (word z) 16) (sym is) new
  | inr other ↦ h.others (get_or pages t 0) (apart t (omega arith)) (word t) 16 (old t (omega arith))
]

-- ---- the first entry of an own page shows its words

pub words_there : (os : List Own) (page : ℕ) (word : ℕ → ℕ) (n : ℕ) → 0 < owns page os → 0 < n → AreStored os page word n → (length (words_at os page) ≡ n) × ((i : ℕ) → i < n → own_word os page i ≡ word i)
words_there [] page word n mine above h = absurd (omega arith)
words_there (o ∷ os) page word n mine above h = elim (cases_eq page o.page) [
  | inl same ↦
      let e : words_at (o ∷ os) page ≡ o.words = ap (λ b. cond b o.words (words_at os page)) (eq-eqb page o.page same) in
      let (size, words) = h above 0 o refl (sym same) in
      (ap length e ∙ size, λ i less. ap (λ (ws : List ℕ). get_or ws i 0) e ∙ words i less)
  | inr other ↦
      let e : words_at (o ∷ os) page ≡ words_at os page = ap (λ b. cond b o.words (words_at os page)) (ne_eqb page o.page other) in
      let none = where_other page o.page 1 other in
      let (size, words) = words_there os page word n (omega arith) above (λ more j. h more (suc j)) in
      (ap length e ∙ size, λ i less. ap (λ (ws : List ℕ). get_or ws i 0) e ∙ words i less)
]

pub is_whole : (a : Account) (page : ℕ) (word : ℕ → ℕ) → HasOwn a page → AreStored a.pool.own page word 16 → IsWhole a page
is_whole a page word mine h = record { own = mine; size = (words_there a.pool.own page word 16 mine (omega arith) h).0 }
