-- What the text of words, numbers and labels that were read is.
use Rattle.std.proofs.Common.{◌≡◌, ℕ, ◌≤◌, eqb, Bool, true, false, List, [], ◌∷◌, ◌++◌, refl, sym, ap, subst, ◌∙◌}
use Rattle.std.specs.Prelude.{Option, Some, None, bytes_eq, option_map, if◌then◌else◌}
use Rattle.std.proofs.lemmas.Bool.{eqb-true}
use Rattle.std.proofs.lemmas.List.{append-nil}
use Rattle.std.proofs.lemmas.Option.{same_Some}
use Rattle.hit_report.specs.RecordLines.{spaced}
use Rattle.report_lines.specs.Reader.{at_end, is_visible, label_at, labelled_at, last_number, number_at, numeral, read_on, word_at, word_back, word_front}
use Rattle.report_lines.proofs.WordsRead.{eq_same}
use Rattle.report_lines.proofs.Numerals.{numeral_some}

pub read_some : {A B : Type 0} (more : A → Option B) (o : Option A) (y : B) → read_on o more ≡ Some y → (x : A) × (o ≡ Some x) × (more x ≡ Some y)
read_some more None y is = absurd cc
read_some more (Some x) y is = (x, refl, is)

pub map_some : {A B : Type 0} (make : A → B) (o : Option A) (y : B) → option_map make o ≡ Some y → (x : A) × (o ≡ Some x) × (make x ≡ y)
map_some make None y is = absurd cc
map_some make (Some x) y is = (x, refl, same_Some (make x) y is)

pub end_some : {A : Type 0} (text : List ℕ) (x y : A) → at_end text x ≡ Some y → (text ≡ []) × (x ≡ y)
end_some [] x y is = (refl, same_Some x y is)
end_some (b ∷ bs) x y is = absurd cc

pub kept_some : {A : Type 0} (b : Bool) (x y : A) → (if b then Some x else None) ≡ Some y → (b ≡ true) × (x ≡ y)
kept_some true x y is = (refl, same_Some x y is)
kept_some false x y is = absurd cc

pub chosen_some : {A : Type 0} (b : Bool) (o : Option A) (y : A) → (if b then o else None) ≡ Some y → (b ≡ true) × (o ≡ Some y)
chosen_some true o y is = (refl, is)
chosen_some false o y is = absurd cc

whole : (text : List ℕ) → word_front text ++ word_back text ≡ text
whole [] = refl
whole (b ∷ bs) = go (is_visible b) (whole bs)
  where
    go : (seen : Bool) → word_front bs ++ word_back bs ≡ bs → (if seen then b ∷ word_front bs else []) ++ (if seen then word_back bs else b ∷ bs) ≡ b ∷ bs
    go true more = ap (λ (l : List ℕ). b ∷ l) more
    go false more = refl

pub cut_whole : (text : List ℕ) → text ≡ word_front text ++ word_back text
cut_whole text = sym (whole text)

pub word_some : (text : List ℕ) (x : List ℕ × List ℕ) → word_at text ≡ Some x → text ≡ 32 ∷ x.0 ++ x.1
unfolding word_at
word_some [] x is = absurd cc
word_some (b ∷ bs) x is =
    let kept = kept_some (eqb b 32) (word_front bs, word_back bs) x is in
    subst (λ (p : List ℕ × List ℕ). b ∷ bs ≡ 32 ∷ p.0 ++ p.1) kept.1
    (ap (λ (c : ℕ). c ∷ bs) (eqb-true b 32 kept.0) ∙ ap (λ (l : List ℕ). 32 ∷ l) (cut_whole bs))

pub label_some : (label text rest : List ℕ) → label_at label text ≡ Some rest → text ≡ 32 ∷ label ++ rest
unfolding label_at
label_some label text rest is =
    let a = read_some _ (word_at text) rest is in
    let kept = kept_some (bytes_eq a.0.0 label) a.0.1 rest a.2 in
    let same : a.0.0 ≡ label = eq_same a.0.0 label kept.0 in
    word_some text a.0 a.1 ∙ ap (λ (w : List ℕ). 32 ∷ w ++ a.0.1) same ∙ ap (λ (r : List ℕ). 32 ∷ label ++ r) kept.1

pub number_some : (most : ℕ) (text : List ℕ) (x : ℕ × List ℕ) → number_at most text ≡ Some x → (x.0 ≤ most) × (text ≡ spaced x.0 ++ x.1)
unfolding number_at
number_some most text x is =
    let a = read_some _ (word_at text) x is in
    let n = map_some _ (numeral most a.0.0) x a.2 in
    let means = numeral_some most n.0 a.0.0 n.1 in
    subst (λ (p : ℕ × List ℕ). (p.0 ≤ most) × (text ≡ spaced p.0 ++ p.1)) n.2
    (means.0, word_some text a.0 a.1 ∙ ap (λ (w : List ℕ). 32 ∷ w ++ a.0.1) means.1)

pub labelled_some : (label : List ℕ) (most : ℕ) (text : List ℕ) (x : ℕ × List ℕ) → labelled_at label most text ≡ Some x → (x.0 ≤ most) × (text ≡ 32 ∷ label ++ (spaced x.0 ++ x.1))
unfolding labelled_at
labelled_some label most text x is =
    let a = read_some _ (label_at label text) x is in
    let n = number_some most a.0 x a.2 in
    (n.0, label_some label text a.0 a.1 ∙ ap (λ (r : List ℕ). 32 ∷ label ++ r) n.1)

pub last_some : (most : ℕ) (text : List ℕ) (n : ℕ) → last_number most text ≡ Some n → (n ≤ most) × (text ≡ spaced n)
unfolding last_number
last_some most text n is =
    let a = read_some _ (number_at most text) n is in
    let number = number_some most text a.0 a.1 in
    let end = end_some a.0.1 a.0.0 n a.2 in
    subst (λ (k : ℕ). (k ≤ most) × (text ≡ spaced k)) end.1
    (number.0, number.1 ∙ ap (λ (r : List ℕ). spaced a.0.0 ++ r) end.0 ∙ append-nil (spaced a.0.0))
