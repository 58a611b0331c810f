-- Two lists, member by member.
use Rattle.std.proofs.Common.{◌≡◌, ℕ, zero, suc, ◌+◌, ◌<◌, List, [], ◌∷◌, ◌++◌, length, take, get_or, refl, sym, ap, subst, ◌∙◌, arith}
use Rattle.std.specs.List.{AllZip}
use Rattle.std.proofs.lemmas.List.{get_or_default, take_more}

zip_push : {A B : Type 0} (R : A → B → Type 0) (xs : List A) (ys : List B) (x : A) (y : B) → AllZip R xs ys → R x y → AllZip R (xs ++ x ∷ []) (ys ++ y ∷ [])
zip_push R [] [] x y all one = (one, tt)
zip_push R [] (other ∷ ys) x y all one = absurd all
zip_push R (other ∷ xs) [] x y all one = absurd all
zip_push R (first ∷ xs) (other ∷ ys) x y all one = (all.0, zip_push R xs ys x y all.1 one)

pub zip_more : {A B : Type 0} (R : A → B → Type 0) (xs : List A) (ys : List B) (i : ℕ) (x : A) (y : B) → i < length xs → x ≡ get_or xs i x → AllZip R (take i xs) ys → R x y → AllZip R (take (i + 1) xs) (ys ++ y ∷ [])
zip_more {A = A} R xs ys i x y less is all one =
    subst (λ (l : List A). AllZip R l (ys ++ y ∷ [])) (sym (take_more xs i x less ∙ ap (λ (z : A). take i xs ++ z ∷ []) (sym is))) (zip_push R (take i xs) ys x y all one)

pub zip_each : {A B : Type 0} (R : A → B → Type 0) (xs : List A) (ys : List B) (i : ℕ) (x : A) (y : B) → AllZip R xs ys → i < length xs → R (get_or xs i x) (get_or ys i y)
zip_each R [] ys i x y all less = absurd (omega (arith, less))
zip_each R (first ∷ xs) [] i x y all less = absurd all
zip_each R (first ∷ xs) (other ∷ ys) zero x y all less = all.0
zip_each R (first ∷ xs) (other ∷ ys) (suc i) x y all less = zip_each R xs ys i x y all.1 (omega (arith, less))

pub zip_long : {A B : Type 0} (R : A → B → Type 0) (xs : List A) (ys : List B) → AllZip R xs ys → length ys ≡ length xs
zip_long R [] [] all = refl
zip_long R [] (y ∷ ys) all = absurd all
zip_long R (x ∷ xs) [] all = absurd all
zip_long R (x ∷ xs) (y ∷ ys) all = ap suc (zip_long R xs ys all.1)

-- ---- two lists that are compared

pub alike_more : {A : Type 0} (one other : List A) (i : ℕ) (d e : A) → take i one ≡ take i other → i < length one → i < length other → get_or one i d ≡ get_or other i e → take (i + 1) one ≡ take (i + 1) other
alike_more {A = A} one other i d e same less few is =
    take_more one i d less ∙ ap (λ (l : List A). l ++ get_or one i d ∷ []) same ∙ ap (λ (x : A). take i other ++ x ∷ []) is ∙ sym (take_more other i e few)

pub alike_not : {A : Type 0} (one other : List A) (i : ℕ) (d e : A) → one ≡ other → i < length one → (get_or one i d ≡ get_or other i e → ⊥) → ⊥
alike_not {A = A} one other i d e same less not =
    not (ap (λ (l : List A). get_or l i d) same ∙ get_or_default other i d e (omega (arith, less, ap length same)))
