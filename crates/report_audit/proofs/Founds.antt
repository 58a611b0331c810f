-- What is found, said otherwise.
use Rattle.std.proofs.Common.{◌≡◌, subst}
use Rattle.std.specs.Prelude.{ℕ, Option, Some, None, Result, Ok, Err, IfErr, IfNone, IfOk, IfSome}

pub none_map : (o : Option ℕ) (P Q : Type 0) → (P → Q) → IfNone o P → IfNone o Q
none_map (Some x) P Q f is = is
none_map None P Q f is = f is

pub some_map : (o : Option ℕ) (P Q : ℕ → Type 0) → ((n : ℕ) → P n → Q n) → IfSome o P → IfSome o Q
some_map (Some x) P Q f is = f x is
some_map None P Q f is = is

pub ok_none : {E : Type 0} (r : Result (Option ℕ) E) (P Q : Type 0) → (P → Q) → IfOk r (λ o. IfNone o P) → IfOk r (λ o. IfNone o Q)
ok_none (Ok o) P Q f is = none_map o P Q f is
ok_none (Err e) P Q f is = is

pub ok_some : {E : Type 0} (r : Result (Option ℕ) E) (P Q : ℕ → Type 0) → ((n : ℕ) → P n → Q n) → IfOk r (λ o. IfSome o P) → IfOk r (λ o. IfSome o Q)
ok_some (Ok o) P Q f is = some_map o P Q f is
ok_some (Err e) P Q f is = is

pub some_at : (o : Option ℕ) (n : ℕ) (P : ℕ → Type 0) → o ≡ Some n → IfSome o P → P n
some_at o n P is has = subst (λ (x : Option ℕ). IfSome x P) is has

pub none_at : (o : Option ℕ) (P : Type 0) → o ≡ None → IfNone o P → P
none_at o P is has = subst (λ (x : Option ℕ). IfNone x P) is has

pub ok_at : {A E : Type 0} (r : Result A E) (x : A) (P : A → Type 0) → r ≡ Ok x → IfOk r P → P x
ok_at {A = A} {E = E} r x P is has = subst (λ (y : Result A E). IfOk y P) is has

pub err_at : {A E : Type 0} (r : Result A E) (x : E) (P : E → Type 0) → r ≡ Err x → IfErr r P → P x
err_at {A = A} {E = E} r x P is has = subst (λ (y : Result A E). IfErr y P) is has
