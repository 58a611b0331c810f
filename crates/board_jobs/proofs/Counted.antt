-- Numbers that rise.
use Rattle.std.proofs.Common.{◌≡◌, ◌⊎◌, inl, inr, ⊎_elim, ℕ, suc, ◌+◌, ◌<◌, ◌≤◌, List, [], ◌∷◌, ◌++◌, length, arith}
use Rattle.std.specs.Prelude.{Contains}

-- the number is one of these
abbrev pub In : ℕ → List ℕ → Type 0
In n [] = ⊥
In n (x ∷ xs) = (x ≡ n) ⊎ In n xs

pub in_left : (n : ℕ) (xs ys : List ℕ) → In n xs → In n (xs ++ ys)
in_left n [] ys m = absurd m
in_left n (x ∷ xs) ys (inl e) = inl e
in_left n (x ∷ xs) ys (inr m) = inr (in_left n xs ys m)

pub in_right : (n : ℕ) (xs ys : List ℕ) → In n ys → In n (xs ++ ys)
in_right n [] ys m = m
in_right n (x ∷ xs) ys m = inr (in_right n xs ys m)

pub in_cases : (n : ℕ) (xs ys : List ℕ) → In n (xs ++ ys) → In n xs ⊎ In n ys
in_cases n [] ys m = inr m
in_cases n (x ∷ xs) ys (inl e) = inl (inl e)
in_cases n (x ∷ xs) ys (inr m) = ⊎_elim (λ (t : In n xs). inl (inr t)) (λ (t : In n ys). inr t) (in_cases n xs ys m)

pub contains_in : (n : ℕ) (xs : List ℕ) → In n xs → Contains xs n
contains_in n [] m = absurd m
contains_in n (x ∷ xs) (inl e) = (0, omega arith, e)
contains_in n (x ∷ xs) (inr m) = let rest = contains_in n xs m in let within : rest.0 < length xs = rest.1 in (suc rest.0, omega arith, rest.2)

-- ---- numbers that rise

-- they rise, from the first number on
abbrev pub RiseFrom : ℕ → List ℕ → Type 0
RiseFrom first [] = Unit {0}
RiseFrom first (n ∷ ns) = (first ≤ n) × RiseFrom (n + 1) ns

-- and none reaches the second number
abbrev pub RiseTo : ℕ → List ℕ → ℕ → Type 0
RiseTo first [] stop = first ≤ stop
RiseTo first (n ∷ ns) stop = (first ≤ n) × RiseTo (n + 1) ns stop

pub without_stop : (first : ℕ) (ns : List ℕ) (stop : ℕ) → RiseTo first ns stop → RiseFrom first ns
without_stop first [] stop r = tt
without_stop first (n ∷ ns) stop r = (r.0, without_stop (n + 1) ns stop r.1)

pub rise_sooner : (first second : ℕ) (ns : List ℕ) (stop : ℕ) → first ≤ second → RiseTo second ns stop → RiseTo first ns stop
rise_sooner first second [] stop le r = omega (arith, r)
rise_sooner first second (n ∷ ns) stop le r = (omega (arith, r.0), r.1)

pub rise_later : (first : ℕ) (ns : List ℕ) (stop later : ℕ) → stop ≤ later → RiseTo first ns stop → RiseTo first ns later
rise_later first [] stop later le r = omega (arith, r)
rise_later first (n ∷ ns) stop later le r = (r.0, rise_later (n + 1) ns stop later le r.1)

pub rise_append : (first : ℕ) (xs ys : List ℕ) (middle stop : ℕ) → RiseTo first xs middle → RiseTo middle ys stop → RiseTo first (xs ++ ys) stop
rise_append first [] ys middle stop a b = rise_sooner first middle ys stop a b
rise_append first (x ∷ xs) ys middle stop a b = (a.0, rise_append (x + 1) xs ys middle stop a.1 b)

pub not_sooner : (first : ℕ) (ns : List ℕ) → RiseFrom first ns → (n : ℕ) → In n ns → first ≤ n
not_sooner first [] r n m = absurd m
not_sooner first (x ∷ xs) r n (inl e) = omega (arith, r.0, e)
not_sooner first (x ∷ xs) r n (inr m) = let rest = not_sooner (x + 1) xs r.1 n m in omega (arith, r.0, rest)

pub not_later : (first : ℕ) (ns : List ℕ) (stop : ℕ) → RiseTo first ns stop → (n : ℕ) → In n ns → n < stop
not_later first [] stop r n m = absurd m
not_later first (x ∷ xs) stop r n (inl e) = let rest = below (x + 1) xs stop r.1 in omega (arith, rest, e)
  where
    below : (low : ℕ) (ys : List ℕ) (high : ℕ) → RiseTo low ys high → low ≤ high
    below low [] high b = b
    below low (y ∷ ys) high b = let more = below (y + 1) ys high b.1 in omega (arith, b.0, more)
not_later first (x ∷ xs) stop r n (inr m) = not_later (x + 1) xs stop r.1 n m
