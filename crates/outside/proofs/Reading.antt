-- A file read piece by piece.
use Rattle.std.proofs.Common.{◌≡◌, ℕ, ◌+◌, ◌<◌, List, [], ◌++◌, length, take, drop, refl, sym, ap, ◌∙◌, subst, take-add, arith}
use Rattle.std.specs.Prelude.{Option, None, Some, IfSome, IsSomeAnd, MatchOption}
use Rattle.std.proofs.lemmas.List.{length-take, length-append, take-append-drop, append_assoc, drop-drop}
use Rattle.std.specs.Io.KnownBytes.{append_known}
use Rattle.outside.specs.Files.{File, bytes_of, Gives, file_limit, HasFront, IsFront, IsLarge}

pub HasFront-nil : (told : Option (List File)) (name front : List ℕ) → front ≡ [] → HasFront told name front
HasFront-nil None name front nil = tt
HasFront-nil (Some files) name front nil = go (bytes_of files name)
  where
    go : (o : Option (List ℕ)) → MatchOption o (front ≡ []) (λ bytes. IsFront bytes front)
    go None = nil
    go (Some bytes) = record { parts = rw nil refl }

IsFront-more : (bytes front into : List ℕ) (n : ℕ) → IsFront bytes front → Gives bytes (length front) into n → IsFront bytes (front ++ take n into)
IsFront-more bytes front into n whole gives =
    let rest : List ℕ = drop (length front) bytes in
    let len : length (take n into) ≡ n = ap length gives.same ∙ omega (arith, length-take n rest, gives.within) in
    let parts : take n into ++ drop n rest ≡ rest = rw gives.same (take-append-drop n rest) in
    record {
      parts =
          append_assoc front (take n into) (drop (length (front ++ take n into)) bytes)
          ∙ ap (λ (k : ℕ). front ++ (take n into ++ drop k bytes)) (length-append front (take n into) ∙ ap (λ (k : ℕ). length front + k) len)
          ∙ ap (λ (x : List ℕ). front ++ (take n into ++ x)) (sym (drop-drop n (length front) bytes))
          ∙ ap (λ (x : List ℕ). front ++ x) parts
          ∙ whole.parts;
    }

pub HasFront-more : (told now : Option (List File)) (name front into more : List ℕ) (offset n : ℕ) → now ≡ told → offset ≡ length front → HasFront told name front
    → IfSome now (λ files. IsSomeAnd (bytes_of files name) (λ bytes. Gives bytes offset into n)) → more ≡ front ++ take n into → HasFront told name more
HasFront-more told now name front into more offset n same at-end whole gives grown =
    let P : Option (List File) → ℕ → Type 0 = λ o k. IfSome o (λ files. IsSomeAnd (bytes_of files name) (λ bytes. Gives bytes k into n)) in
    subst (λ (x : List ℕ). HasFront told name x) (sym grown) (go told whole (subst (P told) at-end (subst (λ (o : Option (List File)). P o offset) same gives)))
  where
    at : (o : Option (List ℕ)) → MatchOption o (front ≡ []) (λ bytes. IsFront bytes front) → IsSomeAnd o (λ bytes. Gives bytes (length front) into n)
        → MatchOption o (front ++ take n into ≡ []) (λ bytes. IsFront bytes (front ++ take n into))
    at None w g = absurd g
    at (Some bytes) w g = IsFront-more bytes front into n w g

    go : (o : Option (List File)) → HasFront o name front → IfSome o (λ files. IsSomeAnd (bytes_of files name) (λ bytes. Gives bytes (length front) into n)) → HasFront o name (front ++ take n into)
    go None w g = tt
    go (Some files) w g = at (bytes_of files name) w g

-- a front that is longer than a file may be shows that the file is too large
pub IsLarge-front : (told : Option (List File)) (name front : List ℕ) → HasFront told name front → file_limit < length front → IsLarge told name
IsLarge-front None name front whole long = record { bytes = front; may = tt; more = long }
IsLarge-front (Some files) name front whole long = go (bytes_of files name) refl whole
  where
    go : (o : Option (List ℕ)) → bytes_of files name ≡ o → MatchOption o (front ≡ []) (λ bytes. IsFront bytes front) → IsLarge (Some files) name
    go None is nil = absurd (omega (arith, ap length nil, long))
    go (Some bytes) is whole =
        record { bytes = bytes; may = is; more = omega (arith, ap length whole.parts, length-append front (drop (length front) bytes), long) }

pub append_known-more : (known : Option (List ℕ)) (bytes : List ℕ) (i n : ℕ) → append_known (append_known known (take i bytes)) (take n (drop i bytes)) ≡ append_known known (take (i + n) bytes)
append_known-more None bytes i n = refl
append_known-more (Some xs) bytes i n = ap Some (append_assoc xs (take i bytes) (take n (drop i bytes)) ∙ ap (λ (x : List ℕ). xs ++ x) (sym (take-add i n bytes)))
