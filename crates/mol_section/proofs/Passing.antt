-- One line more is passed, or the section stops at it.
use Rattle.std.proofs.Common.{◌≡◌, ◌⊎◌, ℕ, zero, suc, ◌+◌, ◌-◌, ◌<◌, ◌≤◌, Bool, false, ltb, List, [], ◌∷◌, ◌++◌, length, map, get_or, refl, sym, ap, subst, ◌∙◌, inl, inr, append_assoc, arith}
use Rattle.std.specs.Prelude.{Option, Some, None, slice_get, if◌then◌else◌}
use Rattle.std.specs.List.{zip, filter_map}
use Rattle.std.proofs.lemmas.Bool.{cases_lt, cases_eq, false≢true, cond-true, cond-false, lt-ltb, le-ltb}
use Rattle.std.proofs.lemmas.List.{append-nil, length-append, length_push, get_or_at}
use Rattle.std.proofs.lemmas.List.Elements.{filter_map-append}
use Rattle.std.proofs.lemmas.Option.{same_Some}
use Rattle.mol_section.specs.SectionLines.{Kind, header, counts, atom, bond, atom_list, property, passed_over, end_mark, after_end, kinds_of, line_at, atom_count}
use Rattle.mol_section.specs.SectionRecord.{HasEnd, kind_is}
use Rattle.mol_section.specs.Walk.{Refusals, bounded, IsRefusal, Accepts, IsStop, IsPassed, Parts, with_line, is_list, picked, parts_of}

-- a value at the front of what follows
pub at_end : {X : Type 0} (xs : List X) (x : X) (ys : List X) (n : ℕ) → length xs ≡ n → slice_get (xs ++ x ∷ ys) n ≡ Some x
at_end [] x ys zero long = refl
at_end [] x ys (suc n) long = absurd (omega arith)
at_end (z ∷ xs) x ys zero long = absurd (omega arith)
at_end (z ∷ xs) x ys (suc n) long = at_end xs x ys n (omega arith)

-- a value further on
pub past_end : {X : Type 0} (xs ys : List X) (n i : ℕ) → length xs ≡ n → n ≤ i → slice_get (xs ++ ys) i ≡ slice_get ys (i - n)
past_end [] ys zero i long le = let k : i - 0 ≡ i = omega arith in ap (slice_get ys) (sym k)
past_end [] ys (suc n) i long le = absurd (omega arith)
past_end (z ∷ xs) ys zero i long le = absurd (omega arith)
past_end (z ∷ xs) ys (suc n) zero long le = absurd (omega arith)
past_end (z ∷ xs) ys (suc n) (suc i) long le =
    let k : suc i - suc n ≡ i - n = omega arith in
    past_end xs ys n i (omega arith) (omega arith) ∙ ap (slice_get ys) (sym k)

pub in_front : {X : Type 0} (xs ys : List X) (i : ℕ) → i < length xs → slice_get (xs ++ ys) i ≡ slice_get xs i
in_front [] ys i lt = absurd (omega arith)
in_front (x ∷ xs) ys zero lt = refl
in_front (x ∷ xs) ys (suc i) lt = in_front xs ys i (omega arith)

pub zip_push : {X Y : Type 0} (xs : List X) (ys : List Y) (x : X) (y : Y) (n : ℕ) → length xs ≡ n → length ys ≡ n → zip (xs ++ x ∷ []) (ys ++ y ∷ []) ≡ zip xs ys ++ (x, y) ∷ []
zip_push [] [] x y n lx ly = refl
zip_push [] (b ∷ ys) x y n lx ly = absurd (omega arith)
zip_push (a ∷ xs) [] x y n lx ly = absurd (omega arith)
zip_push {X} {Y} (a ∷ xs) (b ∷ ys) x y zero lx ly = absurd (omega arith)
zip_push {X} {Y} (a ∷ xs) (b ∷ ys) x y (suc n) lx ly = ap (λ (z : List (X × Y)). (a, b) ∷ z) (zip_push xs ys x y n (omega arith) (omega arith))

pub zip_front : {X Y : Type 0} (xs xs' : List X) (ys ys' : List Y) (n : ℕ) → length xs ≡ n → length ys ≡ n → zip (xs ++ xs') (ys ++ ys') ≡ zip xs ys ++ zip xs' ys'
zip_front [] xs' [] ys' n lx ly = refl
zip_front [] xs' (b ∷ ys) ys' n lx ly = absurd (omega arith)
zip_front (a ∷ xs) xs' [] ys' n lx ly = absurd (omega arith)
zip_front (a ∷ xs) xs' (b ∷ ys) ys' zero lx ly = absurd (omega arith)
zip_front {X} {Y} (a ∷ xs) xs' (b ∷ ys) ys' (suc n) lx ly = ap (λ (z : List (X × Y)). (a, b) ∷ z) (zip_front xs xs' ys ys' n (omega arith) (omega arith))

abbrev pick : (Kind → Bool) → List ℕ × Kind → Option (List ℕ)
pick is_of (line, is) = if is_of is then Some line else None

abbrev one_of : (Kind → Bool) → Kind → List ℕ → List (List ℕ)
one_of is_of is line = picked is_of (line ∷ []) (is ∷ [])

together : (size : ℕ) {a a' b b' l l' p p' : List (List ℕ)} → a ≡ a' → b ≡ b' → l ≡ l' → p ≡ p'
    → ◌≡◌ {A = Parts} (record { size = size; atoms = a; bonds = b; lists = l; properties = p }) (record { size = size; atoms = a'; bonds = b'; lists = l'; properties = p' })
together size ea eb el ep = cc

parts_push : (size : ℕ) (front : List (List ℕ)) (kinds : List Kind) (line : List ℕ) (is : Kind) (n : ℕ) → length front ≡ n → length kinds ≡ n
    → parts_of size (front ++ line ∷ []) (kinds ++ is ∷ []) ≡ with_line is line (parts_of size front kinds)
parts_push size front kinds line is n lf lk = together size (push (kind_is atom)) (push (kind_is bond)) (push is_list) (push (kind_is property)) ∙ go is
  where
    push : (is_of : Kind → Bool) → picked is_of (front ++ line ∷ []) (kinds ++ is ∷ []) ≡ picked is_of front kinds ++ one_of is_of is line
    push is_of = ap (filter_map (pick is_of)) (zip_push front kinds line is n lf lk) ∙ filter_map-append (pick is_of) (zip front kinds) ((line, is) ∷ [])

    same : (is_of : Kind → Bool) → picked is_of front kinds ++ [] ≡ picked is_of front kinds
    same is_of = append-nil (picked is_of front kinds)

    pushed : Kind → Parts
    pushed is = record {
      size = size;
      atoms = picked (kind_is atom) front kinds ++ one_of (kind_is atom) is line;
      bonds = picked (kind_is bond) front kinds ++ one_of (kind_is bond) is line;
      lists = picked is_list front kinds ++ one_of is_list is line;
      properties = picked (kind_is property) front kinds ++ one_of (kind_is property) is line;
    }

    other : pushed header ≡ parts_of size front kinds
    other = together size (same (kind_is atom)) (same (kind_is bond)) (same is_list) (same (kind_is property))

    go : (is : Kind) → pushed is ≡ with_line is line (parts_of size front kinds)
    go atom = together size refl (same (kind_is bond)) (same is_list) (same (kind_is property))
    go bond = together size (same (kind_is atom)) refl (same is_list) (same (kind_is property))
    go atom_list = together size (same (kind_is atom)) (same (kind_is bond)) refl (same (kind_is property))
    go property = together size (same (kind_is atom)) (same (kind_is bond)) (same is_list) refl
    go header = other
    go counts = other
    go passed_over = other
    go end_mark = other
    go after_end = other

-- the line that is read next
pub current : {refusals : Refusals} {lines rest : List (List ℕ)} {n : ℕ} {line : List ℕ} {left : List Kind} {parts : Parts} → IsPassed refusals lines n (line ∷ rest) left parts → line_at lines n ≡ line
current {lines = lines} {rest = rest} {n = n} {line = line} p = ap (λ (x : List (List ℕ)). get_or x n []) p.lines_are ∙ get_or_at p.front line rest [] n p.lines_count

pub short_here : {refusals : Refusals} {lines rest : List (List ℕ)} {n : ℕ} {line : List ℕ} {left : List Kind} {parts : Parts} → IsPassed refusals lines n (line ∷ rest) left parts → length line ≤ 4096 → length (line_at lines n) ≤ 4096
short_here p short = subst (λ (x : List ℕ). length x ≤ 4096) (sym (current p)) short

-- other kinds are left, which are the same
pub left_same : {refusals : Refusals} {lines rest : List (List ℕ)} {n : ℕ} {parts : Parts} (left other : List Kind) → left ≡ other → IsPassed refusals lines n rest left parts → IsPassed refusals lines n rest other parts
left_same {refusals} {lines} {rest} {n} {parts} left other same p = subst (λ (x : List Kind). IsPassed refusals lines n rest x parts) same p

kind_here : {refusals : Refusals} {lines rest : List (List ℕ)} {n : ℕ} {kind : Kind} {left : List Kind} {parts : Parts} → IsPassed refusals lines n rest (kind ∷ left) parts → slice_get (kinds_of lines) n ≡ Some kind
kind_here {n = n} {kind = kind} {left = left} p = ap (λ (x : List Kind). slice_get x n) p.kinds_are ∙ at_end p.kinds kind left n p.kinds_count

accepts_more : (refusals : Refusals) (lines : List (List ℕ)) (n : ℕ) → Accepts refusals lines n → IsRefusal refusals lines n None → Accepts refusals lines (n + 1)
accepts_more refusals lines n before here i lt = go (cases_eq i n)
  where
    go : (i ≡ n) ⊎ (i ≡ n → ⊥) → IsRefusal refusals lines i None
    go (inl same) = subst (λ (k : ℕ). IsRefusal refusals lines k None) (sym same) here
    go (inr other) = before i (omega arith)

pub no_end_more : (kinds : List Kind) (kind : Kind) (n : ℕ) → length kinds ≡ n → kind_is end_mark kind ≡ false → ((i : ℕ) → slice_get kinds i ≡ Some end_mark → ⊥)
    → (i : ℕ) → slice_get (kinds ++ kind ∷ []) i ≡ Some end_mark → ⊥
no_end_more kinds kind n long other none i is = go (cases_lt i n)
  where
    last : (k : ℕ) (kind : Kind) → kind_is end_mark kind ≡ false → slice_get (kind ∷ []) k ≡ Some end_mark → ⊥
    last zero kind other is = false≢true (sym other ∙ ap (kind_is end_mark) (same_Some kind end_mark is))
    last (suc k) kind other is = absurd cc

    go : (i < n) ⊎ (n ≤ i) → ⊥
    go (inl lt) = none i (sym (in_front kinds (kind ∷ []) i (omega arith)) ∙ is)
    go (inr le) = last (i - n) kind other (sym (past_end kinds (kind ∷ []) n i long le) ∙ is)

-- one line more
module _ {refusals : Refusals} {lines rest : List (List ℕ)} {n : ℕ} {line : List ℕ} {kind : Kind} {left : List Kind} {parts : Parts} (p : IsPassed refusals lines n (line ∷ rest) (kind ∷ left) parts) where
  pub pass : bounded refusals lines n kind ≡ None → kind_is end_mark kind ≡ false → IsPassed refusals lines (n + 1) rest left (with_line kind line parts)
  pass accepted other = record {
    front = p.front ++ line ∷ [];
    kinds = p.kinds ++ kind ∷ [];
    lines_are = p.lines_are ∙ sym (append_assoc p.front (line ∷ []) rest);
    kinds_are = p.kinds_are ∙ sym (append_assoc p.kinds (kind ∷ []) left);
    lines_count = length_push p.front line ∙ ap (λ (k : ℕ). k + 1) p.lines_count;
    kinds_count = length_push p.kinds kind ∙ ap (λ (k : ℕ). k + 1) p.kinds_count;
    accepted = accepts_more refusals lines n p.accepted (kind, kind_here p, accepted);
    no_end = no_end_more p.kinds kind n p.kinds_count other p.no_end;
    parts_are = parts_push (atom_count lines) p.front p.kinds line kind n p.lines_count p.kinds_count ∙ ap (with_line kind line) p.parts_are;
  }

  pub stops : {code : ℕ} → bounded refusals lines n kind ≡ Some code → IsStop refusals lines n code
  stops refused = record {
    within = omega (arith, ap length p.lines_are, length-append p.front (line ∷ rest), p.lines_count);
    why = inl (p.accepted, (kind, kind_here p, refused));
  }

-- a line of 4096 bytes or less, and a longer one
pub fits : (line : List ℕ) (code : Option ℕ) → length line ≤ 4096 → (if ltb 4096 (length line) then Some 13 else code) ≡ code
fits line code short = cond-false (ltb 4096 (length line)) (Some 13) code (le-ltb 4096 (length line) short)

pub too_long : (line : List ℕ) (code : Option ℕ) → 4096 < length line → (if ltb 4096 (length line) then Some 13 else code) ≡ Some 13
too_long line code long = cond-true (ltb 4096 (length line)) (Some 13) code (lt-ltb 4096 (length line) long)

-- no line is left
pub runs_out : {refusals : Refusals} {lines : List (List ℕ)} {n : ℕ} {parts : Parts} → IsPassed refusals lines n [] [] parts → IsStop refusals lines n 12
runs_out {refusals} {lines} {n} p =
    let all : lines ≡ p.front = p.lines_are ∙ append-nil p.front in
    let size : n ≡ length lines = sym p.lines_count ∙ sym (ap length all) in
    record {
      within = omega arith;
      why = inr (
        subst (Accepts refusals lines) size p.accepted,
        λ ends. p.no_end ends.0 (ap (λ (x : List Kind). slice_get x ends.0) (sym (p.kinds_are ∙ append-nil p.kinds)) ∙ ends.1),
        size,
        refl,
      );
    }

pub after_ends : {X : Type 0} (rest : List X) (i : ℕ) → i < length rest → slice_get (map (λ _. after_end) rest) i ≡ Some after_end
after_ends [] i lt = absurd (omega arith)
after_ends (x ∷ rest) zero lt = refl
after_ends (x ∷ rest) (suc i) lt = after_ends rest i (omega arith)

none_after : (is_of : Kind → Bool) → is_of after_end ≡ false → (rest : List (List ℕ)) → picked is_of rest (map (λ _. after_end) rest) ≡ []
none_after is_of other [] = refl
none_after is_of other (line ∷ rest) = rw other (none_after is_of other rest)

-- the end mark
module _ {refusals : Refusals} {lines rest : List (List ℕ)} {n : ℕ} {line : List ℕ} {parts : Parts} (p : IsPassed refusals lines n (line ∷ rest) (end_mark ∷ map (λ _. after_end) rest) parts) where
  kind_all : (is_of : Kind → Bool) → is_of after_end ≡ false → is_of end_mark ≡ false → picked is_of lines (kinds_of lines) ≡ picked is_of p.front p.kinds
  kind_all is_of other differs =
      let behind : picked is_of (line ∷ rest) (end_mark ∷ map (λ _. after_end) rest) ≡ [] = rw differs (none_after is_of other rest) in
      ap (λ (x : List (List ℕ)). picked is_of x (kinds_of lines)) p.lines_are
      ∙ ap (λ (x : List Kind). picked is_of (p.front ++ line ∷ rest) x) p.kinds_are
      ∙ ap (filter_map (pick is_of)) (zip_front p.front (line ∷ rest) p.kinds (end_mark ∷ map (λ _. after_end) rest) n p.lines_count p.kinds_count)
      ∙ filter_map-append (pick is_of) (zip p.front p.kinds) (zip (line ∷ rest) (end_mark ∷ map (λ _. after_end) rest))
      ∙ ap (λ (x : List (List ℕ)). picked is_of p.front p.kinds ++ x) behind ∙ append-nil (picked is_of p.front p.kinds)

  size : length lines ≡ n + suc (length rest)
  size = ap length p.lines_are ∙ length-append p.front (line ∷ rest) ∙ ap (λ (k : ℕ). k + suc (length rest)) p.lines_count

  after : (i : ℕ) → n < i → i < length lines → IsRefusal refusals lines i None
  after i lt within =
      let k : i - n ≡ suc (i - n - 1) = omega arith in (
        after_end,
        ap (λ (x : List Kind). slice_get x i) p.kinds_are ∙ past_end p.kinds (end_mark ∷ map (λ _. after_end) rest) n i p.kinds_count (omega arith)
            ∙ ap (slice_get (end_mark ∷ map (λ _. after_end) rest)) k ∙ after_ends rest (i - n - 1) (omega (arith, size)),
        refl,
      )

  each : IsRefusal refusals lines n None → (i : ℕ) → i < length lines → (i < n) ⊎ (n ≤ i) → (i ≡ n) ⊎ (i ≡ n → ⊥) → IsRefusal refusals lines i None
  each here i within (inl lt) same = p.accepted i lt
  each here i within (inr le) (inl same) = subst (λ (k : ℕ). IsRefusal refusals lines k None) (sym same) here
  each here i within (inr le) (inr other) = after i (omega arith) within

  pub all_parts : parts_of (atom_count lines) lines (kinds_of lines) ≡ parts
  all_parts = together (atom_count lines) (kind_all (kind_is atom) refl refl) (kind_all (kind_is bond) refl refl) (kind_all is_list refl refl) (kind_all (kind_is property) refl refl) ∙ p.parts_are

  pub whole : bounded refusals lines n end_mark ≡ None → Accepts refusals lines (length lines) × HasEnd lines
  whole accepted = (λ i within. each (end_mark, kind_here p, accepted) i within (cases_lt i n) (cases_eq i n), (n, kind_here p))
