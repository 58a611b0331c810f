-- Lines that were looked at, and the section that they begin.
use Rattle.std.proofs.Common.{◌≡◌, ◌≢◌, ℕ, zero, suc, ◌+◌, ◌-◌, ◌<◌, ◌≤◌, ◌⊎◌, inl, inr, Bool, true, false, List, [], ◌∷◌, ◌++◌, length, take, drop, get_or, refl, sym, ap, subst, ◌∙◌, append_assoc, arith}
use Rattle.std.specs.Prelude.{All, ◌==◌, Option, None, Some, IfNone}
use Rattle.std.proofs.lemmas.List.{take-append-le, drop-append-le, append-nil, length-append, take_at, drop_at, take_all, drop_all, take_rest, take-append-drop, length-take, length-drop, get_or-take, get_or-drop}
use Rattle.std.proofs.lemmas.List.Elements.{recursion_from_All, All-append, All-push, All-head, All-nil, All-same, All-cons, All-get_or, All-from_get_or}
use Rattle.std.proofs.lemmas.Bool.{false≢true, cases_lt}
use Rattle.std.proofs.lemmas.Bool.Decides.{Decides-eqb}
use Rattle.mol_section.specs.Lines.{without_cr, lines_of, ends_section}
use Rattle.ctfile.specs.Cut.{AreWhole, NoneEnds, IsSection, NoSection, TakesLines, HasPassed, IsLooked, IsFirstSection, has_text}
use Rattle.mol_section.proofs.Outcomes.{length-lines_of}
use Rattle.ctfile.proofs.LinesOf.{NoLf, lines_of-append, lines_of-line, lines_of-last, lines_of-nil, ends_section-without_cr}

pub HasPassed-nil : (bytes : List ℕ) → HasPassed bytes 0 0
HasPassed-nil bytes = record { done = []; rest = bytes; parts = refl; at_is = refl; whole = inl refl; none = λ k d lt. absurd (omega (arith, lt, ap length lines_of-nil)); count = sym (ap length lines_of-nil) }

-- more bytes change nothing of what was looked at
pub HasPassed-more : (bytes more : List ℕ) (at lines : ℕ) → HasPassed bytes at lines → HasPassed (bytes ++ more) at lines
HasPassed-more bytes more at lines p = record {
  done = p.done;
  rest = p.rest ++ more;
  parts = ap (λ (x : List ℕ). x ++ more) p.parts ∙ append_assoc p.done p.rest more;
  at_is = p.at_is;
  whole = p.whole;
  none = p.none;
  count = p.count;
}

-- a fact that holds in any case
pub if_none : {X : Type 0} (r : Option X) (P : Type 0) → P → IfNone r P
if_none (Some x) P p = tt
if_none None P p = p

pub IsLooked-nil : (bytes : List ℕ) → IsLooked bytes 0 0 0
IsLooked-nil bytes = record { passed = HasPassed-nil bytes; within = omega arith; lone = All-nil (λ b. b ≢ 10) }

pub IsLooked-more : (bytes more : List ℕ) (at lines searched : ℕ) → IsLooked bytes at lines searched → IsLooked (bytes ++ more) at lines searched
IsLooked-more bytes more at lines searched l =
    let same : take searched (drop at (bytes ++ more)) ≡ take searched (drop at bytes) =
    ap (take searched) (drop-append-le at bytes more (omega (arith, l.within))) ∙ take-append-le searched (drop at bytes) more (omega (arith, l.within, length-drop at bytes)) in
    record {
      passed = HasPassed-more bytes more at lines l.passed;
      within = omega (arith, l.within, length-append bytes more);
      lone = All-same (λ b. b ≢ 10) _ _ same l.lone;
    }

pub HasPassed-within : (bytes : List ℕ) (at lines : ℕ) → HasPassed bytes at lines → at ≤ length bytes
HasPassed-within bytes at lines p = omega (arith, p.at_is, ap length p.parts, length-append p.done p.rest)

pub done_is : (bytes : List ℕ) (at lines : ℕ) (p : HasPassed bytes at lines) → take at bytes ≡ p.done
done_is bytes at lines p = ap (take at) p.parts ∙ take_at p.done p.rest at (sym p.at_is)

pub rest_is : (bytes : List ℕ) (at lines : ℕ) (p : HasPassed bytes at lines) → drop at bytes ≡ p.rest
rest_is bytes at lines p = ap (drop at) p.parts ∙ drop_at p.done p.rest at (sym p.at_is)

-- there are not more lines than bytes before the place
pub HasPassed-few : (bytes : List ℕ) (at lines : ℕ) → HasPassed bytes at lines → lines ≤ at
HasPassed-few bytes at lines p = omega (arith, p.count, p.at_is, length-lines_of p.done)

-- no line was looked at again
pub IsLooked-new : (bytes : List ℕ) (at lines : ℕ) → HasPassed bytes at lines → IsLooked bytes at lines 0
IsLooked-new bytes at lines p = record { passed = p; within = omega (arith, HasPassed-within bytes at lines p); lone = All-nil (λ b. b ≢ 10) }

-- the bytes at the front of what is left have no LF
pub IsLooked-searched : (bytes rest : List ℕ) (at lines searched : ℕ) → HasPassed bytes at lines → rest ≡ drop at bytes → searched ≤ length rest → All (λ b. b ≢ 10) (take searched rest) → IsLooked bytes at lines searched
IsLooked-searched bytes rest at lines searched p is within lone = record {
  passed = p;
  within = omega (arith, within, HasPassed-within bytes at lines p, ap length is, length-drop at bytes);
  lone = All-same (λ b. b ≢ 10) _ _ (ap (take searched) (sym is)) lone;
}

-- the line at this place, with its LF, and what stands after it
pub record IsLineAt (bytes : List ℕ) (at : ℕ) (line after : List ℕ) : Type 0 where
  pub one : All (λ b. b ≢ 10) line
  pub parts : drop at bytes ≡ line ++ 10 ∷ after

line_one : (bytes : List ℕ) (at : ℕ) (line after : List ℕ) → IsLineAt bytes at line after → NoLf line
line_one bytes at line after is = recursion_from_All (λ b. b ≢ 10) line is.one

line_and : (line after : List ℕ) → line ++ 10 ∷ after ≡ (line ++ 10 ∷ []) ++ after
line_and line after = sym (append_assoc line (10 ∷ []) after)

whole_after : (bytes : List ℕ) (at lines : ℕ) (line after : List ℕ) (p : HasPassed bytes at lines) → IsLineAt bytes at line after
    → bytes ≡ (p.done ++ (line ++ 10 ∷ [])) ++ after
whole_after bytes at lines line after p is =
    p.parts ∙ ap (λ (x : List ℕ). p.done ++ x) (sym (rest_is bytes at lines p) ∙ is.parts ∙ line_and line after) ∙ sym (append_assoc p.done (line ++ 10 ∷ []) after)

long_after : (bytes : List ℕ) (at lines : ℕ) (line after : List ℕ) (p : HasPassed bytes at lines) → at + length line + 1 ≡ length (p.done ++ (line ++ 10 ∷ []))
long_after bytes at lines line after p = omega (arith, p.at_is, length-append p.done (line ++ 10 ∷ []), length-append line (10 ∷ []))

pub after_is : (bytes : List ℕ) (at lines : ℕ) (line after : List ℕ) → HasPassed bytes at lines → IsLineAt bytes at line after → after ≡ drop (at + length line + 1) bytes
after_is bytes at lines line after p is =
    let e = whole_after bytes at lines line after p is in
    sym (ap (drop (at + length line + 1)) e ∙ drop_at (p.done ++ (line ++ 10 ∷ [])) after (at + length line + 1) (sym (long_after bytes at lines line after p)))

-- a line of what is left, seen from its place
pub IsLineAt-from : (bytes rest line after : List ℕ) (at : ℕ) → rest ≡ drop at bytes → All (λ b. b ≢ 10) line → rest ≡ line ++ 10 ∷ after → IsLineAt bytes at line after
IsLineAt-from bytes rest line after at is one parts = record { one = one; parts = sym is ∙ parts }

pub IsLineAt-within : (bytes : List ℕ) (at : ℕ) (line after : List ℕ) → IsLineAt bytes at line after → at + length line + 1 ≤ length bytes
IsLineAt-within bytes at line after is = omega (arith, ap length is.parts, length-append line (10 ∷ after), length-drop at bytes)

-- one more line was looked at
pub HasPassed-line : (bytes : List ℕ) (at lines : ℕ) (line after : List ℕ) → HasPassed bytes at lines → IsLineAt bytes at line after → ends_section line ≡ false
    → HasPassed bytes (at + length line + 1) (lines + 1)
HasPassed-line bytes at lines line after p is inside =
    let one = lines_of-append p.done (line ++ 10 ∷ []) p.whole ∙ ap (λ (x : List (List ℕ)). lines_of p.done ++ x) (lines_of-line line [] (line_one bytes at line after is) ∙ ap (λ (x : List (List ℕ)). without_cr line ∷ x) lines_of-nil) in
    record {
      done = p.done ++ (line ++ 10 ∷ []);
      rest = after;
      parts = whole_after bytes at lines line after p is;
      at_is = long_after bytes at lines line after p;
      whole = inr (p.done ++ line, sym (append_assoc p.done line (10 ∷ [])));
      none = All-same (λ x. ends_section x ≡ false) _ _ one (All-push (λ x. ends_section x ≡ false) (lines_of p.done) (without_cr line) p.none (ends_section-without_cr line ∙ inside));
      count = omega (arith, p.count, ap length one, length-append (lines_of p.done) (without_cr line ∷ []));
    }

-- the line that ends the section
pub IsSection-from : (bytes : List ℕ) (at lines : ℕ) (line after : List ℕ) → HasPassed bytes at lines → IsLineAt bytes at line after → ends_section line ≡ true
    → (finished : Bool) → IsSection finished bytes (take at bytes) (drop (at + length line + 1) bytes)
IsSection-from bytes at lines line after p is ends finished =
    let done = done_is bytes at lines p in
    record {
      end = line;
      tail = 10 ∷ after;
      parts = sym (take-append-drop at bytes) ∙ ap (λ (x : List ℕ). take at bytes ++ x) is.parts;
      whole = subst AreWhole (sym done) p.whole;
      inner = subst (λ (x : List ℕ). NoneEnds (lines_of x)) (sym done) p.none;
      one = is.one;
      ends = ends;
      after = inl (ap (λ (x : List ℕ). 10 ∷ x) (after_is bytes at lines line after p is));
    }

-- a section's lines, its end and what stands after it are the lines of the bytes
pub IsSection-lines : (finished : Bool) (bytes section rest : List ℕ) (s : IsSection finished bytes section rest)
    → lines_of bytes ≡ lines_of section ++ without_cr s.end ∷ lines_of rest
IsSection-lines finished bytes section rest s =
    ap lines_of s.parts ∙ lines_of-append section (s.end ++ s.tail) s.whole ∙ ap (λ (x : List (List ℕ)). lines_of section ++ x) (behind s.after)
  where
    one : NoLf s.end
    one = recursion_from_All (λ b. b ≢ 10) s.end s.one

    full : s.end ≢ []
    full e = false≢true (ap ends_section (sym e) ∙ s.ends)

    behind : (s.tail ≡ 10 ∷ rest) ⊎ ((finished ≡ true) × (s.tail ≡ []) × (rest ≡ [])) → lines_of (s.end ++ s.tail) ≡ without_cr s.end ∷ lines_of rest
    behind (inl e) = ap (λ (x : List ℕ). lines_of (s.end ++ x)) e ∙ lines_of-line s.end rest one
    behind (inr e) =
        ap (λ (x : List ℕ). lines_of (s.end ++ x)) e.1 ∙ ap lines_of (append-nil s.end) ∙ lines_of-last s.end one full
        ∙ ap (λ (x : List (List ℕ)). without_cr s.end ∷ x) (sym lines_of-nil ∙ ap lines_of (sym e.2))

-- among lines none of which ends a section there is no end
pub middle : (lines : List (List ℕ)) (end : List ℕ) (more : List (List ℕ)) → NoneEnds (lines ++ end ∷ more) → ends_section end ≡ false
middle [] end more none = All-head (λ x. ends_section x ≡ false) end more none
middle (line ∷ lines) end more none = middle lines end more (λ k d lt. none (suc k) d (omega (arith, lt)))

pub NoneEnds-no_section : (finished : Bool) (bytes section rest : List ℕ) → NoneEnds (lines_of bytes) → IsSection finished bytes section rest → ⊥
NoneEnds-no_section finished bytes section rest none s =
    false≢true (sym (middle (lines_of section) (without_cr s.end) (lines_of rest) (All-same (λ x. ends_section x ≡ false) _ _ (sym (IsSection-lines finished bytes section rest s)) none)) ∙ ends_section-without_cr s.end ∙ s.ends)

-- bytes with no LF begin with no line
no_line : (front after rest : List ℕ) → front ++ 10 ∷ after ≡ rest → NoLf rest → ⊥
no_line [] after [] e lone = cc
no_line [] after (b ∷ rest) e lone = lone.0 cc
no_line (a ∷ front) after [] e lone = cc
no_line (a ∷ front) after (b ∷ rest) e lone =
    let tails : front ++ 10 ∷ after ≡ rest = cc in
    no_line front after rest tails lone.1

-- an LF stands before bytes with no LF
before_last : (front after done rest : List ℕ) → front ++ 10 ∷ after ≡ done ++ rest → NoLf rest → (more : List ℕ) × (done ≡ front ++ 10 ∷ more)
before_last front after [] rest e lone = absurd (no_line front after rest e lone)
before_last [] after (d ∷ done) rest e lone =
    let whole : d ∷ done ≡ 10 ∷ done = cc in
    (done, whole)
before_last (a ∷ front) after (d ∷ done) rest e lone =
    let tails : front ++ 10 ∷ after ≡ done ++ rest = cc in
    let again = before_last front after done rest tails lone in
    let whole : d ∷ done ≡ a ∷ (front ++ 10 ∷ again.0) = cc again.1 in
    (again.0, whole)

-- no line with its LF is left, so no section is whole
pub NoSection-from : (bytes : List ℕ) (at lines : ℕ) → HasPassed bytes at lines → All (λ b. b ≢ 10) (drop at bytes) → NoSection bytes
NoSection-from bytes at lines p last = record { none = λ section rest s. go section rest s s.after }
  where
    lone : NoLf p.rest
    lone = recursion_from_All (λ b. b ≢ 10) p.rest (subst (λ (x : List ℕ). All (λ b. b ≢ 10) x) (rest_is bytes at lines p) last)

    go : (section rest : List ℕ) (s : IsSection false bytes section rest) → (s.tail ≡ 10 ∷ rest) ⊎ ((false ≡ true) × (s.tail ≡ []) × (rest ≡ [])) → ⊥
    go section rest s (inr e) = false≢true e.0
    go section rest s (inl e) =
        let same = append_assoc section s.end (10 ∷ rest) ∙ ap (λ (x : List ℕ). section ++ (s.end ++ x)) (sym e) ∙ sym s.parts ∙ p.parts in
        let found = before_last (section ++ s.end) rest p.done p.rest same lone in
        let inside : IsSection false p.done section found.0 = record { end = s.end; tail = 10 ∷ found.0; parts = found.1 ∙ append_assoc section s.end (10 ∷ found.0); whole = s.whole; inner = s.inner; one = s.one; ends = s.ends; after = inl refl } in
        NoneEnds-no_section false p.done section found.0 p.none inside

-- ---- the end of the stream

-- the last line ends its section, with no LF
pub IsSection-closed : (bytes : List ℕ) (at lines : ℕ) → HasPassed bytes at lines → All (λ b. b ≢ 10) (drop at bytes) → ends_section (drop at bytes) ≡ true
    → IsSection true bytes (take at bytes) (drop (length bytes) bytes)
IsSection-closed bytes at lines p last ends =
    let done = done_is bytes at lines p in
    record {
      end = drop at bytes;
      tail = [];
      parts = sym (take-append-drop at bytes) ∙ ap (λ (x : List ℕ). take at bytes ++ x) (sym (append-nil (drop at bytes)));
      whole = subst AreWhole (sym done) p.whole;
      inner = subst (λ (x : List ℕ). NoneEnds (lines_of x)) (sym done) p.none;
      one = last;
      ends = ends;
      after = inr (refl, refl, drop_all (length bytes) bytes (omega arith));
    }

pub TakesLines-closed : (bytes : List ℕ) (at lines : ℕ) → HasPassed bytes at lines → All (λ b. b ≢ 10) (drop at bytes) → ends_section (drop at bytes) ≡ true
    → TakesLines true bytes (take at bytes) (drop (length bytes) bytes) (lines + 1)
TakesLines-closed bytes at lines p last ends =
    inl (record {
      cut = IsSection-closed bytes at lines p last ends;
      count = omega (arith, p.count, ap (λ (x : List ℕ). length (lines_of x)) (done_is bytes at lines p));
    })

last_lines : (bytes : List ℕ) (at lines : ℕ) (p : HasPassed bytes at lines) → lines_of bytes ≡ lines_of p.done ++ lines_of (drop at bytes)
last_lines bytes at lines p = ap lines_of p.parts ∙ lines_of-append p.done p.rest p.whole ∙ ap (λ (x : List ℕ). lines_of p.done ++ lines_of x) (sym (rest_is bytes at lines p))

one_last : (last : List ℕ) → NoLf last → ends_section last ≡ false → NoneEnds (lines_of last)
one_last [] lone inside = λ k d lt. absurd (omega (arith, lt, ap length lines_of-nil))
one_last (b ∷ bs) lone inside =
    All-same (λ x. ends_section x ≡ false) _ _ (lines_of-last (b ∷ bs) lone (λ e. cc)) (All-cons (λ x. ends_section x ≡ false) (without_cr (b ∷ bs)) [] (ends_section-without_cr (b ∷ bs) ∙ inside) (All-nil (λ x. ends_section x ≡ false)))

-- none of the lines of a stream that is over ends a section
pub NoneEnds-last : (bytes : List ℕ) (at lines : ℕ) → HasPassed bytes at lines → All (λ b. b ≢ 10) (drop at bytes) → ends_section (drop at bytes) ≡ false → NoneEnds (lines_of bytes)
NoneEnds-last bytes at lines p last inside =
    All-same (λ x. ends_section x ≡ false) _ _ (last_lines bytes at lines p)
    (All-append (λ x. ends_section x ≡ false) (lines_of p.done) (lines_of (drop at bytes)) p.none (one_last (drop at bytes) (recursion_from_All (λ b. b ≢ 10) (drop at bytes) last) inside))

one_count : (last : List ℕ) → NoLf last → length last ≢ 0 → length (lines_of last) ≡ 1
one_count [] lone full = absurd (full refl)
one_count (b ∷ bs) lone full = ap length (lines_of-last (b ∷ bs) lone (λ e. cc))

-- bytes stand after the last LF
pub last_full : (bytes : List ℕ) (at : ℕ) (b : Bool) → b ≡ (length (take (length bytes - at) (drop at bytes)) == 0) → b ≡ false → 0 < length (drop at bytes)
last_full bytes at b is full = go (length (drop at bytes)) (ap (λ (x : List ℕ). length x == 0) (sym (take_rest bytes at)) ∙ sym is ∙ full)
  where
    go : (n : ℕ) → (n == 0) ≡ false → 0 < n
    go zero e = absurd (false≢true (sym e))
    go (suc n) e = omega arith

-- the lines of a stream that is over, where bytes stand after the last LF, and where none do
pub count_last : (bytes : List ℕ) (at lines : ℕ) → HasPassed bytes at lines → All (λ b. b ≢ 10) (drop at bytes) → length (drop at bytes) ≢ 0 → lines + 1 ≡ length (lines_of bytes)
count_last bytes at lines p last full =
    omega (arith, p.count, ap length (last_lines bytes at lines p), length-append (lines_of p.done) (lines_of (drop at bytes)), one_count (drop at bytes) (recursion_from_All (λ b. b ≢ 10) (drop at bytes) last) full)

pub count_whole : (bytes : List ℕ) (at lines : ℕ) → HasPassed bytes at lines → length (drop at bytes) ≡ 0 → lines ≡ length (lines_of bytes)
count_whole bytes at lines p empty =
    omega (arith, p.count, ap length (last_lines bytes at lines p), length-append (lines_of p.done) (lines_of (drop at bytes)), length-lines_of (drop at bytes), empty)

pub TakesLines-last : (bytes : List ℕ) (at lines count : ℕ) → HasPassed bytes at lines → All (λ b. b ≢ 10) (drop at bytes) → ends_section (drop at bytes) ≡ false
    → has_text (lines_of bytes) ≡ true → count ≡ length (lines_of bytes) → TakesLines true bytes (take (length bytes) bytes) (drop (length bytes) bytes) count
TakesLines-last bytes at lines count p last inside text is =
    let all : take (length bytes) bytes ≡ bytes = take_all (length bytes) bytes (omega arith) in
    inr (record {
      over = refl;
      all = all;
      none = subst (λ (x : List ℕ). NoneEnds (lines_of x)) (sym all) (NoneEnds-last bytes at lines p last inside);
      text = ap (λ (x : List ℕ). has_text (lines_of x)) all ∙ text;
      empty = drop_all (length bytes) bytes (omega arith);
      count = is ∙ ap (λ (x : List ℕ). length (lines_of x)) (sym all);
    })

-- ---- the first section

pub IsFirstSection-cut : (finished : Bool) (bytes section rest : List ℕ) → IsSection finished bytes section rest → IsFirstSection (lines_of bytes) (lines_of section)
IsFirstSection-cut finished bytes section rest s = record {
  rest = without_cr s.end ∷ lines_of rest;
  parts = IsSection-lines finished bytes section rest s;
  none = s.inner;
  ends = ends_section-without_cr s.end ∙ s.ends;
}

pub IsFirstSection-all : (bytes : List ℕ) → NoneEnds (lines_of bytes) → IsFirstSection (lines_of bytes) (lines_of bytes)
IsFirstSection-all bytes none = record { rest = []; parts = sym (append-nil (lines_of bytes)); none = none; ends = tt }

-- ---- the first LF

All-front : (bytes : List ℕ) (n : ℕ) → ((k : ℕ) → k < n → get_or bytes k 0 ≢ 10) → All (λ b. b ≢ 10) (take n bytes)
All-front bytes n none =
    All-from_get_or (λ b. b ≢ 10) (take n bytes) 0 (λ i lt e.
    let within : i < n = omega (arith, lt, length-take n bytes) in
    none i within (sym (get_or-take n bytes i 0 within) ∙ e))

-- no LF stands before the searched place, and none among the first of the bytes from there on
none_before : (bytes hay : List ℕ) (searched i : ℕ) → hay ≡ drop searched bytes → All (λ b. b ≢ 10) (take searched bytes) → searched ≤ length bytes
    → ((k : ℕ) → 0 ≤ k → k < i → (get_or hay k 0 == 10) ≡ true → ⊥) → (k : ℕ) → k < searched + i → get_or bytes k 0 ≢ 10
none_before bytes hay searched i is lone within none k lt e = cases (cases_lt k searched)
  where
    cases : (k < searched) ⊎ (searched ≤ k) → ⊥
    cases (inl low) = All-get_or (λ b. b ≢ 10) (take searched bytes) k 0 (omega (arith, low, within, length-take searched bytes)) lone (get_or-take searched bytes k 0 low ∙ e)
    cases (inr high) =
        let at : get_or hay (k - searched) 0 ≡ 10 =
        ap (λ (x : List ℕ). get_or x (k - searched) 0) is ∙ get_or-drop searched bytes (k - searched) 0 ∙ ap (λ (n : ℕ). get_or bytes n 0) (omega (arith, high)) ∙ e in
        none (k - searched) (omega arith) (omega (arith, lt, high)) ((Decides-eqb (get_or hay (k - searched) 0) 10).1 at)

pub lone_front : (bytes hay : List ℕ) (searched i : ℕ) → hay ≡ drop searched bytes → All (λ b. b ≢ 10) (take searched bytes) → searched ≤ length bytes
    → ((k : ℕ) → 0 ≤ k → k < i → (get_or hay k 0 == 10) ≡ true → ⊥) → All (λ b. b ≢ 10) (take (searched + i) bytes)
lone_front bytes hay searched i is lone within none = All-front bytes (searched + i) (none_before bytes hay searched i is lone within none)

pub lone_all : (bytes hay : List ℕ) (searched : ℕ) → hay ≡ drop searched bytes → All (λ b. b ≢ 10) (take searched bytes) → searched ≤ length bytes
    → ((k : ℕ) → 0 ≤ k → k < length hay → (get_or hay k 0 == 10) ≡ true → ⊥) → All (λ b. b ≢ 10) bytes
lone_all bytes hay searched is lone within none =
    All-same (λ b. b ≢ 10) _ _ (sym (take_all (searched + length hay) bytes (omega (arith, ap length is, length-drop searched bytes)))) (lone_front bytes hay searched (length hay) is lone within none)
