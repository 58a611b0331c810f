-- The lanes of words.
use Rattle.std.proofs.Common.{◌≡◌, ℕ, zero, suc, ◌+◌, ◌*◌, ◌%◌, ◌<◌, ◌≤◌, min, List, [], ◌∷◌, refl, sym, ap, ◌∙◌, arith, Bool, true, false, cond, eqb, leb, map, ◌↔◌}
use Rattle.htss_defs.specs.Codes.{word_of, lane}
use Rattle.env_code.proofs.Words.{word, word-of}
use Rattle.std.proofs.lemmas.Bool.{eqb-true, le-leb, leb-true}
use Rattle.std.proofs.lemmas.Simd.{tops_compared}
use lib.Lanes.{zip2, mask_l, top}
use Rattle.std.specs.Int.{to_le_bytes, w64, w8}
use Rattle.env_cover.specs.Reach.{Reaches}

record AreBytes (a b c d e f g h : ℕ) : Type 0 where
  zeroth : a < 256
  first : b < 256
  second : c < 256
  third : d < 256
  fourth : e < 256
  fifth : f < 256
  sixth : g < 256
  seventh : h < 256

lane-0 : (a b c d e f g h : ℕ) → AreBytes a b c d e f g h → lane (word a b c d e f g h) 0 ≡ a
unfolding word
lane-0 a b c d e f g h s = omega (arith, s.zeroth)

lane-1 : (a b c d e f g h : ℕ) → AreBytes a b c d e f g h → lane (word a b c d e f g h) 1 ≡ b
unfolding word
lane-1 a b c d e f g h s = omega (arith, s.zeroth, s.first)

lane-2 : (a b c d e f g h : ℕ) → AreBytes a b c d e f g h → lane (word a b c d e f g h) 2 ≡ c
unfolding word
lane-2 a b c d e f g h s = omega (arith, s.zeroth, s.first, s.second)

lane-3 : (a b c d e f g h : ℕ) → AreBytes a b c d e f g h → lane (word a b c d e f g h) 3 ≡ d
unfolding word
lane-3 a b c d e f g h s = omega (arith, s.zeroth, s.first, s.second, s.third)

lane-4 : (a b c d e f g h : ℕ) → AreBytes a b c d e f g h → lane (word a b c d e f g h) 4 ≡ e
unfolding word
lane-4 a b c d e f g h s = omega (arith, s.zeroth, s.first, s.second, s.third, s.fourth)

lane-5 : (a b c d e f g h : ℕ) → AreBytes a b c d e f g h → lane (word a b c d e f g h) 5 ≡ f
unfolding word
lane-5 a b c d e f g h s = omega (arith, s.zeroth, s.first, s.second, s.third, s.fourth, s.fifth)

lane-6 : (a b c d e f g h : ℕ) → AreBytes a b c d e f g h → lane (word a b c d e f g h) 6 ≡ g
unfolding word
lane-6 a b c d e f g h s = omega (arith, s.zeroth, s.first, s.second, s.third, s.fourth, s.fifth, s.sixth)

lane-7 : (a b c d e f g h : ℕ) → AreBytes a b c d e f g h → lane (word a b c d e f g h) 7 ≡ h
unfolding word
lane-7 a b c d e f g h s = omega (arith, s.zeroth, s.first, s.second, s.third, s.fourth, s.fifth, s.sixth, s.seventh)

capped : (f : ℕ → ℕ) → AreBytes (min (f 0) 255) (min (f 1) 255) (min (f 2) 255) (min (f 3) 255) (min (f 4) 255) (min (f 5) 255) (min (f 6) 255) (min (f 7) 255)
capped f = record { zeroth = omega arith; first = omega arith; second = omega arith; third = omega arith; fourth = omega arith; fifth = omega arith; sixth = omega arith; seventh = omega arith }

-- a lane of a word of counts
pub lane-word : (f : ℕ → ℕ) (i : ℕ) → i < 8 → lane (word_of f) i ≡ min (f i) 255
lane-word f zero lt = ap (λ w. lane w 0) (word-of f) ∙ lane-0 (min (f 0) 255) (min (f 1) 255) (min (f 2) 255) (min (f 3) 255) (min (f 4) 255) (min (f 5) 255) (min (f 6) 255) (min (f 7) 255) (capped f)
lane-word f (suc zero) lt = ap (λ w. lane w 1) (word-of f) ∙ lane-1 (min (f 0) 255) (min (f 1) 255) (min (f 2) 255) (min (f 3) 255) (min (f 4) 255) (min (f 5) 255) (min (f 6) 255) (min (f 7) 255) (capped f)
lane-word f (suc (suc zero)) lt = ap (λ w. lane w 2) (word-of f) ∙ lane-2 (min (f 0) 255) (min (f 1) 255) (min (f 2) 255) (min (f 3) 255) (min (f 4) 255) (min (f 5) 255) (min (f 6) 255) (min (f 7) 255) (capped f)
lane-word f (suc (suc (suc zero))) lt = ap (λ w. lane w 3) (word-of f) ∙ lane-3 (min (f 0) 255) (min (f 1) 255) (min (f 2) 255) (min (f 3) 255) (min (f 4) 255) (min (f 5) 255) (min (f 6) 255) (min (f 7) 255) (capped f)
lane-word f (suc (suc (suc (suc zero)))) lt = ap (λ w. lane w 4) (word-of f) ∙ lane-4 (min (f 0) 255) (min (f 1) 255) (min (f 2) 255) (min (f 3) 255) (min (f 4) 255) (min (f 5) 255) (min (f 6) 255) (min (f 7) 255) (capped f)
lane-word f (suc (suc (suc (suc (suc zero))))) lt = ap (λ w. lane w 5) (word-of f) ∙ lane-5 (min (f 0) 255) (min (f 1) 255) (min (f 2) 255) (min (f 3) 255) (min (f 4) 255) (min (f 5) 255) (min (f 6) 255) (min (f 7) 255) (capped f)
lane-word f (suc (suc (suc (suc (suc (suc zero)))))) lt = ap (λ w. lane w 6) (word-of f) ∙ lane-6 (min (f 0) 255) (min (f 1) 255) (min (f 2) 255) (min (f 3) 255) (min (f 4) 255) (min (f 5) 255) (min (f 6) 255) (min (f 7) 255) (capped f)
lane-word f (suc (suc (suc (suc (suc (suc (suc zero))))))) lt = ap (λ w. lane w 7) (word-of f) ∙ lane-7 (min (f 0) 255) (min (f 1) 255) (min (f 2) 255) (min (f 3) 255) (min (f 4) 255) (min (f 5) 255) (min (f 6) 255) (min (f 7) 255) (capped f)
lane-word f (suc (suc (suc (suc (suc (suc (suc (suc n)))))))) lt = absurd (omega arith)

-- ---- the lanes as bytes

-- the lowest lane, as a byte of the word
pub lane-lowest : (w : ℕ) → lane w 0 ≡ w % 256
lane-lowest w = omega arith

bit : Bool → ℕ
bit b = cond b 1 0

bit-le : (b : Bool) → bit b ≤ 1
unfolding bit
bit-le true = omega arith
bit-le false = omega arith

bit-true : (b : Bool) → bit b ≡ 1 → b ≡ true
unfolding bit
bit-true true is = refl
bit-true false is = absurd (omega arith)

true-bit : (b : Bool) → b ≡ true → bit b ≡ 1
unfolding bit
true-bit b is = ap (λ c. cond c 1 0) is

-- all eight bits of a mask are set
record AreSet (a b c d e f g h : Bool) : Type 0 where
  zeroth : a ≡ true
  first : b ≡ true
  second : c ≡ true
  third : d ≡ true
  fourth : e ≡ true
  fifth : f ≡ true
  sixth : g ≡ true
  seventh : h ≡ true

mask-is : (a b c d e f g h : Bool) → mask_l (a ∷ b ∷ c ∷ d ∷ e ∷ f ∷ g ∷ h ∷ []) ≡ bit a + 2 * (bit b + 2 * (bit c + 2 * (bit d + 2 * (bit e + 2 * (bit f + 2 * (bit g + 2 * (bit h + 2 * 0)))))))
unfolding bit
mask-is a b c d e f g h = refl

ones-only : (m a b c d e f g h : ℕ) → m % 18446744073709551616 ≡ 255 → m ≡ a + 2 * (b + 2 * (c + 2 * (d + 2 * (e + 2 * (f + 2 * (g + 2 * (h + 2 * 0))))))) → a ≤ 1 → b ≤ 1 → c ≤ 1 → d ≤ 1 → e ≤ 1 → f ≤ 1 → g ≤ 1 → h ≤ 1
    → a + 2 * (b + 2 * (c + 2 * (d + 2 * (e + 2 * (f + 2 * (g + 2 * (h + 2 * 0))))))) ≡ 255
ones-only m a b c d e f g h full is al bl cl dl el fl gl hl = omega arith

AreSet-from : (a b c d e f g h : Bool) → eqb (mask_l (a ∷ b ∷ c ∷ d ∷ e ∷ f ∷ g ∷ h ∷ []) % 18446744073709551616) 255 ≡ true → AreSet a b c d e f g h
AreSet-from a b c d e f g h full =
    let all : mask_l (a ∷ b ∷ c ∷ d ∷ e ∷ f ∷ g ∷ h ∷ []) % 18446744073709551616 ≡ 255 = eqb-true _ 255 full in
    let is = mask-is a b c d e f g h in
    let sum : bit a + 2 * (bit b + 2 * (bit c + 2 * (bit d + 2 * (bit e + 2 * (bit f + 2 * (bit g + 2 * (bit h + 2 * 0))))))) ≡ 255 = ones-only _ (bit a) (bit b) (bit c) (bit d) (bit e) (bit f) (bit g) (bit h) all is (bit-le a) (bit-le b) (bit-le c) (bit-le d) (bit-le e) (bit-le f) (bit-le g) (bit-le h) in
    record {
      zeroth = bit-true a (omega (arith, sum, bit-le a, bit-le b, bit-le c, bit-le d, bit-le e, bit-le f, bit-le g, bit-le h));
      first = bit-true b (omega (arith, sum, bit-le a, bit-le b, bit-le c, bit-le d, bit-le e, bit-le f, bit-le g, bit-le h));
      second = bit-true c (omega (arith, sum, bit-le a, bit-le b, bit-le c, bit-le d, bit-le e, bit-le f, bit-le g, bit-le h));
      third = bit-true d (omega (arith, sum, bit-le a, bit-le b, bit-le c, bit-le d, bit-le e, bit-le f, bit-le g, bit-le h));
      fourth = bit-true e (omega (arith, sum, bit-le a, bit-le b, bit-le c, bit-le d, bit-le e, bit-le f, bit-le g, bit-le h));
      fifth = bit-true f (omega (arith, sum, bit-le a, bit-le b, bit-le c, bit-le d, bit-le e, bit-le f, bit-le g, bit-le h));
      sixth = bit-true g (omega (arith, sum, bit-le a, bit-le b, bit-le c, bit-le d, bit-le e, bit-le f, bit-le g, bit-le h));
      seventh = bit-true h (omega (arith, sum, bit-le a, bit-le b, bit-le c, bit-le d, bit-le e, bit-le f, bit-le g, bit-le h));
    }

AreSet-mask : (a b c d e f g h : Bool) → AreSet a b c d e f g h → eqb (mask_l (a ∷ b ∷ c ∷ d ∷ e ∷ f ∷ g ∷ h ∷ []) % 18446744073709551616) 255 ≡ true
AreSet-mask a b c d e f g h s = rw (s.zeroth, s.first, s.second, s.third, s.fourth, s.fifth, s.sixth, s.seventh) refl

reach-set : (need code : ℕ) → Reaches need code → AreSet (leb (need % 256) (code % 256)) (leb (lane need 1) (lane code 1)) (leb (lane need 2) (lane code 2)) (leb (lane need 3) (lane code 3)) (leb (lane need 4) (lane code 4)) (leb (lane need 5) (lane code 5)) (leb (lane need 6) (lane code 6)) (leb (lane need 7) (lane code 7))
reach-set need code r = record {
  zeroth = le-leb _ _ (omega (arith, r 0 (omega arith), lane-lowest need, lane-lowest code));
  first = le-leb _ _ (r 1 (omega arith));
  second = le-leb _ _ (r 2 (omega arith));
  third = le-leb _ _ (r 3 (omega arith));
  fourth = le-leb _ _ (r 4 (omega arith));
  fifth = le-leb _ _ (r 5 (omega arith));
  sixth = le-leb _ _ (r 6 (omega arith));
  seventh = le-leb _ _ (r 7 (omega arith));
}

set-reaches : (need code : ℕ) → AreSet (leb (need % 256) (code % 256)) (leb (lane need 1) (lane code 1)) (leb (lane need 2) (lane code 2)) (leb (lane need 3) (lane code 3)) (leb (lane need 4) (lane code 4)) (leb (lane need 5) (lane code 5)) (leb (lane need 6) (lane code 6)) (leb (lane need 7) (lane code 7)) → (i : ℕ) → i < 8 → lane need i ≤ lane code i
set-reaches need code s zero lt = omega (arith, leb-true (need % 256) (code % 256) s.zeroth, lane-lowest need, lane-lowest code)
set-reaches need code s (suc zero) lt = leb-true (lane need 1) (lane code 1) s.first
set-reaches need code s (suc (suc zero)) lt = leb-true (lane need 2) (lane code 2) s.second
set-reaches need code s (suc (suc (suc zero))) lt = leb-true (lane need 3) (lane code 3) s.third
set-reaches need code s (suc (suc (suc (suc zero)))) lt = leb-true (lane need 4) (lane code 4) s.fourth
set-reaches need code s (suc (suc (suc (suc (suc zero))))) lt = leb-true (lane need 5) (lane code 5) s.fifth
set-reaches need code s (suc (suc (suc (suc (suc (suc zero)))))) lt = leb-true (lane need 6) (lane code 6) s.sixth
set-reaches need code s (suc (suc (suc (suc (suc (suc (suc zero))))))) lt = leb-true (lane need 7) (lane code 7) s.seventh
set-reaches need code s (suc (suc (suc (suc (suc (suc (suc (suc n)))))))) lt = absurd (omega arith)

-- the mask of the lanes that are reached
pub reach-mask : (need code : ℕ) (needed there : List ℕ) → needed ≡ to_le_bytes w64 need → there ≡ to_le_bytes w64 code
    → (eqb (mask_l (map (top 7) (zip2 (λ a b. cond (leb a b) 255 0) needed there)) % 18446744073709551616) 255 ≡ true) ↔ Reaches need code
reach-mask need code needed there n t =
    let tops : map (top 7) (zip2 (λ a b. cond (leb a b) 255 0) needed there) ≡ zip2 leb needed there = tops_compared w8 leb needed there in
    let lanes : zip2 leb needed there ≡ zip2 leb (to_le_bytes w64 need) (to_le_bytes w64 code) = ap (λ (xs : List ℕ). zip2 leb xs there) n ∙ ap (λ (ys : List ℕ). zip2 leb (to_le_bytes w64 need) ys) t in
    let mask : List Bool → Bool = λ ms. eqb (mask_l ms % 18446744073709551616) 255 in (
      λ full. set-reaches need code (AreSet-from _ _ _ _ _ _ _ _ (ap mask (sym (tops ∙ lanes)) ∙ full)),
      λ r. ap mask (tops ∙ lanes) ∙ AreSet-mask _ _ _ _ _ _ _ _ (reach-set need code r),
    )
