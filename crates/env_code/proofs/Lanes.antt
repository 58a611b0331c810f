-- Counts of eight lanes, raised lane by lane.
use Rattle.std.proofs.Common.{◌≡◌, ◌≢◌, ℕ, ◌+◌, ◌<◌, ◌≤◌, min, true, false, List, Bool, length, get_or, set, refl, sym, ap, subst, ◌∙◌, inl, inr, arith, cond, eqb, leb, [], zero, suc, ◌&&◌}
use mir.Val.{bool_byte}
use Rattle.std.proofs.lemmas.Bool.{cases_eq, cases_lt, le-leb, lt-leb}
use Rattle.std.proofs.lemmas.List.{length-set, get_or-set_same, get_or-set_other}
use Rattle.env_code.specs.Near.{HasLanes, is_in, lane_row, near_word}
use Rattle.env_code.proofs.Counts.{one, count, count-congr}
use Rattle.env_code.proofs.Words.{word_of-congr}
use Rattle.htss_defs.specs.Graph.{Graph}
use Rattle.htss_defs.specs.Distances.{count_within, is_within}
use Rattle.htss_defs.specs.Codes.{word_of}

-- the first n lanes are done
pub record AreDone (lanes : List Bool) (before now : List ℕ) (n : ℕ) : Type 0 where
  pub size : length now ≡ 8
  pub done : (i : ℕ) → i < n → get_or now i 0 ≡ min (get_or before i 0 + one (get_or lanes i false)) 255
  pub rest : (i : ℕ) → n ≤ i → get_or now i 0 ≡ get_or before i 0

AreDone-more : (lanes : List Bool) (before now next : List ℕ) (n : ℕ) → AreDone lanes before now n → length next ≡ 8
    → get_or next n 0 ≡ min (get_or now n 0 + one (get_or lanes n false)) 255 → ((i : ℕ) → i ≢ n → get_or next i 0 ≡ get_or now i 0)
    → AreDone lanes before next (n + 1)
AreDone-more lanes before now next n a size here others = record {
  size = size;
  done = λ i less. elim (cases_eq i n) [
    | inl last ↦
        let at : get_or next n 0 ≡ min (get_or before n 0 + one (get_or lanes n false)) 255 = here ∙ ap (λ b. min (b + one (get_or lanes n false)) 255) (a.rest n (omega arith)) in
        subst (λ (k : ℕ). get_or next k 0 ≡ min (get_or before k 0 + one (get_or lanes k false)) 255) (sym last) at
    | inr earlier ↦ others i earlier ∙ a.done i (omega arith)
  ];
  rest = λ i le. others i (λ is. omega arith) ∙ a.rest i (omega arith);
}

pub AreDone-raised : (lanes : List Bool) (before now next : List ℕ) (n raised : ℕ) → AreDone lanes before now n → n < 8 → raised ≡ min (get_or now n 0 + one (get_or lanes n false)) 255 → next ≡ set now n raised → AreDone lanes before next (n + 1)
AreDone-raised lanes before now next n raised a low is set_is = AreDone-more lanes before now next n a
    (ap length set_is ∙ length-set now n raised ∙ a.size)
    (ap (λ (cs : List ℕ). get_or cs n 0) set_is ∙ get_or-set_same now n raised 0 (omega (arith, a.size)) ∙ is)
    (λ i other. ap (λ (cs : List ℕ). get_or cs i 0) set_is ∙ get_or-set_other now n i raised 0 other)

pub bool_byte-one : (b : Bool) → bool_byte b ≡ one b
bool_byte-one true = refl
bool_byte-one false = refl

-- ---- the lanes of places

pub lane_row-at : (kind : ℕ → Bool) (branched : Bool) (i : ℕ) → i < 8 → get_or (lane_row kind branched) i false ≡ cond (eqb i 0) true (cond (eqb i 7) branched (kind i))
lane_row-at kind branched zero lt = refl
lane_row-at kind branched (suc zero) lt = refl
lane_row-at kind branched (suc (suc zero)) lt = refl
lane_row-at kind branched (suc (suc (suc zero))) lt = refl
lane_row-at kind branched (suc (suc (suc (suc zero)))) lt = refl
lane_row-at kind branched (suc (suc (suc (suc (suc zero))))) lt = refl
lane_row-at kind branched (suc (suc (suc (suc (suc (suc zero)))))) lt = refl
lane_row-at kind branched (suc (suc (suc (suc (suc (suc (suc zero))))))) lt = refl
lane_row-at kind branched (suc (suc (suc (suc (suc (suc (suc (suc n)))))))) lt = absurd (omega arith)

-- three, as far as a count goes
pub leb-min : (d : ℕ) → leb 3 (min d 255) ≡ leb 3 d
leb-min d = elim (cases_lt d 3) [
  | inl less ↦ lt-leb 3 (min d 255) (omega arith) ∙ sym (lt-leb 3 d less)
  | inr more ↦ le-leb 3 (min d 255) (omega arith) ∙ sym (le-leb 3 d more)
]

-- the first n places have their lanes
pub record AreRows (counted : ℕ → ℕ → Bool) (n : ℕ) (lanes : List (List Bool)) : Type 0 where
  pub size : length lanes ≡ 1000
  pub has : HasLanes counted n lanes

pub AreRows-start : (counted : ℕ → ℕ → Bool) (lanes : List (List Bool)) → length lanes ≡ 1000 → AreRows counted 0 lanes
AreRows-start counted lanes size = record { size = size; has = record { at = λ i y lt low high. absurd (omega arith) } }

pub AreRows-more : (counted : ℕ → ℕ → Bool) (n : ℕ) (lanes : List (List Bool)) (row : List Bool) → AreRows counted n lanes → n < 999 → ((i : ℕ) → i < 8 → get_or row i false ≡ counted i (n + 1)) → AreRows counted (n + 1) (set lanes (n + 1) row)
unfolding is_in
AreRows-more counted n lanes row a small here = record {
  size = length-set lanes (n + 1) row ∙ a.size;
  has = record {
    at = λ i y lt low high. elim (cases_eq y (n + 1)) [
      | inl last ↦
          let now : get_or (get_or (set lanes (n + 1) row) (n + 1) []) i false ≡ counted i (n + 1) = ap (λ (r : List Bool). get_or r i false) (get_or-set_same lanes (n + 1) row [] (omega (arith, a.size))) ∙ here i lt in
          subst (λ (z : ℕ). get_or (get_or (set lanes (n + 1) row) z []) i false ≡ counted i z) (sym last) now
      | inr earlier ↦ ap (λ (r : List Bool). get_or r i false) (get_or-set_other lanes (n + 1) y row [] earlier) ∙ a.has.at i y lt low (omega arith)
    ];
  };
}

-- the words count what the lanes say
pub near_word-counted : (g : Graph) (counted : ℕ → ℕ → Bool) (lanes : List (List Bool)) (x k : ℕ) → HasLanes counted g.atoms lanes → near_word g lanes x k ≡ word_of (λ i. count_within g k x (counted i))
unfolding near_word count_within
near_word-counted g counted lanes x k has = word_of-congr (λ i. count (λ y. is_within g k x y && is_in lanes i y) 1 g.atoms) (λ i. count (λ y. is_within g k x y && counted i y) 1 g.atoms)
    (λ i lt. ap (λ n. min n 255) (count-congr (λ y. is_within g k x y && is_in lanes i y) (λ y. is_within g k x y && counted i y) 1 g.atoms (λ y low high. ap (λ b. is_within g k x y && b) (has.at i y lt low (omega arith)))))
