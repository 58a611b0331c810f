-- The name in a header line keeps the rules of names.
use Rattle.std.proofs.Common.{◌≡◌, ◌≢◌, ◌⊎◌, ℕ, zero, suc, ◌+◌, ◌-◌, ◌≤◌, ◌<◌, Bool, true, false, ◌&&◌, eqb, leb, List, [], ◌∷◌, length, map, take, drop, reverse, get_or, All, refl, sym, ap, subst, ◌∙◌, inl, inr, arith}
use Rattle.std.specs.Prelude.{Some, slice_get, if◌then◌else◌}
use Rattle.std.proofs.lemmas.Bool.{cases_Bool, and_parts, leb-true}
use Rattle.std.proofs.lemmas.List.{length-reverse, length-map, length-take, length-drop, get_or-reverse, get_or-drop}
use Rattle.std.proofs.lemmas.List.Elements.{All-drop, All-nil, All-cons}
use Rattle.htss_defs.specs.Name.{IsName, IsVisible}
use Rattle.mol_section.specs.Fields.{trim_front, trim_ends}
use Rattle.mol_section.specs.Names.{visible, visible_byte}
use Rattle.mol_section.proofs.Texts.{trimmed}

visible_is : (b : ℕ) → IsVisible (visible_byte b)
visible_is b = go (leb 32 b && leb b 126) refl
  where
    go : (t : Bool) → (leb 32 b && leb b 126) ≡ t → IsVisible (if t then b else 63)
    go true is = let parts = and_parts (leb 32 b) (leb b 126) is in (leb-true 32 b parts.0, leb-true b 126 parts.1)
    go false is = (omega arith, omega arith)

all_visible : (bytes : List ℕ) → All IsVisible (map visible_byte bytes)
all_visible [] = All-nil IsVisible
all_visible (b ∷ bytes) = All-cons IsVisible (visible_byte b) (map visible_byte bytes) (visible_is b) (all_visible bytes)

-- a text without spaces at its front is its end
front_drops : (text : List ℕ) → (k : ℕ) × (trim_front text ≡ drop k text)
front_drops [] = (0, refl)
front_drops (b ∷ text) = go (front_drops text) (cases_Bool (eqb b 32))
  where
    go : (k : ℕ) × (trim_front text ≡ drop k text) → (eqb b 32 ≡ true) ⊎ (eqb b 32 ≡ false) → (k : ℕ) × (trim_front (b ∷ text) ≡ drop k (b ∷ text))
    go more (inl space) = (suc more.0, rw space more.1)
    go more (inr other) = (0, rw other refl)

all_reverse : (text : List ℕ) → All IsVisible text → All IsVisible (reverse text)
all_reverse text all k d within =
    let long : length (reverse text) ≡ length text = length-reverse text in
    subst IsVisible (sym (get_or-reverse text k d (omega arith))) (all (length text - 1 - k) d (omega arith))

all_front : (text : List ℕ) → All IsVisible text → All IsVisible (trim_front text)
all_front text all = let drops = front_drops text in subst (All IsVisible) (sym drops.1) (All-drop IsVisible drops.0 text all)

front_short : (text : List ℕ) → length (trim_front text) ≤ length text
front_short text = let drops = front_drops text in omega (arith, ap length drops.1, length-drop drops.0 text)

-- the last byte of a list that is not empty stays the last
last_kept : (text : List ℕ) → 0 < length (trim_front text) → get_or (trim_front text) (length (trim_front text) - 1) 0 ≡ get_or text (length text - 1) 0
last_kept text some =
    let drops = front_drops text in
    let long : length (trim_front text) ≡ length text - drops.0 = ap length drops.1 ∙ length-drop drops.0 text in
    let place : drops.0 + (length (trim_front text) - 1) ≡ length text - 1 = omega arith in
    ap (λ (x : List ℕ). get_or x (length (trim_front text) - 1) 0) drops.1 ∙ get_or-drop drops.0 text (length (trim_front text) - 1) 0 ∙ ap (λ (k : ℕ). get_or text k 0) place

no_get : (text : List ℕ) (i : ℕ) → (i < length text → get_or text i 0 ≢ 32) → slice_get text i ≢ Some 32
no_get [] i other is = absurd cc
no_get (b ∷ text) zero other is = other (omega arith) (cc is)
no_get (b ∷ text) (suc i) other is = no_get text i (λ lt. other (omega arith)) is

-- the front of the reversed end, and the end of it
pub IsName-trimmed : (text : List ℕ) → length text ≤ 80 → All IsVisible text → IsName (trim_ends text)
IsName-trimmed text short all =
    let u : List ℕ = trim_front text in
    let v : List ℕ = trim_front (reverse (trim_front text)) in
    let lu : length (reverse (trim_front text)) ≡ length (trim_front text) = length-reverse (trim_front text) in
    let lw : length (reverse (trim_front (reverse (trim_front text)))) ≡ length (trim_front (reverse (trim_front text))) = length-reverse (trim_front (reverse (trim_front text))) in
    let sv : length (trim_front (reverse (trim_front text))) ≤ length (reverse (trim_front text)) = front_short (reverse (trim_front text)) in
    let su : length (trim_front text) ≤ length text = front_short text in
    record {
      short = omega arith;
      visible = all_reverse _ (all_front _ (all_reverse _ (all_front text all)));
      no_space_first = no_get _ 0 (λ some. first some lu lw sv);
      no_space_last = no_get _ _ (λ within. last within lw);
    }
  where
    first : 0 < length (reverse (trim_front (reverse (trim_front text)))) → length (reverse (trim_front text)) ≡ length (trim_front text)
        → length (reverse (trim_front (reverse (trim_front text)))) ≡ length (trim_front (reverse (trim_front text))) → length (trim_front (reverse (trim_front text))) ≤ length (reverse (trim_front text))
        → get_or (reverse (trim_front (reverse (trim_front text)))) 0 0 ≢ 32
    first some lu lw sv e =
        let a : get_or (reverse (trim_front (reverse (trim_front text)))) 0 0 ≡ get_or (trim_front (reverse (trim_front text))) (length (trim_front (reverse (trim_front text))) - 1 - 0) 0 =
        get_or-reverse (trim_front (reverse (trim_front text))) 0 0 (omega arith) in
        let k : length (trim_front (reverse (trim_front text))) - 1 - 0 ≡ length (trim_front (reverse (trim_front text))) - 1 = omega arith in
        let b : get_or (trim_front (reverse (trim_front text))) (length (trim_front (reverse (trim_front text))) - 1) 0 ≡ get_or (reverse (trim_front text)) (length (reverse (trim_front text)) - 1) 0 =
        last_kept (reverse (trim_front text)) (omega arith) in
        let c : get_or (reverse (trim_front text)) (length (reverse (trim_front text)) - 1) 0 ≡ get_or (trim_front text) (length (trim_front text) - 1 - (length (reverse (trim_front text)) - 1)) 0 =
        get_or-reverse (trim_front text) (length (reverse (trim_front text)) - 1) 0 (omega arith) in
        let z : length (trim_front text) - 1 - (length (reverse (trim_front text)) - 1) ≡ 0 = omega arith in
        trimmed text (sym (ap (λ (i : ℕ). get_or (trim_front text) i 0) z) ∙ sym c ∙ sym b ∙ ap (λ (i : ℕ). get_or (trim_front (reverse (trim_front text))) i 0) (sym k) ∙ sym a ∙ e)

    last : length (reverse (trim_front (reverse (trim_front text)))) - 1 < length (reverse (trim_front (reverse (trim_front text))))
        → length (reverse (trim_front (reverse (trim_front text)))) ≡ length (trim_front (reverse (trim_front text)))
        → get_or (reverse (trim_front (reverse (trim_front text)))) (length (reverse (trim_front (reverse (trim_front text)))) - 1) 0 ≢ 32
    last within lw e =
        let a : get_or (reverse (trim_front (reverse (trim_front text)))) (length (reverse (trim_front (reverse (trim_front text)))) - 1) 0
        ≡ get_or (trim_front (reverse (trim_front text))) (length (trim_front (reverse (trim_front text))) - 1 - (length (reverse (trim_front (reverse (trim_front text)))) - 1)) 0 =
        get_or-reverse (trim_front (reverse (trim_front text))) _ 0 (omega arith) in
        let z : length (trim_front (reverse (trim_front text))) - 1 - (length (reverse (trim_front (reverse (trim_front text)))) - 1) ≡ 0 = omega arith in
        trimmed (reverse (trim_front text)) (sym (ap (λ (i : ℕ). get_or (trim_front (reverse (trim_front text))) i 0) z) ∙ sym a ∙ e)

pub IsName-visible : (line : List ℕ) → IsName (trim_ends (visible line))
IsName-visible line = IsName-trimmed (visible line) (omega (arith, length-map (take 80 line) visible_byte, length-take 80 line)) (all_visible (take 80 line))
