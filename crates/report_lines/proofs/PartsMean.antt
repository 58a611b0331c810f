-- What the text of files, names, maps and refusals that were read is.
use Rattle.std.proofs.Common.{◌≡◌, ◌≢◌, ℕ, ◌+◌, ◌-◌, ◌^◌, ◌≤◌, eqb, not, Bool, true, false, List, [], ◌∷◌, ◌++◌, length, map, All, refl, sym, ap, subst, ◌∙◌, arith}
use Rattle.std.specs.Prelude.{Option, Some, None, decimal, nat_le, ◌&&◌, if◌then◌else◌}
use Rattle.std.specs.List.{join_with_byte, count_by}
use Rattle.std.proofs.lemmas.Bool.{eqb-false, eqb-true}
use Rattle.std.proofs.lemmas.List.{append-nil, length-map}
use Rattle.std.proofs.lemmas.List.Elements.{All-nil, All-cons}
use Rattle.std.proofs.lemmas.List.Splits.{join_with_byte-slice_split, length-slice_split}
use Rattle.std.proofs.lemmas.Option.{same_Some}
use Rattle.htss_defs.specs.FileName.{IsFileName}
use Rattle.htss_defs.specs.Name.{IsName}
use Rattle.hit_report.specs.HitLines.{map_text, name_text}
use Rattle.hit_report.specs.RecordLines.{code_word, spaced}
use Rattle.report_text.specs.Values.{HasWord, IsRefusal}
use Rattle.report_lines.specs.Reader.{coded_at, ends_at, file_at, is_file_name, is_name, is_only, label_at, map_at, name_at, named, number_at, numeral, parts_of, place_of, places_in, places_of, refusal_at, word_at}
use Rattle.report_lines.proofs.Bodies.{refusal_body}
use Rattle.report_lines.proofs.Maps.{IsPlace}
use Rattle.report_lines.proofs.Numerals.{numeral_some}
use Rattle.report_lines.proofs.Parts.{file_name_made, name_made, not_empty, word_seen}
use Rattle.report_lines.proofs.WordsMean.{chosen_some, kept_some, label_some, map_some, number_some, read_some, word_some}

pub file_some : (text : List ℕ) (x : List ℕ × List ℕ) → file_at text ≡ Some x → IsFileName x.0 × (text ≡ 32 ∷ x.0 ++ x.1)
unfolding file_at
file_some text x is =
    let a = read_some _ (word_at text) x is in
    let kept = kept_some (is_file_name a.0.0) a.0 x a.2 in
    subst (λ (p : List ℕ × List ℕ). IsFileName p.0 × (text ≡ 32 ∷ p.0 ++ p.1)) kept.1
    (file_name_made a.0.0 (word_seen text a.0 (sym a.1)) kept.0, word_some text a.0 a.1)

named_some : (bytes name : List ℕ) → named bytes ≡ Some name → IsName name × (bytes ≡ name)
unfolding named
named_some bytes name is =
    let kept = kept_some (is_name bytes) bytes name is in
    (subst IsName kept.1 (name_made bytes kept.0), kept.1)

name_after : (bytes : List ℕ) → not (eqb (length bytes) 0) ≡ true → name_text bytes ≡ 32 ∷ bytes
name_after [] some = absurd cc
name_after (b ∷ bs) some = refl

pub name_some : (text name : List ℕ) → name_at text ≡ Some name → IsName name × (text ≡ name_text name)
unfolding name_at
name_some [] name is =
    let made = named_some [] name is in
    (made.0, ap name_text made.1)
name_some (b ∷ bs) name is =
    let chosen = chosen_some (eqb b 32 && not (eqb (length bs) 0)) (named bs) name is in
    let made = named_some bs name chosen.1 in
    let space : b ≡ 32 = eqb-true b 32 (grind (arith, chosen.0)) in
    (made.0, ap (λ (c : ℕ). c ∷ bs) space ∙ sym (name_after bs (grind (arith, chosen.0))) ∙ ap name_text made.1)

-- ---- maps

place_some : (part : List ℕ) (place : ℕ) → place_of part ≡ Some place → IsPlace place × (part ≡ decimal place)
unfolding place_of
place_some part place is =
    let a = read_some _ (numeral 65535 part) place is in
    let means = numeral_some 65535 a.0 part a.1 in
    go a.0 (eqb a.0 0) refl a.2 means.0 means.1
  where
    go : (n : ℕ) → (b : Bool) → eqb n 0 ≡ b → (if b then None else Some n) ≡ Some place → n ≤ 65535 → part ≡ decimal n → IsPlace place × (part ≡ decimal place)
    go n true zero is small same = absurd cc
    go n false zero is small same =
        let value : n ≡ place = same_Some n place is in
        let apart : n ≢ 0 = eqb-false n 0 zero in
        ((omega (arith, value, apart), omega (arith, value, small)), same ∙ ap decimal value)

places_some : (parts : List (List ℕ)) (places : List ℕ) → places_in parts ≡ Some places → All IsPlace places × (parts ≡ map decimal places)
places_some [] places is = subst (λ (p : List ℕ). All IsPlace p × ([] ≡ map decimal p)) (same_Some [] places is) (All-nil IsPlace, refl)
places_some (part ∷ parts) places is =
    let a = read_some _ (place_of part) places is in
    let b = map_some _ (places_in parts) places a.2 in
    let here = place_some part a.0 a.1 in
    let more = places_some parts b.0 b.1 in
    subst (λ (p : List ℕ). All IsPlace p × (part ∷ parts ≡ map decimal p)) b.2
    (All-cons IsPlace a.0 b.0 here.0 more.0, ap (λ (w : List ℕ). w ∷ parts) here.1 ∙ ap (λ (l : List (List ℕ)). decimal a.0 ∷ l) more.1)

joined : (place : ℕ) (places : List ℕ) → join_with_byte 44 (map decimal (place ∷ places)) ≡ map_text (place ∷ places)
joined place [] = sym (append-nil (decimal place))
joined place (next ∷ places) = ap (λ (l : List ℕ). decimal place ++ 44 ∷ l) (joined next places)

pub record IsMap (places : List ℕ) : Type 0 where
  pub long : (1 ≤ length places) × (length places ≤ 64)
  pub each : All IsPlace places

map_of : (word places : List ℕ) → places_in (parts_of word) ≡ Some places → length (parts_of word) ≤ 64 → IsMap places × (word ≡ map_text places)
map_of word places is few =
    let means = places_some (parts_of word) places is in
    let some : length (parts_of word) ≡ count_by (λ b. eqb b 44) word + 1 = length-slice_split (λ b. eqb b 44) word in
    let size : length (parts_of word) ≡ length places = ap length means.1 ∙ length-map places decimal in (
      record { long = (omega (arith, some, size), omega (arith, few, size)); each = means.0 },
      sym (join_with_byte-slice_split 44 word) ∙ ap (join_with_byte 44) means.1 ∙ all_joined places (omega (arith, some, size)),
    )
  where
    all_joined : (places : List ℕ) → 1 ≤ length places → join_with_byte 44 (map decimal places) ≡ map_text places
    all_joined [] some = absurd (omega arith)
    all_joined (place ∷ places) some = joined place places

places_of_some : (word places : List ℕ) → places_of word ≡ Some places → IsMap places × (word ≡ map_text places)
unfolding places_of
places_of_some word places is =
    let chosen = chosen_some (nat_le (length (parts_of word)) 64) (places_in (parts_of word)) places is in
    map_of word places chosen.1 (grind (arith, chosen.0))

pub map_at_some : (text : List ℕ) (x : List ℕ × List ℕ) → map_at text ≡ Some x → IsMap x.0 × (text ≡ 32 ∷ map_text x.0 ++ x.1)
unfolding map_at
map_at_some text x is =
    let a = read_some _ (word_at text) x is in
    let b = map_some _ (places_of a.0.0) x a.2 in
    let means = places_of_some a.0.0 b.0 b.1 in
    subst (λ (p : List ℕ × List ℕ). IsMap p.0 × (text ≡ 32 ∷ map_text p.0 ++ p.1)) b.2
    (means.0, word_some text a.0 a.1 ∙ ap (λ (w : List ℕ). 32 ∷ w ++ a.0.1) means.1)

-- ---- refusals

ends_some : (o : Option (List ℕ)) → ends_at o ≡ true → o ≡ Some []
ends_some None is = absurd cc
ends_some (Some []) is = refl
ends_some (Some (b ∷ bs)) is = absurd cc

only_some : (label text : List ℕ) → is_only label text ≡ true → (label ≢ []) × (text ≡ 32 ∷ label)
unfolding is_only
only_some label text is =
    let ends : label_at label text ≡ Some [] = ends_some (label_at label text) (grind arith) in
    (not_empty label (grind arith), label_some label text [] ends ∙ ap (λ (l : List ℕ). 32 ∷ l) (append-nil label))

coded_some : (code : ℕ) (text : List ℕ) (c : ℕ) → coded_at code text ≡ Some c → (code ≡ c) × HasWord c × (text ≡ 32 ∷ code_word c)
unfolding coded_at
coded_some code text c is =
    let kept = kept_some (is_only (code_word code) text) code c is in
    let means = only_some (code_word code) text kept.0 in
    (kept.1, subst HasWord kept.1 means.0, means.1 ∙ ap (λ (k : ℕ). 32 ∷ code_word k) kept.1)

pub refusal_some : (text : List ℕ) (x : ℕ × ℕ) → refusal_at text ≡ Some x → IsRefusal x.0 x.1 × (text ≡ refusal_body x.0 x.1)
unfolding refusal_at
refusal_some text x is =
    let a = read_some _ (number_at (2 ^ 64 - 1) text) x is in
    let line = number_some (2 ^ 64 - 1) text a.0 a.1 in
    let b = read_some _ (number_at 255 a.0.1) x a.2 in
    let code = number_some 255 a.0.1 b.0 b.1 in
    let c = map_some _ (coded_at b.0.0 b.0.1) x b.2 in
    let word = coded_some b.0.0 b.0.1 c.0 c.1 in
    subst (λ (p : ℕ × ℕ). IsRefusal p.0 p.1 × (text ≡ refusal_body p.0 p.1)) c.2 (
      (omega (arith, line.0), word.1),
      line.1 ∙ ap (λ (l : List ℕ). spaced a.0.0 ++ l) (code.1 ∙ ap (λ (l : List ℕ). spaced b.0.0 ++ l) word.2 ∙ ap (λ (k : ℕ). spaced k ++ 32 ∷ code_word c.0) word.0),
    )
