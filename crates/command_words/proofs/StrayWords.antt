-- Which words are stray ones.
use Rattle.std.proofs.Common.{◌≡◌, ◌∙◌, ◌&&◌, ◌==◌, Bool, true, false, not, cond, [], ◌∷◌, length, refl, sym, ap, arith}
use Rattle.std.specs.Prelude.{Option, Some, None, unwrap_or}
use Rattle.clap.specs.Lexer.{name_and_value, strip_byte}
use Rattle.command_words.specs.Arguments.{Options, after_equals, alone, before_equals, is_one_of, is_stray, option_word, stray, switch, with_value, kind_of_word}
use Rattle.command_words.proofs.Texts.{Text}
use Rattle.command_words.proofs.ClapWalk.{split_same}

module _ (o : Options) where
  parts_are : (text name : Text) (value : Option Text) → (name, value) ≡ name_and_value text
      → is_stray (option_word o (before_equals text) (after_equals text)) ≡ is_stray (option_word o name value)
  parts_are text name value is = ap (λ (p : Text × Option Text). is_stray (option_word o p.0 p.1)) (sym (is ∙ split_same text))

  pub stray_with_value : (text name value : Text) → (name, Some value) ≡ name_and_value text
      → not (is_one_of o.valued name) ≡ is_stray (option_word o (before_equals text) (after_equals text))
  stray_with_value text name value is = go (is_one_of o.valued name) ∙ sym (parts_are text name (Some value) is)
    where
      go : (b : Bool) → not b ≡ is_stray (cond b (with_value name value) stray)
      go true = refl
      go false = refl

  pub stray_alone : (text name : Text) → (name, None) ≡ name_and_value text
      → (not (is_one_of o.valued name) && not (is_one_of o.flags name)) ≡ is_stray (option_word o (before_equals text) (after_equals text))
  stray_alone text name is = go (is_one_of o.valued name) (is_one_of o.flags name) ∙ sym (parts_are text name None is)
    where
      go : (b f : Bool) → (not b && not f) ≡ is_stray (cond b (alone name) (cond f (switch name) stray))
      go true f = refl
      go false true = refl
      go false false = refl

  pub no_dash : (word : Text) → None ≡ strip_byte 45 word → (length word == 0) ≡ is_stray (kind_of_word o word)
  no_dash [] none = refl
  no_dash (first ∷ rest) none = go (first == 45) refl none rest
    where
      go : (b : Bool) → (first == 45) ≡ b → None ≡ cond b (Some rest) None → (more : Text) → (length (first ∷ more) == 0) ≡ is_stray (kind_of_word o (first ∷ more))
      go true e none more = absurd cc
      go false e none [] = rw e refl
      go false e none (second ∷ more) = rw e (grind arith)

  pub one_dash : (word rest : Text) → Some rest ≡ strip_byte 45 word → None ≡ strip_byte 45 rest → true ≡ is_stray (kind_of_word o word)
  one_dash [] rest is none = absurd cc
  one_dash (first ∷ more) rest is none = go (first == 45) refl is
    where
      second : (more : Text) → None ≡ strip_byte 45 more → (first == 45) ≡ true → true ≡ is_stray (kind_of_word o (first ∷ more))
      second [] none e = rw e refl
      second (next ∷ more) none e = third (next == 45) refl none
        where
          third : (b : Bool) → (next == 45) ≡ b → None ≡ cond b (Some more) None → true ≡ is_stray (kind_of_word o (first ∷ next ∷ more))
          third true f none = absurd cc
          third false f none = rw (e, f) refl

      go : (b : Bool) → (first == 45) ≡ b → Some rest ≡ cond b (Some more) None → true ≡ is_stray (kind_of_word o (first ∷ more))
      go true e is =
          let same : rest ≡ more = ap (λ (x : Option Text). unwrap_or x []) is in
          second more (none ∙ ap (strip_byte 45) same) e
      go false e is = absurd cc

  pub two_dashes : (word rest text : Text) → Some rest ≡ strip_byte 45 word → Some text ≡ strip_byte 45 rest
      → is_stray (option_word o (before_equals text) (after_equals text)) ≡ is_stray (kind_of_word o word)
  two_dashes [] rest text is more = absurd cc
  two_dashes (first ∷ []) rest text is more = go (first == 45) is
    where
      go : (b : Bool) → Some rest ≡ cond b (Some []) None → is_stray (option_word o (before_equals text) (after_equals text)) ≡ is_stray (kind_of_word o (first ∷ []))
      go true is =
          let same : rest ≡ [] = ap (λ (x : Option Text). unwrap_or x []) is in
          let bad : Some text ≡ None = more ∙ ap (strip_byte 45) same in
          absurd cc
      go false is = absurd cc
  two_dashes (first ∷ second ∷ tail) rest text is more = go (first == 45) refl is
    where
      next : (first == 45) ≡ true → (b : Bool) → (second == 45) ≡ b → Some text ≡ cond b (Some tail) None
          → is_stray (option_word o (before_equals text) (after_equals text)) ≡ is_stray (kind_of_word o (first ∷ second ∷ tail))
      next e true f is =
          let same : text ≡ tail = ap (λ (x : Option Text). unwrap_or x []) is in
          rw (e, f, same) refl
      next e false f is = absurd cc

      go : (b : Bool) → (first == 45) ≡ b → Some rest ≡ cond b (Some (second ∷ tail)) None
          → is_stray (option_word o (before_equals text) (after_equals text)) ≡ is_stray (kind_of_word o (first ∷ second ∷ tail))
      go true e is =
          let same : rest ≡ second ∷ tail = ap (λ (x : Option Text). unwrap_or x []) is in
          next e (second == 45) refl (more ∙ ap (strip_byte 45) same)
      go false e is = absurd cc
