-- The rules of a command with options that take a value, options that take none, and other words.
use Rattle.std.proofs.Common.{◌≡◌, ◌∙◌, ◌&&◌, ◌||◌, Bool, true, false, not, cond, List, [], ◌∷◌, ◌++◌, map, refl, ap, codes}
use Rattle.std.specs.Prelude.{Some, is_some}
use Rattle.std.specs.List.{find}
use Rattle.std.specs.Str.{bytes_eq}
use Rattle.clap.specs.Walk.{Rule, arg_by_id, arg_by_index, arg_by_long, has_long}
use Rattle.clap.specs.Simple.{new_rule}
use Rattle.clap.specs.declared.builder.action.ArgAction.TheVariants.{Set, Append, SetTrue}
use Rattle.clap.specs.declared.builder.value_parser.ValueParser.TheVariants as vp
use Rattle.command_words.specs.Arguments.{is_one_of}
use Rattle.command_words.proofs.Texts.{Text, same}

abbrev pub words_id : Text
words_id = codes "words"

abbrev pub words_rule : Rule
words_rule = record (new_rule (codes "words")) {
  index = Some 1;
  action = Some Append;
  range = Some (record { start_inclusive = 1; end_inclusive = 1 });
  parser = Some vp.String;
}

abbrev pub valued_rule : Text → Rule
valued_rule name = record (new_rule name) {
  long = Some name;
  action = Some Set;
  range = Some (record { start_inclusive = 1; end_inclusive = 1 });
  parser = Some vp.String;
}

abbrev pub flag_rule : Text → Rule
flag_rule name = record (new_rule name) {
  long = Some name;
  action = Some SetTrue;
  range = Some (record { start_inclusive = 0; end_inclusive = 0 });
  parser = Some vp.Bool;
  defaults = codes "false" ∷ [];
  missing = codes "true" ∷ [];
}

abbrev pub named_rules : List Text → List Text → List Rule
named_rules valued flags = map valued_rule valued ++ map flag_rule flags

abbrev pub rules_for : List Text → List Text → List Rule
rules_for valued flags = words_rule ∷ named_rules valued flags

or_false : (b : Bool) → (b || false) ≡ b
or_false true = refl
or_false false = refl

-- a test that looks at the name alone finds the rule of a name
module _ (test : Rule → Bool) (name : Text) (by_valued : (n : Text) → test (valued_rule n) ≡ bytes_eq n name) (by_flag : (n : Text) → test (flag_rule n) ≡ bytes_eq n name) where
  find_flag : (flags : List Text) → is_one_of flags name ≡ true → find test (map flag_rule flags) ≡ Some (flag_rule name)
  find_flag [] is = absurd cc
  find_flag (n ∷ flags) is = rw (by_flag n) (go (bytes_eq n name) refl is (find_flag flags))
    where
      go : (b : Bool) → bytes_eq n name ≡ b → (b || is_one_of flags name) ≡ true
          → (is_one_of flags name ≡ true → find test (map flag_rule flags) ≡ Some (flag_rule name)) → cond b (Some (flag_rule n)) (find test (map flag_rule flags)) ≡ Some (flag_rule name)
      go true e is more = ap (λ (m : Text). Some (flag_rule m)) (same n name e)
      go false e is more = more is

  find_valued : (valued : List Text) (more : List Rule) → is_one_of valued name ≡ true → find test (map valued_rule valued ++ more) ≡ Some (valued_rule name)
  find_valued [] more is = absurd cc
  find_valued (n ∷ valued) more is = rw (by_valued n) (go (bytes_eq n name) refl is (find_valued valued more))
    where
      go : (b : Bool) → bytes_eq n name ≡ b → (b || is_one_of valued name) ≡ true
          → (is_one_of valued name ≡ true → find test (map valued_rule valued ++ more) ≡ Some (valued_rule name))
          → cond b (Some (valued_rule n)) (find test (map valued_rule valued ++ more)) ≡ Some (valued_rule name)
      go true e is next = ap (λ (m : Text). Some (valued_rule m)) (same n name e)
      go false e is next = next is

  pass_valued : (valued : List Text) (more : List Rule) → is_one_of valued name ≡ false → find test (map valued_rule valued ++ more) ≡ find test more
  pass_valued [] more none = refl
  pass_valued (n ∷ valued) more none = rw (by_valued n) (go (bytes_eq n name) none (pass_valued valued more))
    where
      go : (b : Bool) → (b || is_one_of valued name) ≡ false
          → (is_one_of valued name ≡ false → find test (map valued_rule valued ++ more) ≡ find test more)
          → cond b (Some (valued_rule n)) (find test (map valued_rule valued ++ more)) ≡ find test more
      go true none next = absurd cc
      go false none next = next none

module _ (valued flags : List Text) where
  abbrev rules : List Rule
  rules = rules_for valued flags

  pub long_valued : (name : Text) → is_one_of valued name ≡ true → arg_by_long rules name ≡ Some (valued_rule name)
  long_valued name is = find_valued (λ a. not (is_some a.index) && has_long a name) name (λ n. or_false (bytes_eq n name)) (λ n. or_false (bytes_eq n name)) valued (map flag_rule flags) is

  pub long_flag : (name : Text) → is_one_of valued name ≡ false → is_one_of flags name ≡ true → arg_by_long rules name ≡ Some (flag_rule name)
  long_flag name none is =
      pass_valued (λ a. not (is_some a.index) && has_long a name) name (λ n. or_false (bytes_eq n name)) (λ n. or_false (bytes_eq n name)) valued (map flag_rule flags) none
      ∙ find_flag (λ a. not (is_some a.index) && has_long a name) name (λ n. or_false (bytes_eq n name)) (λ n. or_false (bytes_eq n name)) flags is

  pub id_valued : (name : Text) → is_one_of valued name ≡ true → bytes_eq words_id name ≡ false → arg_by_id rules name ≡ Some (valued_rule name)
  id_valued name is others = rw others (find_valued (λ a. bytes_eq a.id name) name (λ n. refl) (λ n. refl) valued (map flag_rule flags) is)

  pub id_words : arg_by_id rules words_id ≡ Some words_rule
  id_words = refl

  pub index_words : arg_by_index rules 1 ≡ Some words_rule
  index_words = refl
