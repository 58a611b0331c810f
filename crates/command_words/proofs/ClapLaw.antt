-- The matches of the command and the arguments of the words are the same.
use Rattle.std.proofs.Common.{◌≡◌, ◌∙◌, ◌&&◌, Bool, true, false, not, cond, List, [], ◌∷◌, map, refl, sym, ap, ap₂, codes}
use Rattle.std.specs.Prelude.{Option, Some, None, is_some, unwrap_or, fold, option_map, option_and_then, slice_get}
use Rattle.std.specs.List.{list_all}
use Rattle.std.specs.Str.{bytes_eq}
use Rattle.clap.specs.Kinds.{Kinds, or_else}
use Rattle.clap.specs.Matches.{first_value, found_of, matched_of, one_text, raw_values}
use Rattle.clap.specs.Walk.{Row, Walk, finished, first_of, has_row, idle, nothing_held, one_of, row_text, rows_after, rows_of, settled, walked, with_default}
use Rattle.clap.specs.Simple.{App, HasMatchesOf, Shape, argument_words, entered, is_simple, matches_of, names_of}
use Rattle.clap.specs.Faults.{built_fault, check_fault, defaults_fault, entered_fault, fault_of, level_fault, settle_fault, walk_fault}
use Rattle.clap.specs.declared.parser.matches.ArgMatches.{ArgMatches}
use Rattle.clap.proofs.WalkLemmas.{both, first_value-rows, one_text-rows, raw_values-rows}
use Rattle.command_words.specs.Arguments.{Argument, Options, are_distinct, arguments, arguments_of, has_flag, has_no_stray, is_one_of, names, once_each, operand, operands, option_value, kind_of_word, Word, stray, plain, with_value, switch, alone, flag, is_stray}
use Rattle.command_words.specs.Arguments.{option as an_option}
use Rattle.command_words.specs.ClapCommand.{SaysArguments, app_for}
use Rattle.command_words.proofs.Texts.{Text, apart, turned}
use Rattle.command_words.proofs.ClapRules.{flag_rule, rules_for, words_id}
use Rattle.command_words.proofs.ClapArguments.{faults_with, is_known, rows_with}
use Rattle.command_words.proofs.ClapWalk.{Spells, Spelled, at_word, faults_of, walk_laws}
use Rattle.command_words.proofs.ClapRows.{defaults_keep, defaults_new, defaults_other, flag_for, flag_row, is_nothing, once_law, row_at, row_for, row_law, value_for, values_at, words_law}
use Rattle.command_words.proofs.ClapBuilt.{app_is, built_is, built_shape, checks_pass, defaults_pass, finished_is, is_simple_free}

module _ (valued flags : List Text) (no_name : is_one_of valued [] ≡ false) (no_flag : is_one_of flags [] ≡ false)
    (no_words : is_one_of valued words_id ≡ false) (no_words_flag : is_one_of flags words_id ≡ false) where
  abbrev options : Options
  options = record { valued = valued; flags = flags }

  abbrev spelled : List Text → Option (List Argument)
  spelled words = arguments_of (map (kind_of_word options) words)

  abbrev faults : List Text → Kinds
  faults words = faults_of valued flags (built_shape (rules_for valued flags)) refl refl (at_word [] None idle) words

  law : (words : List Text) → has_no_stray options words ≡ true
      → Spells valued flags (built_shape (rules_for valued flags)) refl refl (at_word [] None idle) words [] [] (spelled words)
  law words none = (walk_laws valued flags (built_shape (rules_for valued flags)) refl refl no_name no_flag no_words words none).0 [] None idle refl

  or_else_nil : (k : Kinds) → or_else k [] ≡ k
  or_else_nil [] = refl
  or_else_nil (x ∷ xs) = refl

  abbrev top : Shape
  top = built_shape (rules_for valued flags)

  abbrev app : App
  app = record { top = top; subs = [] }

  no_entered : (stop : Option (Text × List Text)) → entered_fault app stop ≡ []
  no_entered None = refl
  no_entered (Some p) = refl

  abbrev end : List Text → Walk
  end words = fold (walked (rules_for valued flags) []) (at_word [] None idle) words

  level_is : (words : List Text) (has : Bool) (below : Kinds) → below ≡ [] → level_fault top [] nothing_held words has below ≡ faults words
  level_is words has below none =
      ap (λ (k : Kinds). or_else (walk_fault top [] (at_word [] None idle) words) (or_else k (or_else (settle_fault (rules_for valued flags) false (end words).held)
      (or_else (defaults_fault (settled (rules_for valued flags) (end words).held).rows (rules_for valued flags)) (check_fault top (finished (rules_for valued flags) (end words).held) has))))) none
      ∙ ap₂ (λ (d c : Kinds). or_else (walk_fault top [] (at_word [] None idle) words) (or_else (settle_fault (rules_for valued flags) false (end words).held) (or_else d c)))
      (defaults_pass valued flags _) (checks_pass valued flags _ has)
      ∙ ap (or_else (walk_fault top [] (at_word [] None idle) words)) (or_else_nil (settle_fault (rules_for valued flags) false (end words).held))

  -- the faults of a parse are those of the walk
  pub fault_is : (words : List Text) → fault_of (app_for options) words ≡ faults words
  fault_is words =
      ap₂ (λ (b a : App). built_fault b nothing_held (argument_words a words)) (built_is valued flags) (app_is valued flags)
      ∙ level_is words (is_some (entered app (end words).stopped)) (entered_fault app (end words).stopped) (no_entered (end words).stopped)

  -- the rows of a parse are those at the end of the walk
  pub rows_are : (words : List Text) → matches_of (app_for options) words
      ≡ fold with_default (settled (rules_for valued flags) (end words).held).rows (map flag_rule flags)
  rows_are words =
      ap₂ (λ (b a : App). rows_after b.top.rules (names_of b) (argument_words a words)) (built_is valued flags) (app_is valued flags)
      ∙ finished_is valued flags (settled (rules_for valued flags) (end words).held).rows

  -- no fault, exactly where there are arguments
  nothing_is : (k : Kinds) → is_nothing k ≡ true → k ≡ []
  nothing_is [] e = refl
  nothing_is (x ∷ xs) e = absurd cc

  none_fresh : (ns : List Text) → list_all (λ n. not (has_row n [])) ns ≡ true
  none_fresh [] = refl
  none_fresh (n ∷ ns) = none_fresh ns

  once : (said : List Argument) → list_all (is_known valued flags) said ≡ true → is_nothing (faults_with said []) ≡ are_distinct (names said)
  once said known = once_law valued flags no_words no_words_flag said known [] ∙ ap (λ (b : Bool). b && are_distinct (names said)) (none_fresh (names said))

  pub given_no_fault : (words : List Text) → has_no_stray options words ≡ true → (said : List Argument) → arguments options words ≡ Some said → fault_of (app_for options) words ≡ []
  unfolding arguments
  given_no_fault words none said is = fault_is words ∙ go (spelled words) (law words none) is
    where
      go : (o : Option (List Argument)) → Spells valued flags top refl refl (at_word [] None idle) words [] [] o → once_each o ≡ Some said → faults words ≡ []
      go None never e = absurd cc
      go (Some bs) spells e = check (are_distinct (names bs)) refl e
        where
          check : (b : Bool) → are_distinct (names bs) ≡ b → cond b (Some bs) None ≡ Some said → faults words ≡ []
          check true d e = spells.faults ∙ nothing_is _ (once bs spells.are_known ∙ d)
          check false d e = absurd cc

  pub fault_free : (words : List Text) → has_no_stray options words ≡ true → fault_of (app_for options) words ≡ []
      → (said : List Argument) × (arguments options words ≡ Some said) × Spelled valued flags top refl refl (at_word [] None idle) words [] [] said
      × (is_nothing (faults_with said []) ≡ true)
  unfolding arguments
  fault_free words none free = go (spelled words) refl (law words none)
    where
      go : (o : Option (List Argument)) → spelled words ≡ o → Spells valued flags top refl refl (at_word [] None idle) words [] [] o
          → (said : List Argument) × (once_each (spelled words) ≡ Some said) × Spelled valued flags top refl refl (at_word [] None idle) words [] [] said
          × (is_nothing (faults_with said []) ≡ true)
      go None e never = absurd (never (sym (fault_is words) ∙ free))
      go (Some bs) e spells =
          let clean : is_nothing (faults_with bs []) ≡ true = ap is_nothing (sym spells.faults ∙ sym (fault_is words) ∙ free) in
          let distinct : are_distinct (names bs) ≡ true = sym (once bs spells.are_known) ∙ clean in
          (bs, rw (e, distinct) refl, spells, clean)

  -- what the matches say
  module _ (words : List Text) (none : has_no_stray options words ≡ true) (matches : ArgMatches) (matched : HasMatchesOf (app_for options) words matches)
      (said : List Argument) (spells : Spelled valued flags top refl refl (at_word [] None idle) words [] [] said) (clean : is_nothing (faults_with said []) ≡ true) where
    abbrev used_rows : List Row
    used_rows = rows_with said []

    abbrev last_rows : List Row
    last_rows = fold with_default used_rows (map flag_rule flags)

    same_rows : rows_of (found_of matches) ≡ last_rows
    same_rows = (matched (both (is_simple (app_for options)) _ (is_simple_free valued flags)).0).0 ∙ rows_are words
        ∙ ap (λ (rows : List Row). fold with_default rows (map flag_rule flags)) spells.ends

    says_words : unwrap_or (option_map raw_values (matched_of (found_of matches) words_id)) [] ≡ operands said
    says_words = ap (λ (o : Option (List Text)). unwrap_or o []) (raw_values-rows (found_of matches) words_id)
        ∙ ap (values_at words_id) same_rows
        ∙ ap (λ (o : Option Row). unwrap_or (option_map (λ r. r.values) o) []) (defaults_other flags words_id used_rows no_words_flag)
        ∙ words_law valued flags no_words no_words_flag said spells.are_known []

    used_row : (name : Text) → bytes_eq words_id name ≡ false → row_at name used_rows ≡ row_for valued flags no_words no_words_flag name said
    used_row name differ = row_law valued flags no_words no_words_flag said [] name differ clean

    says_value : (name : Text) → is_one_of valued name ≡ true → is_one_of flags name ≡ false → first_value (found_of matches) name ≡ option_value name said
    says_value name is unlike =
        let differ : bytes_eq words_id name ≡ false = turned words_id name ∙ apart valued name words_id is no_words in
        first_value-rows (found_of matches) name ∙ ap (first_of name) same_rows
        ∙ ap (option_and_then (λ (r : Row). slice_get r.values 0)) (defaults_other flags name used_rows unlike ∙ used_row name differ)
        ∙ value_for valued flags no_words no_words_flag name is said spells.are_known

    says_flag : (name : Text) → is_one_of valued name ≡ false → is_one_of flags name ≡ true
        → one_text (found_of matches) name ≡ Some (cond (has_flag name said) (codes "true") (codes "false"))
    says_flag name unlike is =
        let differ : bytes_eq words_id name ≡ false = turned words_id name ∙ apart flags name words_id is no_words_flag in
        one_text-rows (found_of matches) name ∙ ap (one_of name) same_rows
        ∙ go (has_flag name said) (used_row name differ ∙ flag_for valued flags no_words no_words_flag name unlike said spells.are_known)
      where
        go : (b : Bool) → row_at name used_rows ≡ cond b (Some (flag_row valued flags no_words no_words_flag name)) None → one_of name last_rows ≡ Some (cond b (codes "true") (codes "false"))
        go true e = ap (option_and_then row_text) (defaults_keep flags name used_rows _ e)
        go false e = ap (option_and_then row_text) (defaults_new flags name used_rows is e)

    pub says : SaysArguments options matches said
    says = record { words = says_words; value = says_value; flag = says_flag }

-- words of which one is a stray one spell no arguments
spells_none : (words : List Word) → list_all (λ word. not (is_stray word)) words ≡ false → arguments_of words ≡ None
spells_none [] e = absurd cc
spells_none (stray ∷ words) e = refl
spells_none (plain word ∷ words) e = ap (option_map (λ rest. operand word ∷ rest)) (spells_none words e)
spells_none (with_value name value ∷ words) e = ap (option_map (λ rest. an_option name value ∷ rest)) (spells_none words e)
spells_none (switch name ∷ words) e = ap (option_map (λ rest. flag name ∷ rest)) (spells_none words e)
spells_none (alone name ∷ []) e = refl
spells_none (alone name ∷ plain value ∷ words) e = ap (option_map (λ rest. an_option name value ∷ rest)) (spells_none words e)
spells_none (alone name ∷ stray ∷ words) e = refl
spells_none (alone name ∷ with_value other value ∷ words) e = refl
spells_none (alone name ∷ switch other ∷ words) e = refl
spells_none (alone name ∷ alone other ∷ words) e = refl

each_word : (o : Options) (words : List Text) → has_no_stray o words ≡ list_all (λ word. not (is_stray word)) (map (kind_of_word o) words)
each_word o [] = refl
each_word o (word ∷ words) = ap (λ (b : Bool). not (is_stray (kind_of_word o word)) && b) (each_word o words)

pub stray_none : (o : Options) (words : List Text) → has_no_stray o words ≡ false → arguments o words ≡ None
unfolding arguments
stray_none o words e = ap once_each (spells_none (map (kind_of_word o) words) (sym (each_word o words) ∙ e))
