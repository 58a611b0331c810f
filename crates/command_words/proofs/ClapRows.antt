-- What the rows of clap's walk say of the arguments.
use Rattle.std.proofs.Common.{◌≡◌, ◌∙◌, ◌&&◌, ◌||◌, Bool, true, false, not, cond, List, [], ◌∷◌, ◌++◌, map, refl, sym, ap, ap₂, subst, codes, append_assoc, append-nil}
use Rattle.std.specs.Prelude.{Option, Some, None, is_some, unwrap_or, fold, if◌then◌else◌, option_map, option_and_then, slice_get}
use Rattle.std.specs.List.{find, list_all}
use Rattle.std.specs.Str.{bytes_eq}
use Rattle.clap.specs.Kinds.{Kinds, or_else}
use Rattle.clap.specs.Walk.{Row, at_row, has_row, more_values, reading_by, with_default, with_values, without}
use Rattle.clap.specs.declared.builder.value_parser.Reading.{Reading}
use Rattle.clap.specs.declared.parser.matches.ValueSource.{ValueSource}
use Rattle.clap.specs.declared.parser.matches.ValueSource.TheVariants.{CommandLine, DefaultValue}
use Rattle.clap.proofs.WalkLemmas.{both}
use Rattle.command_words.specs.Arguments.{Argument, are_distinct, flag, has_flag, is_one_of, names, operand, operands, option_value}
use Rattle.command_words.specs.Arguments.{option as an_option}
use Rattle.command_words.proofs.Texts.{Text, same, apart, itself, turned}
use Rattle.command_words.proofs.ClapRules.{flag_rule, valued_rule, words_id, words_rule}
use Rattle.command_words.proofs.ClapArguments.{fault_by, faults_with, is_known, rows_with, used_by}

-- ---- the row of an id

abbrev pub row_at : Text → List Row → Option Row
row_at asked rows = find (λ r. bytes_eq r.id asked) rows

pub has_is : (asked : Text) (rows : List Row) → has_row asked rows ≡ is_some (row_at asked rows)
has_is asked [] = refl
has_is asked (r ∷ rows) = go (bytes_eq r.id asked) (has_is asked rows)
  where
    go : (b : Bool) → has_row asked rows ≡ is_some (row_at asked rows) → (b || has_row asked rows) ≡ is_some (cond b (Some r) (row_at asked rows))
    go true e = refl
    go false e = e

none_of : {X : Type 0} (o : Option X) → is_some o ≡ false → o ≡ None
none_of None e = refl
none_of (Some x) e = absurd cc

pub no_row : (asked : Text) (rows : List Row) → has_row asked rows ≡ false → row_at asked rows ≡ None
no_row asked rows e = none_of _ (sym (has_is asked rows) ∙ e)

-- a change at another id
at_other : (id asked : Text) (change : Row → List Row) (missing : List Row) → bytes_eq id asked ≡ false
    → ((r : Row) (rs : List Row) → bytes_eq r.id asked ≡ false → row_at asked (change r ++ rs) ≡ row_at asked rs) → row_at asked missing ≡ None
    → (rows : List Row) → row_at asked (at_row id change missing rows) ≡ row_at asked rows
at_other id asked change missing differ keeps none [] = none
at_other id asked change missing differ keeps none (r ∷ rows) = go (bytes_eq r.id id) refl (at_other id asked change missing differ keeps none rows)
  where
    go : (b : Bool) → bytes_eq r.id id ≡ b → row_at asked (at_row id change missing rows) ≡ row_at asked rows
        → row_at asked (cond b (change r ++ rows) (r ∷ at_row id change missing rows)) ≡ cond (bytes_eq r.id asked) (Some r) (row_at asked rows)
    go true e next =
        let here : bytes_eq r.id asked ≡ false = subst (λ (t : Text). bytes_eq t asked ≡ false) (sym (same r.id id e)) differ in
        rw here (keeps r rows here)
    go false e next = ap (λ (o : Option Row). cond (bytes_eq r.id asked) (Some r) o) next

pub with_other : (id asked : Text) (how : Reading) (source : ValueSource) (values : List Text) (rows : List Row) → bytes_eq id asked ≡ false
    → row_at asked (with_values id how source values rows) ≡ row_at asked rows
with_other id asked how source values rows differ = at_other id asked (more_values source values) _ differ (λ r rs e. rw e refl) (rw differ refl) rows

without_other : (id asked : Text) (rows : List Row) → bytes_eq id asked ≡ false → row_at asked (without id rows) ≡ row_at asked rows
without_other id asked rows differ = at_other id asked (λ _. []) [] differ (λ r rs e. refl) refl rows

set_other : (id asked : Text) (how : Reading) (values : List Text) (rows : List Row) → bytes_eq id asked ≡ false
    → row_at asked (with_values id how CommandLine values (without id rows)) ≡ row_at asked rows
set_other id asked how values rows differ = with_other id asked how CommandLine values (without id rows) differ ∙ without_other id asked rows differ

-- a row of an id that had none
absent : (id : Text) (r : Row) (rows : List Row) → row_at id (r ∷ rows) ≡ None → (bytes_eq r.id id ≡ false) × (row_at id rows ≡ None)
absent id r rows none = go (bytes_eq r.id id) refl none
  where
    go : (b : Bool) → bytes_eq r.id id ≡ b → cond b (Some r) (row_at id rows) ≡ None → (bytes_eq r.id id ≡ false) × (row_at id rows ≡ None)
    go true e none = absurd cc
    go false e none = (e, none)

without_none : (id : Text) (rows : List Row) → row_at id rows ≡ None → without id rows ≡ rows
without_none id [] none = refl
without_none id (r ∷ rows) none =
    let parts = absent id r rows none in
    rw parts.0 (ap (λ (rs : List Row). r ∷ rs) (without_none id rows parts.1))

at_new : (id : Text) (change : Row → List Row) (fresh : Row) → bytes_eq fresh.id id ≡ true → (rows : List Row) → row_at id rows ≡ None
    → row_at id (at_row id change (fresh ∷ []) rows) ≡ Some fresh
at_new id change fresh own [] none = rw own refl
at_new id change fresh own (r ∷ rows) none =
    let parts = absent id r rows none in
    rw (parts.0, parts.0) (at_new id change fresh own rows parts.1)

abbrev pub given_row : Text → Reading → List Text → Row
given_row id how values = record { id = id; values = values; count = None; source = Some CommandLine; reading = how }

set_new : (id : Text) (how : Reading) (values : List Text) (rows : List Row) → row_at id rows ≡ None
    → row_at id (with_values id how CommandLine values (without id rows)) ≡ Some (given_row id how values)
set_new id how values rows none =
    ap (λ (rs : List Row). row_at id (with_values id how CommandLine values rs)) (without_none id rows none)
    ∙ at_new id (more_values CommandLine values) (given_row id how values) (itself id) rows none

set_has : (id : Text) (how : Reading) (values : List Text) (rows : List Row) → row_at id rows ≡ None
    → (asked : Text) → has_row asked (with_values id how CommandLine values (without id rows)) ≡ (bytes_eq id asked || has_row asked rows)
set_has id how values rows none asked = go (bytes_eq id asked) refl
  where
    after : List Row
    after = with_values id how CommandLine values (without id rows)

    go : (b : Bool) → bytes_eq id asked ≡ b → has_row asked after ≡ (b || has_row asked rows)
    go true e = has_is asked after ∙ ap is_some (subst (λ (t : Text). row_at t after ≡ Some (given_row id how values)) (same id asked e) (set_new id how values rows none))
    go false e = has_is asked after ∙ ap is_some (set_other id asked how values rows e) ∙ sym (has_is asked rows)

-- the values of an id
abbrev pub values_at : Text → List Row → List Text
values_at id rows = unwrap_or (option_map (λ r. r.values) (row_at id rows)) []

with_more : (id : Text) (how : Reading) (source : ValueSource) (values : List Text) (rows : List Row)
    → values_at id (with_values id how source values rows) ≡ values_at id rows ++ values
with_more id how source values [] = rw (itself id) refl
with_more id how source values (r ∷ rows) = go (bytes_eq r.id id) refl (with_more id how source values rows)
  where
    missing : List Row
    missing = record { id = id; values = values; count = None; source = Some source; reading = how } ∷ []

    go : (b : Bool) → bytes_eq r.id id ≡ b → values_at id (with_values id how source values rows) ≡ values_at id rows ++ values
        → values_at id (cond b (more_values source values r ++ rows) (r ∷ at_row id (more_values source values) missing rows))
        ≡ unwrap_or (option_map (λ r. r.values) (cond (bytes_eq r.id id) (Some r) (row_at id rows))) [] ++ values
    go true e next = rw e refl
    go false e next = rw e next

-- ---- no fault, exactly where each option stands once

abbrev pub is_nothing : Kinds → Bool
is_nothing [] = true
is_nothing (k ∷ ks) = false

fresh_bools : (differ has others more : Bool) → (not (differ || has) && (not others && more)) ≡ (not (differ || others) && (not has && more))
fresh_bools true has others more = refl
fresh_bools false true true more = refl
fresh_bools false true false more = refl
fresh_bools false false true more = refl
fresh_bools false false false more = refl

swap_bools : (a b c : Bool) → ((a && b) && c) ≡ (b && (a && c))
swap_bools true b c = refl
swap_bools false true c = refl
swap_bools false false c = refl

module _ (valued flags : List Text) (no_words : is_one_of valued words_id ≡ false) (no_words_flag : is_one_of flags words_id ≡ false) where
  abbrev known : Argument → Bool
  known = is_known valued flags

  -- the name of an option is not that of the other words
  option_differs : (name : Text) → is_one_of valued name ≡ true → bytes_eq words_id name ≡ false
  option_differs name is = turned words_id name ∙ apart valued name words_id is no_words

  flag_differs : (name : Text) → (not (is_one_of valued name) && is_one_of flags name) ≡ true → bytes_eq words_id name ≡ false
  flag_differs name is = turned words_id name ∙ apart flags name words_id (both _ _ is).1 no_words_flag

  abbrev fresh : List Text → List Row → Bool
  fresh ns rows = list_all (λ n. not (has_row n rows)) ns

  -- the names that have no row, once one more has one
  fresh_after : (n : Text) (rows after : List Row) → ((asked : Text) → has_row asked after ≡ (bytes_eq n asked || has_row asked rows)) → (ns : List Text)
      → fresh ns after ≡ (not (is_one_of ns n) && fresh ns rows)
  fresh_after n rows after has [] = refl
  fresh_after n rows after has (m ∷ ns) =
      rw (has m, fresh_after n rows after has ns, turned m n) (fresh_bools (bytes_eq n m) (has_row m rows) (is_one_of ns n) (fresh ns rows))

  word_has : (how : Reading) (values : List Text) (rows : List Row) (asked : Text) → bytes_eq words_id asked ≡ false
      → has_row asked (with_values words_id how CommandLine values rows) ≡ has_row asked rows
  word_has how values rows asked differ = has_is asked _ ∙ ap is_some (with_other words_id asked how CommandLine values rows differ) ∙ sym (has_is asked rows)

  fresh_words : (word : Text) (rows : List Row) (arguments : List Argument) → list_all known arguments ≡ true
      → fresh (names arguments) (used_by (operand word) rows) ≡ fresh (names arguments) rows
  fresh_words word rows [] all = refl
  fresh_words word rows (operand other ∷ arguments) all = fresh_words word rows arguments all
  fresh_words word rows (an_option name value ∷ arguments) all =
      let parts = both (is_one_of valued name) _ all in
      ap₂ (λ (a b : Bool). not a && b) (word_has (reading_by words_rule) (word ∷ []) rows name (option_differs name parts.0)) (fresh_words word rows arguments parts.1)
  fresh_words word rows (flag name ∷ arguments) all =
      let parts = both (not (is_one_of valued name) && is_one_of flags name) _ all in
      ap₂ (λ (a b : Bool). not a && b) (word_has (reading_by words_rule) (word ∷ []) rows name (flag_differs name parts.0)) (fresh_words word rows arguments parts.1)

  pub once_law : (arguments : List Argument) → list_all known arguments ≡ true → (rows : List Row)
      → is_nothing (faults_with arguments rows) ≡ (fresh (names arguments) rows && are_distinct (names arguments))
  once_law [] all rows = refl
  once_law (operand word ∷ arguments) all rows =
      once_law arguments all (used_by (operand word) rows) ∙ ap (λ (b : Bool). b && are_distinct (names arguments)) (fresh_words word rows arguments all)
  once_law (an_option name value ∷ arguments) all rows = go (has_row name rows) refl (once_law arguments (both (is_one_of valued name) _ all).1 (used_by (an_option name value) rows))
    where
      go : (b : Bool) → has_row name rows ≡ b
          → is_nothing (faults_with arguments (used_by (an_option name value) rows))
          ≡ (fresh (names arguments) (used_by (an_option name value) rows) && are_distinct (names arguments))
          → is_nothing (faults_with (an_option name value ∷ arguments) rows)
          ≡ ((not (has_row name rows) && fresh (names arguments) rows) && (not (is_one_of (names arguments) name) && are_distinct (names arguments)))
      go true e next = rw e refl
      go false e next = rw e (next
          ∙ ap (λ (b : Bool). b && are_distinct (names arguments)) (fresh_after name rows _ (set_has name (reading_by (valued_rule name)) (value ∷ []) rows (no_row name rows e)) (names arguments))
          ∙ swap_bools (not (is_one_of (names arguments) name)) (fresh (names arguments) rows) (are_distinct (names arguments)))
  once_law (flag name ∷ arguments) all rows = go (has_row name rows) refl (once_law arguments (both (not (is_one_of valued name) && is_one_of flags name) _ all).1 (used_by (flag name) rows))
    where
      go : (b : Bool) → has_row name rows ≡ b
          → is_nothing (faults_with arguments (used_by (flag name) rows))
          ≡ (fresh (names arguments) (used_by (flag name) rows) && are_distinct (names arguments))
          → is_nothing (faults_with (flag name ∷ arguments) rows)
          ≡ ((not (has_row name rows) && fresh (names arguments) rows) && (not (is_one_of (names arguments) name) && are_distinct (names arguments)))
      go true e next = rw e refl
      go false e next = rw e (next
          ∙ ap (λ (b : Bool). b && are_distinct (names arguments)) (fresh_after name rows _ (set_has name (reading_by (flag_rule name)) (codes "true" ∷ []) rows (no_row name rows e)) (names arguments))
          ∙ swap_bools (not (is_one_of (names arguments) name)) (fresh (names arguments) rows) (are_distinct (names arguments)))

  -- ---- what the rows hold

  abbrev pub first_some : {X : Type 0} → Option X → Option X → Option X
  first_some (Some x) o = Some x
  first_some None o = o

  abbrev pub value_row : Text → Text → Row
  value_row name value = given_row name (reading_by (valued_rule name)) (value ∷ [])

  abbrev pub flag_row : Text → Row
  flag_row name = given_row name (reading_by (flag_rule name)) (codes "true" ∷ [])

  -- the row that the arguments give an option
  abbrev pub row_for : Text → List Argument → Option Row
  row_for asked [] = None
  row_for asked (operand word ∷ arguments) = row_for asked arguments
  row_for asked (an_option name value ∷ arguments) = if bytes_eq name asked then Some (value_row name value) else row_for asked arguments
  row_for asked (flag name ∷ arguments) = if bytes_eq name asked then Some (flag_row name) else row_for asked arguments

  tail_nothing : (a b : Kinds) → is_nothing (or_else a b) ≡ true → is_nothing b ≡ true
  tail_nothing [] b e = e
  tail_nothing (x ∷ xs) b e = absurd cc

  set_row : (name asked : Text) (how : Reading) (values : List Text) (rows : List Row) (last next : Option Row) → has_row name rows ≡ false
      → next ≡ first_some (row_at asked (with_values name how CommandLine values (without name rows))) last
      → next ≡ first_some (row_at asked rows) (if bytes_eq name asked then Some (given_row name how values) else last)
  set_row name asked how values rows last next none is = go (bytes_eq name asked) refl
    where
      go : (b : Bool) → bytes_eq name asked ≡ b → next ≡ first_some (row_at asked rows) (cond b (Some (given_row name how values)) last)
      go true e =
          let own : row_at asked (with_values name how CommandLine values (without name rows)) ≡ Some (given_row name how values) =
          subst (λ (t : Text). row_at t (with_values name how CommandLine values (without name rows)) ≡ Some (given_row name how values)) (same name asked e) (set_new name how values rows (no_row name rows none)) in
          let before : row_at asked rows ≡ None = subst (λ (t : Text). row_at t rows ≡ None) (same name asked e) (no_row name rows none) in
          is ∙ ap (λ (o : Option Row). first_some o last) own ∙ sym (ap (λ (o : Option Row). first_some o (Some (given_row name how values))) before)
      go false e = is ∙ ap (λ (o : Option Row). first_some o last) (set_other name asked how values rows e)

  pub row_law : (arguments : List Argument) → (rows : List Row) (asked : Text) → bytes_eq words_id asked ≡ false
      → is_nothing (faults_with arguments rows) ≡ true
      → row_at asked (rows_with arguments rows) ≡ first_some (row_at asked rows) (row_for asked arguments)
  row_law [] rows asked differ none = go (row_at asked rows)
    where
      go : (o : Option Row) → o ≡ first_some o None
      go None = refl
      go (Some r) = refl
  row_law (operand word ∷ arguments) rows asked differ none =
      row_law arguments (used_by (operand word) rows) asked differ none
      ∙ ap (λ (o : Option Row). first_some o (row_for asked arguments)) (with_other words_id asked (reading_by words_rule) CommandLine (word ∷ []) rows differ)
  row_law (an_option name value ∷ arguments) rows asked differ none = go (has_row name rows) refl
      (row_law arguments (used_by (an_option name value) rows) asked differ (tail_nothing (fault_by (an_option name value) rows) _ none))
    where
      go : (b : Bool) → has_row name rows ≡ b
          → row_at asked (rows_with arguments (used_by (an_option name value) rows))
          ≡ first_some (row_at asked (used_by (an_option name value) rows)) (row_for asked arguments)
          → row_at asked (rows_with (an_option name value ∷ arguments) rows) ≡ first_some (row_at asked rows) (row_for asked (an_option name value ∷ arguments))
      go true e next = let bad : false ≡ true = rw e at none in absurd cc
      go false e next = set_row name asked (reading_by (valued_rule name)) (value ∷ []) rows (row_for asked arguments) _ e next
  row_law (flag name ∷ arguments) rows asked differ none = go (has_row name rows) refl
      (row_law arguments (used_by (flag name) rows) asked differ (tail_nothing (fault_by (flag name) rows) _ none))
    where
      go : (b : Bool) → has_row name rows ≡ b
          → row_at asked (rows_with arguments (used_by (flag name) rows))
          ≡ first_some (row_at asked (used_by (flag name) rows)) (row_for asked arguments)
          → row_at asked (rows_with (flag name ∷ arguments) rows) ≡ first_some (row_at asked rows) (row_for asked (flag name ∷ arguments))
      go true e next = let bad : false ≡ true = rw e at none in absurd cc
      go false e next = set_row name asked (reading_by (flag_rule name)) (codes "true" ∷ []) rows (row_for asked arguments) _ e next

  -- the words that stand by themselves
  pub words_law : (arguments : List Argument) → list_all known arguments ≡ true → (rows : List Row)
      → values_at words_id (rows_with arguments rows) ≡ values_at words_id rows ++ operands arguments
  words_law [] all rows = sym (append-nil _)
  words_law (operand word ∷ arguments) all rows =
      words_law arguments all (used_by (operand word) rows)
      ∙ ap (λ (ws : List Text). ws ++ operands arguments) (with_more words_id (reading_by words_rule) CommandLine (word ∷ []) rows)
      ∙ append_assoc (values_at words_id rows) (word ∷ []) (operands arguments)
  words_law (an_option name value ∷ arguments) all rows =
      let parts = both (is_one_of valued name) _ all in
      words_law arguments parts.1 (used_by (an_option name value) rows)
      ∙ ap (λ (o : Option Row). unwrap_or (option_map (λ r. r.values) o) [] ++ operands arguments)
      (set_other name words_id (reading_by (valued_rule name)) (value ∷ []) rows (turned name words_id ∙ option_differs name parts.0))
  words_law (flag name ∷ arguments) all rows =
      let parts = both (not (is_one_of valued name) && is_one_of flags name) _ all in
      words_law arguments parts.1 (used_by (flag name) rows)
      ∙ ap (λ (o : Option Row). unwrap_or (option_map (λ r. r.values) o) [] ++ operands arguments)
      (set_other name words_id (reading_by (flag_rule name)) (codes "true" ∷ []) rows (turned name words_id ∙ flag_differs name parts.0))

  -- the value of an option
  pub value_for : (asked : Text) → is_one_of valued asked ≡ true → (arguments : List Argument) → list_all known arguments ≡ true
      → option_and_then (λ r. slice_get r.values 0) (row_for asked arguments) ≡ option_value asked arguments
  value_for asked is [] all = refl
  value_for asked is (operand word ∷ arguments) all = value_for asked is arguments all
  value_for asked is (an_option name value ∷ arguments) all = go (bytes_eq name asked) (value_for asked is arguments (both (is_one_of valued name) _ all).1)
    where
      go : (b : Bool) → option_and_then (λ r. slice_get r.values 0) (row_for asked arguments) ≡ option_value asked arguments
          → option_and_then (λ r. slice_get r.values 0) (cond b (Some (value_row name value)) (row_for asked arguments)) ≡ cond b (Some value) (option_value asked arguments)
      go true next = refl
      go false next = next
  value_for asked is (flag name ∷ arguments) all =
      let parts = both (not (is_one_of valued name) && is_one_of flags name) _ all in
      let unlike : is_one_of valued name ≡ false = negated (is_one_of valued name) (both _ _ parts.0).0 in
      let differ : bytes_eq name asked ≡ false = turned name asked ∙ apart valued asked name is unlike in
      rw differ (value_for asked is arguments parts.1)
    where
      negated : (b : Bool) → not b ≡ true → b ≡ false
      negated false e = refl
      negated true e = absurd cc

  -- whether an option stands that takes no value
  pub flag_for : (asked : Text) → is_one_of valued asked ≡ false → (arguments : List Argument) → list_all known arguments ≡ true
      → row_for asked arguments ≡ (if has_flag asked arguments then Some (flag_row asked) else None)
  flag_for asked none [] all = refl
  flag_for asked none (operand word ∷ arguments) all = flag_for asked none arguments all
  flag_for asked none (an_option name value ∷ arguments) all =
      let parts = both (is_one_of valued name) _ all in
      rw (apart valued name asked parts.0 none) (flag_for asked none arguments parts.1)
  flag_for asked none (flag name ∷ arguments) all =
      go (bytes_eq name asked) refl (flag_for asked none arguments (both (not (is_one_of valued name) && is_one_of flags name) _ all).1)
    where
      go : (b : Bool) → bytes_eq name asked ≡ b → row_for asked arguments ≡ cond (has_flag asked arguments) (Some (flag_row asked)) None
          → cond b (Some (flag_row name)) (row_for asked arguments) ≡ cond (b || has_flag asked arguments) (Some (flag_row asked)) None
      go true e next = ap (λ (t : Text). Some (flag_row t)) (same name asked e)
      go false e next = next

-- ---- defaults

abbrev pub default_row : Text → Row
default_row name = record { id = name; values = codes "false" ∷ []; count = None; source = Some DefaultValue; reading = reading_by (flag_rule name) }

default_other : (name asked : Text) (rows : List Row) → bytes_eq name asked ≡ false → row_at asked (with_default rows (flag_rule name)) ≡ row_at asked rows
default_other name asked rows differ = go (has_row name rows)
  where
    go : (b : Bool) → row_at asked (cond b rows (with_values name (reading_by (flag_rule name)) DefaultValue (codes "false" ∷ []) rows)) ≡ row_at asked rows
    go true = refl
    go false = with_other name asked (reading_by (flag_rule name)) DefaultValue (codes "false" ∷ []) rows differ

default_kept : (name asked : Text) (rows : List Row) (r : Row) → row_at asked rows ≡ Some r → row_at asked (with_default rows (flag_rule name)) ≡ Some r
default_kept name asked rows r is = go (bytes_eq name asked) refl
  where
    go : (b : Bool) → bytes_eq name asked ≡ b → row_at asked (with_default rows (flag_rule name)) ≡ Some r
    go true e =
        let has : has_row name rows ≡ true = has_is name rows ∙ ap (λ (t : Text). is_some (row_at t rows)) (same name asked e) ∙ ap is_some is in
        rw has is
    go false e = default_other name asked rows e ∙ is

pub defaults_keep : (flags : List Text) (asked : Text) (rows : List Row) (r : Row) → row_at asked rows ≡ Some r → row_at asked (fold with_default rows (map flag_rule flags)) ≡ Some r
defaults_keep [] asked rows r is = is
defaults_keep (n ∷ flags) asked rows r is = defaults_keep flags asked (with_default rows (flag_rule n)) r (default_kept n asked rows r is)

-- the rows of what is no flag
pub defaults_other : (flags : List Text) (asked : Text) (rows : List Row) → is_one_of flags asked ≡ false → row_at asked (fold with_default rows (map flag_rule flags)) ≡ row_at asked rows
defaults_other [] asked rows none = refl
defaults_other (n ∷ flags) asked rows none =
    let parts = neither (bytes_eq n asked) (is_one_of flags asked) none in
    defaults_other flags asked (with_default rows (flag_rule n)) parts.1 ∙ default_other n asked rows parts.0
  where
    neither : (a b : Bool) → (a || b) ≡ false → (a ≡ false) × (b ≡ false)
    neither true b e = absurd cc
    neither false b e = (refl, e)

default_new : (asked : Text) (rows : List Row) → row_at asked rows ≡ None → row_at asked (with_default rows (flag_rule asked)) ≡ Some (default_row asked)
default_new asked rows none =
    let has : has_row asked rows ≡ false = has_is asked rows ∙ ap is_some none in
    rw has (at_new asked (more_values DefaultValue (codes "false" ∷ [])) (default_row asked) (itself asked) rows none)

-- a flag that does not stand has its default
pub defaults_new : (flags : List Text) (asked : Text) (rows : List Row) → is_one_of flags asked ≡ true → row_at asked rows ≡ None
    → row_at asked (fold with_default rows (map flag_rule flags)) ≡ Some (default_row asked)
defaults_new [] asked rows is none = absurd cc
defaults_new (n ∷ flags) asked rows is none = go (bytes_eq n asked) refl is (λ h. defaults_new flags asked (with_default rows (flag_rule n)) h)
  where
    go : (b : Bool) → bytes_eq n asked ≡ b → (b || is_one_of flags asked) ≡ true
        → (is_one_of flags asked ≡ true → row_at asked (with_default rows (flag_rule n)) ≡ None
        → row_at asked (fold with_default (with_default rows (flag_rule n)) (map flag_rule flags)) ≡ Some (default_row asked))
        → row_at asked (fold with_default (with_default rows (flag_rule n)) (map flag_rule flags)) ≡ Some (default_row asked)
    go true e is next = defaults_keep flags asked (with_default rows (flag_rule n)) (default_row asked)
        (subst (λ (t : Text). row_at asked (with_default rows (flag_rule t)) ≡ Some (default_row asked)) (sym (same n asked e)) (default_new asked rows none))
    go false e is next = next is (default_other n asked rows e ∙ none)
