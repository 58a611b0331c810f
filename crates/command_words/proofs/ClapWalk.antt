-- What clap's walk over the words of a command line gives, step by step.
use Rattle.std.proofs.Common.{◌≡◌, ◌∙◌, ◌&&◌, ◌||◌, ◌==◌, ◌+◌, suc, take, drop, eqb-true, ℕ, Bool, true, false, not, cond, List, [], ◌∷◌, map, refl, sym, ap, ap₂, subst, arith}
use Rattle.std.specs.Prelude.{⊤, Option, Some, None, option_map, fold}
use Rattle.std.specs.List.{list_all, prefix_len, before_first, after_first}
use Rattle.std.specs.Option.{option_map_or}
use Rattle.std.specs.Str.{bytes_eq}
use Rattle.clap.specs.Lexer.{has_byte, long_of, name_and_value, short_of}
use Rattle.clap.specs.Kinds.{Kinds, or_else}
use Rattle.clap.specs.Walk.{Held, Row, Rule, Waiting, Walk, arg_by_id, arg_by_long, idle, option, positional, settled_rows, used, used_by_id, walked, is_pending}
use Rattle.clap.specs.Simple.{Shape}
use Rattle.clap.proofs.WalkLemmas.{both}
use Rattle.clap.specs.declared.error.kind.ErrorKind.TheVariants as kind
use Rattle.clap.specs.Faults.{settle_fault, turn_fault, use_fault, walk_fault}
use Rattle.command_words.proofs.ClapArguments.{fault_by, faults_with, is_known, rows_with, used_by}
use Rattle.command_words.specs.Arguments.{Argument, Options, Word, after_equals, alone, arguments_of, before_equals, flag, has_no_stray, is_one_of, is_stray, operand, option_word, plain, stray, switch, with_value, kind_of_word}
use Rattle.command_words.specs.Arguments.{option as an_option}
use Rattle.command_words.proofs.Texts.{Text, apart, itself, turned}
use Rattle.command_words.proofs.ClapRules.{flag_rule, id_valued, long_flag, long_valued, rules_for, valued_rule, words_id, words_rule}

-- ---- what a word looks like

abbrev name_length : Text → ℕ
name_length bs = prefix_len (λ x. not (x == 61)) bs

before_same : (bs : Text) → before_first (λ x. x == 61) bs ≡ before_equals bs
before_same [] = refl
before_same (b ∷ bs) = go (b == 61) (before_same bs)
  where
    go : (t : Bool) → before_first (λ x. x == 61) bs ≡ before_equals bs
        → take (cond (not t) (1 + name_length bs) 0) (b ∷ bs) ≡ cond t [] (b ∷ before_equals bs)
    go true e = refl
    go false e =
        let next : 1 + name_length bs ≡ suc (name_length bs) = omega arith in
        ap (λ (n : ℕ). take n (b ∷ bs)) next ∙ ap (λ (rest : Text). b ∷ rest) e

after_same : (bs : Text) → cond (has_byte 61 bs) (Some (after_first (λ x. x == 61) bs)) None ≡ after_equals bs
after_same [] = refl
after_same (b ∷ bs) = go (b == 61) (after_same bs)
  where
    go : (t : Bool) → cond (has_byte 61 bs) (Some (after_first (λ x. x == 61) bs)) None ≡ after_equals bs
        → cond (t || has_byte 61 bs) (Some (drop (cond (not t) (1 + name_length bs) 0 + 1) (b ∷ bs))) None ≡ cond t (Some bs) (after_equals bs)
    go true e = refl
    go false e =
        let next : 1 + name_length bs + 1 ≡ suc (name_length bs + 1) = omega arith in
        ap (λ (n : ℕ). cond (has_byte 61 bs) (Some (drop n (b ∷ bs))) None) next ∙ e

pub split_same : (bs : Text) → name_and_value bs ≡ (before_equals bs, after_equals bs)
split_same bs = ap₂ (λ (name : Text) (value : Option Text). (name, value)) (before_same bs) (after_same bs)

abbrev is_no_stray : Word → Bool
is_no_stray word = not (is_stray word)

module _ (valued flags : List Text) (no_name : is_one_of valued [] ≡ false) (no_flag : is_one_of flags [] ≡ false) where
  abbrev pub options_are : Options
  options_are = record { valued = valued; flags = flags }

  -- what a word that is no stray one is to clap
  abbrev pub Sees : Word → Text → Type 0
  Sees (plain w) word = (w ≡ word) × (bytes_eq word (45 ∷ 45 ∷ []) ≡ false) × (long_of word ≡ None) × (short_of word ≡ None)
  Sees (alone name) word = (bytes_eq word (45 ∷ 45 ∷ []) ≡ false) × (long_of word ≡ Some (name, None)) × (is_one_of valued name ≡ true)
  Sees (with_value name value) word = (bytes_eq word (45 ∷ 45 ∷ []) ≡ false) × (long_of word ≡ Some (name, Some value)) × (is_one_of valued name ≡ true)
  Sees (switch name) word =
      (bytes_eq word (45 ∷ 45 ∷ []) ≡ false) × (long_of word ≡ Some (name, None)) × (is_one_of valued name ≡ false) × (is_one_of flags name ≡ true)
  Sees stray word = ⊤

  sees_option : (rest name : Text) (value : Option Text) → name_and_value rest ≡ (name, value) → (long_of (45 ∷ 45 ∷ rest) ≡ Some (name, value))
      → (bytes_eq (45 ∷ 45 ∷ rest) (45 ∷ 45 ∷ []) ≡ false) → Sees (option_word options_are name value) (45 ∷ 45 ∷ rest)
  sees_option rest name (Some value) split long dashes = go (is_one_of valued name) refl
    where
      go : (b : Bool) → is_one_of valued name ≡ b → Sees (cond b (with_value name value) stray) (45 ∷ 45 ∷ rest)
      go true e = (dashes, long, e)
      go false e = tt
  sees_option rest name None split long dashes = go (is_one_of valued name) refl (is_one_of flags name) refl
    where
      go : (b : Bool) → is_one_of valued name ≡ b → (f : Bool) → is_one_of flags name ≡ f → Sees (cond b (alone name) (cond f (switch name) stray)) (45 ∷ 45 ∷ rest)
      go true e f g = (dashes, long, e)
      go false e true g = (dashes, long, e, g)
      go false e false g = tt

  sees_dashes : Sees (option_word options_are [] None) (45 ∷ 45 ∷ [])
  sees_dashes = rw (no_name, no_flag) tt

  pub sees : (word : Text) → Sees (kind_of_word options_are word) word
  sees [] = tt
  sees (first ∷ []) = go (first == 45) refl
    where
      go : (b : Bool) → (first == 45) ≡ b → Sees (cond b stray (plain (first ∷ []))) (first ∷ [])
      go true e = tt
      go false e = (refl, rw e refl, rw e refl, rw e refl)
  sees (first ∷ second ∷ rest) = go (first == 45) refl (second == 45) refl rest
    where
      go : (b : Bool) → (first == 45) ≡ b → (d : Bool) → (second == 45) ≡ d → (rest : Text)
          → Sees (cond (not b) (plain (first ∷ second ∷ rest)) (cond d (option_word options_are (before_equals rest) (after_equals rest)) stray)) (first ∷ second ∷ rest)
      go false e d f rest = (refl, rw e refl, rw e refl, rw e refl)
      go true e false f rest = tt
      go true e true f [] =
          let a : first ≡ 45 = eqb-true _ _ e in
          let b : second ≡ 45 = eqb-true _ _ f in
          rw (a, b) sees_dashes
      go true e true f (x ∷ xs) =
          let a : first ≡ 45 = eqb-true _ _ e in
          let b : second ≡ 45 = eqb-true _ _ f in
          rw (a, b) (sees_option (x ∷ xs) _ _ (split_same (x ∷ xs)) (ap Some (split_same (x ∷ xs))) refl)

or_else_nil : (k : Kinds) → or_else k [] ≡ k
or_else_nil [] = refl
or_else_nil (x ∷ xs) = refl

or_else_assoc : (a b c : Kinds) → or_else (or_else a b) c ≡ or_else a (or_else b c)
or_else_assoc [] b c = refl
or_else_assoc (x ∷ xs) b c = refl

and_false : (b : Bool) → (b && false) ≡ false
and_false true = refl
and_false false = refl

abbrev pub is_idle : Waiting → Bool
is_idle (option name) = false
is_idle _ = true

abbrev pub held : List Row → Option (Text × List Text) → Held
held rows p = record { rows = rows; pending = p; skip = 0 }

abbrev pub at_word : List Row → Option (Text × List Text) → Waiting → Walk
at_word rows p waiting = record { held = held rows p; waiting = waiting; position = 1; is_trailing = false; stopped = None }

module _ (valued flags : List Text) (s : Shape) (same_rules : s.rules ≡ rules_for valued flags) (once : s.args_override_self ≡ false) where
  abbrev rules : List Rule
  rules = rules_for valued flags

  abbrev settled_before : List Row → Option (Text × List Text) → List Row
  settled_before rows p = settled_rows rules p rows

  abbrev fault_before : List Row → Option (Text × List Text) → Kinds
  fault_before rows p = settle_fault rules false (held rows p)

  -- a word that is no flag, where no option waits
  plain_walked : (word : Text) (rows : List Row) (p : Option (Text × List Text)) (waiting : Waiting) → is_idle waiting ≡ true
      → bytes_eq word (45 ∷ 45 ∷ []) ≡ false → long_of word ≡ None → short_of word ≡ None
      → walked rules [] (at_word rows p waiting) word ≡ at_word (settled_before rows p) (Some (words_id, word ∷ [])) positional
  unfolding walked
  plain_walked word rows p idle is dashes long short = rw (dashes, long, short, and_false (is_pending words_rule p)) refl
  plain_walked word rows p positional is dashes long short = rw (dashes, long, short, and_false (is_pending words_rule p)) refl
  plain_walked word rows p (option name) is dashes long short = absurd cc

  plain_fault : (word : Text) (rows : List Row) (p : Option (Text × List Text)) (waiting : Waiting) → is_idle waiting ≡ true
      → bytes_eq word (45 ∷ 45 ∷ []) ≡ false → long_of word ≡ None → short_of word ≡ None
      → turn_fault s [] (at_word rows p waiting) word ≡ fault_before rows p
  plain_fault word rows p idle is dashes long short = rw (same_rules, once, dashes, long, short, and_false (is_pending words_rule p)) refl
  plain_fault word rows p positional is dashes long short = rw (same_rules, once, dashes, long, short, and_false (is_pending words_rule p)) refl
  plain_fault word rows p (option name) is dashes long short = absurd cc

  -- a value of an option that waits for it
  value_walked : (word name : Text) (rows : List Row) → bytes_eq word (45 ∷ 45 ∷ []) ≡ false → long_of word ≡ None → short_of word ≡ None
      → arg_by_id rules name ≡ Some (valued_rule name)
      → walked rules [] (at_word rows (Some (name, [])) (option name)) word ≡ at_word rows (Some (name, word ∷ [])) idle
  unfolding walked
  value_walked word name rows dashes long short by_id = rw (dashes, long, short, by_id, itself name) refl

  value_fault : (word name : Text) (rows : List Row) → bytes_eq word (45 ∷ 45 ∷ []) ≡ false → long_of word ≡ None → short_of word ≡ None
      → turn_fault s [] (at_word rows (Some (name, [])) (option name)) word ≡ []
  value_fault word name rows dashes long short = rw (same_rules, dashes, long, short) refl

  -- `--name=value`
  with_value_walked : (word name value : Text) (rows : List Row) (p : Option (Text × List Text)) (waiting : Waiting)
      → bytes_eq word (45 ∷ 45 ∷ []) ≡ false → long_of word ≡ Some (name, Some value) → arg_by_long rules name ≡ Some (valued_rule name)
      → walked rules [] (at_word rows p waiting) word ≡ at_word (used (valued_rule name) (value ∷ []) (settled_before rows p)) None idle
  unfolding walked
  with_value_walked word name value rows p idle dashes long by_long = rw (dashes, long, by_long) refl
  with_value_walked word name value rows p positional dashes long by_long = rw (dashes, long, by_long) refl
  with_value_walked word name value rows p (option waits) dashes long by_long = rw (dashes, long, by_long) refl

  with_value_fault : (word name value : Text) (rows : List Row) (p : Option (Text × List Text)) (waiting : Waiting)
      → bytes_eq word (45 ∷ 45 ∷ []) ≡ false → long_of word ≡ Some (name, Some value) → arg_by_long rules name ≡ Some (valued_rule name)
      → turn_fault s [] (at_word rows p waiting) word ≡ or_else (fault_before rows p) (use_fault false (valued_rule name) (value ∷ []) (settled_before rows p))
  with_value_fault word name value rows p idle dashes long by_long = rw (same_rules, once, dashes, long, by_long) (or_else_nil _)
  with_value_fault word name value rows p positional dashes long by_long = rw (same_rules, once, dashes, long, by_long) (or_else_nil _)
  with_value_fault word name value rows p (option waits) dashes long by_long = rw (same_rules, once, dashes, long, by_long) (or_else_nil _)

  -- `--name`, of an option that takes no value
  switch_walked : (word name : Text) (rows : List Row) (p : Option (Text × List Text)) (waiting : Waiting)
      → bytes_eq word (45 ∷ 45 ∷ []) ≡ false → long_of word ≡ Some (name, None) → arg_by_long rules name ≡ Some (flag_rule name)
      → walked rules [] (at_word rows p waiting) word ≡ at_word (used (flag_rule name) [] (settled_before rows p)) None idle
  unfolding walked
  switch_walked word name rows p idle dashes long by_long = rw (dashes, long, by_long) refl
  switch_walked word name rows p positional dashes long by_long = rw (dashes, long, by_long) refl
  switch_walked word name rows p (option waits) dashes long by_long = rw (dashes, long, by_long) refl

  switch_fault : (word name : Text) (rows : List Row) (p : Option (Text × List Text)) (waiting : Waiting)
      → bytes_eq word (45 ∷ 45 ∷ []) ≡ false → long_of word ≡ Some (name, None) → arg_by_long rules name ≡ Some (flag_rule name)
      → turn_fault s [] (at_word rows p waiting) word ≡ or_else (fault_before rows p) (use_fault false (flag_rule name) [] (settled_before rows p))
  switch_fault word name rows p idle dashes long by_long = rw (same_rules, once, dashes, long, by_long) (or_else_nil _)
  switch_fault word name rows p positional dashes long by_long = rw (same_rules, once, dashes, long, by_long) (or_else_nil _)
  switch_fault word name rows p (option waits) dashes long by_long = rw (same_rules, once, dashes, long, by_long) (or_else_nil _)

  -- `--name`, of an option that takes a value
  alone_walked : (word name : Text) (rows : List Row) (p : Option (Text × List Text)) (waiting : Waiting)
      → bytes_eq word (45 ∷ 45 ∷ []) ≡ false → long_of word ≡ Some (name, None) → arg_by_long rules name ≡ Some (valued_rule name)
      → walked rules [] (at_word rows p waiting) word ≡ at_word (settled_before rows p) (Some (name, [])) (option name)
  unfolding walked
  alone_walked word name rows p idle dashes long by_long = rw (dashes, long, by_long) refl
  alone_walked word name rows p positional dashes long by_long = rw (dashes, long, by_long) refl
  alone_walked word name rows p (option waits) dashes long by_long = rw (dashes, long, by_long) refl

  alone_fault : (word name : Text) (rows : List Row) (p : Option (Text × List Text)) (waiting : Waiting)
      → bytes_eq word (45 ∷ 45 ∷ []) ≡ false → long_of word ≡ Some (name, None) → arg_by_long rules name ≡ Some (valued_rule name)
      → turn_fault s [] (at_word rows p waiting) word ≡ fault_before rows p
  alone_fault word name rows p idle dashes long by_long = rw (same_rules, once, dashes, long, by_long) (or_else_nil _)
  alone_fault word name rows p positional dashes long by_long = rw (same_rules, once, dashes, long, by_long) (or_else_nil _)
  alone_fault word name rows p (option waits) dashes long by_long = rw (same_rules, once, dashes, long, by_long) (or_else_nil _)

  -- ---- arguments, one by one

  abbrev known : Argument → Bool
  known = is_known valued flags

  abbrev end_of : Walk → List Text → Walk
  end_of w words = fold (walked rules []) w words

  -- the faults of the words, and of what they leave pending
  abbrev pub faults_of : Walk → List Text → Kinds
  faults_of w words = or_else (walk_fault s [] w words) (settle_fault rules false (end_of w words).held)

  pub record Spelled (w : Walk) (words : List Text) (before : Kinds) (rows : List Row) (arguments : List Argument) : Type 0 where
    pub faults : faults_of w words ≡ or_else before (faults_with arguments rows)
    pub ends : settled_rows rules (end_of w words).held.pending (end_of w words).held.rows ≡ rows_with arguments rows
    pub stopped : (end_of w words).stopped ≡ None
    pub are_known : list_all known arguments ≡ true

  abbrev pub Spells : Walk → List Text → Kinds → List Row → Option (List Argument) → Type 0
  Spells w words before rows None = faults_of w words ≡ [] → ⊥
  Spells w words before rows (Some arguments) = Spelled w words before rows arguments

  faults_more : (w next : Walk) (word : Text) (words : List Text) (turn : Kinds) → walked rules [] w word ≡ next → turn_fault s [] w word ≡ turn
      → faults_of w (word ∷ words) ≡ or_else turn (faults_of next words)
  unfolding walk_fault
  faults_more w next word words turn walks faults =
      let again : walk_fault s [] (walked s.rules [] w word) words ≡ walk_fault s [] next words = ap (λ (r : List Rule). walk_fault s [] (walked r [] w word) words) same_rules
      ∙ ap (λ (v : Walk). walk_fault s [] v words) walks in
      ap (λ (v : Walk). or_else (or_else (turn_fault s [] w word) (walk_fault s [] (walked s.rules [] w word) words)) (settle_fault rules false (end_of v words).held)) walks
      ∙ ap₂ (λ (t k : Kinds). or_else (or_else t k) (settle_fault rules false (end_of next words).held)) faults again
      ∙ (or_else_assoc turn (walk_fault s [] next words) (settle_fault rules false (end_of next words).held))

  or_else_none : (a b : Kinds) → or_else a b ≡ [] → b ≡ []
  or_else_none [] b e = e
  or_else_none (x ∷ xs) b e = absurd cc

  -- one more argument
  one_more : (w next : Walk) (word : Text) (words : List Text) (turn before after : Kinds) (rows : List Row) (a : Argument)
      → walked rules [] w word ≡ next → turn_fault s [] w word ≡ turn → or_else turn after ≡ or_else before (fault_by a rows) → known a ≡ true
      → (spelled : Option (List Argument)) → Spells next words after (used_by a rows) spelled
      → Spells w (word ∷ words) before rows (option_map (λ rest. a ∷ rest) spelled)
  one_more w next word words turn before after rows a walks faults join is None rest =
      λ none. rest (or_else_none turn _ (sym (faults_more w next word words turn walks faults) ∙ none))
  one_more w next word words turn before after rows a walks faults join is (Some arguments) rest = record {
    faults = faults_more w next word words turn walks faults ∙ ap (or_else turn) rest.faults ∙ sym (or_else_assoc turn after _)
        ∙ ap (λ (k : Kinds). or_else k (faults_with arguments (used_by a rows))) join ∙ or_else_assoc before (fault_by a rows) _;
    ends = ap (λ (v : Walk). settled_rows rules (end_of v words).held.pending (end_of v words).held.rows) walks ∙ rest.ends;
    stopped = ap (λ (v : Walk). (end_of v words).stopped) walks ∙ rest.stopped;
    are_known = rw (is, rest.are_known) refl;
  }

  -- a word that is part of an argument
  part : (w next : Walk) (word : Text) (words : List Text) (before : Kinds) (rows : List Row) → walked rules [] w word ≡ next → turn_fault s [] w word ≡ before
      → (spelled : Option (List Argument)) → Spells next words [] rows spelled → Spells w (word ∷ words) before rows spelled
  part w next word words before rows walks faults None rest =
      λ none. rest (or_else_none before _ (sym (faults_more w next word words before walks faults) ∙ none))
  part w next word words before rows walks faults (Some arguments) rest = record {
    faults = faults_more w next word words before walks faults ∙ ap (or_else before) rest.faults;
    ends = ap (λ (v : Walk). settled_rows rules (end_of v words).held.pending (end_of v words).held.rows) walks ∙ rest.ends;
    stopped = ap (λ (v : Walk). (end_of v words).stopped) walks ∙ rest.stopped;
    are_known = rest.are_known;
  }

  module _ (no_name : is_one_of valued [] ≡ false) (no_flag : is_one_of flags [] ≡ false) (no_words : is_one_of valued words_id ≡ false) where
    by_id : (name : Text) → is_one_of valued name ≡ true → arg_by_id rules name ≡ Some (valued_rule name)
    by_id name is = id_valued valued flags name is (turned words_id name ∙ apart valued name words_id is no_words)

    abbrev options : Options
    options = options_are valued flags no_name no_flag

    abbrev words_are : List Text → List Word
    words_are words = map (kind_of_word options) words

    missing : (name : Text) (rows : List Row) (k : Kinds) → is_one_of valued name ≡ true → or_else (fault_before rows (Some (name, []))) k ≡ [] → ⊥
    missing name rows k is none =
        let here : fault_before rows (Some (name, [])) ≡ use_fault false (valued_rule name) [] rows =
        ap (λ (o : Option Rule). option_map_or (λ (a : Rule). use_fault false a [] rows) o []) (by_id name is) in
        let bad : kind.InvalidValue ∷ [] ≡ [] = rw here at none in
        absurd cc

    abbrev pub SpellsIdle : List Text → Type 0
    SpellsIdle words = (rows : List Row) (p : Option (Text × List Text)) (waiting : Waiting) → is_idle waiting ≡ true
        → Spells (at_word rows p waiting) words (fault_before rows p) (settled_before rows p) (arguments_of (words_are words))

    abbrev SpellsWaiting : List Text → Type 0
    SpellsWaiting words = (rows : List Row) (name : Text) → is_one_of valued name ≡ true
        → Spells (at_word rows (Some (name, [])) (option name)) words [] rows (arguments_of (alone name ∷ words_are words))

    step_idle : (word : Text) (words : List Text) (view : Word) → Sees valued flags no_name no_flag view word → is_no_stray view ≡ true → SpellsIdle words → SpellsWaiting words
        → (rows : List Row) (p : Option (Text × List Text)) (waiting : Waiting) → is_idle waiting ≡ true
        → Spells (at_word rows p waiting) (word ∷ words) (fault_before rows p) (settled_before rows p) (arguments_of (view ∷ words_are words))
    step_idle word words (plain w) seen none idles waits rows p waiting is =
        subst (λ (u : Text). Spells (at_word rows p waiting) (word ∷ words) (fault_before rows p) (settled_before rows p) (option_map (λ rest. operand u ∷ rest) (arguments_of (words_are words)))) (sym seen.0)
        (one_more _ _ word words (fault_before rows p) (fault_before rows p) (fault_before (settled_before rows p) (Some (words_id, word ∷ []))) (settled_before rows p) (operand word)
        (plain_walked word rows p waiting is seen.1 seen.2 seen.3) (plain_fault word rows p waiting is seen.1 seen.2 seen.3) refl refl (arguments_of (words_are words))
        (idles (settled_before rows p) (Some (words_id, word ∷ [])) positional refl))
    step_idle word words (with_value name value) seen none idles waits rows p waiting is =
        one_more _ _ word words _ (fault_before rows p) [] (settled_before rows p) (an_option name value)
        (with_value_walked word name value rows p waiting seen.0 seen.1 (long_valued valued flags name seen.2))
        (with_value_fault word name value rows p waiting seen.0 seen.1 (long_valued valued flags name seen.2)) (or_else_nil _) seen.2 (arguments_of (words_are words))
        (idles (used (valued_rule name) (value ∷ []) (settled_before rows p)) None idle refl)
    step_idle word words (switch name) seen none idles waits rows p waiting is =
        one_more _ _ word words _ (fault_before rows p) [] (settled_before rows p) (flag name)
        (switch_walked word name rows p waiting seen.0 seen.1 (long_flag valued flags name seen.2 seen.3))
        (switch_fault word name rows p waiting seen.0 seen.1 (long_flag valued flags name seen.2 seen.3)) (or_else_nil _) (rw (seen.2, seen.3) refl) (arguments_of (words_are words))
        (idles (used (flag_rule name) [] (settled_before rows p)) None idle refl)
    step_idle word words (alone name) seen none idles waits rows p waiting is =
        part _ _ word words (fault_before rows p) (settled_before rows p)
        (alone_walked word name rows p waiting seen.0 seen.1 (long_valued valued flags name seen.2))
        (alone_fault word name rows p waiting seen.0 seen.1 (long_valued valued flags name seen.2)) (arguments_of (alone name ∷ words_are words))
        (waits (settled_before rows p) name seen.2)
    step_idle word words stray seen none idles waits rows p waiting is = absurd cc

    -- the option has no value
    lacks : (word : Text) (words : List Text) (rows : List Row) (name : Text) (more : Kinds) → is_one_of valued name ≡ true
        → turn_fault s [] (at_word rows (Some (name, [])) (option name)) word ≡ or_else (fault_before rows (Some (name, []))) more
        → faults_of (at_word rows (Some (name, [])) (option name)) (word ∷ words) ≡ [] → ⊥
    lacks word words rows name more is turn none =
        missing name rows _ is (sym (or_else_assoc (fault_before rows (Some (name, []))) more _) ∙ sym (faults_more _ _ word words _ refl turn) ∙ none)

    step_waiting : (word : Text) (words : List Text) (view : Word) → Sees valued flags no_name no_flag view word → is_no_stray view ≡ true → SpellsIdle words
        → (rows : List Row) (name : Text) → is_one_of valued name ≡ true
        → Spells (at_word rows (Some (name, [])) (option name)) (word ∷ words) [] rows (arguments_of (alone name ∷ view ∷ words_are words))
    step_waiting word words (plain w) seen none idles rows name is =
        subst (λ (u : Text). Spells (at_word rows (Some (name, [])) (option name)) (word ∷ words) [] rows (option_map (λ rest. an_option name u ∷ rest) (arguments_of (words_are words)))) (sym seen.0)
        (one_more _ _ word words [] [] (fault_before rows (Some (name, word ∷ []))) rows (an_option name word)
        (value_walked word name rows seen.1 seen.2 seen.3 (by_id name is)) (value_fault word name rows seen.1 seen.2 seen.3)
        (ap (λ (o : Option Rule). option_map_or (λ (a : Rule). use_fault false a (word ∷ []) rows) o []) (by_id name is)) is (arguments_of (words_are words))
        (subst (λ (after : List Row). Spells (at_word rows (Some (name, word ∷ [])) idle) words (fault_before rows (Some (name, word ∷ []))) after (arguments_of (words_are words)))
        (ap (λ (o : Option Rule). used_by_id o (word ∷ []) rows) (by_id name is))
        (idles rows (Some (name, word ∷ [])) idle refl)))
    step_waiting word words (with_value other value) seen none idles rows name is =
        lacks word words rows name (use_fault false (valued_rule other) (value ∷ []) (settled_before rows (Some (name, [])))) is (with_value_fault word other value rows (Some (name, [])) (option name) seen.0 seen.1 (long_valued valued flags other seen.2))
    step_waiting word words (switch other) seen none idles rows name is =
        lacks word words rows name (use_fault false (flag_rule other) [] (settled_before rows (Some (name, [])))) is (switch_fault word other rows (Some (name, [])) (option name) seen.0 seen.1 (long_flag valued flags other seen.2 seen.3))
    step_waiting word words (alone other) seen none idles rows name is =
        lacks word words rows name [] is (alone_fault word other rows (Some (name, [])) (option name) seen.0 seen.1 (long_valued valued flags other seen.2) ∙ sym (or_else_nil _))
    step_waiting word words stray seen none idles rows name is = absurd cc

    pub walk_laws : (words : List Text) → has_no_stray options words ≡ true → SpellsIdle words × SpellsWaiting words
    unfolding walk_fault
    walk_laws [] none = (
      λ rows p waiting is. record { faults = sym (or_else_nil _); ends = refl; stopped = refl; are_known = refl },
      λ rows name is empty. missing name rows [] is (or_else_nil _ ∙ empty),
    )
    walk_laws (word ∷ words) none =
        let parts = both (is_no_stray (kind_of_word options word)) _ none in
        let rest = walk_laws words parts.1 in
        let seen = sees valued flags no_name no_flag word in (
          λ rows p waiting is. step_idle word words (kind_of_word options word) seen parts.0 rest.0 rest.1 rows p waiting is,
          λ rows name is. step_waiting word words (kind_of_word options word) seen parts.0 rest.0 rows name is,
        )
