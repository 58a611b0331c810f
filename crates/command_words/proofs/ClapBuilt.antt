-- What building makes of the command.
use Rattle.std.proofs.Common.{◌≡◌, ◌∙◌, ◌&&◌, ◌||◌, ◌+◌, ℕ, Bool, true, false, not, cond, List, [], ◌∷◌, ◌++◌, map, refl, sym, ap, codes, arith, append_assoc, append-nil}
use Rattle.std.specs.Prelude.{is_some, fold}
use Rattle.std.specs.List.{list_all, list_any}
use Rattle.clap.specs.Kinds.{check_kinds, or_else}
use Rattle.clap.specs.Walk.{Row, Rule, has_row, is_early_multiple, with_default}
use Rattle.clap.specs.Simple.{App, Shape, built, filled_from, is_in_order, new_shape, on_top, with_rule}
use Rattle.clap.specs.Faults.{check_fault, defaults_fault, is_simple_and_free}
use Rattle.clap.specs.Takes.{is_given}
use Rattle.command_words.specs.ClapCommand.{app_for, flag_argument, valued_argument, with_valued, words_app, words_argument}
use Rattle.command_words.proofs.Texts.{Text}
use Rattle.command_words.proofs.ClapRules.{flag_rule, named_rules, rules_for, valued_rule, words_rule}

abbrev with_rules : App → List Rule → App
with_rules a rules = on_top (λ s. record s { rules = s.rules ++ rules }) a

added : (of_name : Text → Rule) (a : App) (ns : List Text) → fold (λ a name. with_rule a (of_name name)) a ns ≡ with_rules a (map of_name ns)
added of_name a [] = ap (λ (rules : List Rule). on_top (λ s. record s { rules = rules }) a) (sym (append-nil a.top.rules))
added of_name a (n ∷ ns) =
    added of_name (with_rule a (of_name n)) ns ∙ ap (λ (rules : List Rule). on_top (λ s. record s { rules = rules }) a) (append_assoc a.top.rules (of_name n ∷ []) (map of_name ns))

abbrev named_arguments : List Text → List Text → List Rule
named_arguments valued flags = map valued_argument valued ++ map flag_argument flags

abbrev shape : List Rule → Shape
shape rules = record (new_shape (codes "htss")) { rules = rules; no_binary_name = true; disable_help_flag = true }

abbrev pub built_shape : List Rule → Shape
built_shape rules = record (new_shape (codes "htss")) { rules = rules; no_binary_name = true; disable_help_flag = true; disable_help_subcommand = true; is_built = true }

pub app_is : (valued flags : List Text) → app_for (record { valued = valued; flags = flags }) ≡ record { top = shape (words_argument ∷ named_arguments valued flags); subs = [] }
app_is valued flags =
    added flag_argument (with_valued words_app valued) flags
    ∙ ap (λ (a : App). with_rules a (map flag_argument flags)) (added valued_argument words_app valued)

filled_flags : (i : ℕ) (flags : List Text) → filled_from i (map flag_argument flags) ≡ map flag_rule flags
filled_flags i [] = refl
filled_flags i (n ∷ flags) = ap (λ (rules : List Rule). flag_rule n ∷ rules) (filled_flags i flags)

filled_named : (i : ℕ) (valued flags : List Text) → filled_from i (named_arguments valued flags) ≡ named_rules valued flags
filled_named i [] flags = filled_flags i flags
filled_named i (n ∷ valued) flags = ap (λ (rules : List Rule). valued_rule n ∷ rules) (filled_named i valued flags)

pub built_is : (valued flags : List Text) → built (app_for (record { valued = valued; flags = flags })) ≡ record { top = built_shape (rules_for valued flags); subs = [] }
built_is valued flags =
    ap built (app_is valued flags) ∙ ap (λ (rules : List Rule). record { top = built_shape (words_rule ∷ rules); subs = [] }) (filled_named 2 valued flags)

-- a test that each rule passes
all_flags : (test : Rule → Bool) (of_flag : Text → Rule) → ((n : Text) → test (of_flag n) ≡ true) → (flags : List Text) → list_all test (map of_flag flags) ≡ true
all_flags test of_flag passes [] = refl
all_flags test of_flag passes (n ∷ flags) = rw (passes n) (all_flags test of_flag passes flags)

all_named : (test : Rule → Bool) (of_value of_flag : Text → Rule) → ((n : Text) → test (of_value n) ≡ true) → ((n : Text) → test (of_flag n) ≡ true)
    → (valued flags : List Text) → list_all test (map of_value valued ++ map of_flag flags) ≡ true
all_named test of_value of_flag value passes [] flags = all_flags test of_flag passes flags
all_named test of_value of_flag value passes (n ∷ valued) flags = rw (value n) (all_named test of_value of_flag value passes valued flags)

any_named : (test : Rule → Bool) → ((n : Text) → test (valued_rule n) ≡ false) → ((n : Text) → test (flag_rule n) ≡ false)
    → (valued flags : List Text) → list_any test (named_rules valued flags) ≡ false
any_named test value passes [] [] = refl
any_named test value passes [] (n ∷ flags) = rw (passes n) (any_named test value passes [] flags)
any_named test value passes (n ∷ valued) flags = rw (value n) (any_named test value passes valued flags)

count_flags : (k : ℕ) (flags : List Text) → fold (λ n (a : Rule). n + cond (is_some a.index) 1 0) k (map flag_rule flags) ≡ k
count_flags k [] = refl
count_flags k (n ∷ flags) = let same : k + 0 ≡ k = omega arith in ap (λ (j : ℕ). fold (λ n (a : Rule). n + cond (is_some a.index) 1 0) j (map flag_rule flags)) same ∙ count_flags k flags

count_named : (k : ℕ) (valued flags : List Text) → fold (λ n (a : Rule). n + cond (is_some a.index) 1 0) k (named_rules valued flags) ≡ k
count_named k [] flags = count_flags k flags
count_named k (n ∷ valued) flags =
    let same : k + 0 ≡ k = omega arith in
    ap (λ (j : ℕ). fold (λ n (a : Rule). n + cond (is_some a.index) 1 0) j (named_rules valued flags)) same ∙ count_named k valued flags

in_order : (valued flags : List Text) → is_in_order (rules_for valued flags) ≡ true
in_order valued flags =
    ap (λ (k : ℕ). not (list_any (is_early_multiple k) (rules_for valued flags))) (count_named 1 valued flags)
    ∙ ap not (any_named (is_early_multiple 1) (λ n. refl) (λ n. refl) valued flags)

pub is_simple_free : (valued flags : List Text) → is_simple_and_free (app_for (record { valued = valued; flags = flags })) ≡ true
is_simple_free valued flags = rw (
  built_is valued flags,
  app_is valued flags,
  all_named (λ a. a.is_simple) valued_argument flag_argument (λ n. refl) (λ n. refl) valued flags,
  all_named (λ a. a.is_simple) valued_rule flag_rule (λ n. refl) (λ n. refl) valued flags,
  all_named (λ a. a.is_free) valued_rule flag_rule (λ n. refl) (λ n. refl) valued flags,
  in_order valued flags,
) refl

-- ---- after the walk

cond_same : {X : Type 0} (b : Bool) (x : X) → cond b x x ≡ x
cond_same true x = refl
cond_same false x = refl

or_true : (b : Bool) → (b || true) ≡ true
or_true true = refl
or_true false = refl

flags_pass : (flags : List Text) (rows : List Row) → defaults_fault rows (map flag_rule flags) ≡ []
unfolding defaults_fault
flags_pass [] rows = refl
flags_pass (n ∷ flags) rows = go (has_row n rows) (flags_pass flags (with_default rows (flag_rule n)))
  where
    go : (b : Bool) → defaults_fault (with_default rows (flag_rule n)) (map flag_rule flags) ≡ []
        → or_else (cond (b || false) [] []) (defaults_fault (with_default rows (flag_rule n)) (map flag_rule flags)) ≡ []
    go true e = e
    go false e = e

named_pass : (valued flags : List Text) (rows : List Row) → defaults_fault rows (named_rules valued flags) ≡ []
unfolding defaults_fault
named_pass [] flags rows = flags_pass flags rows
named_pass (n ∷ valued) flags rows = rw (or_true (has_row n rows)) (named_pass valued flags (with_default rows (valued_rule n)))

pub defaults_pass : (valued flags : List Text) (rows : List Row) → defaults_fault rows (rules_for valued flags) ≡ []
unfolding defaults_fault
defaults_pass valued flags rows = rw (or_true (has_row (codes "words") rows)) (named_pass valued flags (with_default rows words_rule))

pub checks_pass : (valued flags : List Text) (rows : List Row) (has_subcommand : Bool) → check_fault (built_shape (rules_for valued flags)) rows has_subcommand ≡ []
checks_pass valued flags rows has_subcommand =
    ap (λ (b : Bool). check_kinds (not has_subcommand && false) (not has_subcommand && false) (true && b)) (any_named (λ a. a.required && not (is_given a.id rows)) (λ n. refl) (λ n. refl) valued flags)
    ∙ go has_subcommand
  where
    go : (b : Bool) → check_kinds (not b && false) (not b && false) false ≡ []
    go true = refl
    go false = refl

-- an option that takes a value has no default
pub no_defaults : (valued : List Text) (more : List Rule) (rows : List Row) → fold with_default rows (map valued_rule valued ++ more) ≡ fold with_default rows more
no_defaults [] more rows = refl
no_defaults (n ∷ valued) more rows = ap (λ (after : List Row). fold with_default after (map valued_rule valued ++ more)) (cond_same (has_row n rows) rows) ∙ no_defaults valued more rows

pub finished_is : (valued flags : List Text) (rows : List Row) → fold with_default rows (rules_for valued flags) ≡ fold with_default rows (map flag_rule flags)
finished_is valued flags rows =
    ap (λ (after : List Row). fold with_default after (named_rules valued flags)) (cond_same (has_row (codes "words") rows) rows)
    ∙ no_defaults valued (map flag_rule flags) rows
