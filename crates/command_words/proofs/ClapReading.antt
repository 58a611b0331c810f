-- From what clap's calls ensure to what its matches say.
use Rattle.std.proofs.Common.{◌≡◌, inl, inr, ◌∙◌, ◌&&◌, ◌+◌, ◌<◌, ℕ, zero, suc, Bool, true, false, List, [], ◌∷◌, map, length, take, refl, sym, ap, subst, arith, slice_index_or}
use Rattle.std.specs.Prelude.{Option, Some, None, fold}
use Rattle.std.specs.Borrow.{Bor}
use Rattle.std.specs.List.{list_all}
use Rattle.clap.specs.Kinds.{HasKind}
use Rattle.clap.specs.Values.{kind_of}
use Rattle.clap.specs.Simple.{App, HasMatchesOf}
use Rattle.clap.specs.Faults.{fault_of, is_simple_and_free}
use Rattle.clap.specs.declared.error.Error.{Error}
use Rattle.clap.specs.declared.error.kind.ErrorKind.TheVariants as kind
use Rattle.clap.specs.declared.parser.matches.ArgMatches.{ArgMatches}
use Rattle.command_words.specs.Arguments.{Argument, Options, arguments, has_no_stray}
use Rattle.command_words.specs.ClapCommand.{AreMatchesOf, AreNames, app_for}
use Rattle.command_words.proofs.Texts.{Text}
use Rattle.command_words.proofs.ClapBuilt.{is_simple_free}
use Rattle.command_words.proofs.ClapLaw.{fault_free, given_no_fault, says, stray_none}

-- a test of each word by its text
pub all_texts : {X : Type 0} (test : Text → Bool) (text : X → Text) (xs : List X) → list_all (λ x. test (text x)) xs ≡ list_all test (map text xs)
all_texts test text [] = refl
all_texts test text (x ∷ xs) = ap (λ (b : Bool). test (text x) && b) (all_texts test text xs)

-- one more name
pub more_names : (step : App → Text → App) (a : App) (names : List (Bor Text)) (i : ℕ) (d : Bor Text) → i < length names
    → fold step a (map (λ s. s.now) (take (i + 1) names)) ≡ step (fold step a (map (λ s. s.now) (take i names))) (slice_index_or names i d).now
more_names step a [] i d lt = absurd (omega arith)
more_names step a (n ∷ names) zero d lt = refl
more_names step a (n ∷ names) (suc i) d lt =
    let next : suc i + 1 ≡ suc (i + 1) = omega arith in
    ap (λ (k : ℕ). fold step a (map (λ s. s.now) (take k (n ∷ names)))) next ∙ more_names step (step a n.now) names i d (omega arith)

module _ (o : Options) (named : AreNames o) (words : List Text) where
  -- a stray word
  pub left_none : has_no_stray o words ≡ false → AreMatchesOf o (arguments o words) None
  left_none stray = rw (stray_none o words stray) tt

  pub is_free : (app : App) → app ≡ app_for o → is_simple_and_free app ≡ true
  is_free app is = ap is_simple_and_free is ∙ is_simple_free o.valued o.flags

  -- matches
  pub left_some : has_no_stray o words ≡ true → (app : App) → app ≡ app_for o → (matches : ArgMatches) → HasMatchesOf app words matches → fault_of app words ≡ []
      → AreMatchesOf o (arguments o words) (Some matches)
  left_some none app is matches matched free =
      let found = fault_free o.valued o.flags named.0 named.1 named.2 named.3 words none (sym (ap (λ (a : App). fault_of a words) is) ∙ free) in
      let same = subst (λ (a : App). HasMatchesOf a words matches) is matched in
      rw found.1 (says o.valued o.flags named.0 named.1 named.2 named.3 words none matches same found.0 found.2 found.3)

  -- an error that is no want of memory
  pub left_err : has_no_stray o words ≡ true → (app : App) → app ≡ app_for o → (error : Error) → HasKind (fault_of app words) error → (kind_of error ≡ kind.OutOfMemory → ⊥)
      → AreMatchesOf o (arguments o words) None
  left_err none app is error kinds other = go (arguments o words) refl
    where
      go : (said : Option (List Argument)) → arguments o words ≡ said → AreMatchesOf o said None
      go None e = tt
      go (Some said) e =
          let free : fault_of app words ≡ [] = ap (λ (a : App). fault_of a words) is ∙ given_no_fault o.valued o.flags named.0 named.1 named.2 named.3 words none said e in
          absurd (elim (rw free at kinds) [ inl memory ↦ other memory | inr among ↦ among ])
