-- One more block is kept; and an event without a record is as good as not live.
use Rattle.std.proofs.Common.{◌≡◌, ◌⊎◌, inl, inr, ℕ, zero, suc, ◌+◌, ◌-◌, ◌≤◌, List, [], ◌∷◌, ◌++◌, length, take, refl, sym, ap, ◌∙◌, subst, arith}
use Rattle.std.specs.Prelude.{Some, slice_get, slice_index}
use Rattle.std.specs.List.{flat_map}
use Rattle.std.proofs.lemmas.Grind.{flat_map-append}
use Rattle.std.proofs.lemmas.List.{map-append, length_push}
use Rattle.std.proofs.lemmas.List.Concat.{flat_map-cons}
use Rattle.std.proofs.lemmas.List.Elements.{All-push}
use Rattle.htss_defs.specs.declared.query.QueryAtom.{QueryAtom}
use Rattle.htss_defs.specs.QueryGraph.{QueryGraph, IsQuery}
use Rattle.htss_defs.specs.Embedding.{NoEmbedding}
use Rattle.htss_defs.specs.Screened.{IsScreened}
use Rattle.report_text.specs.declared.report.Block.{Block}
use Rattle.report_rules.specs.Dealing.{Dealt}
use Rattle.report_rules.specs.Rules.{Line}
use Rattle.report_rules.specs.Reports.{Done, done_block, done_lines, IsByItsFile}
use Rattle.report_rules.specs.Faults.{Setting, keeps, AreKept, no_molecule}

-- ---- no molecule

pub unscreened : (q : QueryGraph) → IsScreened q no_molecule → ⊥
unscreened q is = absurd (omega (arith, is.within.0, is.within.1))

first_atom : (atoms : List QueryAtom) → 1 ≤ length atoms → (a : QueryAtom) × (slice_get atoms 0 ≡ Some a)
first_atom [] some = absurd (omega arith)
first_atom (a ∷ atoms) some = (a, refl)

nothing_there : {X : Type 0} (i : ℕ) (x : X) → slice_get [] i ≡ Some x → ⊥
nothing_there i x at = absurd cc

pub no_embedding : (q : QueryGraph) → IsQuery q → NoEmbedding q no_molecule
no_embedding q query places embeds =
    let (asked, at) = first_atom q.atoms query.atoms.0 in
    let lands = embeds.atoms 0 asked at in
    nothing_there (slice_index places 0 - 1) lands.atom lands.here.1

-- ---- one more block

-- a split of two lists at an element is one of the first or of the second
split_both : (xs ys before : List Line) (line : Line) (after : List Line) → xs ++ ys ≡ before ++ line ∷ after
    → ((rest : List Line) × (xs ≡ before ++ line ∷ rest)) ⊎ ((first : List Line) × (before ≡ xs ++ first) × (ys ≡ first ++ line ∷ after))
split_both [] ys before line after same = inr (before, refl, same)
split_both (x ∷ xs) ys [] line after same =
    let here : x ≡ line = cc in
    inl (xs, ap (λ l. l ∷ xs) here)
split_both (x ∷ xs) ys (b ∷ before) line after same =
    let here : x ≡ b = cc in
    let rest : xs ++ ys ≡ before ++ line ∷ after = cc in
    elim (split_both xs ys before line after rest) [
      | inl (more, is) ↦ inl (more, cc (here, is))
      | inr (first, is, other) ↦ inr (first, cc (here, is), other)
    ]

take_more : {X : Type 0} (xs : List X) (n : ℕ) (x : X) → slice_get xs n ≡ Some x → take (n + 1) xs ≡ take n xs ++ x ∷ []
take_more [] n x at = absurd cc
take_more (y ∷ xs) zero x at =
    let here : y ≡ x = cc in
    ap (λ l. l ∷ []) here
take_more (y ∷ xs) (suc n) x at =
    let e : suc n + 1 ≡ suc (n + 1) = omega arith in
    ap (λ k. take k (y ∷ xs)) e ∙ ap (λ l. y ∷ l) (take_more xs n x at)

pub kept_more : (s : Setting) (jobs : List Dealt) (blocks : List Block) (done : List Done) (one : Done) → AreKept s jobs blocks done
    → slice_get jobs (length done) ≡ Some one.dealt → slice_get blocks (length done) ≡ Some (done_block one) → IsByItsFile s.files s.budget one
    → ((first last : List Line) (line : Line) → done_lines one ≡ first ++ line ∷ last → keeps s (flat_map done_lines done ++ first) line)
    → AreKept s jobs blocks (done ++ one ∷ [])
kept_more s jobs blocks done one kept job here by rules = record {
  of_jobs = map-append (λ (d : Done). d.dealt) done (one ∷ []) ∙ ap (λ l. l ++ one.dealt ∷ []) kept.of_jobs ∙ sym (take_more jobs (length done) one.dealt job)
      ∙ ap (λ n. take n jobs) (sym (length_push done one));
  by_files = All-push (IsByItsFile s.files s.budget) done one kept.by_files by;
  blocks_are = map-append done_block done (one ∷ []) ∙ ap (λ l. l ++ done_block one ∷ []) kept.blocks_are ∙ sym (take_more blocks (length done) (done_block one) here)
      ∙ ap (λ n. take n blocks) (sym (length_push done one));
  rules = λ earlier later line split. elim (split_both (flat_map done_lines done) (done_lines one) earlier line later (sym (whole done one) ∙ split)) [
    | inl (rest, is) ↦ kept.rules earlier rest line is
    | inr (first, is, other) ↦ subst (λ l. keeps s l line) (sym is) (rules first later line other)
  ];
}
  where
    append_none : (xs : List Line) → xs ++ [] ≡ xs
    append_none [] = refl
    append_none (x ∷ xs) = ap (λ l. x ∷ l) (append_none xs)

    whole : (done : List Done) (one : Done) → flat_map done_lines (done ++ one ∷ []) ≡ flat_map done_lines done ++ done_lines one
    whole done one = flat_map-append done_lines done (one ∷ []) ∙ ap (λ l. flat_map done_lines done ++ l) (flat_map-cons done_lines one [] ∙ append_none (done_lines one))
