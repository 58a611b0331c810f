-- The screened records in the history of the records of one file, record by record.
use Rattle.std.proofs.Common.{◌≡◌, ℕ, ◌+◌, ◌-◌, ◌<◌, List, [], ◌∷◌, ◌++◌, length, get_or, sym, ap, subst, ◌∙◌, inl, inr, All, arith}
use Rattle.std.specs.Prelude.{map, Contains}
use Rattle.std.proofs.lemmas.List.{map-append, length_push, get_or_push}
use Rattle.std.proofs.lemmas.List.Elements.{All-map, All-push, Contains-append_left, Contains-push}
use Rattle.htss_defs.specs.declared.record.NamedMol.{NamedMol}
use Rattle.htss_defs.specs.Molecule.{Molecule}
use Rattle.htss_defs.specs.QueryGraph.{QueryGraph}
use Rattle.htss_defs.specs.Screened.{IsScreened}
use Rattle.htss_defs.specs.History.{publications}
use Rattle.htss_defs.specs.Reply.{Numbered, AreScreened, IsScreenedRecord}
use Rattle.reg_model.proofs.Prefixes.{rising-push}
use Rattle.tool_commands.proofs.Publications.{live-cases, live-more, live-record, live-same, record_of-live}

screened_record-more : (q : QueryGraph) (es : List NamedMol) (e : NamedMol) (one : Numbered) → IsScreenedRecord q (publications es) one → IsScreenedRecord q (publications (es ++ e ∷ [])) one
screened_record-more q es e one is = record { name = is.name; live = live-more es e one.number is.name one.mol is.live; screened = is.screened }

pub screened-none : (q : QueryGraph) → AreScreened q (publications []) []
screened-none q = record {
  rising = λ k within. absurd (omega arith);
  each = λ k d within. absurd (omega arith);
  all = λ number name mol live is. let r = record_of-live [] number name mol live in absurd (omega (arith, r.low, r.high));
}

pub screened-passed : (q : QueryGraph) (es : List NamedMol) (e : NamedMol) (records : List Numbered) → AreScreened q (publications es) records → (IsScreened q e.mol → ⊥) → AreScreened q (publications (es ++ e ∷ [])) records
screened-passed q es e records are none = record {
  rising = are.rising;
  each = λ k d within. screened_record-more q es e (get_or records k d) (are.each k d within);
  all = λ number name mol live is. elim (live-cases es e number name mol live) [
    | inl before ↦ are.all number name mol before is
    | inr last ↦ absurd (none (subst (λ (m : Molecule). IsScreened q m) (sym last.2) is))
  ];
}

numbers-below : (q : QueryGraph) (es : List NamedMol) (records : List Numbered) → All (IsScreenedRecord q (publications es)) records → All (λ x. x < length es + 1) (map (λ one. one.number) records)
numbers-below q es records each =
    All-map (λ x. x < length es + 1) (λ (one : Numbered). one.number) records (λ k d within.
    let is = each k d within in
    let r = record_of-live es (get_or records k d).number is.name (get_or records k d).mol is.live in
    omega (arith, r.high))

pub screened-more : (q : QueryGraph) (es : List NamedMol) (e : NamedMol) (records : List Numbered) (one : Numbered) → AreScreened q (publications es) records → one.number ≡ length es + 1 → one.mol ≡ e.mol → IsScreened q e.mol
    → AreScreened q (publications (es ++ e ∷ [])) (records ++ one ∷ [])
screened-more q es e records one are number mol_is is =
    let before : List ℕ = map (λ one. one.number) records in
    let shown : map (λ one. one.number) (records ++ one ∷ []) ≡ before ++ one.number ∷ [] = map-append (λ (r : Numbered). r.number) records (one ∷ []) in
    let last : NamedMol = get_or (es ++ e ∷ []) (one.number - 1) e in
    let at : last ≡ e = get_or_push es e e (one.number - 1) (omega (arith, number)) in
    record {
      rising = rw shown (rising-push before one.number are.rising (rw number (numbers-below q es records are.each)));
      each = All-push (IsScreenedRecord q (publications (es ++ e ∷ []))) records one (λ k d within. screened_record-more q es e (get_or records k d) (are.each k d within)) (record {
        name = e.name;
        live = live-same (es ++ e ∷ []) one.number last.name e.name last.mol one.mol (ap (λ (x : NamedMol). x.name) at) (ap (λ (x : NamedMol). x.mol) at ∙ sym mol_is)
            (live-record (es ++ e ∷ []) one.number e (omega (arith, number)) (omega (arith, number, length_push es e)));
        screened = subst (λ (m : Molecule). IsScreened q m) (sym mol_is) is;
      });
      all = λ n named mol live screened. rw shown (elim (live-cases es e n named mol live) [
        | inl earlier ↦ Contains-append_left before (one.number ∷ []) n (are.all n named mol earlier screened)
        | inr new ↦ subst (λ (x : ℕ). Contains (before ++ one.number ∷ []) x) (number ∙ sym new.0) (Contains-push before one.number)
      ]);
    }
