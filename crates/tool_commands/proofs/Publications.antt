-- Hits of a query in the history of the records of one file, record by record.
use Rattle.std.proofs.Common.{◌≡◌, ℕ, ◌+◌, ◌-◌, ◌<◌, ◌≤◌, ◌⊎◌, List, [], ◌∷◌, ◌++◌, length, get_or, sym, ap, subst, ◌∙◌, inl, inr, All, arith}
use Rattle.std.specs.Prelude.{Option, Some, None, slice_get, Contains}
use Rattle.std.specs.Option.{option_map}
use Rattle.std.proofs.lemmas.Bool.{cases_lt}
use Rattle.std.proofs.lemmas.List.{map-append, length_push, length-map, get_or_append_left, get_or_push}
use Rattle.std.proofs.lemmas.List.Elements.{All-map, All-push, Contains-append_left, Contains-push}
use Rattle.std.proofs.lemmas.Option.{slice_get-map, slice_get_within, slice_get-get_or}
use Rattle.htss_defs.specs.declared.history.Event.{Event}
use Rattle.htss_defs.specs.declared.history.Event.TheVariants.{Publish, Withdraw}
use Rattle.htss_defs.specs.declared.history.Hit.{Hit}
use Rattle.htss_defs.specs.declared.record.NamedMol.{NamedMol}
use Rattle.htss_defs.specs.Molecule.{Molecule}
use Rattle.htss_defs.specs.QueryGraph.{QueryGraph}
use Rattle.htss_defs.specs.Embedding.{IsEmbedding, IsLeastEmbedding, NoEmbedding}
use Rattle.htss_defs.specs.History.{Withdraws, IsLive, publications}
use Rattle.htss_defs.specs.Hits.{IsHit, AreHits, numbers}
use Rattle.reg_model.proofs.Prefixes.{rising-push}

-- the record of this number
pub record IsRecord (es : List NamedMol) (number : ℕ) (name : List ℕ) (mol : Molecule) : Type 0 where
  pub low : 1 ≤ number
  pub high : number ≤ length es
  pub name_is : (d : NamedMol) → (get_or es (number - 1) d).name ≡ name
  pub mol_is : (d : NamedMol) → (get_or es (number - 1) d).mol ≡ mol

publication : NamedMol → Event
publication e = Publish 1 e.name e.mol

no_withdrawal : (es : List NamedMol) (number target : ℕ) → Withdraws (publications es) number target → ⊥
no_withdrawal es number target w = go (slice_get es (number - 1)) (sym (slice_get-map (λ e. Publish 1 e.name e.mol) es (number - 1)) ∙ w.event.1)
  where
    go : (o : Option NamedMol) → option_map (λ e. Publish 1 e.name e.mol) o ≡ Some (Withdraw w.caller target) → ⊥
    go None is = absurd cc
    go (Some e) is = absurd cc

published_at : (es : List NamedMol) (k : ℕ) (d : NamedMol) → k < length es → slice_get (publications es) k ≡ Some (Publish 1 (get_or es k d).name (get_or es k d).mol)
published_at es k d within = slice_get-map (λ e. Publish 1 e.name e.mol) es k ∙ ap (option_map (λ e. Publish 1 e.name e.mol)) (slice_get-get_or es k d within)

same_name : (c₁ c₂ : ℕ) (n₁ n₂ : List ℕ) (m₁ m₂ : Molecule) → Some (Publish c₁ n₁ m₁) ≡ Some (Publish c₂ n₂ m₂) → (n₁ ≡ n₂) × (m₁ ≡ m₂)
same_name c₁ c₂ n₁ n₂ m₁ m₂ e = ((cc), (cc))

pub record_of-live : (es : List NamedMol) (number : ℕ) (name : List ℕ) (mol : Molecule) → IsLive (publications es) number name mol → IsRecord es number name mol
record_of-live es number name mol live =
    let event = live.published.event in
    let within : number - 1 < length es = omega (arith, slice_get_within (publications es) (number - 1) (Publish live.published.caller name mol) event.1, length-map es (λ e. Publish 1 e.name e.mol)) in
    record {
      low = event.0;
      high = omega (arith, event.0);
      name_is = λ d. (same_name _ _ _ _ _ _ (sym (published_at es (number - 1) d within) ∙ event.1)).0;
      mol_is = λ d. (same_name _ _ _ _ _ _ (sym (published_at es (number - 1) d within) ∙ event.1)).1;
    }

pub live-record : (es : List NamedMol) (number : ℕ) (d : NamedMol) → 1 ≤ number → number ≤ length es → IsLive (publications es) number (get_or es (number - 1) d).name (get_or es (number - 1) d).mol
live-record es number d low high = record {
  published = record { caller = 1; event = (low, published_at es (number - 1) d (omega (arith, low))) };
  stays = λ later w. no_withdrawal es later number w;
}

pub live-same : (es : List NamedMol) (number : ℕ) (name name' : List ℕ) (mol mol' : Molecule) → name ≡ name' → mol ≡ mol' → IsLive (publications es) number name mol → IsLive (publications es) number name' mol'
live-same es number name name' mol mol' n m live =
    subst (λ (x : Molecule). IsLive (publications es) number name' x) m (subst (λ (x : List ℕ). IsLive (publications es) number x mol) n live)

-- a live record stays live when one more is published
pub live-more : (es : List NamedMol) (e : NamedMol) (number : ℕ) (name : List ℕ) (mol : Molecule) → IsLive (publications es) number name mol → IsLive (publications (es ++ e ∷ [])) number name mol
live-more es e number name mol live =
    let r = record_of-live es number name mol live in
    let same : get_or (es ++ e ∷ []) (number - 1) e ≡ get_or es (number - 1) e = get_or_append_left es (e ∷ []) e (number - 1) (omega (arith, r.low, r.high)) in
    live-same (es ++ e ∷ []) number _ name _ mol (ap (λ (x : NamedMol). x.name) same ∙ r.name_is e) (ap (λ (x : NamedMol). x.mol) same ∙ r.mol_is e)
    (live-record (es ++ e ∷ []) number e r.low (omega (arith, r.high, length_push es e)))

-- the record that was published last, or one that was live before
pub live-cases : (es : List NamedMol) (e : NamedMol) (number : ℕ) (name : List ℕ) (mol : Molecule) → IsLive (publications (es ++ e ∷ [])) number name mol
    → IsLive (publications es) number name mol ⊎ ((number ≡ length es + 1) × (e.name ≡ name) × (e.mol ≡ mol))
live-cases es e number name mol live =
    let r = record_of-live (es ++ e ∷ []) number name mol live in
    elim (cases_lt (number - 1) (length es)) [
      | inl before ↦
          let same : get_or (es ++ e ∷ []) (number - 1) e ≡ get_or es (number - 1) e = get_or_append_left es (e ∷ []) e (number - 1) before in
          inl (live-same es number _ name _ mol (ap (λ (x : NamedMol). x.name) (sym same) ∙ r.name_is e) (ap (λ (x : NamedMol). x.mol) (sym same) ∙ r.mol_is e) (live-record es number e r.low (omega (arith, r.low))))
      | inr last ↦
          let at : number - 1 ≡ length es = omega (arith, r.high, length_push es e) in
          let same : get_or (es ++ e ∷ []) (number - 1) e ≡ e = get_or_push es e e (number - 1) (sym at) in
          inr (omega (arith, r.low), ap (λ (x : NamedMol). x.name) (sym same) ∙ r.name_is e, ap (λ (x : NamedMol). x.mol) (sym same) ∙ r.mol_is e)
    ]

hit-more : (q : QueryGraph) (es : List NamedMol) (e : NamedMol) (hit : Hit) → IsHit q (publications es) hit → IsHit q (publications (es ++ e ∷ [])) hit
hit-more q es e hit is = record { mol = is.mol; live = live-more es e hit.number hit.name is.mol is.live; least = is.least }

pub hits-none : (q : QueryGraph) → AreHits q (publications []) []
hits-none q = record {
  rising = λ k within. absurd (omega arith);
  each = λ k d within. absurd (omega arith);
  all = λ number name mol map live embeds. let r = record_of-live [] number name mol live in absurd (omega (arith, r.low, r.high));
}

pub hits-passed : (q : QueryGraph) (es : List NamedMol) (e : NamedMol) (hits : List Hit) → AreHits q (publications es) hits → NoEmbedding q e.mol → AreHits q (publications (es ++ e ∷ [])) hits
hits-passed q es e hits are none = record {
  rising = are.rising;
  each = λ k d within. hit-more q es e (get_or hits k d) (are.each k d within);
  all = λ number name mol map live embeds. elim (live-cases es e number name mol live) [
    | inl before ↦ are.all number name mol map before embeds
    | inr last ↦ absurd (none map (subst (λ (m : Molecule). IsEmbedding q m map) (sym last.2) embeds))
  ];
}

numbers-below : (q : QueryGraph) (es : List NamedMol) (hits : List Hit) → All (IsHit q (publications es)) hits → All (λ x. x < length es + 1) (numbers hits)
numbers-below q es hits each =
    All-map (λ x. x < length es + 1) (λ h. h.number) hits (λ k d within.
    let is = each k d within in
    let r = record_of-live es (get_or hits k d).number (get_or hits k d).name is.mol is.live in
    omega (arith, r.high))

pub hits-hit : (q : QueryGraph) (es : List NamedMol) (e : NamedMol) (hits : List Hit) (hit : Hit) → AreHits q (publications es) hits
    → hit.number ≡ length es + 1 → hit.name ≡ e.name → IsLeastEmbedding q e.mol hit.map → AreHits q (publications (es ++ e ∷ [])) (hits ++ hit ∷ [])
hits-hit q es e hits hit are number name least =
    let shown : numbers (hits ++ hit ∷ []) ≡ numbers hits ++ hit.number ∷ [] = map-append (λ h. h.number) hits (hit ∷ []) in
    let last : NamedMol = get_or (es ++ e ∷ []) (hit.number - 1) e in
    let at : last ≡ e = get_or_push es e e (hit.number - 1) (omega (arith, number)) in
    record {
      rising = rw shown (rising-push (numbers hits) hit.number are.rising (rw number (numbers-below q es hits are.each)));
      each = All-push (IsHit q (publications (es ++ e ∷ []))) hits hit (λ k d within. hit-more q es e (get_or hits k d) (are.each k d within)) (record {
        mol = e.mol;
        live = live-same (es ++ e ∷ []) hit.number last.name hit.name last.mol e.mol (ap (λ (x : NamedMol). x.name) at ∙ sym name) (ap (λ (x : NamedMol). x.mol) at)
            (live-record (es ++ e ∷ []) hit.number e (omega (arith, number)) (omega (arith, number, length_push es e)));
        least = least;
      });
      all = λ n named mol map live embeds. rw shown (elim (live-cases es e n named mol live) [
        | inl before ↦ Contains-append_left (numbers hits) (hit.number ∷ []) n (are.all n named mol map before embeds)
        | inr new ↦ subst (λ (x : ℕ). Contains (numbers hits ++ hit.number ∷ []) x) (number ∙ sym new.0) (Contains-push (numbers hits) hit.number)
      ]);
    }
