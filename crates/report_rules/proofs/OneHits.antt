-- A query has one list of hits in a history.
use Rattle.std.proofs.Common.{◌≡◌, ◌⊎◌, inl, inr, ℕ, zero, suc, ◌+◌, ◌≤◌, ◌<◌, List, [], ◌∷◌, refl, sym, ap, ◌∙◌, subst, All, arith}
use Rattle.std.specs.Prelude.{Some}
use Rattle.htss_defs.specs.declared.history.Event.{Event}
use Rattle.htss_defs.specs.declared.history.Event.TheVariants.{Publish}
use Rattle.htss_defs.specs.declared.history.Hit.{Hit}
use Rattle.htss_defs.specs.QueryGraph.{QueryGraph}
use Rattle.htss_defs.specs.Embedding.{IsFirstOrSame, IsLeastEmbedding}
use Rattle.htss_defs.specs.History.{HasEvent}
use Rattle.htss_defs.specs.Hits.{AreHits, IsHit}
use Rattle.report_rules.proofs.OneRising.{one_list}

some_same : {X : Type 0} (x y : X) → Some x ≡ Some y → x ≡ y
some_same x y same = cc

first_both : (f g : List ℕ) → IsFirstOrSame f g → IsFirstOrSame g f → f ≡ g
first_both [] [] a b = refl
first_both [] (y ∷ g) a b = absurd b
first_both (x ∷ f) [] a b = absurd a
first_both (x ∷ f) (y ∷ g) (inl less) (inl more) = absurd (omega arith)
first_both (x ∷ f) (y ∷ g) (inl less) (inr (same, rest)) = absurd (omega arith)
first_both (x ∷ f) (y ∷ g) (inr (same, rest)) (inl more) = absurd (omega arith)
first_both (x ∷ f) (y ∷ g) (inr (same, rest)) (inr (also, other)) = let tail = first_both f g rest other in cc (same, tail)

one_hit : (q : QueryGraph) (h : List Event) (x y : Hit) → x.number ≡ y.number → IsHit q h x → IsHit q h y → x ≡ y
one_hit q h x y number a b =
    let here : HasEvent h y.number (Publish a.live.published.caller x.name a.mol) = subst (λ n. HasEvent h n (Publish a.live.published.caller x.name a.mol)) number a.live.published.event in
    let events : Publish a.live.published.caller x.name a.mol ≡ Publish b.live.published.caller y.name b.mol = some_same _ _ (sym here.1 ∙ b.live.published.event.1) in
    let names : x.name ≡ y.name = cc in
    let mols : a.mol ≡ b.mol = cc in
    let least : IsLeastEmbedding q b.mol x.map = subst (λ m. IsLeastEmbedding q m x.map) mols a.least in
    let maps : x.map ≡ y.map = first_both x.map y.map (least.least y.map b.least.embeds) (b.least.least x.map least.embeds) in
    ap (λ n. record { number = n; name = x.name; map = x.map }) number
    ∙ ap (λ l. record { number = y.number; name = l; map = x.map }) names
    ∙ ap (λ l. record { number = y.number; name = y.name; map = l }) maps

pub one_hits : (asked : QueryGraph) (history : List Event) (first second : List Hit) → AreHits asked history first → AreHits asked history second → first ≡ second
one_hits q h xs ys a b =
    one_list (λ (hit : Hit). hit.number) (IsHit q h) (one_hit q h) xs ys a.rising b.rising a.each b.each
    (λ hit is. a.all hit.number hit.name is.mol hit.map is.live is.least.embeds) (λ hit is. b.all hit.number hit.name is.mol hit.map is.live is.least.embeds)
