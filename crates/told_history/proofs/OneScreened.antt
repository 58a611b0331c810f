-- A query has one list of screened records in a history.
use Rattle.std.proofs.Common.{◌≡◌, ◌⊎◌, inl, inr, ℕ, zero, suc, ◌+◌, ◌≤◌, ◌<◌, List, [], ◌∷◌, map, refl, sym, ap, ◌∙◌, subst, All, arith}
use Rattle.htss_defs.specs.declared.history.Event.{Event}
use Rattle.htss_defs.specs.QueryGraph.{QueryGraph}
use Rattle.htss_defs.specs.History.{IsLive}
use Rattle.htss_defs.specs.Reply.{AreScreened, IsScreenedRecord, Numbered}
use Rattle.reg_model.proofs.Searching.{live-one}
use Rattle.report_rules.proofs.OneRising.{one_list}

one_record : (q : QueryGraph) (h : List Event) (x y : Numbered) → x.number ≡ y.number → IsScreenedRecord q h x → IsScreenedRecord q h y → x ≡ y
one_record q h x y number a b =
    let here : IsLive h y.number a.name x.mol = subst (λ n. IsLive h n a.name x.mol) number a.live in
    let mols : x.mol ≡ y.mol = live-one h y.number a.name b.name x.mol y.mol here b.live in
    ap (λ n. record { number = n; mol = x.mol }) number ∙ ap (λ m. record { number = y.number; mol = m }) mols

pub one_screened : (q : QueryGraph) (h : List Event) (xs ys : List Numbered) → AreScreened q h xs → AreScreened q h ys → xs ≡ ys
one_screened q h xs ys a b =
    one_list (λ (one : Numbered). one.number) (IsScreenedRecord q h) (one_record q h) xs ys a.rising b.rising a.each b.each
    (λ one is. a.all one.number is.name one.mol is.live is.screened) (λ one is. b.all one.number is.name one.mol is.live is.screened)
