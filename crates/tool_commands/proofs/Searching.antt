-- A search takes one more record, and answers.
use Rattle.std.proofs.Common.{◌≡◌, ℕ, ◌+◌, ◌<◌, List, [], ◌∷◌, ◌++◌, length, refl, sym, ap, subst, ◌∙◌, inl, inr, arith}
use Rattle.std.specs.Prelude.{Option, Some, None}
use Rattle.std.specs.List.{flat_map}
use Rattle.std.proofs.lemmas.List.{append-nil, length_push}
use Rattle.std.proofs.lemmas.Grind.{flat_map-append}
use Rattle.htss_defs.specs.declared.history.Hit.{Hit}
use Rattle.htss_defs.specs.declared.record.NamedMol.{NamedMol}
use Rattle.htss_defs.specs.QueryGraph.{QueryGraph}
use Rattle.htss_defs.specs.Embedding.{IsLeastEmbedding, NoEmbedding}
use Rattle.htss_defs.specs.Cost.{cost}
use Rattle.htss_defs.specs.Screened.{IsScreened}
use Rattle.htss_defs.specs.History.{publications}
use Rattle.htss_defs.specs.Reply.{Numbered, Reply, found, over_budget, IsReply}
use Rattle.embed.specs.Paid.{Paid}
use Rattle.hit_report.specs.HitLines.{hit_line, count_line, overbudget_line}
use Rattle.env_cover.proofs.Deciding.{Decision}
use Rattle.reg_model.proofs.Searching.{work_push, atoms_push}
use Rattle.command_ends.specs.FindText.{reply_text}
use Rattle.tool_commands.specs.Searches.{HitsHold, IsOver, SearchHolds}
use Rattle.tool_commands.proofs.Publications.{hits-none, hits-passed, hits-hit}
use Rattle.tool_commands.proofs.ScreenedRecords.{screened-none, screened-passed, screened-more}

pub HitsHold-none : (q : QueryGraph) (budget : ℕ) → HitsHold q budget budget [] 0 []
HitsHold-none q budget = record {
  hits = [];
  are = hits-none q;
  lines_are = refl;
  count_is = refl;
  screened = [];
  are_screened = screened-none q;
  within = omega arith;
  paid = omega arith;
}

-- a record that is not screened
pub HitsHold-passed : (q : QueryGraph) (budget left : ℕ) (lines : List ℕ) (count : ℕ) (es : List NamedMol) (e : NamedMol) → HitsHold q budget left lines count es → (IsScreened q e.mol → ⊥) → NoEmbedding q e.mol
    → HitsHold q budget left lines count (es ++ e ∷ [])
HitsHold-passed q budget left lines count es e holds unscreened none = record {
  hits = holds.hits;
  are = hits-passed q es e holds.hits holds.are none;
  lines_are = holds.lines_are;
  count_is = holds.count_is;
  screened = holds.screened;
  are_screened = screened-passed q es e holds.screened holds.are_screened unscreened;
  within = holds.within;
  paid = holds.paid;
}

-- ---- a record that is screened

pub HitsHold-none_found : (q : QueryGraph) (budget left left' : ℕ) (lines : List ℕ) (count : ℕ) (es : List NamedMol) (e : NamedMol) → HitsHold q budget left lines count es → IsScreened q e.mol → Paid (length e.mol.atoms) (cost q e.mol []) left left'
    → NoEmbedding q e.mol → HitsHold q budget left' lines count (es ++ e ∷ [])
HitsHold-none_found q budget left left' lines count es e holds is paid none =
    let one : Numbered = record { number = length es + 1; mol = e.mol } in
    record {
      hits = holds.hits;
      are = hits-passed q es e holds.hits holds.are none;
      lines_are = holds.lines_are;
      count_is = holds.count_is;
      screened = holds.screened ++ one ∷ [];
      are_screened = screened-more q es e holds.screened one holds.are_screened refl refl is;
      within = omega (arith, holds.within, paid.least, atoms_push holds.screened one);
      paid = omega (arith, holds.paid, paid.most, work_push q holds.screened one);
    }

pub HitsHold-hit : (q : QueryGraph) (budget left left' : ℕ) (lines longer : List ℕ) (count count' : ℕ) (es : List NamedMol) (e : NamedMol) (hit : Hit) → HitsHold q budget left lines count es → IsScreened q e.mol → Paid (length e.mol.atoms) (cost q e.mol []) left left'
    → IsLeastEmbedding q e.mol hit.map → hit.number ≡ length es + 1 → hit.name ≡ e.name → longer ≡ lines ++ hit_line hit → count' ≡ count + 1 → HitsHold q budget left' longer count' (es ++ e ∷ [])
HitsHold-hit q budget left left' lines longer count count' es e hit holds is paid least number name grown more =
    let one : Numbered = record { number = length es + 1; mol = e.mol } in
    record {
      hits = holds.hits ++ hit ∷ [];
      are = hits-hit q es e holds.hits hit holds.are number name least;
      lines_are = grown ∙ ap (λ (x : List ℕ). x ++ hit_line hit) holds.lines_are ∙ ap (λ (x : List ℕ). flat_map hit_line holds.hits ++ x) (sym (append-nil (hit_line hit)))
          ∙ sym (flat_map-append hit_line holds.hits (hit ∷ []));
      count_is = omega (arith, more, holds.count_is, length_push holds.hits hit);
      screened = holds.screened ++ one ∷ [];
      are_screened = screened-more q es e holds.screened one holds.are_screened refl refl is;
      within = omega (arith, holds.within, paid.least, atoms_push holds.screened one);
      paid = omega (arith, holds.paid, paid.most, work_push q holds.screened one);
    }

pub IsOver-spent : (q : QueryGraph) (budget left : ℕ) (lines : List ℕ) (count : ℕ) (es : List NamedMol) (e : NamedMol) → HitsHold q budget left lines count es → IsScreened q e.mol → left < cost q e.mol [] → IsOver q budget (es ++ e ∷ [])
IsOver-spent q budget left lines count es e holds is spent =
    let one : Numbered = record { number = length es + 1; mol = e.mol } in
    record {
      screened = holds.screened ++ one ∷ [];
      are_screened = screened-more q es e holds.screened one holds.are_screened refl refl is;
      over = omega (arith, holds.paid, spent, work_push q holds.screened one);
    }

-- ---- any record, once the budget is spent

pub IsOver-more : (q : QueryGraph) (budget : ℕ) (es : List NamedMol) (e : NamedMol) → IsOver q budget es → Decision (IsScreened q e.mol) → IsOver q budget (es ++ e ∷ [])
IsOver-more q budget es e over decision = elim decision [
  | inl is ↦ (let one : Numbered = record { number = length es + 1; mol = e.mol } in record {
    screened = over.screened ++ one ∷ [];
    are_screened = screened-more q es e over.screened one over.are_screened refl refl is;
    over = omega (arith, over.over, work_push q over.screened one);
  })
  | inr none ↦ record { screened = over.screened; are_screened = screened-passed q es e over.screened over.are_screened none; over = over.over }
]

-- ---- what is left of the budget

pub holds-left : (q : QueryGraph) (budget : ℕ) (left : Option ℕ) (n : ℕ) (lines : List ℕ) (count : ℕ) (es : List NamedMol) → left ≡ Some n → SearchHolds q budget left lines count es → HitsHold q budget n lines count es
holds-left q budget left n lines count es is holds = subst (λ (l : Option ℕ). SearchHolds q budget l lines count es) is holds

pub holds-spent : (q : QueryGraph) (budget : ℕ) (left : Option ℕ) (lines : List ℕ) (count : ℕ) (es : List NamedMol) → left ≡ None → SearchHolds q budget left lines count es → IsOver q budget es
holds-spent q budget left lines count es is holds = subst (λ (l : Option ℕ). SearchHolds q budget l lines count es) is holds

pub holds-under : (q : QueryGraph) (budget : ℕ) (left : Option ℕ) (n : ℕ) (lines : List ℕ) (count : ℕ) (es : List NamedMol) → left ≡ Some n → HitsHold q budget n lines count es → SearchHolds q budget left lines count es
holds-under q budget left n lines count es is holds = subst (λ (l : Option ℕ). SearchHolds q budget l lines count es) (sym is) holds

pub holds-over : (q : QueryGraph) (budget : ℕ) (left : Option ℕ) (lines : List ℕ) (count : ℕ) (es : List NamedMol) → left ≡ None → IsOver q budget es → SearchHolds q budget left lines count es
holds-over q budget left lines count es is over = subst (λ (l : Option ℕ). SearchHolds q budget l lines count es) (sym is) over

-- ---- the answer

pub found-reply : (q : QueryGraph) (budget left : ℕ) (lines whole old new : List ℕ) (count : ℕ) (es : List NamedMol) → HitsHold q budget left lines count es → whole ≡ lines ++ count_line count → new ≡ old ++ whole
    → (reply : Reply) × IsReply q budget (publications es) reply × (new ≡ old ++ reply_text budget reply)
found-reply q budget left lines whole old new count es holds is grown = (
  found holds.hits,
  (holds.are, holds.screened, holds.are_screened, omega (arith, holds.within)),
  grown ∙ ap (λ (x : List ℕ). old ++ x) (is ∙ ap (λ (x : List ℕ). x ++ count_line count) holds.lines_are ∙ ap (λ (n : ℕ). flat_map hit_line holds.hits ++ count_line n) holds.count_is),
)

pub over-reply : (q : QueryGraph) (budget : ℕ) (old new : List ℕ) (es : List NamedMol) → IsOver q budget es → new ≡ old ++ overbudget_line budget
    → (reply : Reply) × IsReply q budget (publications es) reply × (new ≡ old ++ reply_text budget reply)
over-reply q budget old new es over grown = (over_budget, (over.screened, over.are_screened, over.over), grown)
