-- A survey takes one more record.
use Rattle.std.proofs.Common.{◌≡◌, ℕ, ◌+◌, ◌*◌, ◌≤◌, List, [], ◌∷◌, ◌++◌, length, take, refl, sym, subst, ◌∙◌, arith}
use Rattle.std.proofs.lemmas.List.{length_push, length-take-le}
use Rattle.htss_defs.specs.declared.history.Event.{Event}
use Rattle.htss_defs.specs.declared.history.Hit.{Hit}
use Rattle.htss_defs.specs.HitLists.{HitsKept}
use Rattle.htss_defs.specs.Molecule.{Molecule}
use Rattle.htss_defs.specs.declared.mol.Atom.{Atom}
use Rattle.htss_defs.specs.QueryGraph.{QueryGraph}
use Rattle.htss_defs.specs.Embedding.{IsLeastEmbedding, NoEmbedding}
use Rattle.htss_defs.specs.Screened.{IsScreened}
use Rattle.htss_defs.specs.History.{IsLive}
use Rattle.htss_defs.specs.Hits.{AreHits}
use Rattle.htss_defs.specs.Reply.{Numbered}
use Rattle.reg_model.specs.Searches.{Counts}
use Rattle.reg_model.specs.Surveys.{HasSurveyed}
use Rattle.reg_model.proofs.Searching.{atoms_push, live-one}
use Rattle.reg_model.proofs.Prefixes.{hits_to-all, hits_to-hit, hits_to-none, hits_to-passed, screened_to-all, screened_to-more, screened_to-none, screened_to-passed}

pub surveyed-none : (q : QueryGraph) (history : List Event) → HasSurveyed q history 0 0 0 []
surveyed-none q history = record { are = hits_to-none q history; screened = []; are_screened = screened_to-none q history; count_is = refl; atoms_is = refl }

-- no record of this number is live
pub surveyed-none_live : (q : QueryGraph) (history : List Event) (n k count atoms : ℕ) (hits : List Hit) → n ≡ k + 1 → HasSurveyed q history k count atoms hits → ((name : List ℕ) (mol : Molecule) → IsLive history n name mol → ⊥)
    → HasSurveyed q history n count atoms hits
surveyed-none_live q history n k count atoms hits next has none = record {
  are = hits_to-passed q history n k hits next has.are (λ name mol live. absurd (none name mol live));
  screened = has.screened;
  are_screened = screened_to-passed q history n k has.screened next has.are_screened (λ name mol live is. none name mol live);
  count_is = has.count_is;
  atoms_is = has.atoms_is;
}

-- it is not screened
pub surveyed-passed : (q : QueryGraph) (history : List Event) (n k count atoms : ℕ) (hits : List Hit) (name : List ℕ) (mol : Molecule) → n ≡ k + 1 → HasSurveyed q history k count atoms hits → IsLive history n name mol
    → (IsScreened q mol → ⊥) → NoEmbedding q mol → HasSurveyed q history n count atoms hits
surveyed-passed q history n k count atoms hits name mol next has live unscreened none = record {
  are = hits_to-passed q history n k hits next has.are (λ other mol' other_live. subst (λ (m : Molecule). NoEmbedding q m) (live-one history n name other mol mol' live other_live) none);
  screened = has.screened;
  are_screened = screened_to-passed q history n k has.screened next has.are_screened (λ other mol' other_live is. unscreened (subst (λ (m : Molecule). IsScreened q m) (sym (live-one history n name other mol mol' live other_live)) is));
  count_is = has.count_is;
  atoms_is = has.atoms_is;
}

-- it is screened, and there is no embedding
pub surveyed-none_found : (q : QueryGraph) (history : List Event) (n k count atoms : ℕ) (hits : List Hit) (name : List ℕ) (mol : Molecule) → n ≡ k + 1 → HasSurveyed q history k count atoms hits → IsLive history n name mol
    → IsScreened q mol → NoEmbedding q mol → HasSurveyed q history n (count + 1) (atoms + length mol.atoms) hits
surveyed-none_found q history n k count atoms hits name mol next has live is none =
    let one : Numbered = record { number = n; mol = mol } in
    record {
      are = hits_to-passed q history n k hits next has.are (λ other mol' other_live. subst (λ (m : Molecule). NoEmbedding q m) (live-one history n name other mol mol' live other_live) none);
      screened = has.screened ++ one ∷ [];
      are_screened = screened_to-more q history n k has.screened one next has.are_screened refl (record { name = name; live = live; screened = is });
      count_is = omega (arith, has.count_is, length_push has.screened one);
      atoms_is = omega (arith, has.atoms_is, atoms_push has.screened one);
    }

-- it is screened, and has one
pub surveyed-hit : (q : QueryGraph) (history : List Event) (n k count atoms : ℕ) (hits : List Hit) (hit : Hit) (mol : Molecule) → n ≡ k + 1 → HasSurveyed q history k count atoms hits → IsLive history n hit.name mol
    → IsScreened q mol → IsLeastEmbedding q mol hit.map → hit.number ≡ n → HasSurveyed q history n (count + 1) (atoms + length mol.atoms) (hits ++ hit ∷ [])
surveyed-hit q history n k count atoms hits hit mol next has live is least at =
    let one : Numbered = record { number = n; mol = mol } in
    record {
      are = hits_to-hit q history n k hits hit next has.are at (record { mol = mol; live = subst (λ (x : ℕ). IsLive history x hit.name mol) (sym at) live; least = least });
      screened = has.screened ++ one ∷ [];
      are_screened = screened_to-more q history n k has.screened one next has.are_screened refl (record { name = hit.name; live = live; screened = is });
      count_is = omega (arith, has.count_is, length_push has.screened one);
      atoms_is = omega (arith, has.atoms_is, atoms_push has.screened one);
    }

-- ---- over the events

-- what a survey has after the first `index` of the events
pub record Surveys (q : QueryGraph) (es : List Event) (front index : ℕ) (asked : QueryGraph) (count atoms : ℕ) (hits : HitsKept) : Type 0 where
  pub asked_is : asked ≡ q
  pub room : count ≤ index
  pub low : atoms ≤ 999 * index
  pub has : HasSurveyed q (take front es) index count atoms hits.hits

abbrev pub Steps : QueryGraph → ℕ → List ℕ → Molecule → ℕ → ℕ → List Hit → ℕ → ℕ → List Hit → Type 0
Steps asked number name mol count atoms hits count' atoms' hits' =
    (history : List Event) (k : ℕ) → number ≡ k + 1 → IsLive history number name mol → HasSurveyed asked history k count atoms hits → HasSurveyed asked history number count' atoms' hits'

pub surveys-next : (q : QueryGraph) (es : List Event) (front index : ℕ) (asked asked' : QueryGraph) (count count' atoms atoms' : ℕ) (hits hits' : HitsKept) (name : List ℕ) (mol : Molecule) → Surveys q es front index asked count atoms hits
    → asked' ≡ asked → count' ≤ index + 1 → atoms' ≤ 999 * (index + 1) → IsLive (take front es) (index + 1) name mol → Steps asked (index + 1) name mol count atoms hits.hits count' atoms' hits'.hits → Surveys q es front (index + 1) asked' count' atoms' hits'
surveys-next q es front index asked asked' count count' atoms atoms' hits hits' name mol s same_asked room low live steps =
    let history : List Event = take front es in
    let before = subst (λ (g : QueryGraph). HasSurveyed g history index count atoms hits.hits) (sym s.asked_is) s.has in
    record {
      asked_is = same_asked ∙ s.asked_is;
      room = room;
      low = low;
      has = subst (λ (g : QueryGraph). HasSurveyed g history (index + 1) count' atoms' hits'.hits) s.asked_is (steps history index refl live before);
    }

pub surveys-none_live : (q : QueryGraph) (es : List Event) (front index : ℕ) (asked : QueryGraph) (count atoms : ℕ) (hits : HitsKept) → Surveys q es front index asked count atoms hits
    → ((name : List ℕ) (mol : Molecule) → IsLive (take front es) (index + 1) name mol → ⊥) → Surveys q es front (index + 1) asked count atoms hits
surveys-none_live q es front index asked count atoms hits s none = record {
  asked_is = s.asked_is;
  room = omega (arith, s.room);
  low = omega (arith, s.low);
  has = surveyed-none_live q (take front es) (index + 1) index count atoms hits.hits refl s.has none;
}

pub surveyed-hits : (q : QueryGraph) (es : List Event) (front count atoms : ℕ) (hits : List Hit) → front ≤ length es → HasSurveyed q (take front es) front count atoms hits → AreHits q (take front es) hits
surveyed-hits q es front count atoms hits few has = hits_to-all q (take front es) front hits (omega (arith, length-take-le front es few)) has.are

pub surveyed-counts : (q : QueryGraph) (es : List Event) (front count atoms : ℕ) (hits : List Hit) → front ≤ length es → HasSurveyed q (take front es) front count atoms hits → Counts q (take front es) count
surveyed-counts q es front count atoms hits few has =
    record { screened = has.screened; are_screened = screened_to-all q (take front es) front has.screened (omega (arith, length-take-le front es few)) has.are_screened; count_is = has.count_is }

-- the atoms of the record at hand, as its list has them
pub same_atoms : (q : QueryGraph) (history : List Event) (n count atoms : ℕ) (hits : List Hit) (there here : List Atom) → there ≡ here → HasSurveyed q history n count (atoms + length here) hits → HasSurveyed q history n count (atoms + length there) hits
same_atoms q history n count atoms hits there here same has = subst (λ (l : List Atom). HasSurveyed q history n count (atoms + length l) hits) (sym same) has
