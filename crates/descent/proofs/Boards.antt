-- A board that has the caller: what the rule says of the pages that it reached, and of the codes that it loaded.
use Rattle.std.proofs.Common.{◌≡◌, ℕ, zero, suc, ◌^◌, ◌<◌, ◌⊎◌, true, inl, inr, ⊎_elim, List, [], ◌∷◌, map, sym, refl, ap, ◌∙◌, subst, arith}
use mathlib.Core.Option.{some, some-injective, some-ne-none}
use lib.ListN.{get_elem?}
use Rattle.htss_defs.specs.declared.shape.Shape.{Shape}
use Rattle.board_core.specs.declared.account.Account.{Account}
use Rattle.board_core.specs.declared.account.View.{View}
use Rattle.board_core.specs.declared.loads.CodeLoad.{CodeLoad as BoardLoad}
use Rattle.board_core.specs.declared.tree.Reached.{Reached}
use Rattle.board_core.specs.Each.{Each}
use Rattle.board_core.specs.Words.{Parts}
use Rattle.board_core.specs.Histories.{block_at}
use Rattle.board_core.specs.FactRule.{BlocksStand, AreOfBlocks}
use Rattle.board_core.specs.Sheets.{sheet_of}
use Rattle.board_core.specs.KnownPages.{HasEarlier, KnowsPages}
use Rattle.board_core.specs.KnownRule.{Knows}
use Rattle.board_core.specs.OldRows.{IsOldRow}
use Rattle.board_core.specs.Rows.{entry_word, code_of, codes_of, codes_in, IsPlaced}
use Rattle.board_core.specs.Boards.{HasBoard, SomeBoard}
use Rattle.board_core.proofs.Everyone.{mine}
use Rattle.board_core.proofs.RowFrame.{block_back, atom_back, small_atom}
use Rattle.descent.specs.Seats.{load_of, seat_of}
use Rattle.descent.specs.Moment.{Moment, SomeMoment}
use Rattle.descent.specs.Walks.{IsTold}
use Rattle.descent.specs.Descended.{MayBe}

-- ---- pages

no_old : (w : ℕ → ℕ → ℕ) (k : Shape) (p : Parts) (vs : List View) (m : ℕ → _) (codes : ℕ → List ℕ) (old : ℕ → Type 0) (rs : List Reached)
    → KnowsPages w (sheet_of p.pool.states vs) m codes old rs → KnowsPages w (sheet_of p.pool.states vs) m codes (λ r. ⊥) rs
no_old w k p vs m codes old rs t = record {
  fits = t.fits;
  chain = λ j x at. ⊎_elim (λ (e : HasEarlier rs x). inl e) (λ (n : (x.leaf ≡ true) × ((r : ℕ) → old r → ⊥)). inr (n.0, λ r none. none)) (t.chain j x at);
  ends = λ j x at end r none. absurd none;
  absent = λ j x at i c a b r none. absurd none;
  turned = t.turned;
  gone = λ j x at leaf r none. absurd none;
}

module _ (k : Shape) (p : Parts) (vs : List View) (a : Account) (b : HasBoard k p vs a) where
  knows : Knows p.pages (sheet_of p.pool.states vs) b.rule.tree.place (codes_in k p.regions) (IsPlaced vs) (IsOldRow k p.regions p.log.slots) a.tree
  knows = subst (λ (x : Account). Knows p.pages (sheet_of p.pool.states vs) b.rule.tree.place (codes_in k p.regions) (IsPlaced vs) (IsOldRow k p.regions p.log.slots) x.tree) b.me
      (mine (λ x. Knows p.pages (sheet_of p.pool.states vs) b.rule.tree.place (codes_in k p.regions) (IsPlaced vs) (IsOldRow k p.regions p.log.slots) x.tree) vs b.id b.view b.at b.rule.tree.known)

  pub moment : Moment k.chain (codes_in k p.regions) (IsPlaced vs) (IsOldRow k p.regions p.log.slots a.tree.front) a.tree.reached
  moment = record {
    words = p.pages;
    sheet = sheet_of p.pool.states vs;
    place = b.rule.tree.place;
    tree = b.rule.tree.tree;
    known = knows.known;
    olds = knows.olds;
    five = λ r put. refl;
    ranks = b.rule.tree.ranks;
    kept = knows.kept;
    pairs = knows.pairs;
  }

  quiet_moment : Moment k.chain (codes_in k p.regions) (IsPlaced vs) (λ r. ⊥) a.tree.reached
  quiet_moment = record {
    words = p.pages;
    sheet = sheet_of p.pool.states vs;
    place = b.rule.tree.place;
    tree = b.rule.tree.tree;
    known = no_old p.pages k p vs b.rule.tree.place (codes_in k p.regions) (IsOldRow k p.regions p.log.slots a.tree.front) a.tree.reached knows.known;
    olds = λ r none. absurd none;
    five = λ r put. refl;
    ranks = b.rule.tree.ranks;
    kept = knows.kept;
    pairs = knows.pairs;
  }

  -- ---- codes

  at_code : (f : ℕ → ℕ) (atom code : ℕ) → code < 5 → get_elem? (codes_of f atom) code ≡ some (code_of f atom code)
  at_code f atom zero few = refl
  at_code f atom (suc zero) few = refl
  at_code f atom (suc (suc zero)) few = refl
  at_code f atom (suc (suc (suc zero))) few = refl
  at_code f atom (suc (suc (suc (suc zero)))) few = refl
  at_code f atom (suc (suc (suc (suc (suc n))))) few = absurd (omega arith)

  code_told : Each (λ (l : BoardLoad). get_elem? (codes_in k p.regions (entry_word l.row)) l.code ≡ some l.word) a.loads.codes
  code_told = subst (λ (x : Account). Each (λ (l : BoardLoad). get_elem? (codes_in k p.regions (entry_word l.row)) l.code ≡ some l.word) x.loads.codes) b.me
      (λ j l at.
      let stands = (mine (λ x. BlocksStand k p.regions p.log.front x.loads) vs b.id b.view b.at b.rule.facts.stand).codes j l at in
      let of = (mine (λ x. AreOfBlocks k p.regions vs x.loads) vs b.id b.view b.at b.rule.facts.of_blocks).codes j l at in
      let small : l.row.atom < 2 ^ 10 = small_atom (block_at k p.regions l.row.block 0) l.row.atom of.atom in
      (λ i. get_elem? (codes_of (block_at k p.regions (block_back l.row.block l.row.atom small i)) (atom_back l.row.block l.row.atom small i)) l.code)
      ∙ (at_code (block_at k p.regions l.row.block) l.row.atom l.code of.code ∙ ap some stands))

  told : Each (IsTold (codes_in k p.regions)) (seat_of a).loads
  told = mapped a.loads.codes code_told
    where
      mapped : (ls : List BoardLoad) → Each (λ (l : BoardLoad). get_elem? (codes_in k p.regions (entry_word l.row)) l.code ≡ some l.word) ls → Each (IsTold (codes_in k p.regions)) (map load_of ls)
      mapped [] each j l at = absurd (some-ne-none l (sym at))
      mapped (x ∷ ls) each zero l at = subst (IsTold (codes_in k p.regions)) (some-injective (load_of x) l at) (each zero x refl)
      mapped (x ∷ ls) each (suc j) l at = mapped ls (λ i y e. each (suc i) y e) j l at

  pub may_be : MayBe k.chain (codes_in k p.regions) (IsPlaced vs) (IsOldRow k p.regions p.log.slots a.tree.front) (seat_of a)
  may_be = record { moment = moment; told = told }

pub some_moment : (k : Shape) (a : Account) → SomeBoard k a → SomeMoment k.chain a.tree.reached
some_moment k a (p, vs, b) = (codes_in k p.regions, vs, quiet_moment k p vs a b)
