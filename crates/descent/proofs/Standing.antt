-- What the steps of a descent leave of its caller.
use Rattle.std.proofs.Common.{◌≡◌, ℕ, zero, suc, ◌<◌, Bool, List, [], ◌∷◌, ◌++◌, ◌+◌, ◌*◌, ◌^◌, ◌/◌, ◌%◌, length, map, sym, refl, ap, ◌∙◌, subst, append_assoc, arith}
use Rattle.std.proofs.lemmas.List.{append-nil}
use lib.ListN.{get_elem?}
use Rattle.board_core.specs.declared.account.Account.{Account}
use Rattle.board_core.specs.declared.loads.CodeLoad.{CodeLoad as BoardLoad}
use Rattle.board_core.specs.declared.loads.WordLoad.{WordLoad}
use Rattle.board_core.specs.declared.room.Row.{Row}
use Rattle.board_core.specs.Each.{Each}
use Rattle.board_core.specs.Rows.{entry_word}
use Rattle.board_core.specs.Met.{row_named}
use Rattle.board_core.specs.After.{after_walk, after_slot, after_link, after_more, after_head, after_code}
use Rattle.board.specs.Seated.{Place, Seated, IsOf, with_account}
use Rattle.descent.specs.Seats.{load, load_of, seat_of, with_load}
use Rattle.board_core.proofs.Lists.{each_append, each_none, each_cons}
use Rattle.board_core.proofs.LoadMet.{head_stays}
use Rattle.descent.specs.Standing.{Stands, rest, HasAtom, OnlyLoads}
use Rattle.descent.proofs.Lists.{at_left}

-- a block that was found to have an atom still has it
pub atom_later : (a b : Account) (more : List WordLoad) (r : Row) → b.loads.heads ≡ a.loads.heads ++ more → HasAtom a r → HasAtom b r
atom_later a b more r longer h = record {
  head = h.head;
  loaded = let x = h.loaded in record {
    load = x.load;
    index = x.index;
    loaded = ap (λ (l : List WordLoad). get_elem? l x.index) longer ∙ at_left a.loads.heads more x.index x.load x.loaded;
    place = x.place;
    found = x.found;
  };
  above = h.above;
  most = h.most;
}

no_atoms : (a : Account) → Each (λ (l : BoardLoad). HasAtom a l.row) []
no_atoms a = each_none (λ (l : BoardLoad). HasAtom a l.row)

pub only_same : (c : Seated) → OnlyLoads c c
only_same c = record { same = refl; codes = []; codes_are = sym (append-nil c.account.loads.codes); heads = []; heads_are = sym (append-nil c.account.loads.heads); atoms = no_atoms c.account }

pub only_on : (c d e : Seated) → OnlyLoads c d → OnlyLoads d e → OnlyLoads c e
only_on c d e a b = record {
  same = b.same ∙ a.same;
  codes = a.codes ++ b.codes;
  codes_are = b.codes_are ∙ (ap (λ l. l ++ b.codes) a.codes_are ∙ append_assoc c.account.loads.codes a.codes b.codes);
  heads = a.heads ++ b.heads;
  heads_are = b.heads_are ∙ (ap (λ l. l ++ b.heads) a.heads_are ∙ append_assoc c.account.loads.heads a.heads b.heads);
  atoms = each_append (λ (l : BoardLoad). HasAtom e.account l.row) a.codes b.codes (λ j l there. atom_later d.account e.account b.heads l.row b.heads_are (a.atoms j l there)) b.atoms;
}

-- a step that loads neither
only_step : (c d : Seated) (a : Account) → d ≡ with_account c a → rest a ≡ rest c.account → a.loads.codes ≡ c.account.loads.codes → a.loads.heads ≡ c.account.loads.heads → OnlyLoads c d
only_step c d a after same codes heads = subst (OnlyLoads c) (sym after) record {
  same = λ i. with_account c (same i);
  codes = [];
  codes_are = codes ∙ sym (append-nil c.account.loads.codes);
  heads = [];
  heads_are = heads ∙ sym (append-nil c.account.loads.heads);
  atoms = no_atoms a;
}

pub only_walk : (c d : Seated) → d ≡ with_account c (after_walk c.account) → OnlyLoads c d
only_walk c d after = only_step c d (after_walk c.account) after refl refl refl

pub only_slot : (c d : Seated) (j n : ℕ) → d ≡ with_account c (after_slot c.account j n) → OnlyLoads c d
only_slot c d j n after = only_step c d (after_slot c.account j n) after refl refl refl

pub only_link : (c d : Seated) (j i x n : ℕ) (leaf : Bool) → d ≡ with_account c (after_link c.account j i x n leaf) → OnlyLoads c d
only_link c d j i x zero leaf after = only_step c d (after_link c.account j i x zero leaf) after refl refl refl
only_link c d j i x (suc n) leaf after = only_step c d (after_link c.account j i x (suc n) leaf) after refl refl refl

pub only_more : (c d : Seated) (j n : ℕ) → d ≡ with_account c (after_more c.account j n) → OnlyLoads c d
only_more c d j zero after = only_step c d (after_more c.account j zero) after refl refl refl
only_more c d j (suc n) after = only_step c d (after_more c.account j (suc n)) after refl refl refl

pub only_head : (c d : Seated) (block word : ℕ) → d ≡ with_account c (after_head c.account block word) → OnlyLoads c d
only_head c d block word after = subst (OnlyLoads c) (sym after) record {
  same = refl;
  codes = [];
  codes_are = sym (append-nil c.account.loads.codes);
  heads = record { place = block; word = word } ∷ [];
  heads_are = refl;
  atoms = no_atoms (after_head c.account block word);
}

pub only_code : (c d : Seated) (row : Row) (code word : ℕ) → HasAtom c.account row → d ≡ with_account c (after_code c.account row code word) → OnlyLoads c d
only_code c d row code word has after = subst (OnlyLoads c) (sym after) record {
  same = refl;
  codes = record { row = row; code = code; word = word } ∷ [];
  codes_are = refl;
  heads = [];
  heads_are = sym (append-nil c.account.loads.heads);
  atoms = each_cons (λ (l : BoardLoad). HasAtom (after_code c.account row code word) l.row) (record { row = row; code = code; word = word }) []
      (record { head = has.head; loaded = head_stays c.account row.block has.head row code word has.loaded; above = has.above; most = has.most }) (no_atoms (after_code c.account row code word));
}

-- ---- what stays

pub of_on : (b : Place) (c d : Seated) → IsOf b c → OnlyLoads c d → IsOf b d
of_on b c d of o = record { table = ap (λ (x : Seated). x.table) o.same ∙ of.table; shape = ap (λ (x : Seated). x.shape) o.same ∙ of.shape }

pub stands_on : (b : Place) (c d : Seated) (n m : ℕ) → Stands b c n → OnlyLoads c d → m ≡ length d.account.tree.reached → Stands b d m
stands_on b c d n m s o count = record { of = of_on b c d s.of o; pinned = subst (λ (x : ℕ). 0 < x) (sym (ap (λ (x : Seated). x.account.pool.announced) o.same)) s.pinned; pages = count }

-- ---- codes

pub loads_on : (xs ys : List BoardLoad) → map load_of (xs ++ ys) ≡ map load_of xs ++ map load_of ys
loads_on [] ys = refl
loads_on (x ∷ xs) ys = ap (λ l. load_of x ∷ l) (loads_on xs ys)

pub entry_back : (n : ℕ) → entry_word (row_named n) ≡ n
entry_back n = let e : n / 2 ^ 10 * 2 ^ 10 + n % 2 ^ 10 ≡ n = omega arith in e

pub code_seat : (a : Account) (n level word : ℕ) → seat_of (after_code a (row_named n) level word) ≡ with_load (seat_of a) n level word
code_seat a n level word = λ i. record {
  reached = a.tree.reached;
  loads = (loads_on a.loads.codes (record { row = row_named n; code = level; word = word } ∷ []) ∙ ap (λ x. map load_of a.loads.codes ++ load x level word ∷ []) (entry_back n)) i;
}
