-- What a split reads of a full leaf.
use Rattle.std.proofs.Common.{◌≡◌, ◌≢◌, ℕ, ◌+◌, ◌<◌, List, [], ◌∷◌, length, get_or, set, refl, sym, ap, ◌∙◌, subst, arith, get_or-set_same, get_or-set_other, inl, inr}
use Rattle.std.proofs.lemmas.Bool.{cases_eq}
use Rattle.htss_defs.specs.declared.shape.Shape.{Shape}
use Rattle.board_core.specs.declared.account.Account.{Account}
use Rattle.board_core.specs.declared.tree.Reached.{Reached}
use Rattle.board_core.specs.Rows.{block_named, atom_named}
use Rattle.board_core.specs.Loaded.{HasCode}
use Rattle.board_core.specs.Met.{row_named, HasMet, MayLoadMet}
use Rattle.board_core.specs.After.{after_head, after_code}
use Rattle.board_core.proofs.Lists.{at_longer}
use Rattle.board_core.proofs.LoadMet.{head_here, code_here}
use Rattle.board.specs.Seated.{Place, Seated, IsOf, with_account}
use Rattle.class_tree.specs.declared.walks.Stop.{Stop}
use Rattle.class_tree.specs.Loading.{LoadsOn}
use Rattle.class_tree.specs.Splitting.{IsAtFull, Learns, IsRowOf, AreRowsOf}
use Rattle.class_tree.specs.Walking.{here}
use Rattle.class_tree.proofs.Loadings.{grows_same, grows_on}

pub may_load_met : (c d : Seated) (j i n head code : ℕ) → HasMet c.account j i n → d ≡ with_account c (after_head c.account (block_named n) head) → code < 5 → MayLoadMet d.account j i n head code
may_load_met c d j i n head code met e few = subst (λ (x : Seated). MayLoadMet x.account j i n head code) (sym e) record {
  met = record { reached = met.reached; leaf = met.leaf; read = met.read };
  first = head_here c.account (block_named n) head;
  few = few;
}

-- the entry's load changed nothing
pub after_same : (c d e : Seated) (block head : ℕ) → d ≡ c → e ≡ with_account d (after_head d.account block head) → e ≡ with_account c (after_head c.account block head)
after_same c d e block head same after = after ∙ ap (λ (x : Seated). with_account x (after_head x.account block head)) same

-- ---- one row

pub learns_one : (c d e : Seated) (block head code word : ℕ) (n : ℕ) → d ≡ with_account c (after_head c.account block head) → e ≡ with_account d (after_code d.account (row_named n) code word) → Learns c e
learns_one c d e block head code word n first then =
    let both : e ≡ with_account c (after_code (after_head c.account block head) (row_named n) code word) = then ∙ ap (λ (x : Seated). with_account x (after_code x.account (row_named n) code word)) first in
    subst (Learns c) (sym both) record {
      only = refl;
      grows = record {
        epochs = λ j x h. h;
        announcements = λ j x h. h;
        states = λ j x h. h;
        lost = λ j x h. h;
        codes = λ j x h. at_longer c.account.loads.codes (record { row = row_named n; code = code; word = word } ∷ []) j x h;
        heads = λ j x h. at_longer c.account.loads.heads (record { place = block; word = head } ∷ []) j x h;
      };
    }

pub row_read : (c d e : Seated) (s : Stop) (i n head code word : ℕ) → HasMet c.account s.number i n → length (here c.account s).path ≡ code → 0 < atom_named n → d ≡ with_account c (after_head c.account (block_named n) head) → e ≡ with_account d (after_code d.account (row_named n) code word) → word ≢ 0 → IsRowOf e.account (here e.account s) i n word
row_read c d e s i n head code word met deep above first then some_word =
    let both : e ≡ with_account c (after_code (after_head c.account (block_named n) head) (row_named n) code word) = then ∙ ap (λ (x : Seated). with_account x (after_code x.account (row_named n) code word)) first in
    subst (λ (x : Seated). IsRowOf x.account (here x.account s) i n word) (sym both) record {
      read = met.read;
      some_n = some_row n above;
      some_c = some_word;
      code = subst (λ (z : ℕ). HasCode (after_code (after_head c.account (block_named n) head) (row_named n) code word) (block_named n) (atom_named n) z word) (sym deep) (code_here (after_head c.account (block_named n) head) (row_named n) code word);
    }
  where
    some_row : (n : ℕ) → 0 < atom_named n → n ≢ 0
    some_row n above = λ z. omega arith

-- ---- one after the other

pub learns_none : (c : Seated) → Learns c c
learns_none c = record { only = refl; grows = grows_same c.account }

pub learns_on : (c d e : Seated) → Learns c d → Learns d e → Learns c e
learns_on c d e first then = record {
  only = then.only ∙ ap (λ (x : Seated). with_account x (record x.account { loads = record x.account.loads { codes = e.account.loads.codes; heads = e.account.loads.heads } })) first.only;
  grows = grows_on c.account d.account e.account first.grows then.grows;
}

pub learns_of : (b : Place) (c d : Seated) → Learns c d → IsOf b c → IsOf b d
learns_of b c d l of = subst (IsOf b) (sym l.only) record { table = of.table; shape = of.shape }

pub learns_reached : (c d : Seated) → Learns c d → d.account.tree.reached ≡ c.account.tree.reached
learns_reached c d l = ap (λ (x : Seated). x.account.tree.reached) l.only

pub full_still : (k : Shape) (a b : Account) (s : Stop) (depth : ℕ) → b.tree.reached ≡ a.tree.reached → IsAtFull k a s depth → IsAtFull k b s depth
full_still k a b s depth e h = subst (λ (l : List Reached). IsAtFull k (record b { tree = record b.tree { reached = l } }) s depth) (sym e) record {
  inside = h.inside;
  reached = h.reached;
  there = h.there;
  leaf = h.leaf;
  deep = h.deep;
  low = h.low;
  full = h.full;
}

pub code_still : (a b : Account) (block atom code word : ℕ) → LoadsOn a b → HasCode a block atom code word → HasCode b block atom code word
code_still a b block atom code word g h = record { load = h.load; index = h.index; loaded = g.codes h.index h.load h.loaded; row = h.row; code_is = h.code_is; found = h.found }

pub row_still : (a b : Account) (s : Stop) (i n c : ℕ) → b.tree.reached ≡ a.tree.reached → LoadsOn a b → IsRowOf a (here a s) i n c → IsRowOf b (here b s) i n c
row_still a b s i n c e g h = subst (λ (x : Reached). IsRowOf b x i n c) (sym (ap (λ (l : List Reached). here (record a { tree = record a.tree { reached = l } }) s) e)) record {
  read = h.read;
  some_n = h.some_n;
  some_c = h.some_c;
  code = code_still a b (block_named n) (atom_named n) (length (here a s).path) c g h.code;
}

pub rows_none : (a : Account) (x : Reached) (rows codes : List ℕ) → AreRowsOf a x rows codes 0
rows_none a x rows codes i less = absurd (omega arith)

pub rows_more : (c d : Seated) (s : Stop) (rows codes : List ℕ) (n row code : ℕ) → length rows ≡ 14 → length codes ≡ 14 → n < 14 → Learns c d → AreRowsOf c.account (here c.account s) rows codes n → IsRowOf d.account (here d.account s) n row code
    → AreRowsOf d.account (here d.account s) (set rows n row) (set codes n code) (n + 1)
rows_more c d s rows codes n row code long wide few l old new i less = elim (cases_eq i n) [
  | inl is ↦ subst (λ (z : ℕ). IsRowOf d.account (here d.account s) z (get_or (set rows n row) z 0) (get_or (set codes n code) z 0)) (sym is)
      (subst (λ (z : ℕ × ℕ). IsRowOf d.account (here d.account s) n z.0 z.1) (λ t. (sym (get_or-set_same rows n row 0 (omega arith)) t, sym (get_or-set_same codes n code 0 (omega arith)) t)) new)
  | inr other ↦ subst (λ (z : ℕ × ℕ). IsRowOf d.account (here d.account s) i z.0 z.1) (λ t. (sym (get_or-set_other rows n i row 0 other) t, sym (get_or-set_other codes n i code 0 other) t))
      (row_still c.account d.account s i (get_or rows i 0) (get_or codes i 0) (learns_reached c d l) l.grows (old i (omega arith)))
]
