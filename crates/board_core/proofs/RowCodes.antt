-- The table shows codes of the rows of a linked leaf that agree with what was loaded of them.
use Rattle.std.proofs.Common.{◌≡◌, ◌≢◌, ℕ, zero, suc, ◌+◌, ◌-◌, ◌<◌, ◌≤◌, Bool, true, List, [], ◌∷◌, ◌++◌, length, sym, refl, ap, ◌∙◌, subst, arith, slice_index, length-append}
use mathlib.Core.Option.{some}
use lib.ListN.{get_elem?}
use Rattle.htss_defs.specs.declared.shape.Shape.{Shape}
use Rattle.board_core.specs.declared.account.Account.{Account}
use Rattle.board_core.specs.declared.tree.Reached.{Reached}
use Rattle.board_core.specs.Sheets.{Sheet, IsLinked}
use Rattle.board_core.specs.Rows.{block_named, atom_named, code_of, codes_of, codes_in}
use Rattle.board_core.specs.Histories.{block_at}
use Rattle.board_core.specs.Records.{code_word_at}
use Rattle.board_core.specs.ClassTree.{Place, HasSlot, page_room, slot_at, IsBelow, Tree}
use Rattle.board_core.specs.KnownPages.{ReachedFits}
use Rattle.board_core.specs.FactRule.{CodeStands, BlocksStand}
use Rattle.board_core.specs.Plan.{MayHaveCodes}
use Rattle.board_core.proofs.Lists.{inside}

-- the code after a path
next_at : (path rest : List ℕ) (code : ℕ) → slice_index (path ++ code ∷ rest) (length path) ≡ code
next_at [] rest code = refl
next_at (x ∷ path) rest code = next_at path rest code

code_at : (block : ℕ → ℕ) (atom i : ℕ) → i < 5 → slice_index (codes_of block atom) i ≡ code_of block atom i
code_at block atom zero h = refl
code_at block atom (suc zero) h = refl
code_at block atom (suc (suc zero)) h = refl
code_at block atom (suc (suc (suc zero))) h = refl
code_at block atom (suc (suc (suc (suc zero)))) h = refl
code_at block atom (suc (suc (suc (suc (suc i))))) h = absurd (omega arith)

-- a path of fewer codes than there are is followed by the next one
goes_on : (codes path : List ℕ) (code : ℕ) → IsBelow path codes → length path < length codes → slice_index codes (length path) ≡ code → IsBelow (path ++ code ∷ []) codes
goes_on codes path code ([], is) less next = let e : length codes ≡ length path + 0 = ap length is ∙ length-append path [] in absurd (omega arith)
goes_on codes path code (c ∷ rest, is) less next =
    let same : c ≡ code = sym (next_at path rest c) ∙ (ap (λ (l : List ℕ). slice_index l (length path)) (sym is) ∙ next) in
    (rest, is ∙ (ap (λ (z : ℕ). path ++ z ∷ rest) same ∙ sym (append_one path code rest)))
  where
    append_one : (path : List ℕ) (code : ℕ) (rest : List ℕ) → (path ++ code ∷ []) ++ rest ≡ path ++ code ∷ rest
    append_one [] code rest = refl
    append_one (x ∷ path) code rest = ap (λ l. x ∷ l) (append_one path code rest)

pub may_have : (k : Shape) (regions : ℕ → ℕ) (front : ℕ) (w : ℕ → ℕ → ℕ) (s : Sheet) (m : ℕ → Place) (put : ℕ → Type 0) (a : Account) (x : Reached)
    → Tree w s m (codes_in k regions) put → BlocksStand k regions front a.loads → ReachedFits w s m x → IsLinked s x.page → x.leaf ≡ true → length x.path < 5 → MayHaveCodes a x (codes_in k regions)
may_have k regions front w s m put a x t stand fits l leaf low =
    let place = fits.place l in
    let entry : (i n : ℕ) → get_elem? x.slots i ≡ some n → HasSlot w s m true n x.page i = λ i n there.
    let known = subst (λ (b : Bool). (n ≢ 0) × (w x.page (slot_at b i) ≡ n)) leaf (fits.known i n there) in
    let room : length x.slots ≤ 14 = subst (λ (b : Bool). length x.slots ≤ page_room b) leaf fits.room in
    let less = inside x.slots i n there in
    record { linked = l; kind = ap (λ (p : Place). p.leaf) place ∙ leaf; room = omega arith; some_n = known.0; there = known.1 } in record {
      differ = λ i j n here there. (t.rows n x.page x.page i j (entry i n here) (entry j n there)).1;
      next = λ n c there loaded.
          let load = loaded.load in
          let stands : CodeStands k regions load = stand.codes loaded.index load loaded.loaded in
          let is : block_at k regions (block_named n) (code_word_at (block_at k regions (block_named n) 0) (atom_named n - 1) (length x.path)) ≡ c =
          (λ i. block_at k regions (sym loaded.row.0 i) (code_word_at (block_at k regions (sym loaded.row.0 i) 0) (sym loaded.row.1 i - 1) (sym loaded.code_is i))) ∙ (stands ∙ loaded.found) in
          goes_on (codes_in k regions n) x.path c
          (subst (λ (p : Place). IsBelow p.path (codes_in k regions n)) place (t.entries n x.page there.0 (entry there.0 n there.1)).1)
          low
          (code_at (block_at k regions (block_named n)) (atom_named n) (length x.path) low ∙ is);
    }
