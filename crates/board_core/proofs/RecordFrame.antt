-- Sealed blocks show records: what a step, a split or a join leaves of that, and that a block which is published shows one.
use Rattle.std.proofs.Common.{◌≡◌, ℕ, ◌+◌, ◌*◌, ◌-◌, ◌/◌, ◌<◌, ◌≤◌, List, [], ◌∷◌, ◌++◌, set, get_or, sym, refl, ap, ◌∙◌, subst, arith}
use Rattle.std.proofs.lemmas.List.{get_or_append_left}
use mathlib.Core.Option.{some}
use lib.ListN.{get_elem?}
use Rattle.htss_defs.specs.declared.shape.Shape.{Shape}
use Rattle.htss_defs.specs.Name.{IsName}
use Rattle.htss_defs.specs.Molecule.{Molecule, IsMolecule}
use Rattle.htss_defs.specs.Marked.{IsMarked}
use Rattle.htss_defs.specs.Codes.{code_at}
use Rattle.board_core.specs.declared.account.Who.{Who}
use Rattle.board_core.specs.declared.account.Who.TheVariants.{Opener, Note, Gone}
use Rattle.board_core.specs.declared.account.Account.{Account}
use Rattle.board_core.specs.declared.account.View.{View}
use Rattle.board_core.specs.declared.room.Sealed.{Sealed}
use Rattle.board_core.specs.Each.{Each}
use Rattle.board_core.specs.Words.{Parts}
use Rattle.board_core.specs.LogWord.{kind_in, target_in}
use Rattle.board_core.specs.Blocks.{atoms_in, bonds_in, bytes_in, block_size, molecule_in}
use Rattle.board_core.specs.Histories.{block_at}
use Rattle.board_core.specs.Accounts.{account, view, opener, with_me, keeping, gone, accounts_in, caller_after, EachAccount}
use Rattle.board_core.specs.Records.{IsRecord, ShowsRecord, code_word_at}
use Rattle.board_core.specs.RecordRule.{RecordRule}
use Rattle.board_core.specs.RoomRule.{store_of, region_of, own_block, RoomFits, RoomRule}
use Rattle.board_core.specs.After.{after_word, after_made, after_hear}
use Rattle.board_core.specs.Steps.{MaySeal}
use Rattle.board_core.proofs.Lists.{each_none, each_cons, each_append}
use Rattle.board_core.proofs.Everyone.{mine, changed, each_more, each_left, each_gathered}
use Rattle.board_core.proofs.BlockWords.{ShowSame, ShowAlike, same_name, same_molecule, alike_name, alike_molecule}
use Rattle.board_core.proofs.RoomFrame.{size_least, block_stands}

-- ---- blocks that show the same

-- a code word is a word of its block past the marks
pub code_within : (head atom code : ℕ) → atom < atoms_in head → code < 5 → (3 ≤ code_word_at head atom code) × (code_word_at head atom code < block_size head)
code_within head atom code below few = within ((bytes_in head + 7) / 8) (atoms_in head) (bonds_in head) below
  where
    within : (names atoms bonds : ℕ) → atom < atoms → (3 ≤ 3 + names + atoms + (5 * atom + code)) × (3 + names + atoms + (5 * atom + code) < 3 + names + atoms + 5 * atoms + bonds)
    within names atoms bonds less = (omega arith, omega arith)

pub same_code : (f g : ℕ → ℕ) (atom code : ℕ) → ShowSame f g → atom < atoms_in (f 0) → code < 5 → g (code_word_at (g 0) atom code) ≡ f (code_word_at (f 0) atom code)
same_code f g atom code same below few = let place = code_within (f 0) atom code below few in ap (λ h. g (code_word_at h atom code)) same.head ∙ same.words (code_word_at (f 0) atom code) place.0 place.1

-- what is read of a block that shows a record, and of one that differs in its codes alone
pub shows_record : (f : ℕ → ℕ) → IsRecord f → ShowsRecord f
shows_record f r = record { name = r.name; molecule = r.molecule; marked = r.marked }

pub shows_alike : (f g : ℕ → ℕ) → ShowAlike f g → ShowsRecord f → ShowsRecord g
shows_alike f g same r = record {
  name = subst IsName (sym (alike_name f g same)) r.name;
  molecule = subst IsMolecule (sym (alike_molecule f g same)) r.molecule;
  marked = subst IsMarked (sym (alike_molecule f g same)) r.marked;
}

pub record_same : (f g : ℕ → ℕ) → ShowSame f g → IsRecord f → IsRecord g
record_same f g same r =
    let mol : molecule_in f ≡ molecule_in g = sym (same_molecule f g same) in record {
      name = subst IsName (sym (same_name f g same)) r.name;
      molecule = subst IsMolecule mol r.molecule;
      marked = subst IsMarked mol r.marked;
      codes = λ atom code below few. let below' : atom < atoms_in (f 0) = subst (λ h. atom < atoms_in h) same.head below in
          same_code f g atom code same below' few ∙ (r.codes atom code below' few ∙ ap (λ (m : Molecule). code_at m code (atom + 1)) mol);
    }

-- ---- a step of one account

-- the blocks of one account, by what it says of its room
abbrev ShowRecords : Shape → Who → List ℕ → List Sealed → Type 0
ShowRecords k who used blocks = Each (λ s. IsRecord (λ i. get_or used (s.place - region_of k who + i) 0)) blocks

abbrev AreRecords : Shape → Account → Type 0
AreRecords k a = ShowRecords k a.who a.room.used a.room.sealed

pub records_same : (k : Shape) (vs : List View) (id : ℕ) (v : View) (a : Account) → RecordRule k vs → get_elem? vs id ≡ some v → a.who ≡ v.me.who → a.room.used ≡ v.me.room.used → a.room.sealed ≡ v.me.room.sealed → RecordRule k (set vs id (with_me v a))
records_same k vs id v a r at who used sealed = changed (AreRecords k) vs id v a at
    (subst (λ (x : Who × List ℕ × List Sealed). ShowRecords k x.0 x.1 x.2) (λ t. (sym who t, sym used t, sym sealed t)) (mine (AreRecords k) vs id v at r)) r

-- one word more is stored: the blocks before it stay
pub own_longer : (k : Shape) (regions : ℕ → ℕ) (a : Account) (word : ℕ) (more : List Sealed) → RoomFits k regions (store_of a) → Each (λ s. ShowSame (own_block k (store_of a) s.place) (own_block k (store_of (after_word a word more)) s.place)) a.room.sealed
own_longer k regions a word more f j s there =
    let used : List ℕ = a.room.used in
    let fits = f.sealed j s there in
    let from = fits.from in
    let until = fits.until in
    let long = fits.long in
    let least = size_least (region_of k a.who) used s fits in
    let off : ℕ = s.place - region_of k a.who in record {
      head = get_or_append_left used (word ∷ []) 0 (off + 0) (omega arith);
      words = λ i past within. get_or_append_left used (word ∷ []) 0 (off + i) (omega arith);
    }

pub records_word : (k : Shape) (regions : ℕ → ℕ) (vs : List View) (id word : ℕ) (v : View) (more : List Sealed) → RecordRule k vs → EachAccount (λ x. RoomFits k regions (store_of x)) vs → get_elem? vs id ≡ some v → Each (MaySeal k v.me word) more → RecordRule k (set vs id (with_me v (after_word v.me word more)))
records_word k regions vs id word v more r rooms at seals =
    let a : Account = after_word v.me word more in
    let f = mine (λ x. RoomFits k regions (store_of x)) vs id v at rooms in
    let old = mine (AreRecords k) vs id v at r in
    changed (AreRecords k) vs id v a at
    (each_append (λ s. IsRecord (own_block k (store_of a) s.place)) v.me.room.sealed more
    (λ j s there. record_same (own_block k (store_of v.me) s.place) (own_block k (store_of a) s.place) (own_longer k regions v.me word more f j s there) (old j s there))
    (λ j s there. (seals j s there).shows))
    r

-- ---- a block that is published shows a record

pub known_records : (k : Shape) (p : Parts) (vs : List View) → RecordRule k vs → RoomRule k p.regions p.log.front p.log.slots vs → (i : ℕ) → i < p.log.front → ¬ (kind_in (p.log.slots i) ≡ 2) → IsRecord (block_at k p.regions (target_in (p.log.slots i)))
known_records k p vs records r i behind kind =
    let (j, v, at, n, a, there, shown) = r.named i behind kind in
    let (b, s, in_list, place) = shown.1 in
    subst (λ (z : ℕ). IsRecord (block_at k p.regions z)) place
    (record_same (own_block k (store_of a) s.place) (block_at k p.regions s.place) (block_stands k p.regions (store_of a) b s (r.rooms j v at n a there) in_list) (records j v at n a there b s in_list))

-- ---- splits, joins and the opening

-- an account without blocks
no_records : (k : Shape) (who : Who) (front : ℕ) → AreRecords k (account who front)
no_records k who front = each_none (λ s. IsRecord (own_block k (store_of (account who front)) s.place))

pub records_note : (k : Shape) (vs : List View) (shape : Shape) (front : ℕ) → RecordRule k vs → RecordRule k (vs ++ view shape (account Note front) ∷ [])
records_note k vs shape front r = each_more (AreRecords k) vs (account Note front) (view shape (account Note front)) refl refl (no_records k Note front) r

-- the opener's place is the same for every number
pub records_caller : (k : Shape) (vs : List View) (id m : ℕ) (v : View) → RecordRule k vs → get_elem? vs id ≡ some v → v.me.who ≡ Opener m → RecordRule k (set vs id (with_me v (after_made v.me)) ++ view k (account (caller_after k m) 0) ∷ [])
records_caller k vs id m v r at is = each_more (AreRecords k) (set vs id (with_me v (after_made v.me))) (account (caller_after k m) 0) (view k (account (caller_after k m) 0)) refl refl (no_records k (caller_after k m) 0)
    (changed (AreRecords k) vs id v (after_made v.me) at (subst (λ (w : Who). ShowRecords k w v.me.room.used v.me.room.sealed) is (mine (AreRecords k) vs id v at r)) r)

pub records_hear : (k : Shape) (vs : List View) (id front : ℕ) (v : View) → RecordRule k vs → get_elem? vs id ≡ some v → RecordRule k (set vs id (with_me v (after_hear v.me front)))
records_hear k vs id front v r at = records_same k vs id v (after_hear v.me front) r at refl refl refl

pub records_note_goes : (k : Shape) (vs : List View) (other : ℕ) → RecordRule k vs → RecordRule k (set vs other gone)
records_note_goes k vs other r = each_left (AreRecords k) vs other (no_records k Gone 0) r

pub records_gather : (k : Shape) (vs : List View) (id other : ℕ) (v w : View) → RecordRule k vs → get_elem? vs id ≡ some v → get_elem? vs other ≡ some w → RecordRule k (set (set vs id (keeping v w)) other gone)
records_gather k vs id other v w r at there = each_gathered (AreRecords k) vs id other v w at there (no_records k Gone 0) r

pub records_open : (k : Shape) → RecordRule k (opener k ∷ [])
records_open k = each_cons (λ (u : View). Each (AreRecords k) (accounts_in u)) (opener k) [] (each_cons (AreRecords k) (account (Opener 0) 0) [] (no_records k (Opener 0) 0) (each_none (AreRecords k))) (each_none (λ (u : View). Each (AreRecords k) (accounts_in u)))
