-- Loads of a block that a log word publishes: the block is sealed, all of it is in the table, and what is loaded of it stands.
use Rattle.std.proofs.Common.{◌≡◌, ◌≢◌, ℕ, ◌+◌, ◌*◌, ◌-◌, ◌<◌, ◌≤◌, ◌⊎◌, List, set, sym, refl, ap, ◌∙◌, subst, arith}
use mathlib.Core.Option.{some}
use lib.ListN.{get_elem?}
use Rattle.htss_defs.specs.declared.shape.Shape.{Shape}
use Rattle.board_core.specs.declared.account.Who.{Who}
use Rattle.board_core.specs.declared.account.Who.TheVariants.{Opener, Loader, Searcher, Note, Gone}
use Rattle.board_core.specs.declared.account.Account.{Account}
use Rattle.board_core.specs.declared.account.View.{View}
use Rattle.board_core.specs.declared.room.Row.{Row}
use Rattle.board_core.specs.declared.loads.CodeLoad.{CodeLoad}
use Rattle.board_core.specs.declared.loads.WordLoad.{WordLoad}
use Rattle.board_core.specs.declared.loads.ShownLoad.{ShownLoad}
use Rattle.board_core.specs.Each.{Each}
use Rattle.board_core.specs.Words.{LogWords, regions_at, total_of}
use Rattle.board_core.specs.LogWord.{kind_in, target_in}
use Rattle.board_core.specs.Blocks.{atoms_in, block_size}
use Rattle.board_core.specs.Histories.{block_at}
use Rattle.board_core.specs.Accounts.{with_me, EachAccount}
use Rattle.board_core.specs.Records.{code_word_at}
use Rattle.board_core.specs.SeatRule.{SeatRule, WhoFits}
use Rattle.board_core.specs.LoadRule.{LoadFits, LoadRule}
use Rattle.board_core.specs.RoomRule.{store_of, region_of, room_of, IsSealed, IsMark, RoomFits, RoomRule, SomeAccount}
use Rattle.board_core.specs.FactRule.{IsWordOf, word_at, HeadStands, FactStands, CodeStands, MarkStands, BlocksStand, IsCodeOf, AreOfBlocks, FactRule}
use Rattle.board_core.specs.Loaded.{KnowsBlock, KnowsHead, KnowsRow, IsInTable}
use Rattle.board_core.specs.After.{after_head, after_mark, after_fact, after_code}
use Rattle.board_core.proofs.Lists.{each_snoc}
use Rattle.board_core.proofs.Everyone.{mine}
use Rattle.board_core.proofs.Owner.{further, region_least}
use Rattle.board_core.proofs.RoomFrame.{size_least}
use Rattle.board_core.proofs.FactFrame.{Stay, stay_same, sealed_long, word_in_block, word_stays_in, of_blocks_stay, facts_changed}

-- ---- the block

pub known_sealed : (k : Shape) (regions : ℕ → ℕ) (w : LogWords) (vs : List View) (id block : ℕ) (v : View) → LoadRule k w vs → RoomRule k regions w.front w.slots vs → get_elem? vs id ≡ some v → KnowsBlock k v.me block → SomeAccount (λ x. IsSealed x.room.sealed block) vs
known_sealed k regions w vs id block v loads rooms at (number, known) =
    let l = known.log in
    let above = l.above in
    let inside = l.inside in
    let fits = mine (λ x. Each (LoadFits k w) x.loads.shown) vs id v at loads l.index l.load l.loaded in
    let stands = fits.log (number - 1) (omega arith) l.place in
    let word : w.slots (number - 1) ≡ known.word = stands.1 ∙ l.found in
    let (j, u, there, n, a, here, shown) = rooms.named (number - 1) stands.0 (subst (λ (z : ℕ). ¬ (kind_in z ≡ 2)) (sym word) known.kind) in
    (j, u, there, n, a, here, subst (IsSealed a.room.sealed) (ap target_in word ∙ known.names) shown.1)

-- a region is in the table
region_inside : (k : Shape) (who : Who) → WhoFits k who → region_of k who + room_of k who ≤ total_of k
region_inside k (Loader n) fits =
    let above = fits.0 in
    let within = fits.1 in
    let gap = further (n - 1) k.loaders k.room (omega arith) in
    let low : ℕ = (n - 1) * k.room in
    let high : ℕ = k.loaders * k.room in
    let gap' : low + k.room ≤ high = gap in inside (regions_at k) low high k.room gap'
  where
    inside : (base low high room : ℕ) → low + room ≤ high → base + low + room ≤ base + high
    inside base low high room h = omega arith
region_inside k (Searcher n) fits = omega arith
region_inside k (Opener n) fits = omega arith
region_inside k Note fits = omega arith
region_inside k Gone fits = omega arith

pub sealed_in_table : (k : Shape) (regions : ℕ → ℕ) (vs : List View) (block : ℕ) → SeatRule k vs → EachAccount (λ x. RoomFits k regions (store_of x)) vs → SomeAccount (λ x. IsSealed x.room.sealed block) vs → IsInTable k block × (block + block_size (block_at k regions block 0) ≤ total_of k)
sealed_in_table k regions vs block seats rooms (j, v, at, n, a, there, sealed) =
    let (b, s, in_list, place) = sealed in
    let f = rooms j v at n a there in
    let fits = f.sealed b s in_list in
    let from = fits.from in
    let until = fits.until in
    let within = f.within in
    let least = size_least (region_of k a.who) a.room.used s fits in
    let begin = region_least k a.who in
    let end = region_inside k a.who (seats.limits j v at n a there) in
    let total : ℕ = total_of k in
    let end' : region_of k a.who + room_of k a.who ≤ total = end in
    let size : ℕ = block_size (block_at k regions block 0) in
    let long : s.size ≡ size = sealed_long k regions a b s f in_list ∙ ap (λ z. block_size (block_at k regions z 0)) place in
    let past : block + 3 ≤ total = omega arith in
    let all : block + size ≤ total = omega arith in (record { from = omega arith; until = past }, all)

pub known_in_table : (k : Shape) (regions : ℕ → ℕ) (w : LogWords) (vs : List View) (id block : ℕ) (v : View) → SeatRule k vs → LoadRule k w vs → RoomRule k regions w.front w.slots vs → get_elem? vs id ≡ some v → KnowsBlock k v.me block → IsInTable k block × (block + block_size (block_at k regions block 0) ≤ total_of k)
known_in_table k regions w vs id block v seats loads rooms at known = sealed_in_table k regions vs block seats rooms.rooms (known_sealed k regions w vs id block v loads rooms at known)

-- its first word, if it was loaded, is the table's
pub head_is : (k : Shape) (regions : ℕ → ℕ) (front : ℕ) (vs : List View) (id block head : ℕ) (v : View) → FactRule k regions front vs → get_elem? vs id ≡ some v → KnowsHead k v.me block head → block_at k regions block 0 ≡ head
head_is k regions front vs id block head v r at known =
    let f = mine (λ x. BlocksStand k regions front x.loads) vs id v at r.stand in
    ap (λ z. block_at k regions z 0) (sym known.place) ∙ (f.heads known.index known.load known.loaded ∙ known.found)

-- the block of a row of which a code was loaded is sealed
pub coded_sealed : (k : Shape) (regions : ℕ → ℕ) (front : ℕ) (vs : List View) (id block : ℕ) (v : View) → FactRule k regions front vs → get_elem? vs id ≡ some v → KnowsRow v.me block → SomeAccount (λ x. IsSealed x.room.sealed block) vs
coded_sealed k regions front vs id block v r at (atom, code, word, known) =
    let of = mine (λ x. AreOfBlocks k regions vs x.loads) vs id v at r.of_blocks in
    subst (λ (z : ℕ). SomeAccount (λ x. IsSealed x.room.sealed z) vs) known.row.0 (of.codes known.index known.load known.loaded).sealed

-- ---- what is loaded of it

abbrev pub AreSealed : List View → ℕ → Type 0
AreSealed vs block = SomeAccount (λ x. IsSealed x.room.sealed block) vs

pub facts_head : (k : Shape) (regions : ℕ → ℕ) (front : ℕ) (vs : List View) (id block : ℕ) (v : View) → FactRule k regions front vs → get_elem? vs id ≡ some v → AreSealed vs block
    → FactRule k regions front (set vs id (with_me v (after_head v.me block (block_at k regions block 0))))
facts_head k regions front vs id block v r at sealed =
    let new : WordLoad = record { place = block; word = block_at k regions block 0 } in
    let a : Account = after_head v.me block (block_at k regions block 0) in
    let ws : List View = set vs id (with_me v a) in
    let stay : Stay vs ws = stay_same vs id v a at refl in
    let f = mine (λ x. BlocksStand k regions front x.loads) vs id v at r.stand in
    let of = of_blocks_stay k regions vs ws v.me.loads stay (mine (λ x. AreOfBlocks k regions vs x.loads) vs id v at r.of_blocks) in
    facts_changed k regions front front vs id v a r at (omega arith) stay
    record { heads = each_snoc (HeadStands k regions) v.me.loads.heads new refl f.heads; facts = f.facts; codes = f.codes; marks = f.marks }
    record {
      heads = each_snoc (λ x. SomeAccount (λ y. IsSealed y.room.sealed x.place) ws) v.me.loads.heads new (stay (λ s. s.place ≡ block) sealed) of.heads;
      facts = of.facts;
      codes = of.codes;
      marks = of.marks;
    }

-- a place that is one of the two marks of a sealed block
mark_of : (vs : List View) (block place : ℕ) → (place ≡ block + 1) ⊎ (place ≡ block + 2) → SomeAccount (λ x. IsSealed x.room.sealed block) vs → SomeAccount (λ x. IsMark x.room.sealed place) vs
mark_of vs block place is (j, v, at, n, a, there, sealed) = let (b, s, in_list, same) = sealed in (j, v, at, n, a, there, (b, s, in_list, subst (λ z. (place ≡ z + 1) ⊎ (place ≡ z + 2)) (sym same) is))

pub facts_mark : (k : Shape) (regions : ℕ → ℕ) (front : ℕ) (vs : List View) (id block place : ℕ) (v : View) → FactRule k regions front vs → get_elem? vs id ≡ some v → AreSealed vs block → v.me.log.seen ≤ front → (place ≡ block + 1) ⊎ (place ≡ block + 2)
    → FactRule k regions front (set vs id (with_me v (after_mark v.me place (word_at k regions place))))
facts_mark k regions front vs id block place v r at sealed seen is =
    let new : ShownLoad = record { place = place; word = word_at k regions place; front = v.me.log.seen } in
    let a : Account = after_mark v.me place (word_at k regions place) in
    let ws : List View = set vs id (with_me v a) in
    let stay : Stay vs ws = stay_same vs id v a at refl in
    let f = mine (λ x. BlocksStand k regions front x.loads) vs id v at r.stand in
    let of = of_blocks_stay k regions vs ws v.me.loads stay (mine (λ x. AreOfBlocks k regions vs x.loads) vs id v at r.of_blocks) in
    facts_changed k regions front front vs id v a r at (omega arith) stay
    record { heads = f.heads; facts = f.facts; codes = f.codes; marks = each_snoc (MarkStands k regions front) v.me.loads.marks new record { seen = seen; told = λ _ _. refl; later = λ free. free } f.marks }
    record {
      heads = of.heads;
      facts = of.facts;
      codes = of.codes;
      marks = each_snoc (λ x. SomeAccount (λ y. IsMark y.room.sealed x.place) ws) v.me.loads.marks new (mark_of ws block place is (stay (λ s. s.place ≡ block) sealed)) of.marks;
    }

pub facts_fact : (k : Shape) (regions : ℕ → ℕ) (w : LogWords) (vs : List View) (id block head i : ℕ) (v : View) → FactRule k regions w.front vs → LoadRule k w vs → RoomRule k regions w.front w.slots vs → get_elem? vs id ≡ some v → KnowsHead k v.me block head → i < block_size head → i ≢ 1 → i ≢ 2
    → FactRule k regions w.front (set vs id (with_me v (after_fact v.me (block + i) (word_at k regions (block + i)))))
facts_fact k regions w vs id block head i v r loads rooms at known within not_first not_second =
    let new : WordLoad = record { place = block + i; word = word_at k regions (block + i) } in
    let a : Account = after_fact v.me (block + i) (word_at k regions (block + i)) in
    let ws : List View = set vs id (with_me v a) in
    let stay : Stay vs ws = stay_same vs id v a at refl in
    let f = mine (λ x. BlocksStand k regions w.front x.loads) vs id v at r.stand in
    let of = of_blocks_stay k regions vs ws v.me.loads stay (mine (λ x. AreOfBlocks k regions vs x.loads) vs id v at r.of_blocks) in
    let sealed = known_sealed k regions w vs id block v loads rooms at known.known in
    let within' : i < block_size (block_at k regions block 0) = subst (λ h. i < block_size h) (sym (head_is k regions w.front vs id block head v r at known)) within in
    facts_changed k regions w.front w.front vs id v a r at (omega arith) stay
    record { heads = f.heads; facts = each_snoc (FactStands k regions) v.me.loads.facts new refl f.facts; codes = f.codes; marks = f.marks }
    record {
      heads = of.heads;
      facts = each_snoc (λ x. SomeAccount (λ y. IsWordOf y.room.sealed x.place) ws) v.me.loads.facts new (word_stays_in vs ws (block + i) stay (word_in_block k regions vs block i rooms.rooms sealed within' not_first not_second)) of.facts;
      codes = of.codes;
      marks = of.marks;
    }

pub facts_code : (k : Shape) (regions : ℕ → ℕ) (front : ℕ) (vs : List View) (id head code : ℕ) (row : Row) (v : View) → FactRule k regions front vs → get_elem? vs id ≡ some v → AreSealed vs row.block → block_at k regions row.block 0 ≡ head → 0 < row.atom → row.atom ≤ atoms_in head → code < 5
    → FactRule k regions front (set vs id (with_me v (after_code v.me row code (block_at k regions row.block (code_word_at head (row.atom - 1) code)))))
facts_code k regions front vs id head code row v r at sealed is above within few =
    let word : ℕ = block_at k regions row.block (code_word_at head (row.atom - 1) code) in
    let new : CodeLoad = record { row = row; code = code; word = word } in
    let a : Account = after_code v.me row code word in
    let ws : List View = set vs id (with_me v a) in
    let stay : Stay vs ws = stay_same vs id v a at refl in
    let f = mine (λ x. BlocksStand k regions front x.loads) vs id v at r.stand in
    let of = of_blocks_stay k regions vs ws v.me.loads stay (mine (λ x. AreOfBlocks k regions vs x.loads) vs id v at r.of_blocks) in
    facts_changed k regions front front vs id v a r at (omega arith) stay
    record { heads = f.heads; facts = f.facts; codes = each_snoc (CodeStands k regions) v.me.loads.codes new (ap (λ h. block_at k regions row.block (code_word_at h (row.atom - 1) code)) is) f.codes; marks = f.marks }
    record {
      heads = of.heads;
      facts = of.facts;
      codes = each_snoc (IsCodeOf k regions ws) v.me.loads.codes new record { sealed = stay (λ s. s.place ≡ row.block) sealed; above = above; atom = subst (λ h. row.atom ≤ atoms_in h) (sym is) within; code = few } of.codes;
      marks = of.marks;
    }
