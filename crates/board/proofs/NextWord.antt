-- Places of words in the regions: the next word of a loader's region, and the words of a block.
use Rattle.std.proofs.Common.{◌≡◌, ◌≢◌, ℕ, ◌+◌, ◌*◌, ◌-◌, ◌^◌, ◌≤◌, ◌<◌, [], ◌∷◌, length, sym, ap, ◌∙◌, subst, arith}
use mathlib.Core.Option.{none}
use Rattle.std.proofs.lemmas.Nat.{mul-le}
use Rattle.atomic_table.specs.Table.{Allows, step}
use Rattle.htss_defs.specs.declared.shape.Shape.{Shape}
use Rattle.htss_defs.specs.declared.shape.Field.TheVariants.{Room}
use Rattle.htss_defs.specs.Shapes.{IsShape}
use Rattle.board_core.specs.declared.account.Account.{Account}
use Rattle.board_core.specs.declared.account.Who.{Who}
use Rattle.board_core.specs.declared.account.Who.TheVariants.{Loader, Gone}
use Rattle.board_core.specs.declared.log.Ending.{Ending}
use Rattle.board_core.specs.declared.room.Sealed.{Sealed}
use Rattle.board_core.specs.Words.{regions_at, regions_size, total_of}
use Rattle.board_core.specs.declared.room.Row.{Row}
use Rattle.board_core.specs.Blocks.{block_size, atoms_in}
use Rattle.board_core.specs.Records.{code_word_at}
use Rattle.board_core.specs.Loaded.{KnowsHead, IsInTable}
use Rattle.board_core.specs.SeatRule.{WhoFits}
use Rattle.board_core.specs.RoomRule.{region_of}
use Rattle.board_core.specs.Holds.{Holds}
use Rattle.board_core.specs.Steps.{Mine, MayStore, MaySeal, MayMark, MayPublish, MayEnd, Stores, Shows, Ends, LoadsCode}
use Rattle.board_core.proofs.BlockWords.{block_least}
use Rattle.board_core.proofs.RecordFrame.{code_within}
use Rattle.board_core.proofs.LoadBlock.{code_allowed}
use Rattle.board_core.proofs.Owner.{further}
use Rattle.board_core.proofs.StoreWord.{seal_allowed}
use Rattle.board_core.proofs.StoreMark.{shows_allowed, ends_allowed}
use Rattle.board.proofs.Tied.{loaders_at_most, searchers_at_most, pages_at_most, log_at_most}

-- a board has fewer than 2^40 words
pub total_small : (k : Shape) → IsShape k → total_of k < 2 ^ 40
total_small k h = sum k.loaders k.searchers k.pages k.log (k.loaders * k.room) (loaders_at_most k h) (searchers_at_most k h) (pages_at_most k h) (log_at_most k h) (mul-le k.loaders k.room 16 16777216 (loaders_at_most k h) (h Room).1)
  where
    sum : (l s p g size : ℕ) → l ≤ 16 → s ≤ 16 → p ≤ 4194304 → g ≤ 1048576 → size ≤ 16 * 16777216 → 3 + l + s + p + 16 * p + g + size < 2 ^ 40
    sum l s p g size a b c d e = omega arith

pub room_at_most : (k : Shape) → IsShape k → k.room ≤ 16777216
room_at_most k h = (h Room).1

-- the next word of a loader's region is a word of the table
pub next_word : (k : Shape) (loader used at : ℕ) → at ≡ region_of k (Loader loader) → (0 < loader) × (loader ≤ k.loaders) → used < k.room → at + used < total_of k
next_word k loader used at is fits room =
    let above = fits.0 in
    let below = fits.1 in
    let gap = further (loader - 1) k.loaders k.room (omega arith) in
    let low : ℕ = (loader - 1) * k.room in
    let high : ℕ = k.loaders * k.room in
    let gap' : low + k.room ≤ high = gap in
    let from : at ≡ regions_at k + low = is in
    let all : total_of k ≡ regions_at k + high = λ _. total_of k in omega arith

-- a loader's number is within the shape
pub loader_fits : (k : Shape) (who : Who) (loader : ℕ) → who ≡ Loader loader → WhoFits k who → (0 < loader) × (loader ≤ k.loaders)
loader_fits k who loader is fits = subst (WhoFits k) is fits

-- ---- the words of a block

pub region_place : (k : Shape) (block i : ℕ) → IsInTable k block → block + i ≡ regions_at k + (block + i - regions_at k)
region_place k block i h = back (block + i) (regions_at k) (more block i (regions_at k) h.from)
  where
    back : (at from : ℕ) → from ≤ at → at ≡ from + (at - from)
    back at from l = omega arith

    more : (block i from : ℕ) → from ≤ block → from ≤ block + i
    more block i from l = omega arith

pub region_inside : (k : Shape) (block i : ℕ) → i < 3 → IsInTable k block → block + i - regions_at k < regions_size k
region_inside k block i few h = less block i (regions_at k) (regions_size k) few h.from h.until
  where
    less : (block i from size : ℕ) → i < 3 → from ≤ block → block + 3 ≤ from + size → block + i - from < size
    less block i from size few a b = omega arith

pub block_word : (words block i : ℕ) (k : Shape) → words ≡ total_of k → i < 3 → IsInTable k block → block + i < words
block_word words block i k e few h = let until = h.until in omega arith

pub block_fits : (k : Shape) (block i : ℕ) → IsShape k → i < 3 → IsInTable k block → block + i < 2 ^ 40
block_fits k block i h few t = let small = total_small k h in let until = t.until in omega arith

pub next_fits : (k key : Shape) (a : Account) (seen : ℕ) → key ≡ k → IsShape k → MayMark key a → seen ≡ a.log.seen → seen + 1 < 2 ^ 32
next_fits k key a seen e h may is = let room : a.log.seen < k.log = subst (λ (z : Shape). a.log.seen < z.log) e may.room in let most = log_at_most k h in omega arith

-- ---- the block, or the withdrawal, is the one that the step's play names

pub seal_asked : (k : Shape) (slots id place loader word : ℕ) (m : Mine) (new named : Sealed) → named ≡ new → place ≡ region_of k m.0.me.who + length m.0.me.room.used → MayStore k m.0.me loader → MaySeal k m.0.me word new
    → Allows (Holds k) slots id m place (λ _. word) (λ _. Stores (named ∷ []) (step slots place word 0 none) m word)
seal_asked k slots id place loader word m new named same is may seals = subst (λ (b : Sealed). Allows (Holds k) slots id m place (λ _. word) (λ _. Stores (b ∷ []) (step slots place word 0 none) m word)) (sym same)
    (seal_allowed k slots id place loader word m new is may seals)

pub shows_asked : (k : Shape) (slots id n block named : ℕ) (m : Mine) → named ≡ block → IsInTable k block → n ≡ m.0.me.log.seen + 1 → MayPublish k m.0.me block
    → Allows (Holds k) slots id m (block + 1) (λ _. n) (λ _. Shows named (step slots (block + 1) n 0 none) m n)
shows_asked k slots id n block named m same here number may = subst (λ (b : ℕ). Allows (Holds k) slots id m (block + 1) (λ _. n) (λ _. Shows b (step slots (block + 1) n 0 none) m n)) (sym same)
    (shows_allowed k slots id (block + 1) (block + 1 - regions_at k) n block m (region_place k block 1 here) (region_inside k block 1 (omega arith) here) (λ _. block + 1) number may)

pub ends_asked : (k : Shape) (slots id n : ℕ) (e named : Ending) (m : Mine) → named ≡ e → IsInTable k e.block → n ≡ m.0.me.log.seen + 1 → MayEnd k m.0.me e
    → Allows (Holds k) slots id m (e.block + 2) (λ _. n) (λ _. Ends named (step slots (e.block + 2) n 0 none) m n)
ends_asked k slots id n e named m same here number may = subst (λ (x : Ending). Allows (Holds k) slots id m (e.block + 2) (λ _. n) (λ _. Ends x (step slots (e.block + 2) n 0 none) m n)) (sym same)
    (ends_allowed k slots id (e.block + 2) (e.block + 2 - regions_at k) n m e (region_place k e.block 2 here) (region_inside k e.block 2 (omega arith) here) (λ _. e.block + 2) number may)

-- ---- what a store of the next word owes

pub place_is : (k key : Shape) (a : Account) (loader at used : ℕ) → key ≡ k → at ≡ region_of k (Loader loader) → a.who ≡ Loader loader → used ≡ length a.room.used → at + used ≡ region_of key a.who + length a.room.used
place_is k key a loader at used e is who count = λ i. (is ∙ (ap (region_of k) (sym who) ∙ ap (λ (z : Shape). region_of z a.who) (sym e))) i + count i

pub used_less : (k key : Shape) (a : Account) (loader used : ℕ) → key ≡ k → MayStore key a loader → used ≡ length a.room.used → used < k.room
used_less k key a loader used e may count = let room : length a.room.used < k.room = subst (λ (z : Shape). length a.room.used < z.room) e may.room in omega arith

pub loader_within : (k l : Shape) (a : Account) (loader : ℕ) → l ≡ k → a.who ≡ Loader loader → WhoFits l a.who → (0 < loader) × (loader ≤ k.loaders)
loader_within k l a loader e who fits = loader_fits k a.who loader who (subst (λ (z : Shape). WhoFits z a.who) e fits)

-- ---- what a load of a block's word owes

pub first_inside : (words block : ℕ) (k : Shape) → words ≡ total_of k → IsInTable k block → block < words
first_inside words block k e h = let until = h.until in omega arith

pub word_inside : (words block size i : ℕ) (k : Shape) → words ≡ total_of k → block + size ≤ total_of k → i < size → block + i < words
word_inside words block size i k e h inside = omega arith

pub word_fits : (k : Shape) (block size i : ℕ) → IsShape k → block + size ≤ total_of k → i < size → block + i < 2 ^ 40
word_fits k block size i h until inside = let small = total_small k h in omega arith

pub block_small : (k : Shape) (block head : ℕ) → IsShape k → block + block_size head ≤ total_of k → block < 2 ^ 40
block_small k block head h until = let small = total_small k h in let least = block_least head in omega arith

pub code_inside : (words block head atom code at : ℕ) (k : Shape) → words ≡ total_of k → block + block_size head ≤ total_of k → at ≡ block + code_word_at head (atom - 1) code → 0 < atom → atom ≤ atoms_in head → code < 5 → at < words
code_inside words block head atom code at k e until is above few less = let within = (code_within head (atom - 1) code (omega arith) less).1 in omega arith

pub code_asked : (k : Shape) (slots id place block head atom code named : ℕ) (row : Row) (m : Mine) → row ≡ record { block = block; atom = atom } → named ≡ code → place ≡ block + code_word_at head (atom - 1) code → KnowsHead k m.0.me block head → 0 < atom → atom ≤ atoms_in head → code < 5 → m.0.me.who ≢ Gone
    → Allows (Holds k) slots id m place (λ n. n) (LoadsCode row named (step slots place 0 0 none) m)
code_asked k slots id place block head atom code named row m same also is knows above few less here = subst (λ (x : Row × ℕ). Allows (Holds k) slots id m place (λ n. n) (LoadsCode x.0 x.1 (step slots place 0 0 none) m)) (λ i. (sym same i, sym also i))
    (code_allowed k slots id place head code (record { block = block; atom = atom }) m is knows above few less here)

-- a loader's region ends within the table
pub region_end : (k : Shape) (loader : ℕ) → (0 < loader) × (loader ≤ k.loaders) → region_of k (Loader loader) + k.room ≤ total_of k
region_end k loader fits =
    let above = fits.0 in
    let below = fits.1 in
    let gap = further (loader - 1) k.loaders k.room (omega arith) in
    let low : ℕ = (loader - 1) * k.room in
    let high : ℕ = k.loaders * k.room in
    let gap' : low + k.room ≤ high = gap in
    let all : total_of k ≡ regions_at k + high = λ _. total_of k in sum (regions_at k) low k.room high gap'
  where
    sum : (base low room high : ℕ) → low + room ≤ high → base + low + room ≤ base + high
    sum base low room high g = omega arith
