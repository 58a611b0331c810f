-- When a caller may take each kind of step, and what the step tells it: of the seat before, the number found, and the
-- seat after.
use Rattle.std.specs.Prelude.{◌≡◌, ◌≢◌, ◌↔◌, ℕ, ◌<◌, ◌≤◌, ◌^◌, ◌⊎◌, List, [], Some, None, length, ◌++◌, ◌∷◌, ◌+◌, ◌-◌}
use Rattle.std.specs.Prelude.{◌*◌, Bool, true, false}
use Rattle.atomic_table.specs.Table.{Me, Step}
use Rattle.htss_defs.specs.declared.shape.Shape.{Shape}
use Rattle.htss_defs.specs.declared.history.Event.{Event}
use Rattle.htss_defs.specs.History.{IsLegal, Withdraws}
use Rattle.board_core.specs.declared.account.Account.{Account}
use Rattle.board_core.specs.declared.account.View.{View}
use Rattle.board_core.specs.declared.account.Who.TheVariants.{Loader}
use Rattle.board_core.specs.declared.log.Holding.TheVariants.{Away, Fronted}
use Rattle.board_core.specs.declared.log.Ending.{Ending}
use Rattle.board_core.specs.declared.entry.Entry.{Entry}
use Rattle.board_core.specs.Each.{Each, In}
use Rattle.board_core.specs.Words.{Parts, total_of}
use Rattle.board_core.specs.Blocks.{shown_at, ended_at, block_size}
use Rattle.board_core.specs.Records.{IsRecord}
use Rattle.board_core.specs.Histories.{block_at, history_of, shown_by}
use Rattle.board_core.specs.Accounts.{nothing, with_me}
use Rattle.board_core.specs.Truths.{IsTrueRoom, IsTrueLog, IsTruePool, told_in}
use Rattle.board_core.specs.declared.room.Sealed.{Sealed}
use Rattle.board_core.specs.declared.room.Row.{Row}
use Rattle.board_core.specs.RoomRule.{own_block, region_of, store_of, IsSealed, SealedFits}
use Rattle.board_core.specs.MarkRule.{IsAmong, AreListed, ShowsAt}
use Rattle.board_core.specs.Loaded.{HasLoaded, SawMark, IsOpenMark, IsInTable, IsPage, HasEpoch, HasState, HasParted}
use Rattle.board_core.specs.Loaded.{HasOwn, IsVisit, HasStored, one_word, leaf_place, next_place, IsToPlace, IsToClaim}
use Rattle.board_core.specs.declared.tree.Link.TheVariants.{Unread}
use Rattle.board_core.specs.ClassTree.{Place, chained, page_room, header_of}
use Rattle.board_core.specs.Plan.{own_word, IsWhole, MayHaveCodes, Plan}
use Rattle.board_core.specs.KnownPages.{place_of}
use Rattle.board_core.specs.Rows.{entry_word, code_of, words_of, IsOwnRow, HasRow}
use mathlib.Core.Option.{some}
use lib.ListN.{get_elem?}
use Rattle.board_core.specs.LoadRule.{LoadFits}
use Rattle.board_core.specs.FactRule.{BlocksStand}
use Rattle.board_core.specs.Sheets.{owns}
use Rattle.board_core.specs.StateRule.{StatesStand}
use Rattle.board_core.specs.ChainRule.{IsToldChain}
use Rattle.board_core.specs.EpochRule.{IsPast, last_epoch}
use Rattle.board_core.specs.LogWord.{publication_word, target_in, withdrawal_word, ShowsBlock}
use Rattle.board_core.specs.After.{visited, after_begun, after_linked, after_inner, after_split, after_entry, after_own}
use Rattle.board_core.specs.After.{after_walk, after_slot, after_link, after_more, after_epoch, after_advance}
use Rattle.board_core.specs.After.{after_pin, after_unpin, after_pass, after_state, after_lost, after_page}
use Rattle.board_core.specs.After.{after_retire, after_code, after_fact, after_head, after_mark, after_word, noted}
use Rattle.board_core.specs.After.{after_take, after_free, after_answer, after_front, after_shows, after_ends}
use Rattle.board_core.specs.After.{after_logged, after_event, after_shown, after_next}
use Rattle.board_core.specs.PublishedRule.{AllPlaced}
use Rattle.board_core.specs.CountRule.{most_linked, most_own, insertions_of}
use Rattle.board_core.specs.Swept.{IsTrueSwept}

abbrev pub Mine : Type 0
Mine = Me (Unit {0}) View

-- the seat after, where the account became this one
abbrev pub became : Mine → Account → Mine
became m a = (with_me m.0 a, m.1)

-- ---- conditions, over the account

-- the lock may be tried
abbrev pub MayTake : Account → Type 0
MayTake a = a.log.holding ≡ Away

-- the lock may be freed: the front was loaded, and nothing is stored that is not shown
abbrev pub MayFree : Account → Type 0
MayFree a = (a.log.holding ≡ Fronted) × (a.log.pending ≡ nothing)

-- the next word of the region may be stored
pub record MayStore (k : Shape) (a : Account) (loader : ℕ) : Type 0 where
  pub who : a.who ≡ Loader loader
  pub room : length a.room.used < k.room

-- with that word a block is complete: it lies past the others, is as long as its first word says, has no mark, and
-- shows a record
pub record MaySeal (k : Shape) (a : Account) (word : ℕ) (s : Sealed) : Type 0 where
  pub fits : SealedFits (region_of k a.who) (a.room.used ++ word ∷ []) s
  pub past : Each (λ t. t.place + t.size ≤ s.place) a.room.sealed
  pub first : own_block k (store_of (after_word a word [])) s.place shown_at ≡ 0
  pub last : own_block k (store_of (after_word a word [])) s.place ended_at ≡ 0
  pub shows : IsRecord (own_block k (store_of (after_word a word [])) s.place)

-- a mark may be stored: the front was loaded under the lock, the log has room, and nothing is pending
pub record MayMark (k : Shape) (a : Account) : Type 0 where
  pub holding : a.log.holding ≡ Fronted
  pub room : a.log.seen < k.log
  pub quiet : a.log.pending ≡ nothing

-- the first mark of an own block may be stored: it is not published
pub record MayPublish (k : Shape) (a : Account) (block : ℕ) : Type 0 where
  pub may : MayMark k a
  pub sealed : IsSealed a.room.sealed block
  pub fresh : ¬ (IsAmong a.room.published block)
  pub placed : AllPlaced k a.who a.room.used a.tree.placed block

-- the last mark of a block may be stored: the number's log word was loaded as its publication, and this mark, at the
-- front that is seen, as no event's
pub record MayEnd (k : Shape) (a : Account) (e : Ending) : Type 0 where
  pub may : MayMark k a
  pub loaded : HasLoaded k a e.target e.block
  pub mark : ℕ
  pub saw : SawMark a e.block a.log.seen mark
  pub is_open : IsOpenMark a.log.seen mark

-- the word of the publication, or of the withdrawal, whose mark is stored
abbrev pub IsPublicationOf : Account → ℕ → ℕ → Type 0
IsPublicationOf a loader word = (block : ℕ) × (a.log.pending.shows ≡ Some block) × (block < 2 ^ 40)
    × (word ≡ publication_word loader block)

abbrev pub IsWithdrawalOf : Account → ℕ → ℕ → Type 0
IsWithdrawalOf a loader word = (e : Ending) × (a.log.pending.ends ≡ Some e) × (e.target < 2 ^ 40)
    × (word ≡ withdrawal_word loader e.target)

-- the log word may be stored: it is that of the publication, or of the withdrawal, whose mark is stored
pub record MayLog (k : Shape) (a : Account) (loader word : ℕ) : Type 0 where
  pub holding : a.log.holding ≡ Fronted
  pub who : a.who ≡ Loader loader
  pub small : loader < 2 ^ 8
  pub room : a.log.seen < k.log
  pub not_yet : a.log.pending.logged ≡ None
  pub kind : IsPublicationOf a loader word ⊎ IsWithdrawalOf a loader word

-- the event that the caller's log word shows, by what it has stored
abbrev pub event_by : Shape → Account → ℕ → Event
event_by k a word = shown_by (own_block k (store_of a) (target_in word)) word

-- the event may be shown
pub record MayShowEvent (a : Account) (word : ℕ) : Type 0 where
  pub holding : a.log.holding ≡ Fronted
  pub logged : a.log.pending.logged ≡ Some word

-- an epoch that was loaded may be announced by a caller that is not pinned
pub record MayPin (a : Account) (e : ℕ) : Type 0 where
  pub unpinned : a.pool.announced ≡ 0
  pub loaded : HasEpoch a e

-- the epoch after one that was loaded may be tried
pub record MayAdvance (a : Account) (e : ℕ) : Type 0 where
  pub loaded : HasEpoch a e
  pub most : e < last_epoch

-- the scan is at this caller, counted from 0
pub record MayPass (k : Shape) (a : Account) (i : ℕ) : Type 0 where
  pub here : a.pool.passed ≡ i
  pub inside : i < k.loaders + k.searchers

-- a page whose state was loaded as this word may be taken: it was free, or retired below the least epoch of a scan that
-- has passed all callers
pub record MayTakePage (k : Shape) (a : Account) (loader p x : ℕ) : Type 0 where
  pub who : a.who ≡ Loader loader
  pub inside : IsPage k p
  pub other : x ≢ 1
  pub seen : HasState a p x
  pub below : x ≢ 0 → x ≤ a.pool.low
  pub scanned : x ≢ 0 → k.loaders + k.searchers ≤ a.pool.passed
  pub few : length a.pool.own < most_own

-- a page may be retired with this stamp: it is unlinked and has it
pub record MayRetire (k : Shape) (a : Account) (p n : ℕ) : Type 0 where
  pub inside : IsPage k p
  pub parted : HasParted a p n

-- a code of an own row may be loaded
pub record MayLoadOwn (k : Shape) (a : Account) (row : Row) (head code : ℕ) : Type 0 where
  pub row_is : IsOwnRow k a row
  pub head_is : words_of k a.who a.room.used row.block 0 ≡ head
  pub code_is : code < 5

-- word i of an own page may be stored: the words before it were
pub record MayStoreOwn (k : Shape) (a : Account) (p i : ℕ) : Type 0 where
  pub inside : IsPage k p
  pub small : i < 16
  pub own : HasOwn a p
  pub before : Each (λ o. o.page ≡ p → i ≤ length o.words) a.pool.own

-- the next code or entry of a page may be loaded
pub record MayLoadSlot (k : Shape) (a : Account) (j : ℕ) : Type 0 where
  pub visit : IsVisit k a j
  pub unread : (visited a.tree.reached j).more ≡ Unread
  pub room : length (visited a.tree.reached j).slots < page_room (visited a.tree.reached j).leaf

-- the link of a code that was loaded
pub record MayLoadLink (k : Shape) (a : Account) (j i c : ℕ) : Type 0 where
  pub visit : IsVisit k a j
  pub pinned : 0 < a.pool.announced
  pub inner : (visited a.tree.reached j).leaf ≡ false
  pub code : get_elem? (visited a.tree.reached j).slots i ≡ some c
  pub not_zero : (visited a.tree.reached j).zero ≡ false
  pub unread : (visited a.tree.reached j).more ≡ Unread

-- the next page of one that was read whole
pub record MayLoadMore (k : Shape) (a : Account) (j : ℕ) : Type 0 where
  pub visit : IsVisit k a j
  pub pinned : 0 < a.pool.announced
  pub full : length (visited a.tree.reached j).slots ≡ page_room (visited a.tree.reached j).leaf
  pub not_zero : (visited a.tree.reached j).zero ≡ false

-- so many own pages may go into the tree, for the insertions that were begun
abbrev pub MayLink : Account → ℕ → Type 0
MayLink a n = a.counts.linked + n ≤ most_linked * insertions_of a

-- a link that is 0 may be exchanged for a leaf that has a row
pub record MayLinkLeaf (k : Shape) (a : Account) (j i c n : ℕ) (r : Row) : Type 0 where
  pub load : MayLoadLink k a j i c
  pub new : HasStored a n (one_word (header_of (leaf_place (visited a.tree.reached j) i c)) (entry_word r))
  pub row : IsToPlace k a ((visited a.tree.reached j).path ++ c ∷ []) r
  pub few : MayLink a 1

-- the next code word of a page, of which all codes before it were loaded, may be exchanged for a code
pub record MayClaimCode (k : Shape) (a : Account) (j c : ℕ) : Type 0 where
  pub visit : IsVisit k a j
  pub inner : (visited a.tree.reached j).leaf ≡ false
  pub unread : (visited a.tree.reached j).more ≡ Unread
  pub room : length (visited a.tree.reached j).slots < 7
  pub claim : IsToClaim k a (visited a.tree.reached j).path c

-- the next entry for a row
pub record MayClaimEntry (k : Shape) (a : Account) (j : ℕ) (r : Row) : Type 0 where
  pub visit : IsVisit k a j
  pub leaf : (visited a.tree.reached j).leaf ≡ true
  pub unread : (visited a.tree.reached j).more ≡ Unread
  pub room : length (visited a.tree.reached j).slots < 14
  pub row : IsToPlace k a (visited a.tree.reached j).path r

-- the next page of a full one may be linked
pub record MayLinkNext (k : Shape) (a : Account) (j n word : ℕ) : Type 0 where
  pub load : MayLoadMore k a j
  pub rank : (visited a.tree.reached j).rank + 1 < k.chain
  pub new : HasStored a n (one_word (header_of (next_place (visited a.tree.reached j))) word)
  pub few : MayLink a 1

-- a leaf that has a row, and an inner page that has a code
pub record MayLinkMoreLeaf (k : Shape) (a : Account) (j n : ℕ) (r : Row) : Type 0 where
  pub may : MayLinkNext k a j n (entry_word r)
  pub leaf : (visited a.tree.reached j).leaf ≡ true
  pub deep : chained ≤ length (visited a.tree.reached j).path
  pub row : IsToPlace k a (visited a.tree.reached j).path r

pub record MayLinkInner (k : Shape) (a : Account) (j n c : ℕ) : Type 0 where
  pub may : MayLinkNext k a j n c
  pub inner : (visited a.tree.reached j).leaf ≡ false
  pub claim : IsToClaim k a (visited a.tree.reached j).path c

-- the link of a code, behind which a full leaf was reached, may be exchanged for own pages that are to take the leaf's
-- place, whatever codes its rows have
pub record MayExchangeLeaf (k : Shape) (a : Account) (j i c l : ℕ) (numbers : List ℕ) (first : ℕ) : Type 0 where
  pub load : MayLoadLink k a j i c
  pub visit : IsVisit k a l
  pub leaf : (visited a.tree.reached l).leaf ≡ true
  pub path : (visited a.tree.reached l).path ≡ (visited a.tree.reached j).path ++ c ∷ []
  pub rank : (visited a.tree.reached l).rank ≡ 0
  pub low : length (visited a.tree.reached l).path < 5
  pub whole : Each (IsWhole a) numbers
  pub few : MayLink a (length numbers)
  pub places : ℕ → Place
  pub plan : (codes : ℕ → List ℕ) → MayHaveCodes a (visited a.tree.reached l) codes
      → Plan (own_word a.pool.own) places codes (IsAmong numbers) a.tree.reached (visited a.tree.reached j)
      (visited a.tree.reached l) i first

-- which exchange it is: the inner page by its number, the link and its code, the leaf's page, the own pages that go,
-- and the one that takes the leaf's place
pub record Exchange : Type 0 where
  pub inner : ℕ
  pub index : ℕ
  pub code : ℕ
  pub leaf : ℕ
  pub numbers : List ℕ
  pub first : ℕ

-- the account after it is won: the page in the leaf's place is known as if it had been loaded
abbrev pub after_exchange : Account → Exchange → Account
after_exchange a e = after_link (after_split a e.numbers e.leaf) e.inner e.index e.code e.first false

-- an exchange of a page word that is 0: a link for a leaf that has a row, an entry for a row, a code word for a code,
-- the next page for a leaf that has a row, and for an inner page that has a code. Pages that were reached go by their
-- numbers
pub data Claim : Type 0 where
  LeafBelow : ℕ → ℕ → ℕ → ℕ → Row → Claim
  EntryOf : ℕ → Row → Claim
  CodeOf : ℕ → ℕ → Claim
  LeafBehind : ℕ → ℕ → Row → Claim
  InnerBehind : ℕ → ℕ → ℕ → Claim

-- the word at this place of a page that was reached is to be exchanged for n
pub record IsClaimAt (a : Account) (j at n page place word : ℕ) : Type 0 where
  pub page_is : page ≡ (visited a.tree.reached j).page
  pub place_is : place ≡ at
  pub word_is : word ≡ n

abbrev pub MayClaim : Shape → Account → ℕ → ℕ → ℕ → Claim → Type 0
MayClaim k a page place word (LeafBelow j i c n row) = MayLinkLeaf k a j i c n row × (i < 7)
    × IsClaimAt a j (3 + 2 * i) n page place word
MayClaim k a page place word (EntryOf j row) = MayClaimEntry k a j row
    × IsClaimAt a j (2 + length (visited a.tree.reached j).slots) (entry_word row) page place word
MayClaim k a page place word (CodeOf j c) = MayClaimCode k a j c
    × IsClaimAt a j (2 + 2 * length (visited a.tree.reached j).slots) c page place word
MayClaim k a page place word (LeafBehind j n row) = MayLinkMoreLeaf k a j n row × IsClaimAt a j 1 n page place word
MayClaim k a page place word (InnerBehind j n c) = MayLinkInner k a j n c × IsClaimAt a j 1 n page place word

-- the account after an exchange that is won: an inner page that it links, and a code, are known as if they had been
-- loaded
abbrev pub after_claim : Account → Claim → Account
after_claim a (LeafBelow j i c n row) = after_linked a n (row ∷ [])
after_claim a (EntryOf j row) = after_entry a j row
after_claim a (CodeOf j c) = after_slot a j c
after_claim a (LeafBehind j n row) = after_linked a n (row ∷ [])
after_claim a (InnerBehind j n c) = after_next a j n c

-- ---- what is known of a board whatever its words are

-- what the rule says of the blocks that the events show: each shows a record, and its last mark is the number of the
-- event, if any, that withdraws it
pub record KnownBlocks (k : Shape) (p : Parts) : Type 0 where
  pub records : (i : ℕ) → i < p.log.front → ShowsBlock (p.log.slots i)
      → IsRecord (block_at k p.regions (target_in (p.log.slots i)))
  pub marks : (i at : ℕ) → i < p.log.front → ShowsBlock (p.log.slots i) → 0 < at → at ≤ p.log.front
      → (block_at k p.regions (target_in (p.log.slots i)) ended_at ≡ at ↔ Withdraws (history_of k p) at (i + 1))

-- what the rule says of the words alone
pub record Known (k : Shape) (p : Parts) : Type 0 where
  pub front : p.log.front ≤ k.log
  pub legal : IsLegal (history_of k p)
  pub blocks : KnownBlocks k p

-- the first mark of a block is the number of the event, if any, that publishes it
pub record FirstMark (k : Shape) (p : Parts) (block : ℕ) : Type 0 where
  pub told : (number : ℕ) → 0 < number → number ≤ p.log.front → block_at k p.regions block shown_at ≡ number
      → ShowsAt p.log.front p.log.slots block number
  pub stands : (number : ℕ) → ShowsAt p.log.front p.log.slots block number
      → block_at k p.regions block shown_at ≡ number

-- what the words have that the account has seen: what was loaded, the first marks of the blocks of rows of which codes
-- were loaded, and what its descents answered
pub record Agrees (k : Shape) (p : Parts) (a : Account) : Type 0 where
  pub seen : a.log.seen ≤ p.log.front
  pub shown : Each (LoadFits k p.log) a.loads.shown
  pub blocks : BlocksStand k p.regions p.log.front a.loads
  pub swept : Each (λ n. IsTrueSwept k p n.entry) a.entries
  pub firsts : Each (λ l. FirstMark k p l.row.block) a.loads.codes

-- the words may be these: the rule allows them, and they have what the account has loaded
pub record MayBe (k : Shape) (p : Parts) (a : Account) : Type 0 where
  pub known : Known k p
  pub agrees : Agrees k p a

-- some words are as the rule allows, and have what the account has loaded
abbrev pub MayBeSome : Shape → Account → Type 0
MayBeSome k a = (p : Parts) × MayBe k p a

-- entries that tell of no event, and are true of each board that has what was loaded
pub record AreTrue (k : Shape) (a : Account) (es : List Entry) : Type 0 where
  pub silent : told_in (noted a.loads es) ≡ []
  pub each : (p : Parts) → Known k p → Agrees k p a → Each (IsTrueLog k (history_of k p)) es
  pub rooms : Each (IsTrueRoom (k.room - length a.room.used)) es
  pub pages : (states : ℕ → ℕ) → StatesStand states a.loads → Each (IsTruePool k states) es
  pub chains : Each (IsToldChain k a) es

-- ---- what the steps tell

-- the lock was free and is the caller's, or nothing changed; a caller without the lock has nothing pending
pub record Takes (s : Step (Unit {0})) (m : Mine) (found : ℕ) (n : Mine) : Type 0 where
  pub won : found ≡ 0 → n ≡ became m (after_take m.0.me)
  pub lost : found ≢ 0 → n ≡ m
  pub idle : m.0.me.log.pending ≡ nothing

abbrev pub Frees : List Entry → Step (Unit {0}) → Mine → ℕ → Mine → Type 0
Frees es s m found n = n ≡ became m (after_free m.0.me es)

abbrev pub Answers : List Entry → Step (Unit {0}) → Mine → ℕ → Mine → Type 0
Answers es s m found n = n ≡ became m (after_answer m.0.me es)

pub record LoadsFront (s : Step (Unit {0})) (m : Mine) (found : ℕ) (n : Mine) : Type 0 where
  pub after : n ≡ became m (after_front m.0.me found)
  pub later : m.0.me.log.seen ≤ found
  pub in_log : found ≤ m.0.shape.log
  pub same : m.0.me.log.holding ≡ Fronted → found ≡ m.0.me.log.seen

-- what the rule says of an own region: each sealed block begins before the next word and ends there or before, and what
-- is published is sealed, as is the block of each row that is placed
pub record IsKnownRoom (k : Shape) (a : Account) : Type 0 where
  pub before : Each (λ t. t.place < region_of k a.who + length a.room.used) a.room.sealed
  pub within : Each (λ t. t.place + t.size ≤ region_of k a.who + length a.room.used) a.room.sealed
  pub listed : AreListed a.room
  pub placed : Each (λ r. IsSealed a.room.sealed r.block) a.tree.placed

-- a word of the region is stored, and completes these blocks; what was stored before is as the rule says
pub record Stores (more : List Sealed) (s : Step (Unit {0})) (m : Mine) (found : ℕ) (n : Mine) : Type 0 where
  pub after : n ≡ became m (after_word m.0.me s.first more)
  pub room : IsKnownRoom m.0.shape m.0.me

-- the mark of a block is stored: of its publication, of its withdrawal
abbrev pub Shows : ℕ → Step (Unit {0}) → Mine → ℕ → Mine → Type 0
Shows block s m found n = n ≡ became m (after_shows m.0.me block)

abbrev pub Ends : Ending → Step (Unit {0}) → Mine → ℕ → Mine → Type 0
Ends e s m found n = n ≡ became m (after_ends m.0.me e)

abbrev pub Logs : Step (Unit {0}) → Mine → ℕ → Mine → Type 0
Logs s m found n = n ≡ became m (after_logged m.0.me s.first)

abbrev pub ShowsEvent : Event → Step (Unit {0}) → Mine → ℕ → Mine → Type 0
ShowsEvent e s m found n = n ≡ became m (after_event m.0.me e)

-- a log word was loaded; where it publishes a block, that is in the table
pub record LoadsLog (s : Step (Unit {0})) (m : Mine) (found : ℕ) (n : Mine) : Type 0 where
  pub after : n ≡ became m (after_shown m.0.me s.word found)
  pub block : ShowsBlock found → IsInTable m.0.shape (target_in found)

-- the first word of a block was loaded; all of the block is in the table. The words may be those of some board
pub record LoadsHead (s : Step (Unit {0})) (m : Mine) (found : ℕ) (n : Mine) : Type 0 where
  pub after : n ≡ became m (after_head m.0.me s.word found)
  pub until : s.word + block_size found ≤ total_of m.0.shape
  pub may : MayBeSome m.0.shape (after_head m.0.me s.word found)

abbrev pub LoadsMark : Step (Unit {0}) → Mine → ℕ → Mine → Type 0
LoadsMark s m found n = n ≡ became m (after_mark m.0.me s.word found)

-- a word of a block was loaded, and the words that were loaded may be those of some board
pub record LoadsCode (row : Row) (code : ℕ) (s : Step (Unit {0})) (m : Mine) (found : ℕ) (n : Mine) : Type 0 where
  pub after : n ≡ became m (after_code m.0.me row code found)
  pub may : MayBeSome m.0.shape (after_code m.0.me row code found)

pub record LoadsFact (s : Step (Unit {0})) (m : Mine) (found : ℕ) (n : Mine) : Type 0 where
  pub after : n ≡ became m (after_fact m.0.me s.word found)
  pub may : MayBeSome m.0.shape (after_fact m.0.me s.word found)

-- the epoch was loaded: it is one, no earlier than any that was loaded before, and one that is known to have come
pub record LoadsEpoch (s : Step (Unit {0})) (m : Mine) (found : ℕ) (n : Mine) : Type 0 where
  pub after : n ≡ became m (after_epoch m.0.me found)
  pub above : 0 < found
  pub most : found ≤ last_epoch
  pub later : Each (IsPast found) m.0.me.loads.epochs
  pub risen : m.0.me.pool.risen ≤ found

abbrev pub Advances : Step (Unit {0}) → Mine → ℕ → Mine → Type 0
Advances s m found n = n ≡ became m (after_advance m.0.me s.first)

abbrev pub Pins : Step (Unit {0}) → Mine → ℕ → Mine → Type 0
Pins s m found n = n ≡ became m (after_pin m.0.me s.first)

abbrev pub Unpins : Step (Unit {0}) → Mine → ℕ → Mine → Type 0
Unpins s m found n = n ≡ became m (after_unpin m.0.me)

abbrev pub Passes : Step (Unit {0}) → Mine → ℕ → Mine → Type 0
Passes s m found n = n ≡ became m (after_pass m.0.me found)

abbrev pub LoadsState : ℕ → Step (Unit {0}) → Mine → ℕ → Mine → Type 0
LoadsState p s m found n = n ≡ became m (after_state m.0.me p found)

-- the page is the caller's, which it was not before, or its state was another
pub record TakesPage (p : ℕ) (s : Step (Unit {0})) (m : Mine) (found : ℕ) (n : Mine) : Type 0 where
  pub won : found ≡ s.first → n ≡ became m (after_page m.0.me p)
  pub fresh : found ≡ s.first → owns p m.0.me.pool.own ≡ 0
  pub lost : found ≢ s.first → n ≡ became m (after_lost m.0.me p found)

abbrev pub Retires : ℕ → Step (Unit {0}) → Mine → ℕ → Mine → Type 0
Retires p s m found n = n ≡ became m (after_retire m.0.me p)

abbrev pub StoresOwn : ℕ → ℕ → Step (Unit {0}) → Mine → ℕ → Mine → Type 0
StoresOwn p i s m found n = n ≡ became m (after_own m.0.me p i s.first)

-- the header of a page that was reached is that of its place, and an inner page stands above depth 5
pub record LoadsHeader (j : ℕ) (s : Step (Unit {0})) (m : Mine) (found : ℕ) (n : Mine) : Type 0 where
  pub same : n ≡ m
  pub header : found ≡ header_of (place_of (visited m.0.me.tree.reached j))
  pub shallow : (visited m.0.me.tree.reached j).leaf ≡ false → length (visited m.0.me.tree.reached j).path < 5

-- the root's header was loaded, whose value is not used, and a walk begins
abbrev pub BeginsWalk : Step (Unit {0}) → Mine → ℕ → Mine → Type 0
BeginsWalk s m found n = n ≡ became m (after_walk m.0.me)

abbrev pub LoadsSlot : ℕ → Step (Unit {0}) → Mine → ℕ → Mine → Type 0
LoadsSlot j s m found n = n ≡ became m (after_slot m.0.me j found)

-- a link leads to a page of the table, a leaf or an inner one
pub record LoadsLink (j i c : ℕ) (s : Step (Unit {0})) (m : Mine) (found : ℕ) (n : Mine) : Type 0 where
  pub leaf : Bool
  pub after : n ≡ became m (after_link m.0.me j i c found leaf)
  pub page : found ≢ 0 → IsPage m.0.shape found

-- the next page, of a rank that is in the shape
pub record LoadsMore (j : ℕ) (s : Step (Unit {0})) (m : Mine) (found : ℕ) (n : Mine) : Type 0 where
  pub after : n ≡ became m (after_more m.0.me j found)
  pub page : found ≢ 0 → IsPage m.0.shape found
  pub rank : found ≢ 0 → (visited m.0.me.tree.reached j).rank + 1 < m.0.shape.chain

-- a word that was 0 is the caller's now, or it was another, which was then loaded
pub record Claims (after : Account) (Loads : Step (Unit {0}) → Mine → ℕ → Mine → Type 0) (s : Step (Unit {0}))
    (m : Mine) (found : ℕ) (n : Mine) : Type 0 where
  pub won : found ≡ 0 → n ≡ became m after
  pub lost : found ≢ 0 → Loads s m found n

-- the leaf stood behind the link: the new pages are in the tree, and the first of them is reached. Else another page
-- did, which is an inner one and was reached
pub record ExchangesLeaf (e : Exchange) (s : Step (Unit {0})) (m : Mine) (found : ℕ) (n : Mine) : Type 0 where
  pub won : found ≡ e.leaf → n ≡ became m (after_exchange m.0.me e)
  pub lost : found ≢ e.leaf → n ≡ became m (after_link m.0.me e.inner e.index e.code found false)
  pub page : IsPage m.0.shape found

abbrev pub LoadsInstead : Claim → Step (Unit {0}) → Mine → ℕ → Mine → Type 0
LoadsInstead (LeafBelow j i c n row) = LoadsLink j i c
LoadsInstead (EntryOf j row) = LoadsSlot j
LoadsInstead (CodeOf j c) = LoadsSlot j
LoadsInstead (LeafBehind j n row) = LoadsMore j
LoadsInstead (InnerBehind j n c) = LoadsMore j

abbrev pub ClaimsWord : Claim → Step (Unit {0}) → Mine → ℕ → Mine → Type 0
ClaimsWord claim s m found n = Claims (after_claim m.0.me claim) (LoadsInstead claim) s m found n

-- a code of an own row was loaded: it is the one that was stored, and not 0
pub record LoadsOwnCode (row : Row) (code : ℕ) (s : Step (Unit {0})) (m : Mine) (found : ℕ) (n : Mine) : Type 0 where
  pub after : n ≡ became m (after_code m.0.me row code found)
  pub stored_is : found ≡ code_of (words_of m.0.shape m.0.me.who m.0.me.room.used row.block) row.atom code
  pub some_code : found ≢ 0

-- and the row is begun. Of the rows that were placed, its entry word names it alone
pub record BeginsRow (row : Row) (code : ℕ) (s : Step (Unit {0})) (m : Mine) (found : ℕ) (n : Mine) : Type 0 where
  pub after : n ≡ became m (after_begun (after_code m.0.me row code found) row)
  pub stored_is : found ≡ code_of (words_of m.0.shape m.0.me.who m.0.me.room.used row.block) row.atom code
  pub some_code : found ≢ 0
  pub alone : HasRow (entry_word row) m.0.me.tree.placed → In row m.0.me.tree.placed
  pub few : MayLink n.0.me most_linked

-- the first word of an own block was loaded: it is the one that was stored, and all of the block is in the table
pub record LoadsOwnHead (block : ℕ) (s : Step (Unit {0})) (m : Mine) (found : ℕ) (n : Mine) : Type 0 where
  pub same : n ≡ m
  pub stored_is : found ≡ words_of m.0.shape m.0.me.who m.0.me.room.used block 0
  pub until : block + block_size found ≤ total_of m.0.shape
