-- Rooms: what a step leaves of them, that a sealed block shows what its loader stored, and when the history stays.
use Rattle.std.proofs.Common.{◌≡◌, ◌≢◌, ℕ, ◌+◌, ◌-◌, ◌<◌, ◌≤◌, List, [], set, get_or, sym, ap, ◌∙◌, subst, arith, ⊎_elim, lt_of_not-le}
use mathlib.Core.Option.{some, some-injective, some-ne-none}
use mathlib.Core.Logic.{dite}
use native.Mathlib.Decide.{ℕ_discrete, dec_le}
use lib.ListN.{get_elem?}
use Rattle.htss_defs.specs.declared.shape.Shape.{Shape}
use Rattle.board_core.specs.declared.account.Who.{Who}
use Rattle.board_core.specs.declared.account.Who.TheVariants.{Loader}
use Rattle.board_core.specs.declared.account.Account.{Account}
use Rattle.board_core.specs.declared.account.View.{View}
use Rattle.board_core.specs.declared.room.Sealed.{Sealed}
use Rattle.board_core.specs.Words.{Parts, regions_at}
use Rattle.board_core.specs.LogWord.{kind_in, loader_in, target_in}
use Rattle.board_core.specs.Blocks.{block_size}
use Rattle.board_core.specs.Histories.{block_at, shown_by, event_of, history_of}
use Rattle.board_core.specs.Accounts.{nothing, with_me}
use Rattle.board_core.proofs.Lists.{each_none}
use Rattle.board_core.proofs.LogFrame.{none_some}
use Rattle.board_core.specs.RoomRule.{Store, store_of, region_of, own_block, IsSealed, IsMark, SealedFits, RoomFits, ShowsSealed, RoomRule, SameSealed}
use Rattle.board_core.proofs.Everyone.{mine, changed}
use Rattle.board_core.proofs.Some.{some_changed}
use Rattle.board_core.proofs.Shown.{same_first}
use Rattle.board_core.proofs.BlockWords.{ShowSame, block_least, same_shown}

-- a step that changes no room and nothing pending
pub rooms_same : (k : Shape) (regions : ℕ → ℕ) (front : ℕ) (slots : ℕ → ℕ) (vs : List View) (id : ℕ) (v : View) (a : Account) → RoomRule k regions front slots vs → get_elem? vs id ≡ some v → store_of a ≡ store_of v.me → RoomRule k regions front slots (set vs id (with_me v a))
rooms_same k regions front slots vs id v a r at same = record {
  rooms = changed (λ x. RoomFits k regions (store_of x)) vs id v a at (subst (RoomFits k regions) (sym same) (mine (λ x. RoomFits k regions (store_of x)) vs id v at r.rooms)) r.rooms;
  named = λ i behind kind. some_changed (ShowsSealed (slots i)) vs id v a at
      (λ t. subst (λ (x : Store). (x.who ≡ Loader (loader_in (slots i))) × IsSealed x.room.sealed (target_in (slots i))) (sym same) t) (r.named i behind kind);
}

-- ---- a sealed block of one account

pub size_least : (base : ℕ) (used : List ℕ) (s : Sealed) → SealedFits base used s → 3 ≤ s.size
size_least base used s f = let least = block_least (get_or used (s.place - base + 0) 0) in let long = f.long in omega arith

-- its words other than the two marks are no marks of any block of that account
pub not_mark : (k : Shape) (regions : ℕ → ℕ) (a : Store) (j i : ℕ) (s : Sealed) → RoomFits k regions a → get_elem? a.room.sealed j ≡ some s → i < s.size → i ≢ 1 → i ≢ 2 → ¬ (IsMark a.room.sealed (s.place + i))
not_mark k regions a j i s f at within not_first not_second (j', t, there, place) =
    let low = size_least (region_of k a.who) a.room.used s (f.sealed j s at) in
    let its_low = size_least (region_of k a.who) a.room.used t (f.sealed j' t there) in
    let near : (t.place + 1 ≤ s.place + i) × (s.place + i ≤ t.place + 2) = ⊎_elim (λ (e : s.place + i ≡ t.place + 1). (omega arith, omega arith)) (λ (e : s.place + i ≡ t.place + 2). (omega arith, omega arith)) place in
    let near_low = near.0 in
    let near_high = near.1 in
    dite (ℕ_discrete j j')
    (λ same. let is : s ≡ t = some-injective s t (sym at ∙ (ap (get_elem? a.room.sealed) same ∙ there)) in let one : s.place ≡ t.place = ap (λ (x : Sealed). x.place) is in
    ⊎_elim (λ (e : s.place + i ≡ t.place + 1). not_first (omega arith)) (λ (e : s.place + i ≡ t.place + 2). not_second (omega arith)) place)
    (λ other. dite (dec_le j j')
    (λ before. let order = f.in_order j j' s t at there (omega arith) in absurd (omega arith))
    (λ after. let less = lt_of_not-le after in let order = f.in_order j' j t s there at less in absurd (omega arith)))

-- what stands there is what the account stored
pub block_word : (k : Shape) (regions : ℕ → ℕ) (a : Store) (j i : ℕ) (s : Sealed) → RoomFits k regions a → get_elem? a.room.sealed j ≡ some s → i < s.size → i ≢ 1 → i ≢ 2 → block_at k regions s.place i ≡ own_block k a s.place i
block_word k regions a j i s f at within not_first not_second =
    let fits = f.sealed j s at in
    let from = fits.from in
    let until = fits.until in
    let off : ℕ = s.place - region_of k a.who in
    let same : s.place + i ≡ region_of k a.who + (off + i) = omega arith in
    ap (λ z. regions (z - regions_at k)) same ∙ f.stands (off + i) (omega arith) (λ m. not_mark k regions a j i s f at within not_first not_second (subst (IsMark a.room.sealed) (sym same) m))

pub block_stands : (k : Shape) (regions : ℕ → ℕ) (a : Store) (j : ℕ) (s : Sealed) → RoomFits k regions a → get_elem? a.room.sealed j ≡ some s → ShowSame (own_block k a s.place) (block_at k regions s.place)
block_stands k regions a j s f at =
    let fits = f.sealed j s at in
    let low = size_least (region_of k a.who) a.room.used s fits in
    let long = fits.long in record {
      head = block_word k regions a j 0 s f at (omega arith) (λ e. omega arith) (λ e. omega arith);
      words = λ i past within. block_word k regions a j i s f at (omega arith) (λ e. omega arith) (λ e. omega arith);
    }

-- a log word that shows one of them
pub event_told : (k : Shape) (regions : ℕ → ℕ) (a : Store) (word : ℕ) → RoomFits k regions a → (¬ (kind_in word ≡ 2) → IsSealed a.room.sealed (target_in word)) → event_of k regions word ≡ shown_by (own_block k a (target_in word)) word
event_told k regions a word f sealed = same_shown (own_block k a (target_in word)) (block_at k regions (target_in word)) word
    (λ not_two. let t = sealed not_two in subst (λ (place : ℕ). ShowSame (own_block k a place) (block_at k regions place)) t.3 (block_stands k regions a t.0 t.1 f t.2))

-- ---- the history

shows_same : (k : Shape) (regions other : ℕ → ℕ) (a : Store) (j : ℕ) (s : Sealed) → RoomFits k regions a → get_elem? a.room.sealed j ≡ some s → ((i : ℕ) → i < s.size → i ≢ 1 → i ≢ 2 → other (s.place + i - regions_at k) ≡ regions (s.place + i - regions_at k)) → ShowSame (block_at k regions s.place) (block_at k other s.place)
shows_same k regions other a j s f at same =
    let fits = f.sealed j s at in
    let low = size_least (region_of k a.who) a.room.used s fits in
    let long : s.size ≡ block_size (block_at k regions s.place 0) = fits.long ∙ ap block_size (sym (block_stands k regions a j s f at).head) in record {
      head = same 0 (omega arith) (λ e. omega arith) (λ e. omega arith);
      words = λ i past within. same i (omega arith) (λ e. omega arith) (λ e. omega arith);
    }

-- where the words of sealed blocks but the marks are as they were, the history is
pub history_kept : (k : Shape) (p : Parts) (other : ℕ → ℕ) (vs : List View) → RoomRule k p.regions p.log.front p.log.slots vs → SameSealed k p.regions other vs → history_of k (record p { regions = other }) ≡ history_of k p
history_kept k p other vs r same = same_first (λ i. event_of k p.regions (p.log.slots i)) (λ i. event_of k other (p.log.slots i)) p.log.front (λ i behind.
    same_shown (block_at k p.regions (target_in (p.log.slots i))) (block_at k other (target_in (p.log.slots i))) (p.log.slots i) (λ not_two.
    let (j, v, at, n, a, there, shown) = r.named i behind not_two in
    let (b, s, in_list, place) = shown.1 in
    subst (λ (z : ℕ). ShowSame (block_at k p.regions z) (block_at k other z)) place
    (shows_same k p.regions other (store_of a) b s (r.rooms j v at n a there) in_list (same j v at n a there b s in_list))))

-- an account with nothing stored
pub none_fits : (k : Shape) (regions : ℕ → ℕ) (who : Who) → RoomFits k regions record { who = who; room = record { used = []; sealed = []; published = [] }; pending = nothing }
none_fits k regions who = record {
  within = omega arith;
  stands = λ i past. absurd (omega arith);
  sealed = each_none (SealedFits (region_of k who) []);
  in_order = λ i j s t at _ _. absurd (some-ne-none s (sym at));
  shows = λ block e. absurd (none_some block e);
  logged = λ word e. absurd (none_some word e);
}
