-- The search along an inner chain: which pages were full, and what a full chain is.
use Rattle.std.proofs.Common.{inl, ◌≡◌, ℕ, ◌+◌, ◌-◌, ◌*◌, ◌<◌, ◌≤◌, Bool, false, List, [], ◌∷◌, ◌++◌, length, get_or, take, refl, sym, ap, ◌∙◌, subst, arith, length-append, append_assoc}
use Rattle.std.proofs.Math.ListN.{get_or-append}
use Rattle.std.proofs.Math.Seq.{get_or-append_seam}
use mathlib.Core.Logic.{dite}
use native.Mathlib.Decide.{ℕ_discrete}
use Rattle.htss_defs.specs.declared.shape.Shape.{Shape}
use Rattle.board_core.specs.declared.account.Account.{Account}
use Rattle.board_core.specs.declared.account.Who.{Who}
use Rattle.board_core.specs.declared.account.Who.TheVariants.{Loader}
use Rattle.board_core.specs.declared.entry.Entry.{Entry}
use Rattle.board_core.specs.declared.entry.Entry.TheVariants.{NoPage as PageWanted, ChainFull as ChainWasFull}
use Rattle.board_core.specs.declared.room.Row.{Row}
use Rattle.board_core.specs.ChainRule.{HasWalked, IsToldChain}
use Rattle.board_core.specs.Truths.{IsTrueLog, IsTrueRoom, IsTruePool}
use Rattle.board_core.specs.Histories.{history_of}
use Rattle.board_core.specs.Steps.{AreTrue, MayLink}
use Rattle.board_core.proofs.Lists.{each_none, each_cons}
use Rattle.board_core.specs.ClassTree.{page_room}
use Rattle.board_core.specs.After.{visited, noted, after_answer, after_more, after_link}
use Rattle.board_core.proofs.PageLoads.{at_visit}
use Rattle.board_core.proofs.PassedFull.{full_read}
use Rattle.board.specs.Seated.{Place, Seated, IsOf, IsLoader, number_in, with_account}
use Rattle.class_tree.specs.declared.insert.InsertError.{InsertError}
use Rattle.class_tree.specs.declared.insert.InsertError.TheVariants.{NoPage, ChainFull}
use Rattle.class_tree.specs.declared.walks.Stop.{Stop}
use Rattle.class_tree.specs.declared.walks.Target.{Target}
use Rattle.class_tree.specs.Inserting.{IsStocked, IsNowhere, WasFull, HasFullChain}
use Rattle.class_tree.specs.Refusing.{Answers, WasRefused, LacksPages, WasFullChain, Stops}
use Rattle.class_tree.specs.Walking.{here, Rest, rest_of, Shown, shown_of, IsAt, IsSeeking, HasCode, IsDown, Goes, Reads, IsNext, IsFound, WasFullAt, AreFull, IsMadeBehind, GoesAlong}
use Rattle.class_tree.proofs.Finding.{absent, below_code}
use Rattle.class_tree.proofs.Grown.{goes_on, goes_same, rest_more, rest_link, lists_more, lists_link}
use Rattle.class_tree.proofs.Chain.{depth_is}
use Rattle.class_tree.proofs.Loadings.{lists_of, grows_on, grows_equal}
use Rattle.class_tree.specs.declared.find.NextPage.{NextPage}
use Rattle.class_tree.specs.declared.find.NextPage.TheVariants.{There, Made}
use Rattle.class_tree.proofs.Counting.{reads_counts, may_on}
use Rattle.board_core.specs.declared.tree.Counts.{Counts}

-- ---- from one part of a walk to the next

pub goes_less : (n m : ℕ) (c d : Seated) → n ≤ m → Goes m c d → Goes n c d
goes_less n m c d most g = record { table = g.table; shape = g.shape; rest = g.rest; grows = g.grows; longer = g.longer; stays = λ j less. g.stays j (omega arith) }

pub reads_goes : (n : ℕ) (c d : Seated) → Reads c d n → Goes n c d
reads_goes n c d r = record {
  table = ap (λ (x : Seated). x.table) r.only;
  shape = ap (λ (x : Seated). x.shape) r.only;
  rest = ap (λ (x : Seated). rest_of x.account) r.only;
  grows = grows_equal c.account d.account (ap (λ (x : Seated). lists_of x.account) r.only);
  longer = (let size = r.size in omega arith);
  stays = λ j less. ap shown_of (r.others j (λ e. omega arith));
}

pub goes_of : (b : Place) (n : ℕ) (c d : Seated) → Goes n c d → IsOf b c → IsOf b d
goes_of b n c d g of = record { table = g.table ∙ of.table; shape = g.shape ∙ of.shape }

pub reads_stocked : (n : ℕ) (c d : Seated) → Reads c d n → IsStocked c → IsStocked d
reads_stocked n c d r s = subst IsStocked (sym r.only) record { own = s.own; few = s.few; size = s.size; clean = s.clean }

pub reads_loader : (n : ℕ) (c d : Seated) → Reads c d n → IsLoader c → IsLoader d
reads_loader n c d r loader = subst (λ (w : Who). w ≡ Loader (number_in w)) (sym (ap (λ (x : Seated). x.account.who) r.only)) loader

-- ---- refusals

answers_on : (n : ℕ) (c d e : Seated) (x : Entry) → Goes n c d → Answers d e x → Answers c e x
answers_on n c d e x g a = record {
  table = a.table ∙ g.table;
  shape = a.shape ∙ g.shape;
  loads = a.loads;
  grows = grows_on c.account d.account e.account g.grows a.grows;
  rest = a.rest ∙ ap (λ (r : Rest). record r { entries = r.entries ++ noted a.loads (x ∷ []) }) g.rest;
}

-- nothing that a walk keeps was changed before
pub answers_after : (c d e : Seated) (x : Entry) → d.table ≡ c.table → d.shape ≡ c.shape → rest_of d.account ≡ rest_of c.account → lists_of d.account ≡ lists_of c.account → Answers d e x → Answers c e x
answers_after c d e x table shape rest lists a = record {
  table = a.table ∙ table;
  shape = a.shape ∙ shape;
  loads = a.loads;
  grows = grows_on c.account d.account e.account (grows_equal c.account d.account lists) a.grows;
  rest = a.rest ∙ ap (λ (r : Rest). record r { entries = r.entries ++ noted a.loads (x ∷ []) }) rest;
}

pub more_refused : (k : Shape) (c d e : Seated) (j word need : ℕ) → d ≡ with_account c (after_more c.account j word) → WasRefused k d e need → WasRefused k c e need
more_refused k c d e j word need load r = record {
  answers = answers_after c d e PageWanted (ap (λ (x : Seated). x.table) load) (ap (λ (x : Seated). x.shape) load) (ap (λ (x : Seated). rest_of x.account) load ∙ rest_more c.account j word) (ap (λ (x : Seated). lists_of x.account) load ∙ lists_more c.account j word) r.answers;
  before = r.before;
  empty = r.empty;
  after = r.after;
  refused = r.refused;
  end = r.end;
  short = r.short;
}

pub link_refused : (k : Shape) (c d e : Seated) (j i code word need : ℕ) → (leaf : Bool) × (d ≡ with_account c (after_link c.account j i code word leaf)) → WasRefused k d e need → WasRefused k c e need
link_refused k c d e j i code word need (leaf, load) r = record {
  answers = answers_after c d e PageWanted (ap (λ (x : Seated). x.table) load) (ap (λ (x : Seated). x.shape) load) (ap (λ (x : Seated). rest_of x.account) load ∙ rest_link c.account j i code word leaf) (ap (λ (x : Seated). lists_of x.account) load ∙ lists_link c.account j i code word leaf) r.answers;
  before = r.before;
  empty = r.empty;
  after = r.after;
  refused = r.refused;
  end = r.end;
  short = r.short;
}

pub refused_on : (k : Shape) (n : ℕ) (c d e : Seated) (need : ℕ) → Goes n c d → WasRefused k d e need → WasRefused k c e need
refused_on k n c d e need g r = record { answers = answers_on n c d e PageWanted g r.answers; before = r.before; empty = r.empty; after = r.after; refused = r.refused; end = r.end; short = r.short }

-- one page was needed
pub lacks_one : (k : Shape) (n : ℕ) (c d e : Seated) (row : Row) → Goes n c d → WasRefused k d e 1 → LacksPages k c e row
lacks_one k n c d e row g r = record { need = 1; refused = refused_on k n c d e 1 g r; needed = inl refl }

pub lacks_on : (k : Shape) (n : ℕ) (c d e : Seated) (row : Row) → Goes n c d → LacksPages k d e row → LacksPages k c e row
lacks_on k n c d e row g l = record { need = l.need; refused = refused_on k n c d e l.need g l.refused; needed = l.needed }

pub chain_on : (k : Shape) (n : ℕ) (c d e : Seated) (row : Row) (pages : ℕ) → Goes n c d → WasFullChain k d e row pages → WasFullChain k c e row pages
chain_on k n c d e row pages g r = record { answers = answers_on n c d e (ChainWasFull pages) g r.answers; all = r.all; middle = r.middle; chain = r.chain; after = r.after }

pub stops_on : (k : Shape) (n : ℕ) (c d e : Seated) (row : Row) (x : InsertError) → Goes n c d → Stops k d e row x → Stops k c e row x
stops_on k n c d e row NoPage g s = lacks_on k n c d e row g s
stops_on k n c d e row (ChainFull pages) g s = chain_on k n c d e row pages g s

-- ---- full pages

shown_full : (a b : Account) (n : ℕ) (path : List ℕ) (leaf : Bool) (rank : ℕ) → ((j : ℕ) → j < n → shown_of (visited b.tree.reached j) ≡ shown_of (visited a.tree.reached j)) → WasFullAt a n path leaf rank → WasFullAt b n path leaf rank
shown_full a b n path leaf rank same h = let e = same h.number h.before in record {
  number = h.number;
  before = h.before;
  on = ap (λ (x : Shown). x.place.path) e ∙ h.on;
  kind = ap (λ (x : Shown). x.place.leaf) e ∙ h.kind;
  at = ap (λ (x : Shown). x.place.rank) e ∙ h.at;
  full = ap (λ (x : Shown). length x.slots) e ∙ h.full;
}

later_full : (a : Account) (n m : ℕ) (path : List ℕ) (leaf : Bool) (rank : ℕ) → n ≤ m → WasFullAt a n path leaf rank → WasFullAt a m path leaf rank
later_full a n m path leaf rank most h = record { number = h.number; before = (let less = h.before in omega arith); on = h.on; kind = h.kind; at = h.at; full = h.full }

pub none_full : (a : Account) (n : ℕ) (path : List ℕ) (leaf : Bool) → AreFull a n path leaf 0
none_full a n path leaf r less = absurd (omega arith)

-- one page more was read to its end
pub full_on : (k : Shape) (a b e : Account) (s : Stop) (path : List ℕ) (rank : ℕ) (leaf : Bool) → AreFull a s.number path leaf rank → ((j : ℕ) → j < s.number → shown_of (visited b.tree.reached j) ≡ shown_of (visited a.tree.reached j))
    → IsAt k b s path rank leaf (page_room leaf) → ((j : ℕ) → j < s.number + 1 → shown_of (visited e.tree.reached j) ≡ shown_of (visited b.tree.reached j)) → AreFull e (s.number + 1) path leaf (rank + 1)
full_on k a b e s path rank leaf full same at stays r less = dite (ℕ_discrete r rank)
    (λ is. subst (λ (z : ℕ). WasFullAt e (s.number + 1) path leaf z) (sym is) (shown_full b e (s.number + 1) path leaf rank stays record { number = s.number; before = omega arith; on = at.on; kind = at.kind; at = at.at; full = at.size }))
    (λ other. shown_full b e (s.number + 1) path leaf r stays (later_full b s.number (s.number + 1) path leaf r (omega arith) (shown_full a b s.number path leaf r same (full r (omega arith)))))

was_full : (k : Shape) (a : Account) (n : ℕ) (path : List ℕ) (leaf : Bool) (rank : ℕ) → n ≤ length a.tree.reached → WasFullAt a n path leaf rank → WasFull k a path leaf rank
was_full k a n path leaf rank most h = record {
  page = visited a.tree.reached h.number;
  mate = record { there = (h.number, at_visit a.tree.reached h.number (let less = h.before in omega arith)); path = h.on; kind = h.kind };
  rank_is = h.at;
  full = λ p vs b i less. full_read k p vs a b (visited a.tree.reached h.number) (h.number, at_visit a.tree.reached h.number (let before = h.before in omega arith))
      (let size = h.full in let same : page_room (visited a.tree.reached h.number).leaf ≡ page_room leaf = ap page_room h.kind in omega arith) i less;
  read = λ inner. h.full ∙ ap page_room inner;
}

-- the last page that a chain may have was read to its end
pub all_full : (k : Shape) (a b : Account) (s : Stop) (path : List ℕ) (rank : ℕ) (leaf : Bool) → AreFull a s.number path leaf rank → ((j : ℕ) → j < s.number → shown_of (visited b.tree.reached j) ≡ shown_of (visited a.tree.reached j))
    → IsAt k b s path rank leaf (page_room leaf) → rank + 1 ≡ k.chain → (r : ℕ) → r < k.chain → WasFull k b path leaf r
all_full k a b s path rank leaf full same at end r less = was_full k b (s.number + 1) path leaf r (let last = at.last in omega arith) (full_on k a b b s path rank leaf full same at (λ j _. refl) r (omega arith))

pub has_walked : (k : Shape) (a : Account) (s : Stop) (path : List ℕ) (rank : ℕ) (leaf : Bool) → IsAt k a s path rank leaf (page_room leaf) → rank + 1 ≡ k.chain → 2 ≤ k.chain → HasWalked a k.chain
has_walked k a s path rank leaf at end several = record {
  several = omega arith;
  last = here a s;
  there = (s.number, at_visit a.tree.reached s.number (let last = at.last in omega arith));
  rank = (let e = at.at in omega arith);
  full = (let size = at.size in let same : page_room (here a s).leaf ≡ page_room leaf = ap page_room at.kind in omega arith);
}

pub seeking_walked : (k : Shape) (a : Account) (s : Stop) (depth rank : ℕ) (t : Target) → IsSeeking k a s depth rank 7 t → rank + 1 ≡ k.chain → 2 ≤ k.chain → HasWalked a k.chain
seeking_walked k a s depth rank t h end several = has_walked k a s (take depth t.codes) rank false h.at end several

-- ---- a full inner chain

-- the code that stands on the row's path behind these is its code of that depth
same_code : (l rest : List ℕ) (depth code : ℕ) → length (take depth l) ≡ depth → l ≡ (take depth l ++ code ∷ []) ++ rest → code ≡ get_or l depth 0
same_code l rest depth code long e =
    let first : List ℕ = take depth l in
    sym (get_or-append_seam first code [] 0)
    ∙ (sym (get_or-append (first ++ code ∷ []) rest 0 (length first) (let more = length_more first code in omega arith))
    ∙ (ap (λ (n : ℕ). get_or ((first ++ code ∷ []) ++ rest) n 0) long ∙ ap (λ (x : List ℕ). get_or x depth 0) (sym e)))
  where
    length_more : (x : List ℕ) (y : ℕ) → length (x ++ y ∷ []) ≡ length x + 1
    length_more x y = length-append x (y ∷ [])

pub inner_chain : (k : Shape) (a b : Account) (s : Stop) (depth rank : ℕ) (t : Target) → AreFull a s.number (take depth t.codes) false rank → ((j : ℕ) → j < s.number → shown_of (visited b.tree.reached j) ≡ shown_of (visited a.tree.reached j))
    → IsSeeking k b s depth rank 7 t → rank + 1 ≡ k.chain → HasFullChain k b t.row
inner_chain k a b s depth rank t full same h end =
    let path : List ℕ = take depth t.codes in
    let long = depth_is k b t depth (let deep = h.deep in omega arith) h.target in
    let below = below_code k b t depth h.deep h.target in record {
      path = path;
      leaf = false;
      below = (get_or t.codes depth 0 ∷ below.0, below.1 ∙ append_assoc path (get_or t.codes depth 0 ∷ []) below.0);
      full = all_full k a b s path rank false full same h.at end;
      none = λ _ code (rest, is). let c = same_code t.codes rest depth code long (h.target.codes_are ∙ is) in
          subst (λ (z : ℕ). IsNowhere b.tree.reached path z) (sym c) (absent b path (get_or t.codes depth 0) h.fresh);
    }

-- ---- the answer

pub chain_refused : (k : Shape) (n : ℕ) (c d e : Seated) (row : Row) → Goes n c d → HasFullChain k d.account row → e ≡ with_account d (after_answer d.account (ChainWasFull k.chain ∷ [])) → WasFullChain k c e row k.chain
chain_refused k n c d e row g full after = chain_on k n c d e row k.chain g record {
  answers = record {
    table = ap (λ (x : Seated). x.table) after;
    shape = ap (λ (x : Seated). x.shape) after;
    loads = d.account.loads;
    grows = grows_equal d.account e.account (ap (λ (x : Seated). lists_of x.account) after);
    rest = ap (λ (x : Seated). rest_of x.account) after;
  };
  all = refl;
  middle = d;
  chain = full;
  after = after;
}

pub chain_stops : (k : Shape) (c d : Seated) (row : Row) (x : InsertError) → x ≡ ChainFull k.chain → WasFullChain k c d row k.chain → Stops k c d row x
chain_stops k c d row x is w = subst (Stops k c d row) (sym is) w

pub full_stocked : (k : Shape) (d e : Seated) → e ≡ with_account d (after_answer d.account (ChainWasFull k.chain ∷ [])) → IsStocked d → IsStocked e
full_stocked k d e after s = subst IsStocked (sym after) record { own = s.own; few = s.few; size = s.size; clean = s.clean }

-- ---- the loop

pub record IsAlong (k : Shape) (c d : Seated) (first s : Stop) (depth rank : ℕ) (t : Target) : Type 0 where
  pub seeking : IsSeeking k d.account s depth rank 0 t
  pub goes : Goes 0 c d
  pub linked : d.account.counts ≡ c.account.counts
  pub full : AreFull d.account s.number (take depth t.codes) false rank
  pub number : s.number ≡ first.number + rank

pub along_first : (k : Shape) (c : Seated) (s : Stop) (depth : ℕ) (t : Target) → depth < 5 → IsDown k c.account s depth t → IsAlong k c c s s depth 0 t
along_first k c s depth t deep h = record {
  seeking = record { at = h.at; deep = deep; target = h.target; fresh = h.fresh (get_or t.codes depth 0); high = h.high };
  goes = goes_same 0 c;
  linked = refl;
  full = none_full c.account s.number (take depth t.codes) false;
  number = omega arith;
}

pub along_next : (k : Shape) (c d e f : Seated) (first s next : Stop) (depth rank : ℕ) (t : Target) → IsAlong k c d first s depth rank t → Reads d e s.number → IsSeeking k e.account s depth rank 7 t → IsNext k e f s next depth rank t → f.account.counts ≡ e.account.counts → IsAlong k c f first next depth (rank + 1) t
along_next k c d e f first s next depth rank t h reads seven n linked = record {
  seeking = n.seeking;
  linked = linked ∙ (reads_counts s.number d e reads ∙ h.linked);
  goes = goes_on 0 0 c d f (omega arith) h.goes (goes_on 0 0 d e f (omega arith) (goes_less 0 s.number d e (omega arith) (reads_goes s.number d e reads)) (goes_less 0 (s.number + 1) e f (omega arith) n.goes));
  full = subst (λ (m : ℕ). AreFull f.account m (take depth t.codes) false (rank + 1)) (sym n.number)
      (full_on k d.account e.account f.account s (take depth t.codes) rank false h.full (reads_goes s.number d e reads).stays seven.at n.goes.stays);
  number = (let now = n.number in let before = h.number in omega arith);
}

-- from the first page to a page that was read
pub along_read : (k : Shape) (c d e : Seated) (first s : Stop) (depth rank : ℕ) (t : Target) → IsAlong k c d first s depth rank t → Reads d e s.number → Goes 0 c e
along_read k c d e first s depth rank t h reads = goes_on 0 0 c d e (omega arith) h.goes (goes_less 0 s.number d e (omega arith) (reads_goes s.number d e reads))

pub along_found : (k : Shape) (c d e : Seated) (first s : Stop) (depth rank index : ℕ) (t : Target) → IsAlong k c d first s depth rank t → Reads d e s.number → HasCode k e.account (record { stop = s; index = index }) depth t → first.number ≤ 65537 * depth → rank < 65536 → IsFound k c e (record { stop = s; index = index }) depth t
along_found k c d e first s depth rank index t h reads code low less = record {
  goes = along_read k c d e first s depth rank t h reads;
  code = code;
  number = (let number = h.number in omega arith);
  linked = (let same = ap (λ (x : Counts). x.linked) (reads_counts s.number d e reads ∙ h.linked) in omega arith);
}

-- the code was linked with a page behind the last one
pub made_found : (k : Shape) (c d e f : Seated) (first s next : Stop) (depth rank : ℕ) (t : Target) → IsAlong k c d first s depth rank t → Reads d e s.number → IsMadeBehind k e f s next depth rank t → first.number ≤ 65537 * depth → rank + 1 < 65536 → IsFound k c f (record { stop = next; index = 0 }) depth t
made_found k c d e f first s next depth rank t h reads m low less = record {
  goes = goes_on 0 0 c e f (omega arith) (along_read k c d e first s depth rank t h reads)
      (goes_on 0 0 e m.middle f (omega arith) (goes_less 0 (s.number + 1) e m.middle (omega arith) m.on.goes) (goes_less 0 next.number m.middle f (omega arith) (reads_goes next.number m.middle f m.reads)));
  code = m.code;
  number = (let number = h.number in let now = m.on.number in omega arith);
  linked = (let same = ap (λ (x : Counts). x.linked) (reads_counts s.number d e reads ∙ h.linked) in let one = m.linked in omega arith);
}

pub along_may : (k : Shape) (c d e : Seated) (first s : Stop) (depth rank : ℕ) (t : Target) → IsAlong k c d first s depth rank t → Reads d e s.number → MayLink c.account 1 → MayLink e.account 1
along_may k c d e first s depth rank t h reads may = may_on 1 c.account e.account (along_read k c d e first s depth rank t h reads).rest (reads_counts s.number d e reads ∙ h.linked) may

pub goes_there : (k : Shape) (c d : Seated) (s : Stop) (depth rank : ℕ) (t : Target) (o : NextPage) (next : Stop) → o ≡ There next → GoesAlong k c d s depth rank t o → IsNext k c d s next depth rank t × (d.account.counts ≡ c.account.counts)
goes_there k c d s depth rank t o next e g = subst (GoesAlong k c d s depth rank t) e g

pub goes_made : (k : Shape) (c d : Seated) (s : Stop) (depth rank : ℕ) (t : Target) (o : NextPage) (next : Stop) → o ≡ Made next → GoesAlong k c d s depth rank t o → IsMadeBehind k c d s next depth rank t
goes_made k c d s depth rank t o next e g = subst (GoesAlong k c d s depth rank t) e g

pub along_full : (k : Shape) (c d e f : Seated) (first s : Stop) (depth rank : ℕ) (t : Target) → IsAlong k c d first s depth rank t → Reads d e s.number → IsSeeking k e.account s depth rank 7 t → rank + 1 ≡ k.chain → f ≡ with_account e (after_answer e.account (ChainWasFull k.chain ∷ [])) → WasFullChain k c f t.row k.chain
along_full k c d e f first s depth rank t h reads seven end after = chain_refused k 0 c e f t.row (along_read k c d e first s depth rank t h reads) (inner_chain k d.account e.account s depth rank t h.full (reads_goes s.number d e reads).stays seven end) after

-- the entry is true
pub chain_true : (k : Shape) (a : Account) → HasWalked a k.chain → AreTrue k a (ChainWasFull k.chain ∷ [])
chain_true k a walked = record {
  silent = refl;
  each = λ p known agrees. each_cons (IsTrueLog k (history_of k p)) (ChainWasFull k.chain) [] tt (each_none (IsTrueLog k (history_of k p)));
  rooms = each_cons (IsTrueRoom (k.room - length a.room.used)) (ChainWasFull k.chain) [] tt (each_none (IsTrueRoom (k.room - length a.room.used)));
  pages = λ states _. each_cons (IsTruePool k states) (ChainWasFull k.chain) [] tt (each_none (IsTruePool k states));
  chains = each_cons (IsToldChain k a) (ChainWasFull k.chain) [] (refl, walked) (each_none (IsToldChain k a));
}
