-- The link to a full leaf is exchanged for own pages that have its rows, or is found to lead to an inner page.
use Rattle.std.proofs.Common.{◌≡◌, ◌≢◌, ℕ, ◌+◌, ◌*◌, ◌<◌, ◌≤◌, ◌==◌, ◌⊎◌, Bool, true, false, cond, ltb, List, [], ◌∷◌, ◌++◌, set, get_or, length, sym, refl, ap, ◌∙◌, subst, arith, inr, ⊎_elim, length-append, eq-eqb, ne_eqb, lt-ltb, ltb-true}
use mathlib.Core.Option.{some, none}
use mathlib.Core.Logic.{dite}
use native.Mathlib.Decide.{ℕ_discrete}
use prog.Atomic.{either}
use lib.ListN.{get_elem?}
use Rattle.atomic_table.specs.Table.{step, keeps, stepped, Allows}
use Rattle.atomic_table.proofs.Lists.{set_here}
use Rattle.htss_defs.specs.declared.shape.Shape.{Shape}
use Rattle.htss_defs.specs.declared.history.Event.{Event}
use Rattle.board_core.specs.declared.account.Account.{Account}
use Rattle.board_core.specs.declared.account.View.{View}
use Rattle.board_core.specs.declared.tree.Reached.{Reached}
use Rattle.board_core.specs.Each.{Each}
use Rattle.board_core.specs.Words.{Parts, parts_of, stored_page}
use Rattle.board_core.specs.Histories.{history_of}
use Rattle.board_core.specs.Accounts.{with_me, total}
use Rattle.board_core.specs.Sheets.{Sheet, sheet_of, IsLinked, owns}
use Rattle.board_core.specs.MarkRule.{IsAmong}
use Rattle.board_core.specs.OwnRule.{OwnFits}
use Rattle.board_core.specs.Rows.{codes_in, IsPlaced}
use Rattle.board_core.specs.OldRows.{IsOldRow}
use Rattle.board_core.specs.ClassTree.{Place, kind_of, header_of, at_way, slot_at, page_room, HasSlot}
use Rattle.board_core.specs.KnownPages.{place_of, ReachedFits, KnowsPages}
use Rattle.board_core.specs.Turns.{IsPut, Turns}
use Rattle.board_core.specs.Split.{MaySplit}
use Rattle.board_core.specs.Plan.{own_word, Plan}
use Rattle.board_core.specs.Loaded.{IsPage, page_word}
use Rattle.board_core.specs.Holds.{Rule, Holds}
use Rattle.board_core.specs.After.{visited, let_go_all, after_split, after_link}
use Rattle.board_core.specs.FactRule.{BlocksStand}
use Rattle.board_core.specs.Steps.{Mine, MayExchangeLeaf, Exchange, ExchangesLeaf}
use Rattle.board_core.proofs.Lists.{inside, set_twice}
use Rattle.board_core.proofs.Everyone.{mine, at_most}
use Rattle.board_core.proofs.PoolTree.{pool_links, one_parted}
use Rattle.board_core.proofs.RowFrame.{rows_same, placed_begun}
use Rattle.board_core.proofs.Walk.{append_split, up_branch}
use Rattle.board_core.proofs.PageLoads.{at_visit}
use Rattle.board_core.proofs.LoadPage.{known_here, load_link}
use Rattle.board_core.proofs.Linked.{put_is}
use Rattle.board_core.proofs.Claimed.{own_apart, own_busy, own_linked, own_once}
use Rattle.board_core.proofs.Stepped.{still, words_moved}
use Rattle.board_core.proofs.Treed.{by_tree, page_at, page_past, put_page, busy_page}
use Rattle.board_core.proofs.LetGo.{all_less, all_gone, all_fit, turned_all, all_short, all_few}
use Rattle.board_core.proofs.RowCodes.{may_have}
use Rattle.board_core.proofs.OwnWords.{whole_words}
use Rattle.board_core.proofs.Places.{replaced}
use Rattle.board_core.proofs.Planned.{planned}
use Rattle.board_core.proofs.SplitTree.{split_tree, split_keeps}

-- a page with the header of an inner page is one
kind_by : (b c : Bool) (m n : ℕ) → c ≡ false → kind_of b + 4 * m ≡ kind_of c + 4 * n → b ≡ false
kind_by false c m n e same = refl
kind_by true true m n e same = e
kind_by true false m n e same = absurd (omega arith)

inner_by : (P Q : Place) → Q.leaf ≡ false → header_of P ≡ header_of Q → P.leaf ≡ false
inner_by P Q e same = kind_by P.leaf Q.leaf (length P.path + 8 * P.rank) (length Q.path + 8 * Q.rank) e (omega arith)

module _ (k : Shape) (p : Parts) (h : List Event) (vs : List View) (id j i c l : ℕ) (numbers : List ℕ) (first : ℕ) (v : View) (r : Rule k p h vs) (at : get_elem? vs id ≡ some v)
    (may : MayExchangeLeaf k v.me j i c l numbers first) where
  abbrev y : Reached
  y = visited v.me.tree.reached j

  abbrev x : Reached
  x = visited v.me.tree.reached l

  abbrev w : ℕ → ℕ → ℕ
  w = p.pages

  abbrev s : Sheet
  s = sheet_of p.pool.states vs

  abbrev m : ℕ → Place
  m = r.tree.place

  abbrev codes : ℕ → List ℕ
  codes = codes_in k p.regions

  known : KnowsPages w s m codes (IsOldRow k p.regions p.log.slots v.me.tree.front) v.me.tree.reached
  known = (known_here k p h vs id v r at).known

  inner_fits : ReachedFits w s m y
  inner_fits = known.fits j y (at_visit v.me.tree.reached j may.load.visit.reached)

  leaf_fits : ReachedFits w s m x
  leaf_fits = known.fits l x (at_visit v.me.tree.reached l may.visit.reached)

  linked : IsLinked s y.page
  linked = inner_fits.inner may.load.inner

  here : m y.page ≡ place_of y
  here = inner_fits.place linked

  code_there : HasSlot w s m false c y.page i
  code_there =
      let known_code = subst (λ (b : Bool). (c ≢ 0) × (w y.page (slot_at b i) ≡ c)) may.load.inner (inner_fits.known i c may.load.code) in
      let less = inside y.slots i c may.load.code in
      let most : length y.slots ≤ 7 = subst (λ (b : Bool). length y.slots ≤ page_room b) may.load.inner inner_fits.room in
      record { linked = linked; kind = ap (λ (P : Place). P.leaf) here ∙ may.load.inner; room = omega arith; some_n = known_code.0; there = known_code.1 }

  -- ---- what stands behind the link

  -- the leaf, or an inner page
  pub record IsBehind (q : ℕ) : Type 0 where
    pub linked : IsLinked s q
    pub there : w y.page (3 + 2 * i) ≡ q
    pub kind : (q ≡ x.page) ⊎ ((m q).leaf ≡ false)

  pub behind : (q : ℕ) × IsBehind q
  behind =
      let (q, ql, path, rank, kind) = known.turned l x (at_visit v.me.tree.reached l may.visit.reached) may.leaf may.rank in
      let below : q ≢ 1 = λ e.
      let top : length (m q).path ≡ 0 = ap (λ n. length (m n).path) e ∙ ap (λ (P : Place). length P.path) r.tree.tree.top in
      let long : length (m q).path ≡ length y.path + 1 = ap length (path ∙ may.path) ∙ length-append y.path (c ∷ []) in omega arith in
      let named = r.tree.tree.named q ql below in
      let f : ℕ = (m q).from in
      let (t, up) = up_branch (w f) (m f) (m q).way (m q) rank named.follows in
      let whole : (m f).path ++ w f (2 + 2 * t) ∷ [] ≡ y.path ++ c ∷ [] = sym up.path ∙ (path ∙ may.path) in
      let size : length (m f).path + 1 ≡ length y.path + 1 = sym (length-append (m f).path (w f (2 + 2 * t) ∷ [])) ∙ (ap length whole ∙ length-append y.path (c ∷ [])) in
      let (paths, rests) = append_split (m f).path y.path (w f (2 + 2 * t) ∷ []) (c ∷ []) (omega arith) whole in
      let code : w f (2 + 2 * t) ≡ c = ap (λ ns. get_or ns 0 0) rests in
      let slot : HasSlot w s m false c f t = record { linked = named.linked; kind = up.kind; room = up.room; some_n = λ e. up.some_code (code ∙ e); there = code } in
      let same = r.tree.tree.apart c f y.page t i slot code_there (paths ∙ sym (ap (λ (P : Place). P.path) here)) in
      (q, record { linked = ql; there = (λ e. w (sym same.0 e) (3 + 2 * sym same.1 e)) ∙ (ap (λ a. w f (at_way a)) (sym up.way) ∙ named.there); kind = kind })

  -- ---- the exchange that is lost

  pub lost_inner : (n : ℕ) → w y.page (3 + 2 * i) ≡ n → n ≢ x.page → IsLinked s n × ((m n).leaf ≡ false)
  lost_inner n word other =
      let (q, b) = behind in
      let same : q ≡ n = sym b.there ∙ word in
      subst (λ (z : ℕ). IsLinked s z × ((m z).leaf ≡ false)) same (b.linked, ⊎_elim (λ (e : q ≡ x.page). absurd (other (sym same ∙ e))) (λ (e : (m q).leaf ≡ false). e) b.kind)

  pub exchange_lost : (n : ℕ) → w y.page (3 + 2 * i) ≡ n → n ≢ x.page → Rule k p h (set vs id (with_me v (after_link v.me j i c n false)))
  exchange_lost n word other = subst (λ (b : Bool). Rule k p h (set vs id (with_me v (after_link v.me j i c n b)))) (lost_inner n word other).1 (load_link k p h vs id v r at j i c n may.load word)

  -- ---- the exchange that is won

  module _ (chain : 2 ≤ k.chain) (some_page : (q : ℕ) → p.pool.states q ≢ 0 → q ≢ 0) (past : (q t : ℕ) → 16 ≤ t → p.pages q t ≡ 0) (there : w y.page (3 + 2 * i) ≡ x.page) where
    abbrev a : Account
    a = after_split v.me numbers x.page

    abbrev u : ℕ → ℕ → ℕ
    u = stored_page p.pages (visited v.me.tree.reached j).page (3 + 2 * i) first

    leaf_linked : IsLinked s x.page
    leaf_linked = subst (λ (n : ℕ). IsLinked s n) (sym behind.1.there ∙ there) behind.1.linked

    own : Each (λ n. 0 < owns n v.me.pool.own) numbers
    own t n spot = (may.whole t n spot).own

    -- new pages stand where the plan says
    abbrev new : ℕ → Place
    new q = cond (ltb (owns q (let_go_all numbers v.me.pool.own)) (owns q v.me.pool.own)) (may.places q) (r.tree.place q)

    old_place : (b : Bool) (q : ℕ) → (b ≡ true → ⊥) → cond b (may.places q) (m q) ≡ m q
    old_place true q e = absurd (e refl)
    old_place false q e = refl

    places : (q : ℕ) → IsLinked s q → new q ≡ m q
    places q o = old_place (ltb (owns q (let_go_all numbers v.me.pool.own)) (owns q v.me.pool.own)) q
        (λ e. let less = ltb-true (owns q (let_go_all numbers v.me.pool.own)) (owns q v.me.pool.own) e in let part = at_most (λ b. owns q b.pool.own) vs id v at in let none_own : total (λ b. owns q b.pool.own) vs ≡ 0 = o.owned in omega arith)

    planned_at : (q : ℕ) → IsAmong numbers q → may.places q ≡ new q
    planned_at q n = ap (λ b. cond b (may.places q) (m q)) (sym (lt-ltb (owns q (let_go_all numbers v.me.pool.own)) (owns q v.me.pool.own)
        (let gone = all_gone numbers v.me.pool.own q n in let some_own = own n.0 q n.1 in omega arith)))

    -- an own page is one of the table, and not the root
    numbered : (q : ℕ) → IsAmong numbers q → (q ≢ 0) × (q ≢ 1)
    numbered q n =
        let some_own = own n.0 q n.1 in
        (some_page q (own_busy k p.pool vs id q v r.pool at some_own), λ e. own_apart k p.pool vs id q v r.pool at some_own (subst (λ (z : ℕ). IsLinked s z) (sym e) r.tree.tree.root))

    stored : (q : ℕ) → IsAmong numbers q → own_word v.me.pool.own q ≡ w q
    stored q n = whole_words w v.me q (mine (λ b. Each (OwnFits w) b.pool.own) vs id v at r.own) (may.whole n.0 q n.1) (past q)

    plan : Plan (own_word v.me.pool.own) new codes (IsAmong numbers) v.me.tree.reached y x i first
    plan = replaced (own_word v.me.pool.own) may.places new codes (IsAmong numbers) v.me.tree.reached y x i first planned_at
        (may.plan codes (may_have k p.regions p.log.front w s m (IsPlaced vs) v.me x r.tree.tree (mine (λ b. BlocksStand k p.regions p.log.front b.loads) vs id v at r.facts.stand) leaf_fits leaf_linked may.leaf may.low))

    may_split : MaySplit w s m new codes (IsAmong numbers) y.page i x.page first
    may_split = planned w (own_word v.me.pool.own) s m new codes (IsPlaced vs) (IsOldRow k p.regions p.log.slots v.me.tree.front) (IsAmong numbers) v.me.tree.reached y x i first r.tree.tree known plan there
        (r.tree.tree.numbered x.page leaf_linked) numbered stored

    turn : Turns s (sheet_of p.pool.states (set vs id (with_me v a))) (IsAmong numbers) x.page
    turn = turned_all k p.pool vs id v a x.page r.pool at leaf_linked refl (all_less numbers v.me.pool.own) numbers refl own

    put : IsPut w u y.page (3 + 2 * i) first
    put = put_is w y.page (3 + 2 * i) first

    exchange_won : Rule k (record p { pages = u }) h (set vs id (with_me v a))
    exchange_won = by_tree k p u h vs id v a r at
        record { who = refl; log = refl; room = refl; entries = refl; shown = refl; heads = refl; facts = refl; codes = refl; marks = refl } (λ q e. e) refl
        (pool_links k p.pool vs id v (let_go_all numbers v.me.pool.own) (record { page = x.page; stamp = 0 } ∷ v.me.pool.parted) (length numbers) v.me.tree r.pool at
        (one_parted s v.me (let_go_all numbers v.me.pool.own) x.page leaf_linked (all_less numbers v.me.pool.own))
        record { less = all_short numbers v.me.pool.own; few = all_few numbers v.me.pool.own (own_once k p.pool vs id v r.pool at); may = may.few; begun = refl } refl)
        (own_linked p.pool.states w u vs id y.page (3 + 2 * i) first v a r.own at linked put (all_less numbers v.me.pool.own y.page) (all_fit w numbers v.me.pool.own (mine (λ b. Each (OwnFits w) b.pool.own) vs id v at r.own)))
        (rows_same k vs id v a r.rows at refl refl refl refl refl)
        (split_keeps k p.pool w u codes (IsOldRow k p.regions p.log.slots) vs id v a new (IsAmong numbers) y.page i x.page first r.tree r.pool at chain refl (λ n. placed_begun k vs n r.rows) may_split put turn places)
        (split_tree k p.pool w u codes (IsOldRow k p.regions p.log.slots) vs id v a new (IsAmong numbers) y.page i x.page first r.tree r.pool at chain refl (λ n. placed_begun k vs n r.rows) may_split put turn places)

    -- the first of the new pages is an inner one, by its header
    first_inner : (exchange_won.tree.place first).leaf ≡ false
    first_inner =
        let mine_first = may_split.head.0 in
        let word : u first 0 ≡ w first 0 = put.others first 0 (inr (λ e. omega arith)) in
        let header : header_of (exchange_won.tree.place first) ≡ header_of (new first) = sym (exchange_won.tree.tree.pages first (turn.comes first mine_first)).header ∙ (word ∙ (may_split.pages first mine_first).header) in
        inner_by (exchange_won.tree.place first) (new first) may_split.inner_first header

    -- and it is reached in the same step
    pub exchange_loaded : Rule k (record p { pages = u }) h (set vs id (with_me v (after_link a j i c first false)))
    exchange_loaded =
        let o = may.load in
        subst (λ (z : List View). Rule k (record p { pages = u }) h z) (set_twice vs id (with_me v a) (with_me v (after_link a j i c first false)))
        (subst (λ (b : Bool). Rule k (record p { pages = u }) h (set (set vs id (with_me v a)) id (with_me v (after_link a j i c first b)))) first_inner
        (load_link k (record p { pages = u }) h (set vs id (with_me v a)) id (with_me v a) exchange_won (set_here vs id (with_me v a) (inside vs id v at)) j i c first
        record { visit = record { reached = o.visit.reached; inside = o.visit.inside }; pinned = o.pinned; inner = o.inner; code = o.code; not_zero = o.not_zero; unread = o.unread }
        put.here))

-- ---- as the table asks

-- the leaf is reached as l
abbrev exchange : Mine → ℕ → ℕ → ℕ → ℕ → List ℕ → ℕ → Exchange
exchange m j i c l numbers first = record { inner = j; index = i; code = c; leaf = (visited m.0.me.tree.reached l).page; numbers = numbers; first = first }

pub exchange_allowed : (k : Shape) (slots id j i c l at_word : ℕ) (numbers : List ℕ) (first : ℕ) (m : Mine) → at_word ≡ page_word k (visited m.0.me.tree.reached j).page (3 + 2 * i) → i < 7 → 2 ≤ k.chain → m.0.shape ≡ k
    → MayExchangeLeaf k m.0.me j i c l numbers first
    → Allows (Holds k) slots id m at_word (λ f. either (f == (visited m.0.me.tree.reached l).page) first f)
    (ExchangesLeaf (exchange m j i c l numbers first) (step slots at_word (visited m.0.me.tree.reached l).page first none) m)
exchange_allowed k slots id j i c l at_word numbers first m is small chain shape may s h _ at within =
    let n : ℕ = get_or s.words at_word 0 in
    let p : Parts = parts_of k s.words in
    let y : Reached = visited m.0.me.tree.reached j in
    let x : Reached = visited m.0.me.tree.reached l in
    let same : p.pages y.page (3 + 2 * i) ≡ n = page_at k s.words y.page (3 + 2 * i) may.load.visit.inside (omega arith) ∙ ap (λ (z : ℕ). get_or s.words z 0) (sym is) in
    dite (ℕ_discrete n x.page)
    (λ won. (
      with_me m.0 (after_link (after_split m.0.me numbers x.page) j i c first false),
      keeps,
      tt,
      subst (λ b. Holds k (stepped s at_word (either b first n) id m.1 (with_me m.0 (after_link (after_split m.0.me numbers x.page) j i c first false)) keeps)) (sym (eq-eqb n x.page won))
          (words_moved k s at_word first id m.1 m.0 (after_link (after_split m.0.me numbers x.page) j i c first false) _ h
          (ap (λ (z : ℕ). parts_of k (set s.words z first)) is ∙ put_page k s.words y.page (3 + 2 * i) first h.wide may.load.visit.inside (omega arith))
          (exchange_loaded k p (history_of k p) s.views id j i c l numbers first m.0 h.rule at may chain (λ q busy. let page = busy_page k s.words q busy in let above = page.0 in λ z. omega arith) (page_past k s.words) (same ∙ won))),
      record { won = λ _. refl; lost = λ other. absurd (other won); page = subst (λ (z : Shape × ℕ). IsPage z.0 z.1) (λ t. (sym shape t, sym won t)) may.visit.inside },
    ))
    (λ lost. (
      with_me m.0 (after_link m.0.me j i c n false),
      keeps,
      tt,
      subst (λ b. Holds k (stepped s at_word (either b first n) id m.1 (with_me m.0 (after_link m.0.me j i c n false)) keeps)) (sym (ne_eqb n x.page lost))
          (still k s at_word id m.1 m.0 (after_link m.0.me j i c n false) h (exchange_lost k p (history_of k p) s.views id j i c l numbers first m.0 h.rule at may n same lost)),
      record {
        won = λ won. absurd (lost won);
        lost = λ _. refl;
        page = subst (λ (z : Shape). IsPage z n) (sym shape) (busy_page k s.words n
            (λ free. let one : p.pool.states n ≡ 1 = (lost_inner k p (history_of k p) s.views id j i c l numbers first m.0 h.rule at may n same lost).0.busy in omega arith));
      },
    ))
