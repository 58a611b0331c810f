-- Pages that a walk has reached, by their numbers, and what each load leaves of them.
use Rattle.std.proofs.Common.{◌≡◌, ◌≢◌, ℕ, zero, suc, ◌+◌, ◌<◌, ◌≤◌, Bool, false, List, [], ◌∷◌, ◌++◌, length, set, refl, sym, ap, ◌∙◌, subst, arith, ⊎_elim, get_or-set_same, get_or-set_other, length-set, length-append}
use Rattle.std.proofs.Math.ListN.{get_or-append}
use Rattle.std.proofs.Math.Seq.{get_or-append_seam}
use mathlib.Core.Option.{some, some-injective, some-ne-none}
use mathlib.Core.Logic.{dite}
use native.Mathlib.Decide.{ℕ_discrete}
use lib.ListN.{get_elem?}
use Rattle.htss_defs.specs.declared.shape.Shape.{Shape}
use Rattle.board_core.specs.declared.account.Account.{Account}
use Rattle.board_core.specs.declared.tree.Link.TheVariants.{Unread}
use Rattle.board_core.specs.declared.tree.Reached.{Reached}
use Rattle.board_core.specs.Each.{In}
use Rattle.board_core.specs.ClassTree.{Place as TreePlace}
use Rattle.board_core.specs.KnownPages.{place_of}
use Rattle.board_core.specs.Rows.{entry_word, codes_of, words_of, HasRow}
use Rattle.board_core.specs.After.{root, visited, with_slot, after_slot}
use Rattle.board_core.proofs.Lists.{at_end, set_twice}
use Rattle.board.specs.Seated.{Place, Seated, IsOf, with_account}
use Rattle.class_tree.specs.declared.walks.Stop.{Stop}
use Rattle.class_tree.specs.declared.walks.Target.{Target}
use Rattle.class_tree.specs.Walking.{here, Rest, rest_of, AreHigh, IsFresh, IsAt, IsTarget, Reads}

pub visited_is : (rs : List Reached) (j : ℕ) (y : Reached) → get_elem? rs j ≡ some y → visited rs j ≡ y
visited_is [] j y e = absurd (some-ne-none y (sym e))
visited_is (x ∷ rs) zero y e = some-injective x y e
visited_is (x ∷ rs) (suc j) y e = visited_is rs j y e

pub visited_before : (rs : List Reached) (z : Reached) (j : ℕ) → j < length rs → visited (rs ++ z ∷ []) j ≡ visited rs j
visited_before rs z j within = get_or-append rs (z ∷ []) root j within

pub visited_last : (rs : List Reached) (z : Reached) → visited (rs ++ z ∷ []) (length rs) ≡ z
visited_last rs z = get_or-append_seam rs z [] root

-- ---- one more slot of a page

-- a page with one more slot
abbrev pub slot_more : ℕ → Reached → Reached
slot_more n x = record x { zero = false; slots = x.slots ++ n ∷ []; links = x.links ++ Unread ∷ [] }

pub some_slot : (n : ℕ) (x : Reached) → n ≢ 0 → with_slot n x ≡ slot_more n x
some_slot zero x some_n = absurd (some_n refl)
some_slot (suc n) x some_n = refl

slot_page : (n : ℕ) (x : Reached) → (with_slot n x).page ≡ x.page
slot_page zero x = refl
slot_page (suc n) x = refl

slot_place : (n : ℕ) (x : Reached) → place_of (with_slot n x) ≡ place_of x
slot_place zero x = refl
slot_place (suc n) x = refl

zeroed : (n : ℕ) (x : Reached) → n ≢ 0 → with_slot n (with_slot 0 x) ≡ with_slot n x
zeroed zero x some_n = absurd (some_n refl)
zeroed (suc n) x some_n = refl

pub here_slot : (a : Account) (s : Stop) (n : ℕ) → s.number < length a.tree.reached → here (after_slot a s.number n) s ≡ with_slot n (here a s)
here_slot a s n within = get_or-set_same a.tree.reached s.number (with_slot n (here a s)) root within

pub here_more : (a : Account) (s : Stop) (n : ℕ) → s.number < length a.tree.reached → n ≢ 0 → here (after_slot a s.number n) s ≡ slot_more n (here a s)
here_more a s n within some_n = here_slot a s n within ∙ some_slot n (here a s) some_n

pub other_slot : (a : Account) (s : Stop) (n j : ℕ) → j ≢ s.number → visited (after_slot a s.number n).tree.reached j ≡ visited a.tree.reached j
other_slot a s n j other = get_or-set_other a.tree.reached s.number j (with_slot n (here a s)) root other

pub size_slot : (a : Account) (s : Stop) (n : ℕ) → length (after_slot a s.number n).tree.reached ≡ length a.tree.reached
size_slot a s n = length-set a.tree.reached s.number (with_slot n (here a s))

-- a slot that was found 0, and then another
pub slot_again : (a : Account) (s : Stop) (n : ℕ) → s.number < length a.tree.reached → n ≢ 0 → after_slot (after_slot a s.number 0) s.number n ≡ after_slot a s.number n
slot_again a s n within some_n =
    let rs = a.tree.reached in
    let same : set (set rs s.number (with_slot 0 (here a s))) s.number (with_slot n (here (after_slot a s.number 0) s)) ≡ set rs s.number (with_slot n (here a s)) =
    ap (λ (x : Reached). set (set rs s.number (with_slot 0 (here a s))) s.number (with_slot n x)) (here_slot a s 0 within)
    ∙ (set_twice rs s.number (with_slot 0 (here a s)) (with_slot n (with_slot 0 (here a s))) ∙ ap (set rs s.number) (zeroed n (here a s) some_n)) in
    λ i. record a { tree = record a.tree { reached = same i } }

-- ---- what stays

pub target_kept : (k : Shape) (a b : Account) (t : Target) → rest_of b ≡ rest_of a → IsTarget k a t → IsTarget k b t
target_kept k a b t e h =
    let f = sym e in record {
      entry = h.entry;
      codes_are = subst (λ (x : Rest). t.codes ≡ codes_of (words_of k x.who x.room.used t.row.block) t.row.atom) f h.codes_are;
      some_code = h.some_code;
      place = record {
        begun = subst (λ (x : Rest). In t.row x.begun) f h.place.begun;
        fresh = subst (λ (x : Rest). HasRow (entry_word t.row) x.placed → ⊥) f h.place.fresh;
        below = subst (λ (x : Rest). (rest : List ℕ) × (codes_of (words_of k x.who x.room.used t.row.block) t.row.atom ≡ rest)) f h.place.below;
      };
    }

-- where the walk stands is in the list
pub within : (k : Shape) (a : Account) (s : Stop) (path : List ℕ) (rank known : ℕ) (leaf : Bool) → IsAt k a s path rank leaf known → s.number < length a.tree.reached
within k a s path rank known leaf h = let last = h.last in omega arith

pub at_slot : (k : Shape) (a : Account) (s : Stop) (path : List ℕ) (rank known n : ℕ) (leaf : Bool) → IsAt k a s path rank leaf known → n ≢ 0 → IsAt k (after_slot a s.number n) s path rank leaf (known + 1)
at_slot k a s path rank known n leaf h some_n =
    let inside_list = within k a s path rank known leaf h in
    let e = here_more a s n inside_list some_n in
    record {
      pinned = h.pinned;
      inside = h.inside;
      last = size_slot a s n ∙ h.last;
      there = ap (λ (x : Reached). x.page) e ∙ h.there;
      on = ap (λ (x : Reached). x.path) e ∙ h.on;
      at = ap (λ (x : Reached). x.rank) e ∙ h.at;
      kind = ap (λ (x : Reached). x.leaf) e ∙ h.kind;
      size = ap (λ (x : Reached). length x.slots) e ∙ (length-append (here a s).slots (n ∷ []) ∙ ap (λ (z : ℕ). z + 1) h.size);
      unread = ap (λ (x : Reached). x.more) e ∙ h.unread;
      not_zero = ap (λ (x : Reached). x.zero) e;
    }

-- the code was read in no page, also not in this slot
pub fresh_slot : (a : Account) (s : Stop) (path : List ℕ) (code n : ℕ) → s.number < length a.tree.reached → n ≢ 0 → n ≢ code → IsFresh a path code → IsFresh (after_slot a s.number n) path code
fresh_slot a s path code n within some_n other h j less inner on seen = dite (ℕ_discrete j s.number)
    (λ is. let x : Reached = here a s in
    let e : visited (after_slot a s.number n).tree.reached j ≡ slot_more n x = ap (visited (after_slot a s.number n).tree.reached) is ∙ here_more a s n within some_n in
    let (t, there) = subst (λ (z : Reached). In code z.slots) e seen in
    ⊎_elim
    (λ (old : get_elem? x.slots t ≡ some code). h s.number within (sym (ap (λ (z : Reached). z.leaf) e) ∙ inner) (sym (ap (λ (z : Reached). z.path) e) ∙ on) (t, old))
    (λ (new : (t ≡ length x.slots) × (n ≡ code)). other new.1)
    (at_end x.slots n code t there))
    (λ else. let e = other_slot a s n j else in
    h j (let size = size_slot a s n in omega arith) (sym (ap (λ (z : Reached). z.leaf) e) ∙ inner) (sym (ap (λ (z : Reached). z.path) e) ∙ on) (subst (λ (z : Reached). In code z.slots) e seen))

-- a slot that is 0 changes no code
pub fresh_zero : (a : Account) (s : Stop) (path : List ℕ) (code : ℕ) → s.number < length a.tree.reached → IsFresh a path code → IsFresh (after_slot a s.number 0) path code
fresh_zero a s path code within h j less inner on seen = dite (ℕ_discrete j s.number)
    (λ is. let e : visited (after_slot a s.number 0).tree.reached j ≡ with_slot 0 (here a s) = ap (visited (after_slot a s.number 0).tree.reached) is ∙ here_slot a s 0 within in
    h s.number within (sym (ap (λ (z : Reached). z.leaf) e) ∙ inner) (sym (ap (λ (z : Reached). z.path) e) ∙ on) (subst (λ (z : Reached). In code z.slots) e seen))
    (λ else. let e = other_slot a s 0 j else in
    h j (let size = size_slot a s 0 in omega arith) (sym (ap (λ (z : Reached). z.leaf) e) ∙ inner) (sym (ap (λ (z : Reached). z.path) e) ∙ on) (subst (λ (z : Reached). In code z.slots) e seen))

pub high_slot : (a : Account) (s : Stop) (depth n : ℕ) → s.number < length a.tree.reached → AreHigh a depth → AreHigh (after_slot a s.number n) depth
high_slot a s depth n within h j less inner = dite (ℕ_discrete j s.number)
    (λ is. let e : place_of (visited (after_slot a s.number n).tree.reached j) ≡ place_of (here a s) = ap (λ (z : ℕ). place_of (visited (after_slot a s.number n).tree.reached z)) is ∙ (ap place_of (here_slot a s n within) ∙ slot_place n (here a s)) in
    let old : length (here a s).path ≤ depth = h s.number within (sym (ap (λ (z : TreePlace). z.leaf) e) ∙ inner) in
    let same : length (visited (after_slot a s.number n).tree.reached j).path ≡ length (here a s).path = ap (λ (z : TreePlace). length z.path) e in omega arith)
    (λ else. let e = other_slot a s n j else in
    let old : length (visited a.tree.reached j).path ≤ depth = h j (let size = size_slot a s n in omega arith) (sym (ap (λ (z : Reached). z.leaf) e) ∙ inner) in
    let same : length (visited (after_slot a s.number n).tree.reached j).path ≡ length (visited a.tree.reached j).path = ap (λ (z : Reached). length z.path) e in omega arith)

-- ---- reading on in one page

pub reads_same : (c : Seated) (n : ℕ) → Reads c c n
reads_same c n = record { only = refl; size = refl; others = λ j other. refl; place = refl; page = refl }

pub reads_slot : (c d : Seated) (s : Stop) (n : ℕ) → s.number < length c.account.tree.reached → d ≡ with_account c (after_slot c.account s.number n) → Reads c d s.number
reads_slot c d s n within e = subst (λ (x : Seated). Reads c x s.number) (sym e) record {
  only = refl;
  size = size_slot c.account s n;
  others = other_slot c.account s n;
  place = ap place_of (here_slot c.account s n within) ∙ slot_place n (here c.account s);
  page = ap (λ (x : Reached). x.page) (here_slot c.account s n within) ∙ slot_page n (here c.account s);
}

pub reads_on : (c d e : Seated) (n : ℕ) → Reads c d n → Reads d e n → Reads c e n
reads_on c d e n first then = record {
  only = then.only ∙ ap (λ (x : Seated). with_account x (record x.account { tree = record x.account.tree { reached = e.account.tree.reached } })) first.only;
  size = then.size ∙ first.size;
  others = λ j other. then.others j other ∙ first.others j other;
  place = then.place ∙ first.place;
  page = then.page ∙ first.page;
}

pub reads_of : (b : Place) (c d : Seated) (n : ℕ) → IsOf b c → Reads c d n → IsOf b d
reads_of b c d n of r = subst (IsOf b) (sym r.only) record { table = of.table; shape = of.shape }
