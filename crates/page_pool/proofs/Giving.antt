-- A page is given, or none was found.
use Rattle.std.proofs.Common.{◌≡◌, ◌≢◌, ℕ, suc, ◌+◌, inl, inr, List, [], ◌∷◌, ◌++◌, refl, sym, ap, ◌∙◌, subst, arith, length, length-append}
use Rattle.std.specs.Prelude.{Option, Some, None, IfNone, IfSome}
use mathlib.Core.Option.{some-ne-none}
use lib.ListN.{get_elem?}
use Rattle.htss_defs.specs.declared.shape.Shape.{Shape}
use Rattle.board_core.specs.declared.entry.Entry.TheVariants.{NoPage}
use Rattle.board_core.specs.Sheets.{owns, where_page}
use Rattle.board_core.specs.MarkRule.{IsAmong}
use Rattle.board_core.specs.Loaded.{IsPage, HasOwn}
use Rattle.board_core.specs.After.{after_answer}
use Rattle.board_core.proofs.PageSums.{where_same, where_other}
use Rattle.board_core.specs.declared.account.Who.{Who}
use Rattle.board_core.specs.declared.account.Who.TheVariants.{Loader}
use Rattle.board.specs.Seated.{Place, IsOf, IsLoader, number_in, Seated, with_account, with_stock, with_next}
use Rattle.page_pool.specs.Taking.{page_before, AreRound, HasScanned, HasLooked, HasTaken, HasFound, IsRefused, IsGiven}
use Rattle.page_pool.proofs.Passing.{scanned_stock, scanned_next, scanned_own, scanned_counts, scanned_of, scanned_who}
use Rattle.page_pool.proofs.Looks.{looked_of}

pub if_none : (r : Option ℕ) (A B : Type 0) → (A → B) → IfNone r A → IfNone r B
if_none (Some x) A B f a = tt
if_none None A B f a = f a

pub if_some : (r : Option ℕ) (A B : ℕ → Type 0) → ((x : ℕ) → A x → B x) → IfSome r A → IfSome r B
if_some (Some x) A B f a = f x a
if_some None A B f a = tt

pub found : (k : Shape) (next : ℕ) (c m l d : Seated) (page : ℕ) → HasScanned k c m → next ≡ m.next → HasTaken (AreRound k.pages next) m l page → d ≡ with_next l page → HasFound k c d page
found k next c m l d page scanned is taken after = record { middle = m; scanned = scanned; last = l; taken = subst (λ (z : ℕ). HasTaken (AreRound k.pages z) m l page) (is ∙ scanned_next k c m scanned) taken; after = after }

pub refused : (k : Shape) (low next last : ℕ) (c m l n d : Seated) → HasScanned k c m → m.account.pool.low ≡ low → next ≡ m.next → HasLooked (AreRound k.pages next) low 1 (k.pages + 1) m l → n ≡ with_account l (after_answer l.account (NoPage ∷ []))
    → last ≡ page_before k.pages next → d ≡ with_next n last → IsRefused k c d
refused k low next last c m l n d scanned is from looked answered before after =
    let began : next ≡ c.next = from ∙ scanned_next k c m scanned in record {
      middle = m;
      scanned = scanned;
      last = l;
      looked = subst (λ (z : ℕ × ℕ). HasLooked (AreRound k.pages z.0) z.1 1 (k.pages + 1) m l) (λ i. (began i, sym is i)) looked;
      after = after ∙ (λ i. with_next (answered i) ((before ∙ ap (page_before k.pages) began) i));
      own = ap (λ (x : Seated). x.account.pool.own) after ∙ (ap (λ (x : Seated). x.account.pool.own) answered ∙ (ap (λ (x : Seated). x.account.pool.own) looked.after ∙ scanned_own k c m scanned));
      stock = ap (λ (x : Seated). x.stock) after ∙ (ap (λ (x : Seated). x.stock) answered ∙ (ap (λ (x : Seated). x.stock) looked.after ∙ scanned_stock k c m scanned));
    }

-- one that was kept
pub given_kept : (k : Shape) (c d : Seated) (page : ℕ) → (d ≡ with_stock c d.stock) × (c.stock ≡ d.stock ++ page ∷ []) × IsPage c.shape page × HasOwn c.account page × ¬ (IsAmong d.stock page) → IsGiven k c d page
given_kept k c d page t = record {
  own = subst (λ (x : Seated). HasOwn x.account page) (sym t.0) t.3;
  others = λ q _. ap (λ (x : Seated). owns q x.account.pool.own) t.0;
  apart = t.4;
  more = let own : length d.account.pool.own ≡ length c.account.pool.own = ap (λ (x : Seated). length x.account.pool.own) t.0 in
      let kept : length c.stock ≡ length d.stock + 1 = ap length t.1 ∙ length-append d.stock (page ∷ []) in omega arith;
  linked = ap (λ (x : Seated). x.account.counts) t.0;
  from = inl (t.0, t.1);
}

found_own : (k : Shape) (c d : Seated) (page : ℕ) → HasFound k c d page → HasOwn d.account page
found_own k c d page f =
    let one = where_same page page 1 refl in
    let same = ap (λ (x : Seated). owns page x.account.pool.own) f.after ∙ ap (λ (x : Seated). owns page x.account.pool.own) f.taken.after in
    let sum : owns page d.account.pool.own ≡ where_page page page 1 + owns page f.middle.account.pool.own = same in omega arith

pub found_others : (k : Shape) (c d : Seated) (page : ℕ) → HasFound k c d page → (q : ℕ) → q ≢ page → owns q d.account.pool.own ≡ owns q c.account.pool.own
found_others k c d page f q other =
    let none = where_other q page 1 other in
    let same = ap (λ (x : Seated). owns q x.account.pool.own) f.after ∙ ap (λ (x : Seated). owns q x.account.pool.own) f.taken.after in
    let before : owns q f.middle.account.pool.own ≡ owns q c.account.pool.own = ap (owns q) (scanned_own k c f.middle f.scanned) in
    let sum : owns q d.account.pool.own ≡ where_page q page 1 + owns q f.middle.account.pool.own = same in omega arith

pub found_stock : (k : Shape) (c d : Seated) (page : ℕ) → HasFound k c d page → d.stock ≡ c.stock
found_stock k c d page f = ap (λ (x : Seated). x.stock) f.after ∙ (ap (λ (x : Seated). x.stock) f.taken.after ∙ scanned_stock k c f.middle f.scanned)

-- one that was found, where none was kept
pub given_found : (k : Shape) (c m d : Seated) (page : ℕ) → m ≡ c → c.stock ≡ [] → HasFound k m d page → IsGiven k c d page
given_found k c m d page same none_kept found_there =
    let f : HasFound k c d page = subst (λ (x : Seated). HasFound k x d page) same found_there in record {
      own = found_own k c d page f;
      others = found_others k c d page f;
      more = let own : length d.account.pool.own ≡ suc (length f.middle.account.pool.own) = ap (λ (x : Seated). length x.account.pool.own) f.after ∙ ap (λ (x : Seated). length x.account.pool.own) f.taken.after in
          let before : length f.middle.account.pool.own ≡ length c.account.pool.own = ap length (scanned_own k c f.middle f.scanned) in
          let none : length c.stock ≡ 0 = ap length none_kept in
          let same : length d.stock ≡ length c.stock = ap length (found_stock k c d page f) in omega arith;
      linked = ap (λ (x : Seated). x.account.counts) f.after ∙ (ap (λ (x : Seated). x.account.counts) f.taken.after ∙ scanned_counts k c f.middle f.scanned);
      apart = λ t. some-ne-none page (sym t.1 ∙ ap (λ (l : List ℕ). get_elem? l t.0) (found_stock k c d page f ∙ none_kept));
      from = inr (none_kept, f);
    }

-- ---- whose the caller is then

pub found_of : (k : Shape) (b : Place) (c m d : Seated) (page : ℕ) → m ≡ c → HasFound k m d page → IsOf b c → IsOf b d
found_of k b c m d page same f of =
    let mid = scanned_of k b m f.middle f.scanned (subst (IsOf b) (sym same) of) in
    let last : IsOf b f.last = subst (IsOf b) (sym f.taken.after) record { table = mid.table; shape = mid.shape } in
    subst (IsOf b) (sym f.after) record { table = last.table; shape = last.shape }

pub refused_of : (k : Shape) (b : Place) (c m d : Seated) → m ≡ c → IsRefused k m d → IsOf b c → IsOf b d
refused_of k b c m d same r of =
    let mid = scanned_of k b m r.middle r.scanned (subst (IsOf b) (sym same) of) in
    let last = looked_of _ _ _ _ b r.middle r.last r.looked mid in
    subst (IsOf b) (sym r.after) record { table = last.table; shape = last.shape }

loader_by : (c d : Seated) → d.account.who ≡ c.account.who → IsLoader c → IsLoader d
loader_by c d same loader = subst (λ (w : Who). w ≡ Loader (number_in w)) (sym same) loader

pub found_loader : (k : Shape) (c m d : Seated) (page : ℕ) → m ≡ c → HasFound k m d page → IsLoader c → IsLoader d
found_loader k c m d page same f loader = loader_by c d (ap (λ (x : Seated). x.account.who) f.after ∙ (ap (λ (x : Seated). x.account.who) f.taken.after ∙ (scanned_who k m f.middle f.scanned ∙ ap (λ (x : Seated). x.account.who) same))) loader

pub refused_loader : (k : Shape) (c m d : Seated) → m ≡ c → IsRefused k m d → IsLoader c → IsLoader d
refused_loader k c m d same r loader = loader_by c d (ap (λ (x : Seated). x.account.who) r.after ∙ (ap (λ (x : Seated). x.account.who) r.looked.after ∙ (scanned_who k m r.middle r.scanned ∙ ap (λ (x : Seated). x.account.who) same))) loader
