-- What ties the fields of a board and a caller to what contracts see of them.
use Rattle.std.proofs.Common.{◌≡◌, ◌≢◌, ℕ, Bool, true, false, ◌+◌, ◌*◌, ◌-◌, ◌^◌, ◌≤◌, ◌<◌, List, [], refl, sym, ap, ◌∙◌, subst, arith}
use Rattle.atomic_table.specs.Seated.{TableId}
use Rattle.htss_defs.specs.declared.shape.Shape.{Shape}
use Rattle.htss_defs.specs.declared.shape.Field.TheVariants.{Loaders, Searchers, Pages, Log, Chain}
use Rattle.htss_defs.specs.Shapes.{IsShape}
use Rattle.board_core.specs.declared.account.Account.{Account}
use Rattle.board_core.specs.declared.account.View.{View}
use Rattle.board_core.specs.declared.account.Who.{Who}
use Rattle.board_core.specs.declared.account.Who.TheVariants.{Loader, Gone}
use Rattle.board_core.specs.Words.{log_at}
use Rattle.board_core.specs.Accounts.{view}
use Rattle.board.specs.Seated.{Place, Seated, IsOf, who_of, number_in}

abbrev pub place : TableId → Shape → Place
place t k = record { table = t; shape = k }

abbrev pub seated : TableId → Shape → Account → List ℕ → ℕ → Seated
seated t k a ps n = record { table = t; shape = k; account = a; stock = ps; next = n }

-- ---- one table, one shape

pub same_table : (t u : TableId) (k l : Shape) (a : Account) (ps : List ℕ) (n : ℕ) (b : Place) (c : Seated) → place u k ≡ b → seated t l a ps n ≡ c → IsOf b c → t ≡ u
same_table t u k l a ps n b c e f o = ap (λ (x : Seated). x.table) f ∙ (o.table ∙ sym (ap (λ (x : Place). x.table) e))

pub same_board : (t o u : TableId) (k : Shape) (b : Place) → place u k ≡ b → t ≡ o → o ≡ b.table → t ≡ u
same_board t o u k b e f is = f ∙ (is ∙ sym (ap (λ (x : Place). x.table) e))

pub same_shape : (t u : TableId) (k key l : Shape) (a : Account) (ps : List ℕ) (n : ℕ) (b : Place) (c : Seated) → place u k ≡ b → seated t l a ps n ≡ c → key ≡ k → IsOf b c → l ≡ key
same_shape t u k key l a ps n b c e f same o = ap (λ (x : Seated). x.shape) f ∙ (o.shape ∙ (sym (ap (λ (x : Place). x.shape) e) ∙ sym same))

-- ---- facts of the account and of the shape

pub of_account : (F : Account → Type 0) (t : TableId) (l : Shape) (a : Account) (ps : List ℕ) (n : ℕ) (c : Seated) → seated t l a ps n ≡ c → F c.account → F a
of_account F t l a ps n c f h = subst F (sym (ap (λ (x : Seated). x.account) f)) h

pub of_shape : (F : Shape → Type 0) (u : TableId) (k : Shape) (b : Place) → place u k ≡ b → F b.shape → F k
of_shape F u k b e h = subst F (sym (ap (λ (x : Place). x.shape) e)) h

pub of_key : (F : Shape → Type 0) (u : TableId) (k key : Shape) (b : Place) → place u k ≡ b → key ≡ k → F b.shape → F key
of_key F u k key b e same h = subst F (sym same) (of_shape F u k b e h)

pub of_both : (F : Shape → Account → Type 0) (u t : TableId) (k key l : Shape) (a : Account) (ps : List ℕ) (n : ℕ) (b : Place) (c : Seated) → place u k ≡ b → seated t l a ps n ≡ c → key ≡ k → F b.shape c.account → F key a
of_both F u t k key l a ps n b c e f same h = of_account (F key) t l a ps n c f (of_key (λ (x : Shape). F x c.account) u k key b e same h)

-- a fact of what contracts see of the caller
pub of_seated : (F : Seated → Type 0) (t : TableId) (l : Shape) (a : Account) (ps : List ℕ) (n : ℕ) (c : Seated) → seated t l a ps n ≡ c → F c → F (seated t l a ps n)
of_seated F t l a ps n c f h = subst F (sym f) h

-- ---- places of words

pub low_word : (words l s p log rest i : ℕ) → words ≡ 3 + l + s + p + 16 * p + log + rest → i < 3 → i < words
low_word words l s p log rest i e small = omega arith

pub log_word : (words l s p log rest i : ℕ) → words ≡ 3 + l + s + p + 16 * p + log + rest → i < log → 3 + l + s + p + 16 * p + i < words
log_word words l s p log rest i e small = omega arith

pub less_one : (n s : ℕ) → 0 < n → n ≤ s → n - 1 < s
less_one n s a b = omega arith

-- ---- limits

pub loaders_at_most : (k : Shape) → IsShape k → k.loaders ≤ 16
loaders_at_most k h = (h Loaders).1

pub searchers_at_most : (k : Shape) → IsShape k → k.searchers ≤ 16
searchers_at_most k h = (h Searchers).1

pub log_at_most : (k : Shape) → IsShape k → k.log ≤ 1048576
log_at_most k h = (h Log).1

pub pages_at_most : (k : Shape) → IsShape k → k.pages ≤ 4194304
pages_at_most k h = (h Pages).1

pub some_page : (k : Shape) → IsShape k → 0 < k.pages
some_page k h = let pages = (h Pages).0 in omega arith

pub some_chain : (k : Shape) → IsShape k → 0 < k.chain
some_chain k h = let chain = (h Chain).0 in omega arith

pub log_place_fits : (at i : ℕ) (k : Shape) → at ≡ log_at k → IsShape k → i < k.log → at + i < 2 ^ 64
log_place_fits at i k is h inside =
    let loaders = loaders_at_most k h in let searchers = searchers_at_most k h in let pages = pages_at_most k h in let log = log_at_most k h in omega arith

-- ---- who a caller is

number_back : (loader : Bool) (n : ℕ) → number_in (who_of loader n) ≡ n
number_back true n = refl
number_back false n = refl

pub loader_is : (loader : Bool) (n : ℕ) (w : Who) → w ≡ who_of loader n → w ≡ Loader (number_in w) → w ≡ Loader n
loader_is loader n w e l = l ∙ ap Loader (ap number_in e ∙ number_back loader n)

pub stays : (loader : Bool) (n : ℕ) (w : Who) → w ≡ who_of loader n → w ≢ Gone
stays true n w e g = cc
stays false n w e g = cc

-- ---- what the caller knows

plain : (v : View) → v.kept ≡ [] → v ≡ view v.shape v.me
plain v e = λ i. record { shape = v.shape; me = v.me; kept = e i }
