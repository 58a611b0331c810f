-- What the account is after a search, and that its entry is true.
use Rattle.std.proofs.Common.{◌≡◌, ℕ, ◌-◌, ◌≤◌, List, [], ◌∷◌, ◌++◌, length, map, refl, sym, ap, ◌∙◌, subst, arith, append-nil}
use Rattle.htss_defs.specs.declared.shape.Shape.{Shape}
use Rattle.htss_defs.specs.declared.history.Event.{Event}
use Rattle.std.specs.Prelude.{Result, Err}
use Rattle.std.proofs.lemmas.List.Elements.{filter-append}
use Rattle.htss_defs.specs.declared.history.SearchError.{SearchError}
use Rattle.htss_defs.specs.declared.history.SearchError.TheVariants.{OverBudget}
use Rattle.htss_defs.specs.QueryGraph.{QueryGraph}
use Rattle.board_core.specs.declared.account.Account.{Account}
use Rattle.board_core.specs.declared.entry.Entry.{Entry}
use Rattle.board_core.specs.declared.entry.Entry.TheVariants.{Answered}
use Rattle.board_core.specs.declared.entry.Noted.{Noted}
use Rattle.board_core.specs.declared.entry.Reply.{Reply}
use Rattle.board_core.specs.Histories.{history_of}
use Rattle.board_core.specs.Truths.{IsTrueLog, IsTruePool, IsTrueRoom, reply_of}
use Rattle.board_core.specs.Answers.{is_answer, answers_in}
use Rattle.board_core.specs.After.{after_front, after_answer, noted}
use Rattle.board_core.specs.Steps.{AreTrue, MayBe}
use Rattle.board.specs.Seated.{Seated, with_account}
use Rattle.board_core.proofs.Lists.{each_none, each_cons}
use Rattle.board_core.proofs.Grown.{entries_added, grows_trans, grows_front, grows_quiet}
use Rattle.board_core.proofs.BlockCauses.{seen_within}
use Rattle.descent.specs.Seats.{load_of}
use Rattle.searcher.specs.Finding.{Visits, HasRead, LoadsPruned}
use Rattle.searcher.specs.Searched.{IsSearched}
use Rattle.searcher.specs.Walking.{Reads, Replies, Whatever}
use Rattle.searcher.proofs.Walks.{whatever_later}
use Rattle.board_core.specs.ChainRule.{IsToldChain}

-- a reply that is the board's, whatever it is, is a true entry
pub answered_true : (k : Shape) (a : Account) (query : QueryGraph) (budget front : ℕ) (reply : Reply) → Replies k a query budget front (reply_of reply) → AreTrue k a (Answered query budget front reply ∷ [])
answered_true k a query budget front reply r = let e : Entry = Answered query budget front reply in record {
  silent = refl;
  each = λ p known agrees. let m : MayBe k p a = record { known = known; agrees = agrees } in each_cons (IsTrueLog k (history_of k p)) e [] (seen_within k p a m front r.seen, r.is p m) (each_none (IsTrueLog k (history_of k p)));
  rooms = each_cons (IsTrueRoom (k.room - length a.room.used)) e [] tt (each_none (IsTrueRoom (k.room - length a.room.used)));
  pages = λ states _. each_cons (IsTruePool k states) e [] tt (each_none (IsTruePool k states));
  chains = each_cons (IsToldChain k a) e [] tt (each_none (IsToldChain k a));
}

-- the front was loaded, then a descent and words, and then the entries were added
searched : (a b : Account) (front : ℕ) (es : List Entry) → answers_in (noted b.loads es) ≡ noted b.loads es → a.log.seen ≤ front → HasRead (after_front a front) b → IsSearched a (after_answer b es) front es
searched a b front es answers later r = record {
  grown = grows_trans a (after_front a front) (after_answer b es) (grows_front a front later) (grows_trans (after_front a front) b (after_answer b es) r.grown (grows_quiet b (after_answer b es) (omega arith) refl (entries_added b (after_answer b es) (noted b.loads es) refl)));
  who = r.who;
  log = r.log;
  room = r.room;
  unpinned = r.unpinned;
  own = r.own;
  parted = r.parted;
  tree = r.tree;
  counts = r.counts;
  fronts = r.fronts;
  entries =
      filter-append (λ (n : Noted). is_answer n.entry) b.entries (noted b.loads es)
      ∙ (ap (λ (l : List Noted). l ++ answers_in (noted b.loads es)) r.answers ∙ ap (λ (l : List Noted). answers_in a.entries ++ l) answers);
}

module _ (c f : Seated) (front : ℕ) (loaded : f ≡ with_account c (after_front c.account front)) (later : c.account.log.seen ≤ front) where
  read_front : (b : Account) → HasRead f.account b → HasRead (after_front c.account front) b
  read_front b r = subst (λ (x : Seated). HasRead x.account b) loaded r

  pub search_answered : (b n : Seated) (es : List Entry) → answers_in (noted b.account.loads es) ≡ noted b.account.loads es → HasRead f.account b.account → n ≡ with_account b (after_answer b.account es) → IsSearched c.account n.account front es
  search_answered b n es answers r is = subst (λ (x : Seated). IsSearched c.account x.account front es) (sym is) (searched c.account b.account front es answers later (read_front b.account r))

  pub search_quiet : (b : Seated) → HasRead f.account b.account → IsSearched c.account b.account front []
  search_quiet b r = let h = read_front b.account r in record {
    grown = grows_trans c.account (after_front c.account front) b.account (grows_front c.account front later) h.grown;
    who = h.who;
    log = h.log;
    room = h.room;
    unpinned = h.unpinned;
    own = h.own;
    parted = h.parted;
    tree = h.tree;
    counts = h.counts;
    fronts = h.fronts;
    entries = h.answers ∙ sym (append-nil (answers_in c.account.entries));
  }

  -- the codes that were loaded are those that the descent has loaded
  pub search_pruned : (b : Account) (query : QueryGraph) (rows : ℕ) → LoadsPruned query f.account b rows → LoadsPruned query c.account b rows
  search_pruned b query rows l = pruned_from (subst (λ (x : Seated). LoadsPruned query x.account b rows) loaded l)
    where
      pruned_from : LoadsPruned query (after_front c.account front) b rows → LoadsPruned query c.account b rows
      pruned_from q = record { need = q.need; need_is = q.need_is; loads = q.loads; loads_are = q.loads_are; pruned = q.pruned; counts = q.counts }

-- entries load nothing
pub pruned_noted : (a : Account) (b n : Seated) (es : List Entry) (query : QueryGraph) (rows : ℕ) → n ≡ with_account b (after_answer b.account es) → LoadsPruned query a b.account rows → LoadsPruned query a n.account rows
pruned_noted a b n es query rows is q = subst (λ (x : Seated). LoadsPruned query a x.account rows) (sym is) record { need = q.need; need_is = q.need_is; loads = q.loads; loads_are = q.loads_are; pruned = q.pruned; counts = q.counts }

-- a descent, and then loads that are of no codes
pub has_read : (a b c : Account) → Visits a b → Reads b c → HasRead a c
has_read a b c v r = record {
  grown = grows_trans a b c v.grown r.grown;
  who = r.who ∙ v.who;
  log = r.log ∙ v.log;
  room = r.room ∙ v.room;
  unpinned = ap (λ p. p.announced) r.pool ∙ v.unpinned;
  own = ap (λ p. p.own) r.pool ∙ v.own;
  parted = (v.parted.0, ap (λ p. p.parted) r.pool ∙ v.parted.1);
  tree = r.tree ∙ v.tree;
  counts = r.counts ∙ v.counts;
  fronts = r.fronts ∙ v.fronts;
  answers = ap answers_in r.entries ∙ v.answers;
}

pub pruned_later : (a b c : Account) (query : QueryGraph) (rows : ℕ) → LoadsPruned query a b rows → Reads b c → LoadsPruned query a c rows
pruned_later a b c query rows q r = record { need = q.need; need_is = q.need_is; loads = q.loads; loads_are = ap (map load_of) r.codes ∙ q.loads_are; pruned = q.pruned; counts = q.counts }

-- what holds whatever the board is holds as well when entries were added
pub whatever_noted : (k : Shape) (b n : Seated) (es : List Entry) (front : ℕ) (F : List Event → Type 0) → n ≡ with_account b (after_answer b.account es) → Whatever k b.account front F → Whatever k n.account front F
whatever_noted k b n es front F is all = subst (λ (x : Seated). Whatever k x.account front F) (sym is) (whatever_later k b.account (after_answer b.account es) front F (grows_quiet b.account (after_answer b.account es) (omega arith) refl (entries_added b.account (after_answer b.account es) (noted b.account.loads es) refl)) all)

pub same_front : (a b : ℕ) → (let r : Result ℕ SearchError = Err (OverBudget a) in r) ≡ Err (OverBudget b) → b ≡ a
same_front a b e = cc
