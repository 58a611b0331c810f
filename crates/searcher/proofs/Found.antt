-- What a descent between a pin and an unpin leaves.
use Rattle.std.proofs.Common.{◌≡◌, ℕ, List, [], ◌∷◌, ◌++◌, length, map, refl, sym, ap, ◌∙◌, subst, arith, append-nil}
use mathlib.Core.Option.{some}
use lib.ListN.{get_elem?}
use Rattle.std.proofs.lemmas.List.Elements.{filter-append}
use Rattle.std.specs.Prelude.{Result, Ok, Err, IfOk, IfErr}
use Rattle.htss_defs.specs.declared.out_of_memory.OutOfMemory.{OutOfMemory}
use Rattle.htss_defs.specs.declared.shape.Shape.{Shape}
use Rattle.htss_defs.specs.declared.needs.Need.{Need}
use Rattle.htss_defs.specs.QueryGraph.{QueryGraph}
use Rattle.board_core.specs.declared.account.Account.{Account}
use Rattle.board_core.specs.declared.entry.Entry.TheVariants.{Swept}
use Rattle.board_core.specs.declared.entry.Noted.{Noted}
use Rattle.board_core.specs.declared.loads.CodeLoad.{CodeLoad}
use Rattle.board_core.specs.declared.loads.Loads.{Loads}
use Rattle.board_core.specs.declared.loads.WordLoad.{WordLoad}
use Rattle.board_core.specs.declared.log.LogAccount.{LogAccount}
use Rattle.board_core.specs.declared.room.Row.{Row}
use Rattle.board_core.specs.After.{after_epoch, after_pin, after_unpin, noted, lengths_of}
use Rattle.board_core.specs.Answers.{answers_in, is_answer}
use Rattle.board_core.specs.Loaded.{Grows}
use Rattle.board.specs.Seated.{Seated, with_account}
use Rattle.board_core.proofs.Lists.{at_last, at_longer}
use Rattle.board_core.proofs.Grown.{grows_quiet}
use Rattle.descent.specs.Standing.{OnlyLoads, rest}
use Rattle.descent.specs.Answered.{HasSwept}
use Rattle.descent.specs.Seats.{load_of}
use Rattle.page_pool.specs.Taking.{IsPinned}
use Rattle.searcher.specs.Finding.{Visits, IsNeedOf, HasFound}
use Rattle.searcher.proofs.Numbered.{atoms_stay, rows_stay}

-- by what a call answers
pub by_answer : {F : ℕ → Type 0} {G : OutOfMemory → Type 0} {V : Type 0} (r : Result ℕ OutOfMemory) → IfOk r F → IfErr r G → ((n : ℕ) → F n → V) → ((e : OutOfMemory) → G e → V) → V
by_answer (Ok n) ok err f g = f n ok
by_answer (Err e) ok err f g = g e err

pub on_ok : {F H : ℕ → Type 0} (r : Result ℕ OutOfMemory) → IfOk r F → ((n : ℕ) → F n → H n) → IfOk r H
on_ok (Ok n) ok f = f n ok
on_ok (Err e) ok f = tt

-- an empty list has what it was given
pub all_given : (past now given : List Row) → past ≡ [] → now ≡ past ++ given → now ≡ given
all_given past now given none is = is ∙ ap (λ (l : List Row). l ++ given) none

-- the caller just pinned
abbrev pinned : Account → ℕ → Account
pinned a e = after_pin (after_epoch a e) e

-- more was loaded of codes and first words
record LoadsMore (a b : Account) : Type 0 where
  same : rest b ≡ rest a
  codes : List CodeLoad
  codes_are : b.loads.codes ≡ a.loads.codes ++ codes
  heads : List WordLoad
  heads_are : b.loads.heads ≡ a.loads.heads ++ heads

loads_more : (c d : Seated) → OnlyLoads c d → LoadsMore c.account d.account
loads_more c d o = record { same = ap (λ (x : Seated). x.account) o.same; codes = o.codes; codes_are = o.codes_are; heads = o.heads; heads_are = o.heads_are }

in_same : {A : Type 0} (xs ys : List A) (j : ℕ) (x : A) → ys ≡ xs → get_elem? xs j ≡ some x → get_elem? ys j ≡ some x
in_same xs ys j x same there = subst (λ zs. get_elem? zs j ≡ some x) (sym same) there

in_more : {A : Type 0} (xs ys more : List A) (j : ℕ) (x : A) → ys ≡ xs ++ more → get_elem? xs j ≡ some x → get_elem? ys j ≡ some x
in_more xs ys more j x same there = subst (λ zs. get_elem? zs j ≡ some x) (sym same) (at_longer xs more j x there)

visits_of : (a mid : Account) (e : ℕ) (entries : List Noted) → LoadsMore (pinned a e) mid → ((j : ℕ) (x : Noted) → get_elem? a.entries j ≡ some x → get_elem? entries j ≡ some x) → answers_in entries ≡ answers_in a.entries
    → Visits a (after_unpin (record mid { entries = entries }))
visits_of a mid e entries m more answers =
    let log : mid.log ≡ a.log = ap (λ (x : Account). x.log) m.same in
    let shown : mid.loads.shown ≡ a.loads.shown = ap (λ (x : Account). x.loads.shown) m.same in
    let marks : mid.loads.marks ≡ a.loads.marks = ap (λ (x : Account). x.loads.marks) m.same in
    let facts : mid.loads.facts ≡ a.loads.facts = ap (λ (x : Account). x.loads.facts) m.same in
    let fronts : mid.loads.fronts ≡ a.loads.fronts = ap (λ (x : Account). x.loads.fronts) m.same in record {
      grown = record {
        seen = let seen : mid.log.seen ≡ a.log.seen = ap (λ (l : LogAccount). l.seen) log in omega arith;
        shown = λ j x there. in_same a.loads.shown mid.loads.shown j x shown there;
        heads = λ j x there. in_more a.loads.heads mid.loads.heads m.heads j x m.heads_are there;
        marks = λ j x there. in_same a.loads.marks mid.loads.marks j x marks there;
        facts = λ j x there. in_same a.loads.facts mid.loads.facts j x facts there;
        codes = λ j x there. in_more a.loads.codes mid.loads.codes m.codes j x m.codes_are there;
        fronts = λ j x there. in_same a.loads.fronts mid.loads.fronts j x fronts there;
        epochs = λ j x there. in_more a.loads.epochs mid.loads.epochs (e ∷ []) j x (ap (λ (x : Account). x.loads.epochs) m.same) there;
        announcements = λ j x there. in_same a.loads.announcements mid.loads.announcements j x (ap (λ (x : Account). x.loads.announcements) m.same) there;
        states = λ j x there. in_same a.loads.states mid.loads.states j x (ap (λ (x : Account). x.loads.states) m.same) there;
        lost = λ j x there. in_same a.loads.lost mid.loads.lost j x (ap (λ (x : Account). x.loads.lost) m.same) there;
        entries = more;
      };
      who = ap (λ (x : Account). x.who) m.same;
      log = log;
      room = ap (λ (x : Account). x.room) m.same;
      unpinned = refl;
      own = ap (λ (x : Account). x.pool.own) m.same;
      parted = (e, ap (λ (x : Account). x.pool.parted) m.same);
      tree = ap (λ (x : Account). x.tree) m.same;
      counts = ap (λ (x : Account). x.counts) m.same;
      fronts = fronts;
      shown = shown;
      marks = marks;
      facts = facts;
      answers = answers;
    }

module _ (c pin mid last : Seated) (p : IsPinned c pin) (unpin : last ≡ with_account mid (after_unpin mid.account)) where
  pin_is : pin.account ≡ pinned c.account p.epoch
  pin_is = ap (λ (x : Seated). x.account) p.after

  last_is : last.account ≡ after_unpin mid.account
  last_is = ap (λ (x : Seated). x.account) unpin

  more_of : (d : Seated) → OnlyLoads pin d → LoadsMore (pinned c.account p.epoch) d.account
  more_of d o = subst (λ (x : Account). LoadsMore x d.account) pin_is (loads_more pin d o)

  -- nothing was noted
  pub visits_quiet : OnlyLoads pin mid → Visits c.account last.account
  visits_quiet o =
      let m = more_of mid o in
      let entries : mid.account.entries ≡ c.account.entries = ap (λ (x : Account). x.entries) m.same in
      subst (Visits c.account) (sym last_is) (visits_of c.account mid.account p.epoch mid.account.entries m (λ j x there. in_same c.account.entries mid.account.entries j x entries there) (ap answers_in entries))

  module _ (k : Shape) (query : QueryGraph) (need : Need) (is_need : IsNeedOf query need) (given : List Row) (count : ℕ) (s : HasSwept k need pin mid given count) where
    front_is : pin.account.tree.front ≡ c.account.log.seen
    front_is = ap (λ (x : Account). x.tree.front) pin_is

    abbrev between : Account
    between = s.between.account

    abbrev told : List Noted
    told = noted between.loads (Swept need pin.account.tree.front given ∷ [])

    mid_is : mid.account ≡ record between { entries = between.entries ++ told }
    mid_is = ap (λ (x : Seated). x.account) s.after

    entries_before : between.entries ≡ c.account.entries
    entries_before = ap (λ (x : Account). x.entries) (more_of s.between s.only).same

    pub visits_swept : Visits c.account last.account
    visits_swept =
        let m = more_of s.between s.only in
        let entries : List Noted = between.entries ++ told in
        subst (Visits c.account) (sym (last_is ∙ ap after_unpin mid_is)) (visits_of c.account between p.epoch entries m
        (λ j x there. in_more c.account.entries entries told j x (ap (λ (l : List Noted). l ++ told) entries_before) there)
        (filter-append (λ (n : Noted). is_answer n.entry) between.entries told ∙ (append-nil (answers_in between.entries) ∙ ap answers_in entries_before)))

    grown : Grows mid.account last.account
    grown = subst (Grows mid.account) (sym last_is) (grows_quiet mid.account (after_unpin mid.account) (omega arith) refl (λ j x there. there))

    entries_last : last.account.entries ≡ between.entries ++ told
    entries_last = ap (λ (x : Account). x.entries) last_is ∙ ap (λ (x : Account). x.entries) mid_is

    loads_same : last.account.loads ≡ mid.account.loads
    loads_same = ap (λ (x : Account). x.loads) last_is

    pub found_swept : HasFound k query c.account last.account given count
    found_swept = record {
      notes = record {
        need = need;
        need_is = is_need;
        noted = record { entry = Swept need pin.account.tree.front given; at = lengths_of between.loads };
        there = (length between.entries, subst (λ (l : List Noted). get_elem? l (length between.entries) ≡ some (record { entry = Swept need pin.account.tree.front given; at = lengths_of between.loads })) (sym entries_last) (at_last between.entries (record { entry = Swept need pin.account.tree.front given; at = lengths_of between.loads }) (length between.entries) refl));
        is = ap (λ (n : ℕ). Swept need n given) front_is;
      };
      known = rows_stay k mid.account last.account given grown s.known;
      atoms = atoms_stay k mid.account last.account given grown s.atoms;
      pruned = record {
        need = need;
        need_is = is_need;
        loads = s.loads;
        loads_are = ap (λ (l : Loads). map load_of l.codes) loads_same ∙ (s.loads_are ∙ ap (λ (x : Account). map load_of x.loads.codes ++ s.loads) pin_is);
        pruned = s.pruned;
        counts = s.rows;
      };
    }
