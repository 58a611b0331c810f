-- The blocks of groups that are done, and the events that all callers have seen, are a report of its own log.
use Rattle.std.proofs.Common.{◌≡◌, ℕ, suc, ◌≤◌, List, [], ◌∷◌, length, map, take, sym, refl, ap, subst, ◌∙◌, All, arith}
use Rattle.std.proofs.lemmas.List.{length-map, length-take-le}
use Rattle.std.proofs.lemmas.List.Elements.{All-cons, All-map, All-nil, All-take}
use mathlib.Core.Option.{some-injective}
use lib.ListN.{get_elem?}
use Rattle.htss_defs.specs.declared.history.Event.{Event}
use Rattle.htss_defs.specs.declared.history.Event.TheVariants.{Publish, Withdraw}
use Rattle.htss_defs.specs.declared.shape.Shape.{Shape}
use Rattle.htss_defs.specs.declared.shape.Field.TheVariants.{Loaders}
use Rattle.htss_defs.specs.History.{IsLegal}
use Rattle.htss_defs.specs.Shapes.{IsShape}
use Rattle.script_text.specs.declared.script.Group.{Group}
use Rattle.report_text.specs.Typed.{IsTypedBlock}
use Rattle.report_text.specs.Values.{IsLogLine, IsU64}
use Rattle.report_rules.specs.Reports.{Done, done_block, log_line, IsByItsLoader, IsToldBy, IsReport}
use Rattle.report_rules.proofs.InGrammar.{AreShort, in_grammar}
use Rattle.board_core.specs.declared.account.Account.{Account}
use Rattle.board_core.specs.Each.{Each}
use Rattle.board_core.specs.Words.{Parts}
use Rattle.board_core.specs.Histories.{history_of}
use Rattle.board_core.specs.LogRule as log
use Rattle.board_core.specs.Steps.{Known}
use Rattle.board_core.proofs.BlockCauses.{publishes_in_first, withdraws_of_first}
use Rattle.board_core.proofs.Shown.{history_counted}
use Rattle.board_jobs.specs.Ends.{HaveGoneOn, IsEnd}
use Rattle.board_jobs.specs.Groups.{AreGroupsDone, AreNew}
use Rattle.board_jobs.proofs.LogLines.{log_lines}
use Rattle.board_jobs.proofs.Named.{whole}
use Rattle.board_jobs.proofs.Places.{elem_at}
use Rattle.board_jobs.proofs.Ruled.{front_within}
use Rattle.board_jobs.proofs.Told.{told}

-- ---- the first events of a legal history

pub legal_first : (h : List Event) (front : ℕ) → front ≤ length h → IsLegal h → IsLegal (take front h)
legal_first h front few legal = record {
  earlier = λ number target w.
      let (old, early) = withdraws_of_first h front number target few w in
      let (before, name, mol, p) = legal.earlier number target old in
      (before, name, mol, publishes_in_first h front target name mol p (omega (arith, before, early)));
  once = λ number other target first second. legal.once number other target (withdraws_of_first h front number target few first).0 (withdraws_of_first h front other target few second).0;
}

-- the board's word for an event by a loader, and the report's
by_loader : (k : Shape) (e : Event) → log.IsByLoader k e → IsByItsLoader k e
by_loader k (Publish caller name mol) by = by
by_loader k (Withdraw caller number) by = by

all_by_loaders : (k : Shape) (h : List Event) → Each (log.IsByLoader k) h → All (IsByItsLoader k) h
all_by_loaders k [] each = All-nil (IsByItsLoader k)
all_by_loaders k (e ∷ es) each = All-cons (IsByItsLoader k) e es (by_loader k e (each 0 e refl)) (all_by_loaders k es (λ j. each (suc j)))

-- ---- the end of a board

-- there is a caller, and what its account knows of the words
pub known_end : (k : Shape) (p : Parts) (last : List Account) → IsShape k → IsEnd k p last → Known k p
known_end k p last shape end =
    let some_loader = (shape Loaders).0 in
    let count = end.count in
    let (a, there) = elem_at last 0 (omega (arith, some_loader, count)) in
    (end.may 0 a there).known

-- ---- the laws

pub reported : (k : Shape) (files : List (ℕ × List ℕ)) (budget : ℕ) (groups : List Group) (before middle last : List Account) (front : ℕ) (done : List Done) (p : Parts)
    → IsShape k → AreNew k before → AreGroupsDone k files budget 1 groups before middle front done → HaveGoneOn k middle last → IsEnd k p last
    → AreShort files → IsU64 budget → All IsTypedBlock (map done_block done)
    → (h : List Event) → h ≡ take front (history_of k p) → IsReport groups files k budget (record { shape = k; budget = budget; blocks = map done_block done; events = map log_line h })
reported k files budget groups before middle last front done p shape new are gone end short fits typed h is =
    let known : Known k p = known_end k p last shape end in
    let few : front ≤ length (history_of k p) = front_within k files budget groups before middle last front done p shape new are gone end in
    let long : length h ≡ front = ap length is ∙ length-take-le front (history_of k p) few in
    let counted : length (history_of k p) ≡ p.log.front = history_counted k p in
    let room : p.log.front ≤ k.log = known.front in
    let legal = subst IsLegal (sym is) (legal_first (history_of k p) front few known.legal) in
    let loaders = subst (All (IsByItsLoader k)) (sym is) (All-take (IsByItsLoader k) front (history_of k p) (all_by_loaders k (history_of k p) end.loaders)) in
    let tells = subst (λ l. IsToldBy groups files k budget l (map done_block done)) (sym is) (told k files budget groups before middle last front done p shape new are gone end) in
    let within : length h ≤ k.log = omega (arith, long, few, counted, room) in
    let first = All-take (λ e. IsLogLine (log_line e)) front (history_of k p) (log_lines k p shape known (all_by_loaders k (history_of k p) end.loaders)) in
    let events : All IsLogLine (map log_line h) = All-map IsLogLine log_line h (subst (All (λ e. IsLogLine (log_line e))) (sym is) first) in
    record {
      in_grammar = in_grammar groups files k budget h _ shape refl fits short within (length-map h log_line) tells typed events;
      in_limits = shape;
      shape_is = refl;
      budget_is = refl;
      history = h;
      within = within;
      legal = legal;
      loaders = loaders;
      log = refl;
      told = tells;
    }

gone_nowhere : (k : Shape) (middle last : List Account) → last ≡ middle → HaveGoneOn k middle last
gone_nowhere k middle last same = record {
  count = ap length same;
  each = λ i a b there at. ([], some-injective b a (sym at ∙ (ap (λ (l : List Account). get_elem? l i) same ∙ there)));
}

-- where nothing was done after the groups, the report has all of the history
pub reported_whole : (k : Shape) (files : List (ℕ × List ℕ)) (budget : ℕ) (groups : List Group) (before middle last : List Account) (front : ℕ) (done : List Done) (p : Parts)
    → IsShape k → AreNew k before → AreGroupsDone k files budget 1 groups before middle front done → last ≡ middle → IsEnd k p last
    → AreShort files → IsU64 budget → All IsTypedBlock (map done_block done)
    → (h : List Event) → h ≡ history_of k p → IsReport groups files k budget (record { shape = k; budget = budget; blocks = map done_block done; events = map log_line h })
reported_whole k files budget groups before middle last front done p shape new are same end short fits typed h is =
    reported k files budget groups before middle last front done p shape new are (gone_nowhere k middle last same) end short fits typed h
    (is ∙ sym (whole k files budget groups before middle last front done p new are same end))
