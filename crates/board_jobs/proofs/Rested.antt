-- Searchers are at rest after each answer; what they have loaded for each search is pruned, and of screened records
-- alone: in a group, and in a whole run.
use Rattle.std.proofs.Common.{◌≡◌, ℕ, ◌+◌, ◌-◌, ◌≤◌, List, [], ◌∷◌, ◌++◌, length, map, sym, refl, ap, subst, ◌∙◌, ⊎_elim, append-nil, arith, length-append}
use Rattle.std.specs.List.{flat_map}
use Rattle.std.specs.Prelude.{if◌then◌else◌}
use Rattle.std.proofs.lemmas.Bool.{le-ltb}
use Rattle.std.proofs.lemmas.Grind.{flat_map-append}
use Rattle.std.proofs.lemmas.List.{length-map}
use mathlib.Core.Option.{some, some-injective}
use lib.ListN.{get_elem?}
use Rattle.htss_defs.specs.declared.shape.Shape.{Shape}
use Rattle.htss_defs.specs.declared.history.Hit.{Hit}
use Rattle.htss_defs.specs.Shapes.{IsShape}
use Rattle.htss_defs.specs.QueryGraph.{QueryGraph}
use Rattle.script_text.specs.declared.script.Group.{Group}
use Rattle.report_rules.specs.Answers.{Answer, to_record, to_search, to_withdrawal, not_read, hits_at, over_at}
use Rattle.report_rules.specs.Dealing.{Caller, loader, searcher}
use Rattle.report_rules.specs.Reports.{Done, done_lines}
use Rattle.report_rules.specs.Rules.{Line}
use Rattle.board_core.specs.declared.account.Account.{Account}
use Rattle.board_core.specs.declared.entry.Entry.{Entry}
use Rattle.board_core.specs.declared.entry.Entry.TheVariants.{Answered}
use Rattle.board_core.specs.declared.entry.Noted.{Noted}
use Rattle.board_core.specs.declared.entry.Reply.{Reply}
use Rattle.board_core.specs.declared.entry.Reply.TheVariants as reply
use Rattle.board_core.specs.declared.loads.Loads.{Loads}
use Rattle.board_core.specs.After.{lengths_of}
use Rattle.board_core.specs.Loaded.{Grows}
use Rattle.board_core.specs.Answers.{answers_in}
use Rattle.board_core.proofs.Lists.{at_last, at_longer, inside}
use Rattle.descent.specs.Seats.{CodeLoad, load_of}
use Rattle.descent.specs.Pruned.{CountsLoaded}
use Rattle.searcher.specs.Finding.{LoadsPruned}
use Rattle.searcher.specs.Records.{ReadsAllScreened, ReadsScreened}
use Rattle.board_jobs.specs.Answering.{IsAnswered}
use Rattle.board_jobs.specs.Ends.{caller_at}
use Rattle.board_jobs.specs.Groups.{place_of, with_seen, GroupIsDone, AreGroupsDone, AreNew}
use Rattle.board_jobs.specs.Printed.{lines_by, printed}
use Rattle.board_jobs.specs.Pruning.{ArePrunedFor, HasPruned, IsRested, SearchersStayPruned, TellRows, codes_loaded, loaded_for}
use Rattle.board_jobs.specs.Reading.{HaveRead, SearchersRead}
use Rattle.board_jobs.specs.Telling.{tells}
use Rattle.board_jobs.proofs.Along.{AllKeep, along_groups, along_jobs, along_met, line_of}
use Rattle.board_jobs.proofs.Asked.{IsAsked, all_asked}
use Rattle.board_jobs.proofs.Fits.{all_fit}
use Rattle.board_jobs.proofs.Kept.{split_last}
use Rattle.board_jobs.proofs.Printing.{at_place, groups_count}
use Rattle.board_jobs.proofs.Pruned.{KeptFrom, kept_more, loaded_before, loaded_now}
use Rattle.board_jobs.proofs.Screened.{ReadKept, read_more, read_none, read_quiet, read_seen}

-- ---- an answer of a searcher

abbrev pub KeptIn : ℕ → Account → Type 0
KeptIn first a = KeptFrom first (answers_in a.entries) (codes_loaded a) (length a.loads.facts)

-- the entry of a search, at its end
abbrev entry_at : Account → QueryGraph → ℕ → ℕ → Reply → Noted
entry_at b query budget front told = record { entry = Answered query budget front told; at = lengths_of b.loads }

pruned_for : (query : QueryGraph) (a b : Account) (rows : ℕ) (q : LoadsPruned query a b rows) → ArePrunedFor query q.loads
pruned_for query a b rows q = record { need = q.need; need_is = q.need_is; pruned = q.pruned }

-- its length is that of the codes that were loaded by then
at_codes : (query : QueryGraph) (a b : Account) (rows : ℕ) (q : LoadsPruned query a b rows) → length b.loads.codes ≡ length (codes_loaded a ++ q.loads)
at_codes query a b rows q = sym (length-map b.loads.codes load_of) ∙ ap length q.loads_are

module _ (first : ℕ) (a b : Account) (query : QueryGraph) (budget front rows : ℕ) (told : Reply) (q : LoadsPruned query a b rows) where
  kept_searched : answers_in b.entries ≡ answers_in a.entries ++ entry_at b query budget front told ∷ [] → KeptIn first a → KeptIn first b
  kept_searched more kept =
      let f : Noted = entry_at b query budget front told in
      let es : List Noted = answers_in a.entries in
      let now = kept_more first es (codes_loaded a) q.loads (length a.loads.facts) (length b.loads.facts) f kept.codes (at_codes query a b rows q) kept refl
      (λ other budget' front' reply' is. let same : query ≡ other = (let whole : Answered query budget front told ≡ Answered other budget' front' reply' = is in cc) in subst (λ (z : QueryGraph). ArePrunedFor z q.loads) same (pruned_for query a b rows q)) in
      subst (λ (l : List Noted). KeptFrom first l (codes_loaded b) (length b.loads.facts)) (sym more)
      (subst (λ (l : List CodeLoad). KeptFrom first (es ++ f ∷ []) l (length b.loads.facts)) (sym q.loads_are) now)

-- nothing was loaded, and nothing is told
kept_quiet : (first : ℕ) (a b : Account) → answers_in b.entries ≡ answers_in a.entries ++ [] → b.loads ≡ a.loads → KeptIn first a → KeptIn first b
kept_quiet first a b more same kept =
    subst (λ (l : List Noted). KeptFrom first l (codes_loaded b) (length b.loads.facts)) (sym (more ∙ append-nil (answers_in a.entries)))
    (subst (λ (l : Loads). KeptFrom first (answers_in a.entries) (map load_of l.codes) (length l.facts)) (sym same) kept)

module _ (k : Shape) (number first : ℕ) where
  kept_answer : (a b : Account) (answer : Answer) → IsAnswered k (searcher number) a b answer → IsAsked (searcher number) answer → KeptIn first a → KeptIn first b
  kept_answer a b (to_record answer) is asked kept = absurd asked
  kept_answer a b (to_withdrawal target answer) is asked kept = absurd asked
  kept_answer a b (to_search (not_read line code)) is asked kept = kept_quiet first a b is.noted_are (is.rows asked) kept
  kept_answer a b (to_search (hits_at query budget front hits rows records)) is asked kept = kept_searched first a b query budget front rows (reply.Hits hits) is.rows is.noted_are kept
  kept_answer a b (to_search (over_at query budget front)) is asked kept = kept_searched first a b query budget front is.rows.0 reply.OverBudget is.rows.1 is.noted_are kept

-- the same of names, atoms and bonds
record BothKept (k : Shape) (first : ℕ) (a : Account) : Type 0 where
  codes : KeptIn first a
  records : ReadKept k first (answers_in a.entries) a

module _ (k : Shape) (number first : ℕ) (a b : Account) where
  read_searched : (query : QueryGraph) (budget front : ℕ) (told : Reply) → Grows a b → KeptIn first a
      → ReadsScreened k query front a b
      → ((hits : List Hit) → told ≡ reply.Hits hits → ReadsAllScreened k query front a b)
      → answers_in b.entries ≡ answers_in a.entries ++ entry_at b query budget front told ∷ []
      → ReadKept k first (answers_in a.entries) a → ReadKept k first (answers_in b.entries) b
  read_searched query budget front told grown kept screened whole more records =
      subst (λ (l : List Noted). ReadKept k first l b) (sym more)
      (read_more k first (answers_in a.entries) a b (entry_at b query budget front told) query budget front told
      grown kept.words refl refl screened whole records)

  read_answer : (answer : Answer) → IsAnswered k (searcher number) a b answer → IsAsked (searcher number) answer
      → BothKept k first a → ReadKept k first (answers_in b.entries) b
  read_answer (to_record answer) is asked kept = absurd asked
  read_answer (to_withdrawal target answer) is asked kept = absurd asked
  read_answer (to_search (not_read line code)) is asked kept =
      subst (λ (l : List Noted). ReadKept k first l b) (sym (is.noted_are ∙ append-nil (answers_in a.entries)))
      (read_quiet k first (answers_in a.entries) a b is.grows (is.rows asked) kept.records)
  read_answer (to_search (hits_at query budget front hits rows records)) is asked kept =
      read_searched query budget front (reply.Hits hits) is.grows kept.codes is.read.0
      (λ others same. is.read.1) is.noted_are kept.records
  read_answer (to_search (over_at query budget front)) is asked kept =
      read_searched query budget front reply.OverBudget is.grows kept.codes is.read
      (λ others same. absurd (no_hits others same)) is.noted_are kept.records
    where
      no_hits : (others : List Hit) → reply.OverBudget ≡ reply.Hits others → ⊥
      no_hits others same = absurd cc

both_answer : (k : Shape) (number first : ℕ) (a b : Account) (answer : Answer)
    → IsAnswered k (searcher number) a b answer → IsAsked (searcher number) answer → BothKept k first a
    → BothKept k first b
both_answer k number first a b answer is asked kept = record {
  codes = kept_answer k number first a b answer is asked kept.codes;
  records = read_answer k number first a b answer is asked kept;
}

both_seen : (k : Shape) (first front : ℕ) (a : Account) → a.log.seen ≤ front → BothKept k first a
    → BothKept k first (with_seen front a)
both_seen k first front a more kept =
    record { codes = kept.codes; records = read_seen k first (answers_in a.entries) a front more kept.records }

-- what is kept says that the caller is at rest
rested : (first : ℕ) (a : Account) → KeptIn first a → IsRested a
rested first a kept = record { codes = kept.codes ∙ length-map a.loads.codes load_of; facts = kept.words }

-- a caller at rest has kept this from its next answer on
kept_rested : (a : Account) → IsRested a → KeptIn (length (answers_in a.entries)) a
kept_rested a rest = record {
  codes = rest.codes ∙ sym (length-map a.loads.codes load_of);
  words = rest.facts;
  within = λ i e from there. let below = inside (answers_in a.entries) i e there in absurd (omega (arith, from, below));
  pruned = λ i e query budget front reply from there is. let below = inside (answers_in a.entries) i e there in absurd (omega (arith, from, below));
}

-- ---- a group

module _ (k : Shape) (before : List Account) where
  -- since these accounts
  abbrev KeepsSince : Caller → List Line → Account → Type 0
  KeepsSince (loader number) lines b = Unit {0}
  KeepsSince (searcher number) lines b = (a : Account) → get_elem? before (place_of k (searcher number)) ≡ some a
      → IsRested a → BothKept k (length (answers_in a.entries)) b

  seen_since : (c : Caller) (lines : List Line) (front : ℕ) (a : Account) → a.log.seen ≤ front → KeepsSince c lines a
      → KeepsSince c lines (with_seen front a)
  seen_since (loader number) lines front a more keeps = tt
  seen_since (searcher number) lines front a more keeps = λ x there rest.
      both_seen k (length (answers_in x.entries)) front a more (keeps x there rest)

  step_since : (c : Caller) (group : ℕ) (answer : Answer) (lines : List Line) (a b : Account) → IsAnswered k c a b answer → IsAsked c answer → KeepsSince c lines a → KeepsSince c (lines ++ line_of group c answer ∷ []) b
  step_since (loader number) group answer lines a b is asked keeps = tt
  step_since (searcher number) group answer lines a b is asked keeps = λ x there rest.
      both_answer k number (length (answers_in x.entries)) a b answer is asked (keeps x there rest)

  since_new : (c : Caller) → (a : Account) → get_elem? before (place_of k c) ≡ some a → KeepsSince c [] a
  since_new (loader number) a there = tt
  since_new (searcher number) a there = λ x at rest. let same : x ≡ a = some-injective x a (sym at ∙ there) in
      subst (BothKept k (length (answers_in x.entries))) same
      (record { codes = kept_rested x rest; records = read_none k (answers_in x.entries) x })

  group_kept : (files : List (ℕ × List ℕ)) (budget number : ℕ) (group : Group) (after : List Account) (front : ℕ)
      (done : List Done) → IsShape k → length after ≡ k.loaders + k.searchers
      → GroupIsDone k files budget number group before after front done
      → (i : ℕ) (a b : Account) → k.loaders ≤ i → get_elem? before i ≡ some a → get_elem? after i ≡ some b → IsRested a
      → BothKept k (length (answers_in a.entries)) b
  group_kept files budget number group after front done shape count is i a b from old new rest =
      let below = inside after i b new in
      let (caller, place) = at_place k i (omega (arith, below, count)) in
      let start : AllKeep k KeepsSince before [] = λ c one x there. since_new c x there in
      let jobs = along_jobs k KeepsSince seen_since step_since number done before is.between [] is.jobs
      (all_fit k files budget number shape 0 0 group.jobs done is.dealt_are is.by_files) (all_asked k files budget number 0 0 group.jobs done is.dealt_are is.by_files) start in
      let met : AllKeep k KeepsSince after (flat_map done_lines done) = along_met k KeepsSince seen_since step_since is.between after front (flat_map done_lines done) is.met jobs in
      let who : caller_at k i ≡ searcher (i + 1 - k.loaders) = ap (λ b. if b then loader (i + 1) else searcher (i + 1 - k.loaders)) (le-ltb i k.loaders from) in
      let mine : KeepsSince (searcher (i + 1 - k.loaders)) (lines_by (searcher (i + 1 - k.loaders)) (flat_map done_lines done)) b =
      subst (λ (c : Caller). KeepsSince c (lines_by c (flat_map done_lines done)) b) who (met (caller_at k i) caller b (ap (get_elem? after) place ∙ new)) in
      let at : place_of k (searcher (i + 1 - k.loaders)) ≡ i = ap (place_of k) (sym who) ∙ place in
      mine a (ap (get_elem? before) at ∙ old) rest

  pub group_pruned : (files : List (ℕ × List ℕ)) (budget number : ℕ) (group : Group) (after : List Account) (front : ℕ)
      (done : List Done) → IsShape k → length after ≡ k.loaders + k.searchers
      → GroupIsDone k files budget number group before after front done → SearchersStayPruned k before after
  group_pruned files budget number group after front done shape count is i a b from old new rest =
      let kept = (group_kept files budget number group after front done shape count is i a b from old new rest).codes in
      (rested (length (answers_in a.entries)) b kept, kept.pruned)

  pub group_read : (files : List (ℕ × List ℕ)) (budget number : ℕ) (group : Group) (after : List Account) (front : ℕ)
      (done : List Done) → IsShape k → length after ≡ k.loaders + k.searchers
      → GroupIsDone k files budget number group before after front done → SearchersRead k before after
  group_read files budget number group after front done shape count is i a b from old new rest =
      (group_kept files budget number group after front done shape count is i a b from old new rest).records.read

-- ---- the rows that lines tell

rows_told : (caller : Caller) (lines : List Line) (line : Line) → length (printed (lines ++ line ∷ [])) ≡ length (printed lines) + length (tells line.caller line.answer)
rows_told caller lines line =
    let both = flat_map-append (λ (x : Line). tells x.caller x.answer) lines (line ∷ []) in
    ap length both ∙ (length-append (printed lines) (printed (line ∷ [])) ∙ ap (λ (l : List Entry). length (printed lines) + length l) (append-nil (tells line.caller line.answer)))

module _ (lines : List Line) (line : Line) (es : List Noted) (ls ms : List CodeLoad) where
  -- a line that tells nothing
  tell_same : TellRows lines es ls → ((query : QueryGraph) (budget front : ℕ) (hits : List Hit) (rows records : ℕ) → line.answer ≡ to_search (hits_at query budget front hits rows records) → ⊥) → TellRows (lines ++ line ∷ []) es ls
  tell_same all none earlier later one query budget front hits rows records split is = ⊎_elim
      (λ (t : (lines ≡ earlier) × (line ≡ one)). absurd (none query budget front hits rows records (ap (λ (x : Line). x.answer) t.1 ∙ is)))
      (λ (t : (rest : List Line) × (lines ≡ earlier ++ one ∷ rest)). all earlier t.0 one query budget front hits rows records t.1 is)
      (split_last lines earlier later line one split)

  -- a line for a new entry
  tell_more : (first : ℕ) (f : Noted) (facts : ℕ) → first ≡ 0 → KeptFrom first es ls facts → f.at.codes ≡ length (ls ++ ms) → length es ≡ length (printed lines) → TellRows lines es ls
      → ((query : QueryGraph) (budget front : ℕ) (hits : List Hit) (rows records : ℕ) → line.answer ≡ to_search (hits_at query budget front hits rows records) → CountsLoaded ms rows)
      → TellRows (lines ++ line ∷ []) (es ++ f ∷ []) (ls ++ ms)
  tell_more first f facts none kept at count all new earlier later one query budget front hits rows records split is = ⊎_elim
      (λ (t : (lines ≡ earlier) × (line ≡ one)).
      let place : length es ≡ length (printed earlier) = count ∙ ap (λ (l : List Line). length (printed l)) t.0 in
      subst (λ (n : ℕ). (e : Noted) × (get_elem? (es ++ f ∷ []) n ≡ some e) × CountsLoaded (loaded_for n e (es ++ f ∷ []) (ls ++ ms)) rows) place
      (f, at_last es f (length es) refl, subst (λ (l : List CodeLoad). CountsLoaded l rows) (sym (loaded_now 0 es ls ms 0 0 f kept.codes at)) (new query budget front hits rows records (ap (λ (x : Line). x.answer) t.1 ∙ is))))
      (λ (t : (rest : List Line) × (lines ≡ earlier ++ one ∷ rest)).
      let old = all earlier t.0 one query budget front hits rows records t.1 is in
      let within = kept.within (length (printed earlier)) old.0 (omega (arith, none)) old.1 in
      (old.0, at_longer es (f ∷ []) (length (printed earlier)) old.0 old.1, subst (λ (l : List CodeLoad). CountsLoaded l rows) (sym (loaded_before 0 es ls ms 0 0 f kept.codes at (length (printed earlier)) old.0 within old.1)) old.2))
      (split_last lines earlier later line one split)

-- ---- a whole run

-- all of a searcher's answers, with its lines
record KeptAll (k : Shape) (lines : List Line) (a : Account) : Type 0 where
  kept : KeptIn 0 a
  records : ReadKept k 0 (answers_in a.entries) a
  count : length (answers_in a.entries) ≡ length (printed lines)
  tell : TellRows lines (answers_in a.entries) (codes_loaded a)

module _ (k : Shape) (number group : ℕ) (lines : List Line) (a b : Account) where
  all_searched : (answer : Answer) (query : QueryGraph) (budget front rows : ℕ) (told : Reply) → tells (searcher number) answer ≡ Answered query budget front told ∷ []
      → ((other : QueryGraph) (budget' front' : ℕ) (hits : List Hit) (rows' records : ℕ) → answer ≡ to_search (hits_at other budget' front' hits rows' records) → rows ≡ rows')
      → (q : LoadsPruned query a b rows) → answers_in b.entries ≡ answers_in a.entries ++ entry_at b query budget front told ∷ []
      → ReadKept k 0 (answers_in b.entries) b → KeptAll k lines a
      → KeptAll k (lines ++ line_of group (searcher number) answer ∷ []) b
  all_searched answer query budget front rows told tells_are rows_are q more records all =
      let f : Noted = entry_at b query budget front told in
      let es : List Noted = answers_in a.entries in
      let line : Line = line_of group (searcher number) answer in
      let tell = tell_more lines line es (codes_loaded a) q.loads 0 f (length a.loads.facts) refl all.kept (at_codes query a b rows q) all.count all.tell
      (λ other budget' front' hits rows' records is. subst (CountsLoaded q.loads) (rows_are other budget' front' hits rows' records is) q.counts) in
      record {
        kept = kept_searched 0 a b query budget front rows told q more all.kept;
        records = records;
        count = ap length more ∙ (length-append es (f ∷ []) ∙ (ap (λ n. n + 1) all.count ∙ sym (rows_told (searcher number) lines line ∙ ap (λ (l : List Entry). length (printed lines) + length l) tells_are)));
        tell = subst (λ (l : List Noted). TellRows (lines ++ line ∷ []) l (codes_loaded b)) (sym more) (subst (λ (l : List CodeLoad). TellRows (lines ++ line ∷ []) (es ++ f ∷ []) l) (sym q.loads_are) tell);
      }

  all_read : (answer : Answer) → IsAnswered k (searcher number) a b answer → IsAsked (searcher number) answer
      → KeptAll k lines a → ReadKept k 0 (answers_in b.entries) b
  all_read answer is asked all = read_answer k number 0 a b answer is asked
      (record { codes = all.kept; records = all.records })

  all_answer : (answer : Answer) → IsAnswered k (searcher number) a b answer → IsAsked (searcher number) answer
      → KeptAll k lines a → KeptAll k (lines ++ line_of group (searcher number) answer ∷ []) b
  all_answer (to_record answer) is asked all = absurd asked
  all_answer (to_withdrawal target answer) is asked all = absurd asked
  all_answer (to_search (not_read at code)) is asked all =
      let line : Line = line_of group (searcher number) (to_search (not_read at code)) in
      let same : answers_in b.entries ≡ answers_in a.entries = is.noted_are ∙ append-nil (answers_in a.entries) in
      let loads : b.loads ≡ a.loads = is.rows asked in
      let tell = tell_same lines line (answers_in a.entries) (codes_loaded a) [] all.tell (λ query budget front hits rows records e. absurd cc) in
      record {
        kept = kept_quiet 0 a b is.noted_are loads all.kept;
        records = all_read (to_search (not_read at code)) is asked all;
        count = ap length same ∙ (all.count ∙ sym (rows_told (searcher number) lines line ∙ (omega arith)));
        tell = subst (λ (l : List Noted). TellRows (lines ++ line ∷ []) l (codes_loaded b)) (sym same) (subst (λ (l : Loads). TellRows (lines ++ line ∷ []) (answers_in a.entries) (map load_of l.codes)) (sym loads) tell);
      }
  all_answer (to_search (hits_at query budget front hits rows records)) is asked all =
      all_searched (to_search (hits_at query budget front hits rows records)) query budget front rows
      (reply.Hits hits) refl (λ other budget' front' hits' rows' records' e. cc) is.rows is.noted_are
      (all_read (to_search (hits_at query budget front hits rows records)) is asked all) all
  all_answer (to_search (over_at query budget front)) is asked all =
      all_searched (to_search (over_at query budget front)) query budget front is.rows.0 reply.OverBudget refl
      (λ other budget' front' hits' rows' records' e. absurd cc) is.rows.1 is.noted_are
      (all_read (to_search (over_at query budget front)) is asked all) all

abbrev KeepsAll : Shape → Caller → List Line → Account → Type 0
KeepsAll k (loader number) lines a = Unit {0}
KeepsAll k (searcher number) lines a = KeptAll k lines a

seen_all : (k : Shape) (c : Caller) (lines : List Line) (front : ℕ) (a : Account) → a.log.seen ≤ front
    → KeepsAll k c lines a → KeepsAll k c lines (with_seen front a)
seen_all k (loader number) lines front a more keeps = tt
seen_all k (searcher number) lines front a more keeps = record {
  kept = keeps.kept;
  records = read_seen k 0 (answers_in a.entries) a front more keeps.records;
  count = keeps.count;
  tell = keeps.tell;
}

step_all : (k : Shape) (c : Caller) (group : ℕ) (answer : Answer) (lines : List Line) (a b : Account)
    → IsAnswered k c a b answer → IsAsked c answer → KeepsAll k c lines a
    → KeepsAll k c (lines ++ line_of group c answer ∷ []) b
step_all k (loader number) group answer lines a b is asked keeps = tt
step_all k (searcher number) group answer lines a b is asked keeps = all_answer k number group lines a b answer is asked keeps

no_line : (earlier later : List Line) (line : Line) → [] ≡ earlier ++ line ∷ later → ⊥
no_line [] later line e = absurd cc
no_line (x ∷ earlier) later line e = absurd cc

all_new : (k : Shape) (c : Caller) (a : Account) → answers_in a.entries ≡ [] → a.loads.codes ≡ [] → a.loads.facts ≡ []
    → KeepsAll k c [] a
all_new k (loader number) a entries codes facts = tt
all_new k (searcher number) a entries codes facts =
    let rest : IsRested a = record { codes = rw entries (rw codes refl); facts = rw entries (rw facts refl) } in
    let none : length (answers_in a.entries) ≡ 0 = ap length entries in record {
      kept = subst (λ (n : ℕ). KeptIn n a) none (kept_rested a rest);
      records = subst (λ (n : ℕ). ReadKept k n (answers_in a.entries) a) none (read_none k (answers_in a.entries) a);
      count = none;
      tell = λ earlier later line query budget front hits rows records split is. absurd (no_line earlier later line split);
    }

module _ (k : Shape) (files : List (ℕ × List ℕ)) (budget : ℕ) (groups : List Group) (before middle : List Account)
    (front : ℕ) (done : List Done)
    (shape : IsShape k) (new : AreNew k before)
    (are : AreGroupsDone k files budget 1 groups before middle front done) where
  run_kept : (i : ℕ) (a : Account) → k.loaders ≤ i → get_elem? middle i ≡ some a
      → KeptAll k (lines_by (caller_at k i) (flat_map done_lines done)) a
  run_kept i a from there =
      let below = inside middle i a there in
      let many = groups_count k files budget groups 1 before middle front done are in
      let count = new.0 in
      let (is, place) = at_place k i (omega (arith, below, many, count)) in
      let start : AllKeep k (KeepsAll k) before [] = λ c one x at.
      (let e = new.1 (place_of k c) x at in all_new k c x (ap (λ (y : Account). answers_in y.entries) e)
      (ap (λ (y : Account). y.loads.codes) e) (ap (λ (y : Account). y.loads.facts) e)) in
      let all = along_groups k (KeepsAll k) (seen_all k)
      (step_all k) files budget shape groups 1 before middle front done [] are start in
      let who : caller_at k i ≡ searcher (i + 1 - k.loaders) = ap
      (λ b. if b then loader (i + 1) else searcher (i + 1 - k.loaders)) (le-ltb i k.loaders from) in
      let lines : List Line = lines_by (caller_at k i) (flat_map done_lines done) in
      subst (λ (c : Caller). KeepsAll k c lines a) who (all (caller_at k i) is a (ap (get_elem? middle) place ∙ there))

  pub run_pruned : (i : ℕ) (a : Account) → k.loaders ≤ i → get_elem? middle i ≡ some a
      → HasPruned (lines_by (caller_at k i) (flat_map done_lines done)) a
  run_pruned i a from there = let mine =
      run_kept i a from there in record { rested = rested 0 a mine.kept; pruned = mine.kept.pruned; rows = mine.tell }

  pub run_read : (i : ℕ) (a : Account) → k.loaders ≤ i → get_elem? middle i ≡ some a → HaveRead k 0 a
  run_read i a from there = (run_kept i a from there).records.read
