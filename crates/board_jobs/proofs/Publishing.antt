-- What becomes of a record, and what it leaves of the account.
use Rattle.std.proofs.Common.{◌≡◌, ℕ, ◌+◌, ◌<◌, ◌≤◌, List, [], ◌∷◌, ◌++◌, length, map, sym, ap, subst, ◌∙◌, refl, arith, length-append}
use Rattle.std.proofs.lemmas.List.{append-nil}
use Rattle.htss_defs.specs.declared.shape.Shape.{Shape}
use Rattle.htss_defs.specs.declared.history.Event.TheVariants.{Publish}
use Rattle.htss_defs.specs.declared.record.NamedMol.{NamedMol}
use Rattle.htss_defs.specs.Molecule.{Molecule}
use Rattle.report_text.specs.declared.report.LoadLine.{LoadLine}
use Rattle.report_text.specs.declared.report.LoadLine.TheVariants as line
use Rattle.report_rules.specs.Answers.{to_record, taken, published, no_room, no_page, chain_full, log_full}
use Rattle.report_rules.specs.Rules.{block_words}
use Rattle.board_core.specs.declared.account.Account.{Account}
use Rattle.board_core.specs.declared.entry.Entry.{Entry}
use Rattle.board_core.specs.declared.entry.Entry.TheVariants.{Published, DataFull, NoPage, ChainFull, LogFull}
use Rattle.board_core.specs.declared.entry.Noted.{Noted}
use Rattle.board_core.specs.declared.log.Holding.TheVariants.{Away}
use Rattle.board_core.specs.declared.log.LogAccount.{LogAccount}
use Rattle.board_core.specs.declared.room.RoomAccount.{RoomAccount}
use Rattle.board_core.specs.Blocks.{first_of}
use Rattle.board_core.specs.Loaded.{Grows}
use Rattle.board_core.specs.After.{noted, after_answer, after_front, after_take, after_free}
use Rattle.board_core.proofs.Lists.{at_longer}
use Rattle.board_core.proofs.Grown.{entries_added, grows_trans, grows_quiet, grows_front}
use Rattle.board_core.proofs.Shown.{length_first}
use Rattle.block_words.specs.Writing.{size_of, written}
use Rattle.board.specs.Seated.{Place, Seated, IsOf, number_in, with_account}
use Rattle.board.specs.Seated.{number_of as seated_number}
use Rattle.board.specs.Staging.{Staging, IsStaged}
use Rattle.board.proofs.StagedStays.{room_same}
use Rattle.class_tree.specs.declared.insert.InsertError.TheVariants as insert
use Rattle.class_tree.specs.Inserting.{IsStocked}
use Rattle.loader.specs.declared.stages.StageError.{StageError}
use Rattle.loader.specs.declared.stages.StageError.TheVariants as stage
use Rattle.loader.specs.Stages.{left_in, rows_of, after_block, staging, HasRows, HasStaged, IsFull, IsRefused, HasRoomBut}
use Rattle.pub_log.specs.Locking.{after_publication}
use Rattle.board_core.specs.Answers.{answers_in}
use Rattle.board_jobs.specs.Answering.{HasRoomFor}
use Rattle.board_jobs.specs.Calls.{Answers, GoesOn, IsAtWork, IsTaken, refused_line}
use Rattle.board_jobs.proofs.Chained.{number_same, all_one, all_none, told_one, work_after, goes_on-one}

-- the words of a block are as many as the report says
block_size : (one : NamedMol) → size_of one.name one.mol ≡ block_words one
block_size one = omega arith

abbrev named : Staging → NamedMol
named s = record { name = s.name; mol = s.mol }

length_rows : (block count : ℕ) → length (rows_of block count) ≡ count
length_rows block count = length_first (λ i. record { block = block; atom = i + 1 }) count

-- ---- the account once the block is written, and rows of it were inserted

pub record IsPrepared (a d : Account) (s : Staging) (es : List Entry) : Type 0 where
  pub who : d.who ≡ a.who
  pub log : d.log ≡ a.log
  pub unpinned : d.pool.announced ≡ 0
  pub noted_are : answers_in d.entries ≡ answers_in a.entries ++ noted d.loads es
  pub used : length d.room.used ≡ length a.room.used + block_words (named s)
  pub begun : length d.tree.begun ≤ length a.tree.begun + length s.mol.atoms
  pub grows : Grows a d

prepared : (a d : Account) (s : Staging) (block begun placed : ℕ) (es : List Entry) → begun ≤ length s.mol.atoms → HasRows (after_block a s) d block begun placed es → answers_in d.entries ≡ answers_in a.entries ++ noted d.loads es → IsPrepared a d s es
prepared a d s block begun placed es within rows told =
    let more : length d.tree.begun ≡ length a.tree.begun + begun = ap length rows.rows_begun ∙ length-append a.tree.begun (rows_of block begun) ∙ ap (λ n. length a.tree.begun + n) (length_rows block begun) in
    let words = first_of (written s.name s.mol) (size_of s.name s.mol) in record {
      who = rows.who;
      log = rows.log;
      unpinned = rows.unpinned;
      noted_are = told;
      used = ap (λ (r : RoomAccount). length r.used) rows.room ∙ (length-append a.room.used words ∙ ap (λ n. length a.room.used + n) (length_first (written s.name s.mol) (size_of s.name s.mol) ∙ block_size (named s)));
      begun = omega (arith, more, within);
      grows = grows_trans a (after_block a s) d (grows_quiet a (after_block a s) (omega arith) refl (λ j x there. there)) rows.grows;
    }

staged_is : (a d : Account) (s : Staging) → HasStaged a d s → IsPrepared a d s []
staged_is a d s rows = prepared a d s s.block (length s.mol.atoms) (length s.mol.atoms) [] (omega arith) rows (ap answers_in (rows.entries ∙ append-nil a.entries) ∙ sym (append-nil (answers_in a.entries)))

-- the caller may go on
prepared_work : (b : Place) (c d : Seated) (s : Staging) (es : List Entry) → IsAtWork b c → IsOf b d → IsStocked d → IsPrepared c.account d.account s es → IsAtWork b d
prepared_work b c d s es work of stocked is = record {
  of = of;
  ready = record { free = ap (λ (l : LogAccount). l.holding) is.log ∙ work.ready.free; unpinned = is.unpinned; stocked = stocked };
}

has_room : (k : Shape) (a : Account) (s : Staging) → length a.room.used + size_of s.name s.mol ≤ k.room → HasRoomFor k (length a.room.used) (named s)
has_room k a s room = let same = block_size (named s) in omega (arith, same, room)

-- ---- under the lock

abbrev locked : Account → ℕ → Account
locked d front = after_front (after_take d) front

pub freed_is : (d e f : Seated) (front : ℕ) (es : List Entry) → e ≡ with_account d (locked d.account front) → f ≡ with_account e (after_free e.account es) → f ≡ with_account d (after_free (locked d.account front) es)
freed_is d e f front es at freed = freed ∙ ap (λ (x : Seated). with_account x (after_free x.account es)) at

pub publication_is : (d e f : Seated) (s : Staging) (front : ℕ) → e ≡ with_account d (locked d.account front) → f ≡ with_account e (after_publication e.account (seated_number e) s)
    → f ≡ with_account d (after_publication (locked d.account front) (number_in d.account.who) s)
publication_is d e f s front at shown = shown ∙ ap (λ (x : Seated). with_account x (after_publication x.account (seated_number x) s)) at

pub still_staged : (k : Shape) (d e : Seated) (s : Staging) (front : ℕ) → e ≡ with_account d (locked d.account front) → IsStaged k d.account s → IsStaged k e.account s
still_staged k d e s front at is = subst (λ (x : Seated). IsStaged k x.account s) (sym at) (room_same k d.account (locked d.account front) refl refl refl s is)

seen_before : (a d : Account) (s : Staging) (front : ℕ) → IsPrepared a d s [] → d.log.seen ≤ front → a.log.seen ≤ front
seen_before a d s front is later = let same : d.log.seen ≡ a.log.seen = ap (λ (l : LogAccount). l.seen) is.log in omega arith

grows_locked : (a d : Account) (s : Staging) (front : ℕ) → IsPrepared a d s [] → d.log.seen ≤ front → Grows a (locked d front)
grows_locked a d s front is later = grows_trans a d (locked d front) is.grows (grows_trans d (after_take d) (locked d front) (grows_quiet d (after_take d) (omega arith) refl (λ j x there. there)) (grows_front (after_take d) front later))

-- the log is full
full-answers : (k : Shape) (a d : Account) (s : Staging) (front : ℕ) → IsPrepared a d s [] → d.log.seen ≤ front → front ≡ k.log → length a.room.used + size_of s.name s.mol ≤ k.room
    → Answers k a (after_free (locked d front) (LogFull front ∷ [])) (to_record (taken (named s) (log_full front)))
full-answers k a d s front is later full room c who =
    let b = after_free (locked d front) (LogFull front ∷ []) in
    let before = seen_before a d s front is later in record {
      who = is.who;
      noted_are = told_one d b (LogFull front) refl refl ∙ ap (λ (l : List Noted). l ++ noted b.loads (LogFull front ∷ [])) (is.noted_are ∙ append-nil (answers_in a.entries));
      seen = before;
      marks = all_one (λ mark. mark ≤ front) front (omega arith);
      fresh = all_none _;
      fronts = all_one (λ mark. a.log.seen ≤ mark) front before;
      used = is.used;
      says = (full, has_room k a s room);
      rows = tt;
      read = tt;
      begun = is.begun;
      grows = grows_trans a (locked d front) b (grows_locked a d s front is later) (grows_quiet (locked d front) b (omega arith) refl (entries_added (locked d front) b (noted (locked d front).loads (LogFull front ∷ [])) refl));
    }

-- it is published
published-answers : (k : Shape) (a d : Account) (s : Staging) (front : ℕ) → IsPrepared a d s [] → d.log.seen ≤ front → length a.room.used + size_of s.name s.mol ≤ k.room
    → Answers k a (after_publication (locked d front) (number_in d.who) s) (to_record (taken (named s) (published (front + 1))))
published-answers k a d s front is later room c who =
    let b = after_publication (locked d front) (number_in d.who) s in
    let told : Entry = Published (front + 1) (Publish (number_in d.who) s.name s.mol) in
    let before = seen_before a d s front is later in record {
      who = is.who;
      noted_are = told_one d b told refl (append-nil (d.entries ++ noted b.loads (told ∷ [])))
          ∙ ((λ i. (is.noted_are ∙ append-nil (answers_in a.entries)) i ++ noted b.loads (Published (front + 1) (Publish (number_in (is.who i)) s.name s.mol) ∷ []))
          ∙ ap (λ n. answers_in a.entries ++ noted b.loads (Published (front + 1) (Publish n s.name s.mol) ∷ [])) (number_same c a.who who));
      seen = omega (arith, before);
      marks = all_one (λ mark. mark ≤ front + 1) (front + 1) (omega arith);
      fresh = all_one (λ number. a.log.seen < number) (front + 1) (omega (arith, before));
      fronts = all_none _;
      used = is.used;
      says = has_room k a s room;
      rows = tt;
      read = tt;
      begun = is.begun;
      grows = grows_trans a (locked d front) b (grows_locked a d s front is later) (grows_quiet (locked d front) b (omega arith) refl (λ j x there. at_longer (d.entries ++ noted b.loads (told ∷ [])) [] j x (at_longer d.entries (noted b.loads (told ∷ [])) j x there)));
    }

-- ---- the lines

-- what stands before the lock, of a record that was staged
pub record WasStaged (b : Place) (c d : Seated) (name : List ℕ) (mol : Molecule) (s : Staging) : Type 0 where
  pub work : IsAtWork b c
  pub of : IsOf b d
  pub stocked : IsStocked d
  pub staged : s ≡ staging b.shape c.account name mol
  pub added : HasStaged c.account d.account s
  pub room : length c.account.room.used + size_of name mol ≤ b.shape.room

had_room : (b : Place) (c d : Seated) (name : List ℕ) (mol : Molecule) (s : Staging) → WasStaged b c d name mol s → length c.account.room.used + size_of s.name s.mol ≤ b.shape.room
had_room b c d name mol s was = subst (λ (z : Staging). length c.account.room.used + size_of z.name z.mol ≤ b.shape.room) (sym was.staged) was.room

staged_work : (b : Place) (c d : Seated) (name : List ℕ) (mol : Molecule) (s : Staging) → WasStaged b c d name mol s → IsAtWork b d
staged_work b c d name mol s was = prepared_work b c d s [] was.work was.of was.stocked (staged_is c.account d.account s was.added)

pub taken-full : (b : Place) (c d f : Seated) (place : ℕ) (name : List ℕ) (mol : Molecule) (s : Staging) (front told : ℕ) → WasStaged b c d name mol s → told ≡ front → front ≡ b.shape.log → d.account.log.seen ≤ front
    → f ≡ with_account d (after_free (locked d.account front) (LogFull front ∷ [])) → IsTaken b.shape c.account f.account place (record { name = name; mol = mol }) (line.LogFull place told)
taken-full b c d f place name mol s front told was at full later is =
    let k = b.shape in
    let a = c.account in
    let after = after_free (locked d.account front) (LogFull front ∷ []) in
    let one : NamedMol = record { name = name; mol = mol } in record {
      fate = log_full told;
      line_is = refl;
      answers =
          subst (λ (x : Seated). Answers k a x.account (to_record (taken one (log_full told)))) (sym is)
          (subst (λ (t : ℕ). Answers k a after (to_record (taken one (log_full t)))) (sym at)
          (subst (λ (z : Staging). Answers k a after (to_record (taken (named z) (log_full front)))) was.staged
          (full-answers k a d.account s front (staged_is a d.account s was.added) later full (had_room b c d name mol s was))));
    }

pub taken-published : (b : Place) (c d f : Seated) (place : ℕ) (name : List ℕ) (mol : Molecule) (s : Staging) (front number : ℕ) → WasStaged b c d name mol s → number ≡ front + 1 → d.account.log.seen ≤ front
    → f ≡ with_account d (after_publication (locked d.account front) (number_in d.account.who) s) → IsTaken b.shape c.account f.account place (record { name = name; mol = mol }) (line.Published number name)
taken-published b c d f place name mol s front number was next later is =
    let k = b.shape in
    let a = c.account in
    let after = after_publication (locked d.account front) (number_in d.account.who) s in
    let one : NamedMol = record { name = name; mol = mol } in record {
      fate = published number;
      line_is = refl;
      answers =
          subst (λ (x : Seated). Answers k a x.account (to_record (taken one (published number)))) (sym is)
          (subst (λ (t : ℕ). Answers k a after (to_record (taken one (published t)))) (sym next)
          (subst (λ (z : Staging). Answers k a after (to_record (taken (named z) (published (front + 1))))) was.staged
          (published-answers k a d.account s front (staged_is a d.account s was.added) later (had_room b c d name mol s was))));
    }

pub line_taken : (k : Shape) (a b : Account) (place : ℕ) (one : NamedMol) (told is : LoadLine) → told ≡ is → IsTaken k a b place one is → IsTaken k a b place one told
line_taken k a b place one told is same took = subst (λ l. IsTaken k a b place one l) (sym same) took

-- ---- the caller goes on

pub on-full : (b : Place) (c d f : Seated) (place : ℕ) (name : List ℕ) (mol : Molecule) (s : Staging) (front told : ℕ) → WasStaged b c d name mol s → told ≡ front → front ≡ b.shape.log → d.account.log.seen ≤ front
    → f ≡ with_account d (after_free (locked d.account front) (LogFull front ∷ [])) → GoesOn b c f
on-full b c d f place name mol s front told was at full later is =
    let took = taken-full b c d f place name mol s front told was at full later is in
    let work = staged_work b c d name mol s was in
    goes_on-one b c f (to_record (taken (record { name = name; mol = mol }) took.fate))
    (work_after b d f (after_free (locked d.account front) (LogFull front ∷ [])) is work (record { holding = refl; pool = refl; who = refl }))
    (ap (λ (x : Seated). x.account.who) is ∙ was.added.who) took.answers

pub on-published : (b : Place) (c d f : Seated) (place : ℕ) (name : List ℕ) (mol : Molecule) (s : Staging) (front number : ℕ) → WasStaged b c d name mol s → number ≡ front + 1 → d.account.log.seen ≤ front
    → f ≡ with_account d (after_publication (locked d.account front) (number_in d.account.who) s) → GoesOn b c f
on-published b c d f place name mol s front number was next later is =
    let took = taken-published b c d f place name mol s front number was next later is in
    let work = staged_work b c d name mol s was in
    goes_on-one b c f (to_record (taken (record { name = name; mol = mol }) took.fate))
    (work_after b d f (after_publication (locked d.account front) (number_in d.account.who) s) is work (record { holding = refl; pool = refl; who = refl }))
    (ap (λ (x : Seated). x.account.who) is ∙ was.added.who) took.answers

-- ---- the record is not staged

room-answers : (k : Shape) (a : Account) (s : Staging) (left need : ℕ) → IsFull k a s left need → Answers k a (after_answer a (DataFull left need ∷ [])) (to_record (taken (named s) (no_room left need)))
room-answers k a s left need full c who =
    let b = after_answer a (DataFull left need ∷ []) in
    let left_is = full.left_is in
    let room = full.within in
    let less = full.less in record {
      who = refl;
      noted_are = told_one a b (DataFull left need) refl refl;
      seen = omega arith;
      marks = all_none _;
      fresh = all_none _;
      fronts = all_none _;
      used = omega arith;
      says = (full.need_is ∙ block_size (named s), less, omega (arith, left_is, room));
      rows = tt;
      read = tt;
      begun = omega arith;
      grows = grows_quiet a b (omega arith) refl (entries_added a b (noted a.loads (DataFull left need ∷ [])) refl);
    }

page-answers : (k : Shape) (a d : Account) (s : Staging) → length a.room.used + size_of s.name s.mol ≤ k.room → IsPrepared a d s (NoPage ∷ []) → Answers k a d (to_record (taken (named s) no_page))
page-answers k a d s room is c who = let seen : d.log.seen ≡ a.log.seen = ap (λ (l : LogAccount). l.seen) is.log in record {
  who = is.who;
  noted_are = is.noted_are;
  seen = omega arith;
  marks = all_none _;
  fresh = all_none _;
  fronts = all_none _;
  used = is.used;
  says = has_room k a s room;
  rows = tt;
  read = tt;
  begun = is.begun;
  grows = is.grows;
}

chain-answers : (k : Shape) (a d : Account) (s : Staging) (pages : ℕ) → pages ≡ k.chain → length a.room.used + size_of s.name s.mol ≤ k.room → IsPrepared a d s (ChainFull pages ∷ []) → Answers k a d (to_record (taken (named s) (chain_full pages)))
chain-answers k a d s pages all room is c who = let seen : d.log.seen ≡ a.log.seen = ap (λ (l : LogAccount). l.seen) is.log in record {
  who = is.who;
  noted_are = is.noted_are;
  seen = omega arith;
  marks = all_none _;
  fresh = all_none _;
  fronts = all_none _;
  used = is.used;
  says = (all, has_room k a s room);
  rows = tt;
  read = tt;
  begun = is.begun;
  grows = is.grows;
}

pub taken-refused : (b : Place) (c d : Seated) (place : ℕ) (name : List ℕ) (mol : Molecule) (e : StageError) → IsAtWork b c → IsRefused b.shape c d (staging b.shape c.account name mol) e → HasRoomBut b.shape c.account (staging b.shape c.account name mol) e
    → IsTaken b.shape c.account d.account place (record { name = name; mol = mol }) (refused_line place e)
taken-refused b c d place name mol (stage.DataFull left need) work (full, is) room =
    let s = staging b.shape c.account name mol in record {
      fate = no_room left need;
      line_is = refl;
      answers = subst (λ (x : Seated). Answers b.shape c.account x.account (to_record (taken (named s) (no_room left need)))) (sym is) (room-answers b.shape c.account s left need full);
    }
taken-refused b c d place name mol stage.NoPage work stopped room =
    let s = staging b.shape c.account name mol in record {
      fate = no_page;
      line_is = refl;
      answers = page-answers b.shape c.account d.account s room (prepared c.account d.account s s.block (stopped.count + 1) stopped.count (NoPage ∷ []) (let below = stopped.within in omega (arith, below)) stopped.left (told_one c.account d.account NoPage refl stopped.left.entries));
    }
taken-refused b c d place name mol (stage.ChainFull pages) work stopped room =
    let s = staging b.shape c.account name mol in record {
      fate = chain_full pages;
      line_is = refl;
      answers = chain-answers b.shape c.account d.account s pages stopped.refused.all room (prepared c.account d.account s s.block (stopped.count + 1) stopped.count (ChainFull pages ∷ []) (let below = stopped.within in omega (arith, below)) stopped.left (told_one c.account d.account (ChainFull pages) refl stopped.left.entries));
    }

refused_work : (b : Place) (c d : Seated) (name : List ℕ) (mol : Molecule) (e : StageError) → IsAtWork b c → IsOf b d → IsStocked d → IsRefused b.shape c d (staging b.shape c.account name mol) e → HasRoomBut b.shape c.account (staging b.shape c.account name mol) e
    → IsAtWork b d × (d.account.who ≡ c.account.who)
refused_work b c d name mol (stage.DataFull left need) work of stocked (full, is) room =
    (work_after b c d (after_answer c.account (DataFull left need ∷ [])) is work (record { holding = work.ready.free; pool = refl; who = refl }), ap (λ (x : Seated). x.account.who) is)
refused_work b c d name mol stage.NoPage work of stocked stopped room =
    let s = staging b.shape c.account name mol in
    let is = prepared c.account d.account s s.block (stopped.count + 1) stopped.count (NoPage ∷ []) (let below = stopped.within in omega (arith, below)) stopped.left (told_one c.account d.account NoPage refl stopped.left.entries) in
    (prepared_work b c d s (NoPage ∷ []) work of stocked is, is.who)
refused_work b c d name mol (stage.ChainFull pages) work of stocked stopped room =
    let s = staging b.shape c.account name mol in
    let is = prepared c.account d.account s s.block (stopped.count + 1) stopped.count (ChainFull pages ∷ []) (let below = stopped.within in omega (arith, below)) stopped.left (told_one c.account d.account (ChainFull pages) refl stopped.left.entries) in
    (prepared_work b c d s (ChainFull pages ∷ []) work of stocked is, is.who)

pub on-refused : (b : Place) (c d : Seated) (place : ℕ) (name : List ℕ) (mol : Molecule) (e : StageError) → IsAtWork b c → IsOf b d → IsStocked d → IsRefused b.shape c d (staging b.shape c.account name mol) e → HasRoomBut b.shape c.account (staging b.shape c.account name mol) e
    → GoesOn b c d
on-refused b c d place name mol e work of stocked refused room =
    let took = taken-refused b c d place name mol e work refused room in
    let next = refused_work b c d name mol e work of stocked refused room in
    goes_on-one b c d (to_record (taken (record { name = name; mol = mol }) took.fate)) next.0 next.1 took.answers
