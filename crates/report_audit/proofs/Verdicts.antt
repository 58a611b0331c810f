-- What an audit finds, by its parts.
use Rattle.std.proofs.Common.{◌≡◌, ◌⊎◌, inl, inr, ℕ, ◌+◌, ◌<◌, ◌≤◌, List, length, map, refl, ap, sym, subst, ◌∙◌}
use Rattle.std.specs.List.{AllZip}
use Rattle.std.specs.Prelude.{Option, Some, None, Bool, true, false, is_some, IfNone, IfSome}
use Rattle.std.proofs.lemmas.Bool.{false≢true}
use Rattle.htss_defs.specs.declared.history.Event.{Event}
use Rattle.htss_defs.specs.Molecule.{Molecule}
use Rattle.htss_defs.specs.declared.shape.Field.{Field}
use Rattle.htss_defs.specs.declared.shape.Shape.{Shape}
use Rattle.htss_defs.specs.Shapes.{IsFirstOutside, IsShape}
use Rattle.reg_model.specs.Registries.{AreWithdrawals}
use Rattle.script_text.specs.declared.script.Group.{Group}
use Rattle.report_text.specs.declared.report.Block.{Block}
use Rattle.report_text.specs.declared.report.Report.{Report}
use Rattle.report_rules.specs.Dealing.{Dealt, dealt}
use Rattle.report_rules.specs.Faults.{AreNamed, IsEventFault, IsFirstFault, IsLogUpTo, IsRuleFault, IsTold, IsUnnamed, Setting, line_after, line_of_event, line_of_log, setting_of, told_from}
use Rattle.told_history.specs.declared.jobs.LaidJob.{LaidJob}
use Rattle.told_history.specs.declared.names.Namer.{Namer}
use Rattle.told_history.specs.declared.reads.JobRead.{JobRead}
use Rattle.told_history.specs.declared.told.Told.{Told}
use Rattle.report_audit.specs.declared.turns.Turns.{Turns}
use Rattle.report_audit.specs.Audits.{IsCase}
use Rattle.report_audit.specs.BlockChecks.{AreTurnsOf, IsAllKept}
use Rattle.told_history.specs.LaidJobs.{dealt_by}
use Rattle.told_history.specs.Logs.{IsSoundLog}
use Rattle.told_history.specs.Named.{IsTable}
use Rattle.told_history.specs.Reads.{IsReadOf}
use Rattle.told_history.proofs.LogChecks.{length_told}

abbrev pub history_of : (script : List Group) (files : List (ℕ × List ℕ)) (report : Report) (jobs : List LaidJob) (reads : List JobRead) (table : List Namer) → IsCase script files report jobs reads table → List Event
history_of script files report jobs reads table case = told_from case.named 1 report.events

pub is_told : (script : List Group) (files : List (ℕ × List ℕ)) (report : Report) (jobs : List LaidJob) (reads : List JobRead) (table : List Namer) (case : IsCase script files report jobs reads table)
    → IsTold script files report (history_of script files report jobs reads table case)
is_told script files report jobs reads table case = record { named = case.named; are_named = case.are_named; history_is = refl }

pub shape_fault : (script : List Group) (files : List (ℕ × List ℕ)) (report : Report) (jobs : List LaidJob) (reads : List JobRead) (table : List Namer) → IsCase script files report jobs reads table
    → (IsShape report.shape → ⊥) → IsFirstFault script files report 1
shape_fault script files report jobs reads table case not = record {
  history = history_of script files report jobs reads table case;
  told = is_told script files report jobs reads table case;
  here = inl (refl, not);
}

pub length_fault : (script : List Group) (files : List (ℕ × List ℕ)) (report : Report) (jobs : List LaidJob) (reads : List JobRead) (table : List Namer) (line : ℕ) → IsCase script files report jobs reads table
    → IsShape report.shape → report.shape.log < length report.events → line ≡ line_of_log report → IsFirstFault script files report line
length_fault script files report jobs reads table line case shape long is = record {
  history = history_of script files report jobs reads table case;
  told = is_told script files report jobs reads table case;
  here = inr (inl (is, shape, long));
}

pub event_fault : (script : List Group) (files : List (ℕ × List ℕ)) (report : Report) (jobs : List LaidJob) (reads : List JobRead) (table : List Namer) (line number : ℕ) (case : IsCase script files report jobs reads table)
    → IsShape report.shape → length report.events ≤ report.shape.log → IsEventFault report.shape (history_of script files report jobs reads table case) number → line ≡ line_of_event report number
    → IsFirstFault script files report line
event_fault script files report jobs reads table line number case shape short fault is = record {
  history = history_of script files report jobs reads table case;
  told = is_told script files report jobs reads table case;
  here = inr (inr (inl (record { shape = shape; short = short; number = number; line_is = is; fault = fault })));
}

pub whole_log : (script : List Group) (files : List (ℕ × List ℕ)) (report : Report) (jobs : List LaidJob) (reads : List JobRead) (table : List Namer) (withdrawals : List ℕ) (case : IsCase script files report jobs reads table)
    → IsSoundLog report.shape report.events withdrawals case.named → IsLogUpTo report.shape (history_of script files report jobs reads table case) (length (history_of script files report jobs reads table case))
whole_log script files report jobs reads table withdrawals case sound =
    subst (λ (n : ℕ). IsLogUpTo report.shape (told_from case.named 1 report.events) n) (sym (length_told case.named 1 report.events)) sound.legal

pub later_fault : (script : List Group) (files : List (ℕ × List ℕ)) (report : Report) (jobs : List LaidJob) (reads : List JobRead) (table : List Namer) (line : ℕ) (withdrawals : List ℕ) (case : IsCase script files report jobs reads table)
    → IsShape report.shape → length report.events ≤ report.shape.log → IsSoundLog report.shape report.events withdrawals case.named
    → IsRuleFault (setting_of files report (history_of script files report jobs reads table case)) (dealt report.shape 1 script) report.blocks line
    ⊎ ((number : ℕ) × (line ≡ line_of_event report number) × IsUnnamed (setting_of files report (history_of script files report jobs reads table case)) (dealt report.shape 1 script) report.blocks number)
    → IsFirstFault script files report line
later_fault script files report jobs reads table line withdrawals case shape short sound here = record {
  history = history_of script files report jobs reads table case;
  told = is_told script files report jobs reads table case;
  here = inr (inr (inr (record { shape = shape; short = short; legal = whole_log script files report jobs reads table withdrawals case sound; here = here })));
}

pub turns_of : (script : List Group) (files : List (ℕ × List ℕ)) (report : Report) (jobs : List LaidJob) (reads : List JobRead) (table : List Namer) (withdrawals : List ℕ) (case : IsCase script files report jobs reads table)
    → (told : Told) (turns : Turns) → IsSoundLog report.shape report.events withdrawals case.named → told.lines.now ≡ report.events → told.withdrawals.now ≡ withdrawals → told.table.now ≡ table
    → turns.shape ≡ report.shape → turns.budget ≡ report.budget → turns.jobs.now ≡ jobs → turns.reads.now ≡ reads
    → AreTurnsOf told turns script (setting_of files report (history_of script files report jobs reads table case))
turns_of script files report jobs reads table withdrawals case told turns sound lines_is withdrawals_is table_is shape_is budget_is jobs_is reads_is = record {
  shape_is = sym shape_is;
  budget_is = sym budget_is;
  events_are = sym lines_is;
  tells = record {
    named = case.named;
    history_is = ap (told_from case.named 1) (sym lines_is);
    withdrawals = subst (AreWithdrawals (told_from case.named 1 report.events)) (sym withdrawals_is) sound.are;
    table = subst (IsTable case.named) (sym table_is) case.table_is;
  };
  jobs_are = ap (map (dealt_by report.shape)) jobs_is ∙ case.jobs_are report.shape;
  reads_are = subst (λ (js : List LaidJob). AllZip (IsReadOf files) js turns.reads.now) (sym jobs_is) (subst (λ (rs : List JobRead). AllZip (IsReadOf files) jobs rs) (sym reads_is) case.reads_are);
}

pub outside_from : (shape : Shape) (o : Option Field) → is_some o ≡ true → IfSome o (λ field. IsFirstOutside shape field) → IsShape shape → ⊥
outside_from shape (Some field) some is within = is.here (within field)
outside_from shape None some is within = false≢true some

pub within_from : (shape : Shape) (o : Option Field) → is_some o ≡ false → IfNone o (IsShape shape) → IsShape shape
within_from shape (Some field) none is = absurd (false≢true (sym none))
within_from shape None none is = is

-- the parts of a case, each as it was handed on
pub case_of : (script groups : List Group) (files : List (ℕ × List ℕ)) (report : Report) (blocks : List Block) (j0 j1 j2 j4 : List LaidJob) (r0 r3 r5 : List JobRead) (t0 t6 : List Namer)
    → groups ≡ script → blocks ≡ report.blocks → j1 ≡ j0 → j2 ≡ j0 → j4 ≡ j0 → r3 ≡ r0 → r5 ≡ r0 → t6 ≡ t0
    → ((shape : Shape) → map (dealt_by shape) j0 ≡ dealt shape 1 groups) → AllZip (IsReadOf files) j1 r0
    → (AllZip (IsReadOf files) j2 r3 → (named : List (ℕ × Molecule)) × AreNamed files (map (dealt_by report.shape) j2) blocks named × IsTable named t0)
    → IsCase script files report j4 r5 t6
case_of script groups files report blocks j0 j1 j2 j4 r0 r3 r5 t0 t6 g b e1 e2 e4 e3 e5 e6 laid read named =
    let all : AllZip (IsReadOf files) j0 r0 = subst (λ (js : List LaidJob). AllZip (IsReadOf files) js r0) e1 read in
    let handed : AllZip (IsReadOf files) j2 r3 = subst (λ (rs : List JobRead). AllZip (IsReadOf files) j2 rs) (sym e3) (subst (λ (js : List LaidJob). AllZip (IsReadOf files) js r0) (sym e2) all) in
    let (names, are, table) = named handed in
    record {
      jobs_are = λ shape. ap (map (dealt_by shape)) e4 ∙ laid shape ∙ ap (dealt shape 1) g;
      reads_are = subst (λ (rs : List JobRead). AllZip (IsReadOf files) j4 rs) (sym e5) (subst (λ (js : List LaidJob). AllZip (IsReadOf files) js r0) (sym e4) all);
      named = names;
      are_named = subst (λ (bs : List Block). AreNamed files (dealt report.shape 1 script) bs names) b
          (subst (λ (ds : List Dealt). AreNamed files ds blocks names) (ap (map (dealt_by report.shape)) e2 ∙ laid report.shape ∙ ap (dealt report.shape 1) g) are);
      table_is = subst (IsTable names) (sym e6) table;
    }

-- what the check of the blocks answers
abbrev pub IsFoundIn : Told → Turns → ℕ → Type 0
IsFoundIn told turns line = (script : List Group) (s : Setting) → AreTurnsOf told turns script s → IsRuleFault s (dealt s.shape 1 script) turns.blocks.now line
    ⊎ ((number : ℕ) × (line ≡ line_after turns.blocks.now + number) × IsUnnamed s (dealt s.shape 1 script) turns.blocks.now number)

abbrev pub AreAllKeptIn : Told → Turns → Type 0
AreAllKeptIn told turns = (script : List Group) (s : Setting) → AreTurnsOf told turns script s → IsAllKept s (dealt s.shape 1 script) turns.blocks.now
