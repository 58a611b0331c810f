use Rattle.std.proofs.Common.{◌≡◌, ℕ, ◌+◌, List, [], ◌∷◌, ◌++◌, drop, length, map, take, get_or, refl, sym, ap, subst, ◌∙◌, arith}
use Rattle.std.specs.List.{AllZip}
use Rattle.std.specs.Prelude.{Option, slice_get}
use Rattle.std.proofs.Math.Seq.{take-append_seam}
use Rattle.std.proofs.lemmas.List.{length-map, length-take-le, map-append, take_all, take_more}
use Rattle.htss_defs.specs.Molecule.{Molecule}
use Rattle.report_text.specs.declared.report.Block.{Block}
use Rattle.report_rules.specs.Dealing.{Dealt}
use Rattle.report_rules.specs.Faults.{AreNamed}
use Rattle.told_history.specs.declared.jobs.LaidJob.{LaidJob}
use Rattle.told_history.specs.declared.names.Namer.{Namer}
use Rattle.told_history.specs.LaidJobs.{dealt_by}
use Rattle.told_history.specs.Named.{IsNamedAt, IsTable}
use Rattle.told_history.specs.Reads.{IsReadOf}
use Rattle.told_history.proofs.Namings.{named_push}
use Rattle.told_history.proofs.Zips.{zip_each, zip_long}
use Rattle.told_history.proofs.names.name_events.Goals as goal

pub loop-index-preserved : goal.loop-index-preserved
loop-index-preserved c =
    let jobs = c.args.jobs.now in
    let i = c.loop-index.index in
    let laid = c.index-jobs-index.result in
    let new = c.name_job.new.table in
    let same = c.deref_mut.ensures.value in
    let old_long = ap length same in
    let full : c.loop-index.table.len ≡ length new = omega (arith, c.loop-index.table.ok.0, c.name_job.auto.table, old_long) in
    let back : take c.loop-index.table.len (new ++ drop (length new) c.loop-index.table.items) ≡ new =
    ap (λ (n : ℕ). take n (new ++ drop (length new) c.loop-index.table.items)) full ∙ take-append_seam new (drop (length new) c.loop-index.table.items) in
    let more : take (i + 1) jobs ≡ take i jobs ++ laid ∷ [] = take_more jobs i laid c.loop-index-test.true ∙ ap (λ (l : LaidJob). take i jobs ++ l ∷ []) (sym c.index-jobs-index.is) in
    let long : length (take i jobs) ≡ i = length-take-le i jobs (omega (arith, c.loop-index-test.true)) in
    record {
      named = λ files shape all.
          let (named, are, table) = c.loop-index.invariant.named files shape all in
          let one = dealt_by shape laid in
          let (here, at, next) = c.name_job.ensures files one refl
          (λ d. subst (λ (l : LaidJob). IsReadOf files l (get_or c.args.reads.now i d)) (sym c.index-jobs-index.is) (zip_each (IsReadOf files) jobs c.args.reads.now i laid d all c.loop-index-test.true))
          (omega (arith, c.loop-index-test.true, zip_long (IsReadOf files) jobs c.args.reads.now all)) named (subst (IsTable named) (sym same) table) in
          let dealt = map (dealt_by shape) (take i jobs) in
          let count : length dealt ≡ i = length-map (take i jobs) (dealt_by shape) ∙ long in
          let whole : dealt ++ one ∷ [] ≡ map (dealt_by shape) (take (i + 1) jobs) = sym (ap (map (dealt_by shape)) more ∙ map-append (dealt_by shape) (take i jobs) (laid ∷ [])) in (
            named ++ here,
            subst (λ (ds : List Dealt). AreNamed files ds c.args.blocks.now (named ++ here)) whole
                (named_push files dealt one c.args.blocks.now named here are (subst (λ (n : ℕ). IsNamedAt files one (slice_get c.args.blocks.now n) here) (sym count) at)),
            subst (IsTable (named ++ here)) (sym back) next,
          );
      long = ap length back ∙ omega (arith, c.name_job.auto.table, old_long, c.loop-index.invariant.long);
    }

pub returns-clause-named : goal.returns-clause-named
returns-clause-named c = λ files shape all.
    let (named, are, table) = c.loop-index.invariant.named files shape all in
    (named, subst (λ (js : List LaidJob). AreNamed files (map (dealt_by shape) js) c.args.blocks.now named) (take_all c.loop-index.index c.args.jobs.now (omega (arith, c.loop-index-test.false))) are, table)
