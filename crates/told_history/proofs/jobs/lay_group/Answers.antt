use Rattle.std.proofs.Common.{◌≡◌, ℕ, ◌+◌, List, [], ◌∷◌, ◌++◌, append_assoc, map, take, sym, ap, ◌∙◌, arith}
use Rattle.std.proofs.lemmas.List.{map-append, take_more}
use Rattle.script_text.specs.declared.script.Job.{Job}
use Rattle.report_rules.specs.Dealing.{Dealt, dealt_from}
use Rattle.told_history.specs.LaidJobs.{dealt_by, loads_of, searches_of}
use Rattle.told_history.proofs.Laying.{dealt_push, loads_push, one_dealt, one_each, searches_push}
use Rattle.told_history.proofs.jobs.lay_group.Goals as goal

pub loop-job-preserved : goal.loop-job-preserved
loop-job-preserved c =
    let jobs = c.args.jobs.now in
    let i = c.loop-job.job-index in
    let job = c.job-item.result in
    let so_far = c.loop-job.invariant in
    let more : take (i + 1) jobs ≡ take i jobs ++ job ∷ [] = take_more jobs i job c.loop-job-test.true ∙ ap (λ (j : Job). take i jobs ++ j ∷ []) (sym c.job-item.is) in
    record {
      loads = omega (arith, so_far.loads, c.loads_in-loads.ensures, loads_push (take i jobs) job, ap loads_of more);
      searches = omega (arith, so_far.searches, c.searches_in-searches.ensures, searches_push (take i jobs) job, ap searches_of more);
      few = omega (arith, so_far.few, c.loads_in-loads.ensures, c.searches_in-searches.ensures, one_each job.order);
      laid = λ shape.
          let front = map (dealt_by shape) c.args.laid.now.items in
          let first = dealt_from shape c.args.group 0 0 (take i jobs) in
          let l : c.loop-job.loads ≡ 0 + loads_of (take i jobs) = omega (arith, so_far.loads) in
          let s : c.loop-job.searches ≡ 0 + searches_of (take i jobs) = omega (arith, so_far.searches) in
          ap (map (dealt_by shape)) c.in_ok-push.ensures.items ∙ map-append (dealt_by shape) c.loop-job.laid.items _
          ∙ ap (λ (x : List Dealt). x ++ one_dealt shape c.args.group c.loop-job.loads c.loop-job.searches job ∷ []) (so_far.laid shape)
          ∙ append_assoc front first (one_dealt shape c.args.group c.loop-job.loads c.loop-job.searches job ∷ [])
          ∙ ap (λ (n : ℕ). front ++ (first ++ one_dealt shape c.args.group n c.loop-job.searches job ∷ [])) l
          ∙ ap (λ (n : ℕ). front ++ (first ++ one_dealt shape c.args.group (0 + loads_of (take i jobs)) n job ∷ [])) s
          ∙ ap (λ (x : List Dealt). front ++ x) (sym (ap (dealt_from shape c.args.group 0 0) more ∙ dealt_push shape c.args.group 0 0 (take i jobs) job));
    }
