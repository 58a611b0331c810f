use Rattle.std.proofs.Common.{◌≡◌, ap, subst, ◌∙◌}
use Rattle.std.specs.Prelude.{Some}
use Rattle.std.proofs.lemmas.Result.{IfOk-weaker}
use Rattle.ctfile.specs.RecordList.{IsRecordList}
use Rattle.htss_defs.specs.History.{publications}
use Rattle.htss_defs.specs.Hits.{AreHits}
use Rattle.command_ends.specs.RecordTexts.{accepted_records}
use Rattle.tool_commands.specs.Searches.{Asked}
use Rattle.tool_commands.proofs.MadeLength.{made_file-short}
use Rattle.tool_commands.proofs.generate.summary.Goals as goal

pub read_back-requires-clause-room : goal.read_back-requires-clause-room
read_back-requires-clause-room c = rw (c.deref.ensures.value, c.in_ok-made.ensures) (made_file-short c.args.count c.args.seed c.requires)

some_same : (x y : Asked) → Some x ≡ Some y → x ≡ y
some_same x y e = cc

pub returns : goal.returns
returns c =
    let read = c.in_ok-read_back.ensures.read in
    let taker = c.read_back.new.taker in
    let kept = ap (λ (a : Asked). a.query) (some_same (record { query = taker.matcher; budget = 0 }) (record { query = c.new-taker.result.matcher; budget = 0 }) c.in_ok-read_back.ensures.asked) ∙ c.new-taker.ensures.asked in
    IfOk-weaker c.text.result _ _
    (λ text tells.
    let told = tells read.0 read.2 in
    record {
      outcomes = read.0;
      are_records = subst (λ b. IsRecordList b read.0) (c.deref.ensures.value ∙ c.in_ok-made.ensures) read.1;
      ring = c.in_ok-ring.ring;
      is_ring = c.in_ok-ring.ensures;
      hits = told.0;
      are_hits = subst (λ q. AreHits q (publications (accepted_records read.0)) told.0) kept told.1;
      text_is = told.2;
    })
    c.text.ensures
