use Rattle.std.proofs.Common.{◌≡◌, ◌++◌, ap, subst, ◌∙◌}
use Rattle.std.specs.Prelude.{Some}
use Rattle.htss_defs.specs.History.{publications}
use Rattle.htss_defs.specs.Reply.{IsReply}
use Rattle.command_ends.specs.FindText.{reply_text}
use Rattle.command_ends.specs.RecordTexts.{accepted_records, refused_lines}
use Rattle.tool_commands.specs.Searches.{Asked}
use Rattle.tool_commands.proofs.commands.find_hits.Goals as goal

some_same : (x y : Asked) → Some x ≡ Some y → x ≡ y
some_same x y e = cc

pub returns-in-Ok-clause-text : goal.returns-in-Ok-clause-text
returns-in-Ok-clause-text g c =
    let read = c.in_ok-read_list.ensures.read in
    let text = c.in-Ok.ensures read.0 read.2 in
    let searched = c.read_list.new.taker.search in
    let made = c.new-taker.result.search in
    let kept = some_same (record { query = searched.matcher; budget = searched.budget }) (record { query = made.matcher; budget = made.budget }) c.in_ok-read_list.ensures.asked in
    let query = ap (λ (a : Asked). a.query) kept ∙ c.new-taker.ensures.asked in
    let budget = ap (λ (a : Asked). a.budget) kept ∙ c.new-taker.ensures.budget in
    record {
      outcomes = read.0;
      records_read = read.1;
      reply = text.0;
      is_reply = subst (λ q. IsReply q c.args.budget (publications (accepted_records read.0)) text.0) query
          (subst (λ b. IsReply searched.matcher b (publications (accepted_records read.0)) text.0) budget text.1);
      text_is = text.2 ∙ ap (λ b. refused_lines 1 read.0 ++ reply_text b text.0) budget;
    }
