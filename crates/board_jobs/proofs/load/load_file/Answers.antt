use Rattle.std.proofs.Common.{◌≡◌, ◌++◌, length, take, true, false, ap, sym, ◌∙◌, subst, arith, rules, append_assoc, length-append}
use Rattle.std.proofs.lemmas.List.{append-nil, nil_from_length, take-append-drop}
use Rattle.board_jobs.specs.Calls.{AreLoaded}
use Rattle.board_jobs.proofs.Chained.{goes_on-both, if_err, loader_stays}
use Rattle.board_jobs.proofs.Loading.{begun-front, begun-loaded, begun-none, loaded-all, loaded-still}
use Rattle.board_jobs.proofs.load.load_file.Goals as goal

pub returns-in_err-publish_read-clause-goes_on : goal.returns-in_err-publish_read-clause-goes_on
returns-in_err-publish_read-clause-goes_on g c =
    goes_on-both c.args.board.now c.args.caller.now c.loop-rest.caller c.publish_read.new.caller c.loop-rest.invariant.caller c.publish_read.ensures.goes_on

pub returns-in_err-publish_read-2-clause-goes_on : goal.returns-in_err-publish_read-2-clause-goes_on
returns-in_err-publish_read-2-clause-goes_on g c =
    goes_on-both c.args.board.now c.args.caller.now c.loop-rest.caller c.publish_read-2.new.caller c.loop-rest.invariant.caller c.publish_read-2.ensures.goes_on

pub returns-clause-goes_on : goal.returns-clause-goes_on
returns-clause-goes_on g c =
    goes_on-both c.args.board.now c.args.caller.now c.loop-rest.caller c.publish_read-2.new.caller c.loop-rest.invariant.caller c.publish_read-2.ensures.goes_on

pub loop-rest-preserved : goal.loop-rest-preserved
loop-rest-preserved g c =
    let so_far = c.loop-rest.invariant in
    let k = c.args.board.now.shape in
    let start = c.args.caller.now.account in
    let piece = c.split_at.result.0.now in
    let after = c.split_at.result.1.now in
    let parts : c.loop-rest.rest.now ≡ piece ++ after =
    sym (ap (λ front. front ++ after) c.split_at.ensures.front ∙ ap (λ back. take c.min.result c.loop-rest.rest.now ++ back) c.split_at.ensures.back ∙ take-append-drop c.min.result c.loop-rest.rest.now) in
    let fed = loaded-still k start c.loop-rest.caller.account so_far.fed.stream (so_far.fed.stream ++ piece) c.loop-rest.reader c.feed.new.self c.loop-rest.lines.items
    (c.in_ok-feed.ensures.read so_far.fed.stream) so_far.fed.loaded in
    let on = goes_on-both c.args.board.now c.args.caller.now c.loop-rest.caller c.publish_read.new.caller so_far.caller c.publish_read.ensures.goes_on in
    record {
      goes_on = c.in_ok-publish_read.ensures.finished ∙ ap (λ r. r.finished) c.in_ok-feed.ensures.ok ∙ so_far.goes_on;
      room = omega (arith, c.in_ok-publish_read.ensures.fed, ap (λ r. r.fed) c.in_ok-feed.ensures.ok, so_far.room, ap length parts, length-append piece after);
      loader = loader_stays c.args.caller.now c.publish_read.new.caller on.who c.requires.loader;
      caller = on;
      fed = record {
        stream = so_far.fed.stream ++ piece;
        parts = so_far.fed.parts ∙ ap (λ rest. so_far.fed.stream ++ rest) parts ∙ sym (append_assoc so_far.fed.stream piece after);
        loaded = c.in_ok-publish_read.ensures.loaded start (so_far.fed.stream ++ piece) fed;
      };
    }

pub returns-clause-loaded : goal.returns-clause-loaded
returns-clause-loaded g c =
    let so_far = c.loop-rest.invariant in
    let k = c.args.board.now.shape in
    let start = c.args.caller.now.account in
    let bytes = c.args.bytes.now in
    let none : length c.loop-rest.rest.now ≡ 0 = search rules in
    let empty = nil_from_length c.loop-rest.rest.now none in
    let whole : so_far.fed.stream ≡ bytes = sym (so_far.fed.parts ∙ ap (λ rest. so_far.fed.stream ++ rest) empty ∙ append-nil so_far.fed.stream) in
    let finished = loaded-still k start c.loop-rest.caller.account so_far.fed.stream so_far.fed.stream c.loop-rest.reader c.finish.new.self c.loop-rest.lines.items
    (c.finish.ensures.read so_far.fed.stream) so_far.fed.loaded in
    let at_end = subst (λ stream. AreLoaded k start c.loop-rest.caller.account stream c.finish.new.self c.loop-rest.lines.items) whole finished in
    let last = c.in_ok-publish_read-2.ensures.loaded start bytes at_end in
    let over : c.publish_read-2.new.reader.finished ≡ true = c.in_ok-publish_read-2.ensures.finished ∙ ap (λ r. r.finished) c.finish.ensures.finished in
    loaded-all k start c.publish_read-2.new.caller.account bytes c.publish_read-2.new.reader c.publish_read-2.new.lines.items
    (c.in_ok-publish_read-2.ensures.all over bytes) last

pub returns-in_err-reader-clause-broken : goal.returns-in_err-reader-clause-broken
returns-in_err-reader-clause-broken g c = if_err c.from_residual.result (begun-none c.args.board.now.shape c.args.caller.now.account c.args.bytes.now)

pub returns-in_err-feed-clause-broken : goal.returns-in_err-feed-clause-broken
returns-in_err-feed-clause-broken g c =
    let fed = c.loop-rest.invariant.fed in
    let k = c.args.board.now.shape in
    let start = c.args.caller.now.account in
    if_err c.from_residual-in_err-feed.result
    (begun-front k start c.loop-rest.caller.account c.args.bytes.now fed.stream c.loop-rest.rest.now false fed.parts (λ over. absurd cc)
    (begun-loaded k start c.loop-rest.caller.account fed.stream c.loop-rest.reader c.loop-rest.lines.items false c.loop-rest.invariant.goes_on fed.loaded))

pub returns-in_err-publish_read-clause-broken : goal.returns-in_err-publish_read-clause-broken
returns-in_err-publish_read-clause-broken g c =
    let so_far = c.loop-rest.invariant in
    let k = c.args.board.now.shape in
    let start = c.args.caller.now.account in
    let piece = c.split_at.result.0.now in
    let after = c.split_at.result.1.now in
    let parts : c.loop-rest.rest.now ≡ piece ++ after =
    sym (ap (λ front. front ++ after) c.split_at.ensures.front ∙ ap (λ back. take c.min.result c.loop-rest.rest.now ++ back) c.split_at.ensures.back ∙ take-append-drop c.min.result c.loop-rest.rest.now) in
    let fed = loaded-still k start c.loop-rest.caller.account so_far.fed.stream (so_far.fed.stream ++ piece) c.loop-rest.reader c.feed.new.self c.loop-rest.lines.items
    (c.in_ok-feed.ensures.read so_far.fed.stream) so_far.fed.loaded in
    if_err c.from_residual-in_err-publish_read.result
    (begun-front k start c.publish_read.new.caller.account c.args.bytes.now (so_far.fed.stream ++ piece) after c.feed.new.self.finished
    (so_far.fed.parts ∙ ap (λ rest. so_far.fed.stream ++ rest) parts ∙ sym (append_assoc so_far.fed.stream piece after))
    (λ over. let wrong : false ≡ true = sym (ap (λ r. r.finished) c.in_ok-feed.ensures.ok ∙ so_far.goes_on) ∙ over in absurd cc)
    (c.in_err-publish_read.ensures.broken start (so_far.fed.stream ++ piece) fed))

pub returns-in_err-publish_read-2-clause-broken : goal.returns-in_err-publish_read-2-clause-broken
returns-in_err-publish_read-2-clause-broken g c =
    let so_far = c.loop-rest.invariant in
    let k = c.args.board.now.shape in
    let start = c.args.caller.now.account in
    let finished = loaded-still k start c.loop-rest.caller.account so_far.fed.stream so_far.fed.stream c.loop-rest.reader c.finish.new.self c.loop-rest.lines.items
    (c.finish.ensures.read so_far.fed.stream) so_far.fed.loaded in
    if_err c.from_residual-in_err-publish_read-2.result
    (begun-front k start c.publish_read-2.new.caller.account c.args.bytes.now so_far.fed.stream c.loop-rest.rest.now c.finish.new.self.finished so_far.fed.parts
    (λ over. nil_from_length c.loop-rest.rest.now (search rules))
    (c.in_err-publish_read-2.ensures.broken start so_far.fed.stream finished))
