-- Callers that have heard of more, behind their answers: a board's end is one of the accounts before.
use Rattle.std.proofs.Common.{◌≡◌, ℕ, ◌≤◌, List, sym, ap, subst, ◌∙◌, arith}
use mathlib.Core.Option.{some}
use lib.ListN.{get_elem?}
use Rattle.htss_defs.specs.declared.shape.Shape.{Shape}
use Rattle.board_core.specs.declared.account.Account.{Account}
use Rattle.board_core.specs.declared.account.Who.{Who}
use Rattle.board_core.specs.declared.entry.Noted.{Noted}
use Rattle.board_core.specs.Words.{Parts}
use Rattle.board_core.specs.Histories.{history_of}
use Rattle.board_core.specs.Loaded.{Grows}
use Rattle.board_core.specs.Truths.{IsTrueStory}
use Rattle.board_core.proofs.Grown.{board_before, grows_quiet, entries_same}
use Rattle.board_core.proofs.Lists.{inside}
use Rattle.board_jobs.specs.Groups.{with_seen}
use Rattle.board_jobs.specs.Ends.{HaveGoneOn, IsEnd}
use Rattle.board_jobs.proofs.Places.{elem_at}
use Rattle.run_command.specs.Hearing.{HaveGoneAndHeard}

-- the later account is the earlier one, but for how much of the log it has heard of
pub record HeardMore (a b : Account) : Type 0 where
  pub front : ℕ
  pub later : a.log.seen ≤ front
  pub is : b ≡ with_seen front a

heard_who : (a b : Account) → HeardMore a b → b.who ≡ a.who
heard_who a b heard = ap (λ (x : Account). x.who) heard.is

heard_entries : (a b : Account) → HeardMore a b → b.entries ≡ a.entries
heard_entries a b heard = ap (λ (x : Account). x.entries) heard.is

heard_grows : (a b : Account) → HeardMore a b → Grows a b
heard_grows a b heard =
    let later = heard.later in
    let seen : b.log.seen ≡ heard.front = ap (λ (x : Account). x.log.seen) heard.is in
    grows_quiet a b (omega (arith, later, seen)) (ap (λ (x : Account). x.loads) heard.is) (entries_same a b (heard_entries a b heard))

module _ (k : Shape) (first last : List Account) (heard : HaveGoneAndHeard k first last) where
  -- the account that an earlier one became
  heard_at : (i : ℕ) (a : Account) → get_elem? heard.between i ≡ some a → (b : Account) × (get_elem? last i ≡ some b) × HeardMore a b
  heard_at i a there =
      let below = inside heard.between i a there in
      let count = heard.count in
      let (b, at) = elem_at last i (omega (arith, below, count)) in
      let (front, later, is) = heard.heard i a b there at in
      (b, at, record { front = front; later = later; is = is })

  pub end_before : (p : Parts) → IsEnd k p last → IsEnd k p heard.between
  end_before p end = record {
    may = λ i a there. let (b, at, more) = heard_at i a there in board_before k a b (heard_grows a b more) p (end.may i b at);
    stories = λ i a there.
        let (b, at, more) = heard_at i a there in
        subst (λ (e : List Noted). IsTrueStory k (history_of k p) a.who e) (heard_entries a b more)
        (subst (λ (w : Who). IsTrueStory k (history_of k p) w b.entries) (heard_who a b more) (end.stories i b at));
    loaders = end.loaders;
    count = sym heard.count ∙ end.count;
    callers = λ i a there. let (b, at, more) = heard_at i a there in sym (heard_who a b more) ∙ end.callers i b at;
  }

pub gone_and_heard : (k : Shape) (p : Parts) (first last : List Account) → HaveGoneAndHeard k first last → IsEnd k p last → (between : List Account) × HaveGoneOn k first between × IsEnd k p between
gone_and_heard k p first last heard end = (heard.between, heard.gone, end_before k first last heard p end)
