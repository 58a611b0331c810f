use Rattle.std.proofs.Common.{◌≡◌, ℕ, ◌++◌, sym, subst, ap, ◌∙◌, length, ◌-◌, ◌+◌, arith, length-append, get_or, [], ◌∷◌}
use Rattle.board.specs.Seated.{Seated, with_stock}
use Rattle.class_tree.proofs.Takings.{keep_one}
use Rattle.class_tree.proofs.taken.keep_all.Goals as goal

pub loop-i-preserved : goal.loop-i-preserved
loop-i-preserved c =
    let less = c.loop-i-test.true in
    let longer = ap (λ (x : Seated). length x.stock) c.keep.ensures ∙ length-append c.loop-i.caller.stock (get_or c.args.pages.now (c.args.count - 1 - c.loop-i.i) 0 ∷ []) in
    let size = c.loop-i.invariant.size in record {
      only = c.keep.ensures ∙ (ap (λ (x : Seated). with_stock x (c.loop-i.caller.stock ++ get_or c.args.pages.now (c.args.count - 1 - c.loop-i.i) 0 ∷ [])) c.loop-i.invariant.only ∙ ap (λ (x : Seated). with_stock c.args.caller.now x.stock) (sym c.keep.ensures));
      taken = keep_one c.loop-i.caller _ _ (c.args.count - c.loop-i.i) (c.args.count - (c.loop-i.i + 1)) c.loop-i.invariant.taken (omega arith) (subst (λ (n : ℕ). c.keep.new.caller ≡ with_stock c.loop-i.caller (c.loop-i.caller.stock ++ get_or c.args.pages.now n 0 ∷ [])) (let e : c.args.count - 1 - c.loop-i.i ≡ c.args.count - (c.loop-i.i + 1) = omega arith in e) c.keep.ensures);
      size = omega arith;
    }
