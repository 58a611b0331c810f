use Rattle.std.proofs.Common.{◌≡◌, ℕ, refl, subst, arith, rules, get_or}
use Rattle.leaf_split.specs.Groups.{entry_of, AreGroups}
use Rattle.leaf_split.proofs.Arrays.{stored, put, zeros, no_entries}
use Rattle.leaf_split.proofs.Grouped.{no_groups, grouped}
use Rattle.leaf_split.proofs.groups.group.Goals as goal

pub loop-a-init : goal.loop-a-init
loop-a-init c = record { codes_len = refl; held_len = refl; entries_len = refl; groups = no_groups _ _ _ _ _ (zeros 14) (zeros 14) (no_entries 196) }

pub loop-a-preserved : goal.loop-a-preserved
loop-a-preserved c =
    let g = c.loop-a.invariant.groups in
    let few = g.few in
    let most = g.most c.find-j.result in
    let v = c.loop-a.invariant in record {
      codes_len = search rules;
      held_len = search rules;
      entries_len = search rules;
      groups = grouped _ _ c.loop-a.a c.loop-a.count _ _ _ _ _ _ _ c.find-j.result c.requires g c.loop-a-test.true
          c.find-j.ensures.within c.find-j.ensures.found c.find-j.ensures.before
          (stored c.loop-a.codes c.find-j.result _ (omega arith))
          (stored c.loop-a.held c.find-j.result _ (omega arith))
          (put c.loop-a.entries c.find-j.result _ _ (omega arith) (omega arith))
          c.max-count.ensures;
    }

pub returns : goal.returns
returns c = let h = c.loop-a.auto.a-end in let e : c.loop-a.a ≡ 14 = omega arith in
    subst (λ (n : ℕ). AreGroups (λ i. get_or c.args.rows.now i 0) (λ i. get_or c.args.nexts.now i 0) n c.loop-a.count (λ i. get_or c.loop-a.codes i 0) (λ i. get_or c.loop-a.held i 0) (entry_of c.loop-a.entries)) e c.loop-a.invariant.groups
