use Rattle.std.proofs.Common.{ℕ, ◌≡◌, ◌-◌, ap, sym, ◌∙◌, arith}
use Rattle.std.specs.Option.{option_map}
use Rattle.htss_defs.specs.declared.query.ElementSet.{ElementSet}
use Rattle.mol_section.specs.Fields.{words_of}
use Rattle.query_mol.specs.QueryLines.{elements_of}
use Rattle.query_mol.specs.QueryRecord.{set_of}
use Rattle.query_mol.specs.ListWords.{element_value}
use Rattle.query_mol.proofs.ListSets.{goes_on, no_element, no_word, is_done}
use Rattle.query_mol.proofs.lists.elements_of.Goals as goal

pub returns-in_err-word : goal.returns-in_err-word
returns-in_err-word c = ap (option_map (λ (s : ElementSet). s.0)) c.from_residual.ensures
    ∙ no_word (element_value c.args.by_symbol) c.loop.set c.args.count c.loop.counter _ _ c.loop-test.true c.in_err-word.ensures.none c.loop.invariant

pub returns-in_err-element : goal.returns-in_err-element
returns-in_err-element c = ap (option_map (λ (s : ElementSet). s.0)) c.from_residual-in_err-element.ensures
    ∙ no_element (element_value c.args.by_symbol) c.loop.set c.args.count c.loop.counter _ _ _ _ c.loop-test.true c.in_ok-word.ensures.word (sym c.in_err-element.ensures.value) c.loop.invariant

pub loop-preserved : goal.loop-preserved
loop-preserved c = rw c.with_element-set.ensures
    (goes_on (element_value c.args.by_symbol) c.loop.set c.in_ok-element.element c.args.count c.loop.counter _ _ _ _ c.loop-test.true c.in_ok-word.ensures.word (sym c.in_ok-element.ensures.value) c.loop.invariant)

pub loop-init : goal.loop-init
loop-init c =
    let k : c.args.count - 0 ≡ c.args.count = omega arith in
    ap (λ (n : ℕ). option_map set_of (elements_of (element_value c.args.by_symbol) n (words_of c.args.text.now))) k

pub returns : goal.returns
returns c = is_done (element_value c.args.by_symbol) c.loop.set c.args.count c.loop.counter _ _ (omega arith) c.loop.invariant
