use Rattle.std.proofs.Common.{◌<◌, ◌≤◌, length, ap, arith, rules}
use Rattle.htss_defs.specs.declared.record.NamedMol.{NamedMol}
use Rattle.block_words.proofs.writer.BlockWriter.code_word.Goals as goal

pub overflow_cast-atom : goal.overflow_cast-atom
overflow_cast-atom c =
    let few : length c.self.inside.mol.now.atoms ≤ 999 = c.self.invariant.loaded.molecule.atoms.1 in
    let same = ap (λ (r : NamedMol). length r.mol.atoms) c.self.view_is in
    let within = c.requires in
    let small : c.args.place < 4995 = omega arith in
    search rules
