use Rattle.std.proofs.Common.{◌-◌, List, get_or, ap}
use Rattle.htss_defs.specs.declared.mol.Atom.{Atom}
use Rattle.htss_defs.specs.Codes.{no_atom}
use Rattle.env_code.proofs.Coding.{own-code}
use Rattle.env_code.proofs.coder.Coder.own_word.Goals as goal

pub returns : goal.returns
returns c = own-code c.args.mol.now c.args.atom _ c.word.result (ap (λ (atoms : List Atom). (get_or atoms (c.args.atom - 1) no_atom).element) c.atoms.ensures.items) (c.word.ensures c.args.mol.now.bonds c.requires.loaded.counted)
