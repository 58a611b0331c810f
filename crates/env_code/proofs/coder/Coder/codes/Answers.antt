use Rattle.std.proofs.Common.{List, ℕ, sym, ap, subst}
use Rattle.htss_defs.specs.declared.codes.Codes.{Codes}
use Rattle.htss_defs.specs.Graph.{Graph}
use Rattle.htss_defs.specs.Adjacency.{IsGraph}
use Rattle.env_code.proofs.Coding.{IsGraph-molecule, codes-are}
use Rattle.env_code.proofs.coder.Coder.codes.Goals as goal

pub near_words-near-requires-clause-valid : goal.near_words-near-requires-clause-valid
near_words-near-requires-clause-valid c = subst (λ (g : Graph). IsGraph g) (sym c.requires.loaded.graph) (IsGraph-molecule _ c.requires.loaded.molecule)

pub returns-clause-codes : goal.returns-clause-codes
returns-clause-codes c =
    ap (λ (ws : List ℕ). let codes : Codes = record { words = ws } in codes)
    (codes-are c.args.mol.now c.args.self.now.bonds c.args.self.now.lanes c.args.atom c.own_word-own.result c.near_words-near.result c.requires.loaded.graph c.requires.loaded.lanes c.own_word-own.ensures c.near_words-near.ensures)

pub returns-clause-loaded : goal.returns-clause-loaded
returns-clause-loaded c = record { molecule = c.requires.loaded.molecule; graph = c.requires.loaded.graph; counted = c.requires.loaded.counted; lanes = c.requires.loaded.lanes }
