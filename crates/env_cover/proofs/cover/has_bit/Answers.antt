use Rattle.std.proofs.Common.{◌≡◌, sym, ◌∙◌, arith}
use Rattle.std.proofs.lemmas.Bool.{le-ltb, ne_eqb}
use Rattle.std.proofs.lemmas.Nat.Bits.{bit_at_above}
use Rattle.std.specs.Int.{bit_at}
use Rattle.env_cover.proofs.cover.has_bit.Goals as goal

pub returns-else-index-lt128 : goal.returns-else-index-lt128
returns-else-index-lt128 c =
    let none : bit_at c.args.bits c.args.index ≡ 0 = bit_at_above c.args.bits 128 c.args.index c.ranges.bits.fits c.if-index-lt128.false in
    le-ltb c.args.index 128 c.if-index-lt128.false ∙ sym (ne_eqb (bit_at c.args.bits c.args.index) 1 (λ is. omega arith))
