use Rattle.std.proofs.Common.{ℕ, eqb, ap}
use Rattle.embed.proofs.Sets.{place_bit-read}
use Rattle.embed.proofs.places.PlaceSet.has.Goals as goal

pub returns : goal.returns
returns c = ap (λ (b : ℕ). eqb b 1) (place_bit-read c.args.self.now.words c.args.p)
