use Rattle.embed.proofs.Sets.{place_bit-none}
use Rattle.embed.proofs.places.PlaceSet.new.Goals as goal

pub returns : goal.returns
returns c = place_bit-none
