use Rattle.std.proofs.Common.{◌/◌, ◌<◌, length, rules}
use Rattle.embed.proofs.Sets.{place_bit-same, place_bit-other}
use Rattle.embed.proofs.places.PlaceSet.insert.Goals as goal

pub returns-clause-added : goal.returns-clause-added
returns-clause-added c =
    let within : c.args.p / 64 < length c.args.self.now.words = search rules in
    place_bit-same c.args.self.now.words c.args.p within

pub returns-clause-others : goal.returns-clause-others
returns-clause-others c =
    let within : c.args.p / 64 < length c.args.self.now.words = search rules in
    λ n other. place_bit-other c.args.self.now.words c.args.p n within other
