use Rattle.std.proofs.Common.{◌/◌, ◌<◌, length, rules}
use Rattle.embed.proofs.Sets.{place_bit-cleared, place_bit-spared}
use Rattle.embed.proofs.places.PlaceSet.remove.Goals as goal

pub returns-clause-removed : goal.returns-clause-removed
returns-clause-removed c =
    let within : c.args.p / 64 < length c.args.self.now.words = search rules in
    place_bit-cleared c.args.self.now.words c.args.p within

pub returns-clause-others : goal.returns-clause-others
returns-clause-others c =
    let within : c.args.p / 64 < length c.args.self.now.words = search rules in
    λ n other. place_bit-spared c.args.self.now.words c.args.p n within other
