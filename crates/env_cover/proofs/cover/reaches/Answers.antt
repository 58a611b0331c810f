use Rattle.env_cover.proofs.LaneWords.{reach-mask}
use Rattle.env_cover.proofs.cover.reaches.Goals as goal

pub returns : goal.returns
returns c = reach-mask c.args.need c.args.code c.to_le_bytes-needed.result c.to_le_bytes-there.result c.to_le_bytes-needed.ensures c.to_le_bytes-there.ensures
