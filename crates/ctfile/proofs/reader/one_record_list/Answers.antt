use Rattle.ctfile.proofs.OneList.{one_record_list}
use Rattle.ctfile.proofs.reader.one_record_list.Goals as goal

pub returns : goal.returns
returns c = one_record_list
