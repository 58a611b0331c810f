use Rattle.pub_log.proofs.Later.{begins_with, ends_with}
use Rattle.pub_log.proofs.law.law_of_history.Goals as goal

pub returns-clause-history : goal.returns-clause-history
returns-clause-history c = begins_with

pub returns-clause-last : goal.returns-clause-last
returns-clause-last c = ends_with
