use Rattle.sz_resume.proofs.StopLemmas.{stops_leave}
use Rattle.sz_resume.proofs.laws.stops_leave_the_job.Goals as goal

pub returns : goal.returns
returns c = record { law = stops_leave c.one_standing.ensures.law }
