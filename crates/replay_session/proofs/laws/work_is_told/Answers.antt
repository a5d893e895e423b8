use Rattle.replay_session.proofs.ToldSteps.{answers_lead}
use Rattle.replay_session.proofs.laws.work_is_told.Goals as goal

pub returns-clause-leads : goal.returns-clause-leads
returns-clause-leads c = answers_lead
