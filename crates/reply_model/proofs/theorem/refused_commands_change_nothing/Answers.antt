use Rattle.reply_model.proofs.Harmless.{refused_harms_nothing}
use Rattle.reply_model.proofs.Releasing.{refused_releases}
use Rattle.reply_model.proofs.theorem.refused_commands_change_nothing.Goals as goal

pub returns-clause-harmless : goal.returns-clause-harmless
returns-clause-harmless c = refused_harms_nothing

pub returns-clause-released : goal.returns-clause-released
returns-clause-released c = refused_releases
