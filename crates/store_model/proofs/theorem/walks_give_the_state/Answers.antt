use Rattle.store_model.proofs.Walking.{lawful_walks}
use Rattle.store_model.proofs.PlainWalking.{plain_walks}
use Rattle.store_model.proofs.Following.{chains_can_be_followed}
use Rattle.store_model.proofs.theorem.walks_give_the_state.Goals as goal

pub returns-clause-state : goal.returns-clause-state
returns-clause-state c = lawful_walks

pub returns-clause-followed : goal.returns-clause-followed
returns-clause-followed c = chains_can_be_followed

pub returns-clause-plainly : goal.returns-clause-plainly
returns-clause-plainly c = plain_walks
