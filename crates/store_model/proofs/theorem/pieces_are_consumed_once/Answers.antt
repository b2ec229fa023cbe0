use Rattle.store_model.proofs.Lawful.{pieces_once, named_once}
use Rattle.store_model.proofs.theorem.pieces_are_consumed_once.Goals as goal

pub returns-clause-pieces : goal.returns-clause-pieces
returns-clause-pieces c = pieces_once

pub returns-clause-holders : goal.returns-clause-holders
returns-clause-holders c = named_once
