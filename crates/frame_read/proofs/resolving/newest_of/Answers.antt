use Rattle.std.proofs.Common.{◌≡◌, rules, true, false}
use Rattle.std.specs.Prelude.{is_some}
use Rattle.frame_read.proofs.NewestLemmas.{tipless_refuses, liveless_refuses, newest_is_chosen}
use Rattle.frame_read.proofs.resolving.newest_of.Goals as goal

pub returns-then-is_none-clause-refused : goal.returns-then-is_none-clause-refused
returns-then-is_none-clause-refused c h symbol lawful is =
    let none : is_some c.args.tip.now.was ≡ false = search rules in
    tipless_refuses h symbol c.args.tip.now is none

pub returns-in-Some-clause-chosen : goal.returns-in-Some-clause-chosen
returns-in-Some-clause-chosen c h symbol lawful is =
    let some : is_some c.args.tip.now.was ≡ true = search rules in
    newest_is_chosen h symbol c.args.tip.now is c.in-Some.row lawful some c.in-Some.is

pub returns-in-None-clause-refused : goal.returns-in-None-clause-refused
returns-in-None-clause-refused c h symbol lawful is =
    let some : is_some c.args.tip.now.was ≡ true = search rules in
    liveless_refuses h symbol c.args.tip.now is lawful some c.in-None.is
