use Rattle.std.proofs.Common.{◌≡◌, rules, true, false, ap, sym, ◌∙◌, option_copied}
use Rattle.std.specs.Prelude.{is_some}
use Rattle.frame_read.proofs.ChoosingLemmas.{unreferred_refuses, unlinked_refuses, linked_is_chosen}
use Rattle.frame_read.proofs.choosing.choose.Goals as goal

pub returns-then-is_none-clause-refused : goal.returns-then-is_none-clause-refused
returns-then-is_none-clause-refused c h symbol lawful is =
    let none : is_some c.args.state.now.was ≡ false = search rules in
    unreferred_refuses h symbol c.args.state.now c.args.asked is none

pub returns-in-Some-clause-chosen : goal.returns-in-Some-clause-chosen
returns-in-Some-clause-chosen c h symbol lawful is =
    let some : is_some c.args.state.now.was ≡ true = search rules in
    linked_is_chosen h symbol c.args.state.now c.args.asked c.in-Some.row.now lawful is some (sym c.asked_row.ensures ∙ ap option_copied c.in-Some.is)

pub returns-in-None-clause-refused : goal.returns-in-None-clause-refused
returns-in-None-clause-refused c h symbol lawful is =
    let some : is_some c.args.state.now.was ≡ true = search rules in
    unlinked_refuses h symbol c.args.state.now c.args.asked lawful is some (sym c.asked_row.ensures ∙ ap option_copied c.in-None.is)
