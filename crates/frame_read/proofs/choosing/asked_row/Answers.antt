use Rattle.std.proofs.Common.{◌≡◌, rules, not, ◌&&◌, nat_eq, reverse, ap, sym, ◌∙◌, option_copied}
use Rattle.std.specs.Prelude.{find, int_le}
use Rattle.version_chain.specs.States.{is_tomb}
use Rattle.frame_read.specs.Targets.{row_asked}
use Rattle.frame_read.proofs.ChoosingLemmas.{find_among}
use Rattle.frame_read.proofs.choosing.asked_row.Goals as goal

pub returns-in-Number : goal.returns-in-Number
returns-in-Number c =
    c.live_of_number.ensures
    ∙ (find_among (λ row. not (is_tomb c.args.state.now.tombs row.version)) (λ row. nat_eq row.version c.in-Number.number) (reverse c.args.state.now.links)
    ∙ ap (row_asked c.args.state.now) (sym c.in-Number.is))

pub returns-in-Moment : goal.returns-in-Moment
returns-in-Moment c =
    let found : option_copied c.live_by.result ≡ find (λ row. not (is_tomb c.args.state.now.tombs row.version) && int_le row.stamp c.in-Moment.moment) (reverse c.args.state.now.links) = search rules in
    found
    ∙ (find_among (λ row. not (is_tomb c.args.state.now.tombs row.version)) (λ row. int_le row.stamp c.in-Moment.moment) (reverse c.args.state.now.links)
    ∙ ap (row_asked c.args.state.now) (sym c.in-Moment.is))
