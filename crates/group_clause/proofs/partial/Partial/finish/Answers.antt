use Rattle.std.proofs.Common.{rules, subst, sym, ap, ◌∙◌, ◌≡◌, ◌^◌, Ok, Err, map, Some, None}
use Rattle.std.specs.List.{AllByRecursion}
use Rattle.frame_core.specs.declared.refusal.Refusal.TheVariants as refusals
use Rattle.frame_core.specs.Selecting.{then_map}
use Rattle.expr_clause.specs.Asking.{group_row}
use Rattle.group_clause.specs.Tallies.{finish}
use Rattle.group_clause.specs.Partials.{finish_partial, tallies}
use Rattle.group_clause.specs.Keeping.{AreTallies}
use Rattle.group_clause.specs.Making.{GivesRows, GroupFits}
use Rattle.group_clause.proofs.RowLemmas.{aggs_of}
use Rattle.group_clause.proofs.KeepingLemmas.{groups_more_lines}
use Rattle.group_clause.proofs.FittingLines.{groups_fit}
use Rattle.group_clause.proofs.FinishLaws.{frame_made, frame_refused}
use Rattle.group_clause.proofs.partial.Partial.finish.Goals as goal

pub push_groups-requires-clause-fits : goal.push_groups-requires-clause-fits
push_groups-requires-clause-fits c =
    let same : c.in_ok-maker.maker.schema ≡ c.args.schema.now = search (rules, c.in_ok-maker.ensures) in
    let lent : c.args.self.groups ≡ c.deref.result.now = search rules in
    subst (AllByRecursion (GroupFits c.in_ok-maker.maker.schema.columns (aggs_of c.args.outs.now))) lent
    (subst (λ s. AllByRecursion (GroupFits s.columns (aggs_of c.args.outs.now)) c.args.self.groups) (sym same) (groups_fit c.args.schema.now.columns (aggs_of c.args.outs.now) c.args.self c.requires.fits))

pub push_groups-requires-clause-tallies : goal.push_groups-requires-clause-tallies
push_groups-requires-clause-tallies c =
    let lent : c.self.inside.groups.items ≡ c.deref.result.now = search rules in
    subst (AreTallies (2 ^ 62)) lent (groups_more_lines c.self.inside.rows (2 ^ 62) c.self.invariant.few c.self.inside.groups.items c.self.invariant.tallies)

pub returns-in-Some : goal.returns-in-Some
returns-in-Some c all lines is moved =
    let list = aggs_of c.args.outs.now in
    let lent : c.args.self.groups ≡ c.deref.result.now = search rules in
    let given : GivesRows list c.deref.result.now c.push_groups.new.maker.rows (Some c.in-Some.group) = subst (GivesRows list c.deref.result.now c.push_groups.new.maker.rows) c.in-Some.is c.in_ok-group.ensures.rows in
    let refused : finish_partial c.args.clause list c.args.self ≡ Err (refusals.GroupOverflow c.args.clause c.in-Some.group) = ap (finish tallies c.args.clause list) lent ∙ given c.args.clause in
    frame_refused c.args.clause c.args.schema.now list c.args.self all lines is moved (refusals.GroupOverflow c.args.clause c.in-Some.group) refused

pub returns : goal.returns
returns c all lines is moved =
    let list = aggs_of c.args.outs.now in
    let rows = c.push_groups.new.maker.rows in
    let lent : c.args.self.groups ≡ c.deref.result.now = search rules in
    let given : GivesRows list c.deref.result.now rows None = subst (GivesRows list c.deref.result.now rows) c.in-None.is c.in_ok-group.ensures.rows in
    let made : then_map (map group_row) (finish_partial c.args.clause list c.args.self) ≡ Ok rows = ap (λ g. then_map (map group_row) (finish tallies c.args.clause list g)) lent ∙ given c.args.clause in
    let same : c.push_groups.new.maker.schema ≡ c.args.schema.now = search (rules, c.in_ok-group.ensures.schema, c.in_ok-maker.ensures) in
    let is_frame : c.done.result ≡ record { schema = c.args.schema.now; rows = rows } = c.done.ensures ∙ ap (λ s. record { schema = s; rows = rows }) same in
    frame_made c.args.clause c.args.schema.now list c.args.self all lines is moved rows made ∙ ap Ok (sym is_frame)
