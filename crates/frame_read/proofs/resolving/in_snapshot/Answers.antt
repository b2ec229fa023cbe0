use Rattle.std.proofs.Common.{◌≡◌, rules, refl, sym, ap, subst, ◌∙◌, None, Some, Ok, option_copied}
use Rattle.std.specs.Prelude.{find, option_map}
use Rattle.std.specs.Arc.{arc_value}
use Rattle.key_kind.specs.Names.{same_name}
use Rattle.frame_core.specs.declared.refusal.Refusal.TheVariants as refusals
use Rattle.store_model.specs.ChainText.{snap_of}
use Rattle.expr_clause.specs.declared.command.AsOf.TheVariants as moments
use Rattle.frame_read.proofs.ResolvingLemmas.{made_target, refuses_here, unnamed_refuses, unpicked_refuses, picked_is_chosen, chosen_here}
use Rattle.frame_read.proofs.resolving.in_snapshot.Goals as goal

pub returns-in_default-clause-refused : goal.returns-in_default-clause-refused
returns-in_default-clause-refused c before now old new snap lawful within found =
    let none : c.args.found.body ≡ None = search rules in
    record {
      why = refuses_here refusals.NoSuchSnapshot new c.args.found.place c.args.symbol.now (moments.Snapshot snap) found.place (unnamed_refuses new c.args.symbol.now snap lawful (sym found.body ∙ ap (option_map arc_value) none));
      place = within;
    }

pub returns-clause-refused : goal.returns-clause-refused
returns-clause-refused c before now old new snap lawful within found =
    let same : c.bytes.result.now ≡ arc_value c.in-Some.body = search rules in
    let listed : c.items.result.now ≡ c.in-Ok.snapshot.rows = search rules in
    record {
      why = refuses_here refusals.NoSuchSymbol new c.args.found.place c.args.symbol.now (moments.Snapshot snap) found.place
          (unpicked_refuses new c.args.symbol.now snap (arc_value c.in-Some.body) c.in-Ok.snapshot lawful (sym found.body ∙ ap (option_map arc_value) c.in-Some.is) (subst (λ b. snap_of b ≡ Ok c.in-Ok.snapshot) same c.in-Ok.ensures.found)
          (subst (λ rows. find (λ row. same_name c.args.symbol.now row.symbol) rows ≡ None) listed (sym c.row_of.ensures ∙ ap option_copied c.in-None.is)));
      place = within;
    }

pub returns-in-Some-row_of-clause-target : goal.returns-in-Some-row_of-clause-target
returns-in-Some-row_of-clause-target c old new snap lawful within found =
    let same : c.bytes.result.now ≡ arc_value c.in-Some.body = search rules in
    let listed : c.items.result.now ≡ c.in-Ok.snapshot.rows = search rules in
    made_target old new c.args.symbol.now (moments.Snapshot snap) c.target.result
    (record { symbol = c.args.symbol.now; version = c.in-Some-row_of.row.now.version; index = c.in-Some-row_of.row.now.index; place = c.args.found.place })
    c.target.ensures.target
    (record {
      symbol_is = refl;
      place = within;
      is = chosen_here new c.args.found.place c.args.symbol.now (moments.Snapshot snap) c.in-Some-row_of.row.now.version c.in-Some-row_of.row.now.index found.place
          (picked_is_chosen new c.args.symbol.now snap (arc_value c.in-Some.body) c.in-Ok.snapshot c.in-Some-row_of.row.now lawful (sym found.body ∙ ap (option_map arc_value) c.in-Some.is)
          (subst (λ b. snap_of b ≡ Ok c.in-Ok.snapshot) same c.in-Ok.ensures.found) (subst (λ rows. find (λ row. same_name c.args.symbol.now row.symbol) rows ≡ Some c.in-Some-row_of.row.now) listed (sym c.row_of.ensures ∙ ap option_copied c.in-Some-row_of.is)));
    })
