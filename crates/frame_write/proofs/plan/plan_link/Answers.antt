use Rattle.std.proofs.Common.{rules, ◌≡◌, ℕ, ◌≤◌, ◌<◌, ◌^◌, suc, List, ◌∷◌, refl, ap, sym, subst, ◌∙◌, arith}
use Rattle.std.specs.List.{AllByRecursion}
use Rattle.store_model.specs.declared.chain.LinkRow.{LinkRow}
use Rattle.reply_model.specs.Answering.{removed}
use Rattle.frame_write.specs.declared.laying.Layout.{Layout}
use Rattle.frame_write.specs.declared.pieces.Piece.{Piece}
use Rattle.frame_write.specs.declared.plan.Plan.{Plan}
use Rattle.frame_write.specs.Laying.{MayLay, rows_in}
use Rattle.frame_write.specs.Layouts.{IsLaid}
use Rattle.frame_write.specs.Versions.{AddsElement}
use Rattle.frame_write.proofs.PlanLemmas.{FitsTry}
use Rattle.frame_write.proofs.VersionKeys.{slots_key_of, version_plan}
use Rattle.frame_write.proofs.VersionPlans.{may_lay, few_rows, is_made, link_index, plan_of}
use Rattle.frame_write.proofs.plan.plan_link.Goals as goal

pub lay_out-requires : goal.lay_out-requires
lay_out-requires c =
    let r = c.requires.fits in
    record {
      each = subst (AllByRecursion MayLay) (sym c.items.ensures) (may_lay r.0 r.1.lawful c.args.symbol.now c.args.options.now.at c.args.link.now r.2);
      few = subst (λ (ps : List Piece). rows_in ps ≤ 2000000) (sym c.items.ensures) (few_rows r.0 r.1.lawful c.args.symbol.now c.args.options.now.at c.args.link.now r.2);
    }

pub lay_table-requires : goal.lay_table-requires
lay_table-requires c =
    let r = c.requires.fits in
    let fits : FitsTry c.args.client c.args.symbol.now c.args.tip.now.next = record { client_fits = c.ranges.client.fits; is_name = c.in_ok-layout.ensures.is_name; version_fits = omega (arith, c.ranges) } in
    let laid = subst (λ (ps : List Piece). IsLaid c.args.client c.args.symbol.now c.args.tip.now.next c.args.options.now.cutting c.args.serial ps c.in_ok-layout.layout) c.items.ensures c.in_ok-layout.ensures.laid in
    link_index c.args.client c.args.serial c.args.symbol.now c.args.tip.now.next r.0 c.args.options.now.prune c.args.tip.now c.args.options.now.at c.args.link.now c.args.options.now.cutting c.in_ok-layout.layout fits r.1 r.2 laid

pub link_table-requires : goal.link_table-requires
link_table-requires c =
    let r = c.requires.fits in
    let fits : FitsTry c.args.client c.args.symbol.now c.args.tip.now.next = record { client_fits = c.ranges.client.fits; is_name = c.in_ok-layout.ensures.is_name; version_fits = omega (arith, c.ranges) } in
    let laid = subst (λ (ps : List Piece). IsLaid c.args.client c.args.symbol.now c.args.tip.now.next c.args.options.now.cutting c.args.serial ps c.in_ok-layout.layout) c.items.ensures c.in_ok-layout.ensures.laid in
    let index = link_index c.args.client c.args.serial c.args.symbol.now c.args.tip.now.next r.0 c.args.options.now.prune c.args.tip.now c.args.options.now.at c.args.link.now c.args.options.now.cutting c.in_ok-layout.layout fits r.1 r.2 laid in
    record {
      was = c.requires.was;
      rising = c.requires.rising;
      link = record {
        rows = index.few_rows;
        index = slots_key_of c.args.client c.in_ok-layout.layout.next c.args.symbol.now c.args.tip.now.next c.in_ok-layout.layout.slots c.in_ok-table.table.index c.in_ok-layout.ensures.is_name (c.in_ok-table.ensures.key ∙ c.in_ok-table.ensures.key_is);
      };
    }

pub changes_with-requires : goal.changes_with-requires
changes_with-requires c = is_made c.requires.fits.0 c.requires.fits.1.lawful c.args.symbol.now c.args.options.now.at c.args.link.now c.requires.fits.2

pub returns : goal.returns
returns c = λ before may fit.
    let layout : Layout = c.in_ok-layout.layout in
    let table = c.in_ok-table.ensures in
    let version_fits : c.args.tip.now.next < 2 ^ 64 = omega (arith, c.ranges) in
    let plan : Plan = record {
      puts = c.in_ok-linked.linked.puts;
      was = c.in_ok-linked.linked.entered.was;
      entry = c.in_ok-linked.linked.entered.entry;
      mark = c.in_ok-linked.linked.entered.mark;
      changes = c.in_ok-changes.changes;
      version = c.args.tip.now.next;
    } in
    let laid = subst (λ (ps : List Piece). IsLaid c.args.client c.args.symbol.now c.args.tip.now.next c.args.options.now.cutting c.args.serial ps layout) c.items.ensures c.in_ok-layout.ensures.laid in
    let row : LinkRow = record { version = c.args.tip.now.next; stamp = c.stamp.result; rows = layout.rows; index = c.in_ok-table.table.index } in
    let e = c.in_ok-linked.ensures in
    let element : AddsElement c.args.client c.in_ok-table.table.next c.args.symbol.now c.args.tip.now row c.in_ok-table.table.puts c.in_ok-linked.linked = record {
      element = e.element;
      puts_are = e.puts_are;
      spelled = search rules;
      was = e.was;
      entry = e.entry;
      mark = e.mark;
    } in
    plan_of c.args.client c.args.serial c.args.symbol.now c.args.tip.now.next before c.args.tip.now c.args.link.now c.args.options.now layout plan c.ranges.client.fits version_fits refl may fit laid
    (version_plan c.args.client c.args.tip.now.next c.args.symbol.now c.args.tip.now layout c.args.link.now.schema c.args.link.now.change c.args.options.now c.in_ok-table.table.puts table.put c.stamp.result c.in_ok-table.table.index c.in_ok-table.table.next plan
    c.in_ok-linked.linked refl refl refl refl refl (c.in_ok-changes.ensures ∙ ap (λ (ns : List ℕ). c.args.link.now.change ∷ removed ns) c.items-2.ensures)
    table.puts_are table.key_is table.spelled c.in_ok-layout.ensures.is_name c.stamp.ensures table.key table.next (subst (λ n. n < 2 ^ 64) (sym table.next) table.fits) element)
