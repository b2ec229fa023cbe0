use Rattle.std.proofs.Common.{rules, arith, ◌≡◌, ◌<◌, ◌^◌, refl, ◌∙◌, ap, ◌++◌, ◌∷◌, [], List}
use Rattle.frame_write.specs.declared.plan.Plan.{Plan}
use Rattle.frame_write.specs.declared.puts.Prepared.{Prepared}
use Rattle.version_chain.specs.Marking.{element_key}
use Rattle.frame_write.specs.Plans.{puts_seen}
use Rattle.frame_write.proofs.PlanLemmas.{FitsTry, plan_is, small_rows, index_key_of}
use Rattle.frame_write.proofs.plan.plan_write.Goals as goal

pub put_table-requires : goal.put_table-requires
put_table-requires c = record { storable = c.requires.storable; tiles = (c.args.options.now.cutting, c.requires.tiles) }

pub link_table-requires : goal.link_table-requires
link_table-requires c =
    let table = c.in_ok-table.ensures in
    record {
      was = c.requires.was;
      rising = c.requires.rising;
      link = record {
        rows = small_rows c.args.frame.now c.requires.storable c.rows.result c.rows.ensures.rows;
        index = index_key_of c.args.client _ c.args.symbol.now c.args.tip.now.next c.args.frame.now c.in_ok-table.table.index table.is_name (table.key ∙ table.index_key_is);
      };
    }

pub returns : goal.returns
returns c = λ before walked.
    let table = c.in_ok-table.ensures in
    let element = c.in_ok-linked.ensures in
    let fits : FitsTry c.args.client c.args.symbol.now c.args.tip.now.next = record { client_fits = c.ranges.client.fits; is_name = table.is_name; version_fits = omega (arith, c.ranges) } in
    let plan : Plan = record {
      puts = c.in_ok-linked.linked.puts;
      was = c.in_ok-linked.linked.entered.was;
      entry = c.in_ok-linked.linked.entered.entry;
      mark = c.in_ok-linked.linked.entered.mark;
      changes = c.in_ok-changes.changes;
      version = c.args.tip.now.next;
    } in
    plan_is c.args.client c.args.serial c.args.symbol.now c.args.tip.now.next c.args.frame.now c.args.options.now.cutting c.args.tiles.now c.requires.storable c.requires.tiles fits table.fits
    c.args.options.now.at c.args.options.now.prune c.args.tip.now plan (record {
      made = table.made;
      index = table.index;
      element = element.element;
      row = record { version = c.args.tip.now.next; stamp = c.stamp.result; rows = c.rows.result; index = c.in_ok-table.table.index };
      version_is = refl;
      made_are = table.made_are;
      puts_are = element.puts_are
          ∙ (ap (λ (l : List Prepared). puts_seen l ++ (element_key c.args.client c.args.symbol.now c.in_ok-table.table.next, element.element) ∷ []) table.puts
          ∙ ap (λ n. puts_seen (table.made ++ table.index ∷ []) ++ (element_key c.args.client c.args.symbol.now n, element.element) ∷ []) table.next);
      index_key_is = table.index_key_is;
      index_spelled = table.index_spelled;
      element_spelled = search rules;
      was_is = element.was;
      number_is = refl;
      entry_is = element.entry ∙ ap (λ n. element_key c.args.client c.args.symbol.now n) table.next;
      mark_is = element.mark;
      changes_are = search rules;
      row_number = refl;
      row_stamp = c.stamp.ensures;
      row_rows = c.rows.ensures.rows;
      row_index = table.key;
    }) before walked c.args.options.now refl refl refl
