use Rattle.std.proofs.Common.{arith, ◌≡◌, ◌+◌, ◌<◌, ◌^◌, suc, length, sym, subst, ◌∙◌, List, ap, Ok}
use Rattle.index_tree.specs.declared.index.Slot.{Slot}
use Rattle.index_tree.specs.IndexRules.{IsIndex}
use Rattle.frame_write.specs.Placing.{index_key}
use Rattle.frame_write.proofs.PlanLemmas.{FitsTry, index_is}
use Rattle.frame_write.proofs.plan.put_table.Goals as goal

pub place_index-requires : goal.place_index-requires
place_index-requires c =
    let placed = c.in_ok-placed.ensures in
    let small : suc (c.args.serial + length c.args.tiles.now) < 2 ^ 64 = omega (arith, placed.next, c.in-Some.ensures.0) in
    let fits : FitsTry c.args.client c.args.symbol.now c.args.version = record { client_fits = c.ranges.client.fits; is_name = placed.is_name; version_fits = omega (arith, c.ranges) } in
    subst (λ (slots : List Slot). IsIndex (record { schema = c.args.frame.now.schema; rows = length c.args.frame.now.rows; slots = slots })) (sym placed.slots)
    (index_is c.args.client c.args.serial c.args.symbol.now c.args.version c.args.frame.now c.requires.tiles.0 c.args.tiles.now c.requires.storable c.requires.tiles.1 fits small)

pub returns : goal.returns
returns c =
    let placed = c.in_ok-placed.ensures in
    record {
      made = c.in_ok-placed.placed.puts;
      index = c.in_ok-put.put;
      puts = c.in_ok-index.ensures.puts;
      made_are = placed.puts;
      index_key_is = c.in_ok-put.ensures.key ∙ ap (λ n. index_key c.args.client c.args.symbol.now c.args.version n c.args.frame.now) placed.next;
      index_spelled = c.in_ok-put.ensures.body ∙ ap (λ slots. Ok (record { schema = c.args.frame.now.schema; rows = length c.args.frame.now.rows; slots = slots })) placed.slots;
      key = c.in_ok-index.ensures.key;
      next = omega (arith, placed.next, c.in-Some.ensures.1);
      fits = omega (arith, placed.next, c.in-Some.ensures.0);
      is_name = placed.is_name;
    }
