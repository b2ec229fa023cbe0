use Rattle.std.proofs.Common.{◌≡◌, ◌∙◌, ◌<◌, ◌≤◌, max, sym, arith, length, map, ap, true, false, get_or, take, []}
use Rattle.std.proofs.lemmas.List.{length-map}
use Rattle.frame_core.specs.Columns.{column_cells}
use Rattle.frame_core.specs.RawFrames.{typed_cells, is_bad_column}
use Rattle.frame_core.proofs.RawLemmas.{names_lack, values_lack, nothing_left, column_bad, column_good}
use Rattle.frame_core.proofs.making.bad_column.Goals as goal

pub returns-then-place-names : goal.returns-then-place-names
returns-then-place-names c =
    let short : length c.args.raw.now.names ≤ c.loop-place.place = omega (arith, ap length c.items-names.ensures) in
    let within : c.loop-place.place < max (length c.args.raw.now.names) (length (map typed_cells c.args.raw.now.columns)) = omega (arith, length-map c.args.raw.now.columns typed_cells) in
    sym (names_lack _ _ _ _ _ _ within short) ∙ c.loop-place.invariant

pub returns-then-place-columns : goal.returns-then-place-columns
returns-then-place-columns c =
    let short : length (map typed_cells c.args.raw.now.columns) ≤ c.loop-place.place = omega (arith, ap length c.items-columns.ensures, length-map c.args.raw.now.columns typed_cells) in
    let within : c.loop-place.place < max (length c.args.raw.now.names) (length (map typed_cells c.args.raw.now.columns)) = omega (arith, length-map c.args.raw.now.columns typed_cells) in
    sym (values_lack _ _ _ _ _ _ within short) ∙ c.loop-place.invariant

pub returns-then-is_bad : goal.returns-then-is_bad
returns-then-is_bad c =
    let named : c.loop-place.place < length c.args.raw.now.names = omega (arith, ap length c.items-names.ensures) in
    let valued : c.loop-place.place < length c.args.raw.now.columns = omega (arith, ap length c.items-columns.ensures) in
    let bad : is_bad_column (take c.loop-place.place c.args.raw.now.names) (length c.args.raw.now.stamps) (get_or c.args.raw.now.names c.loop-place.place []) (get_or (map column_cells c.args.raw.now.columns) c.loop-place.place []) ≡ true = rw (← c.items-names.ensures, ← c.items-columns.ensures, ← c.len.ensures) (sym c.is_bad.ensures ∙ c.if-is_bad.true) in
    column_bad _ _ _ _ _ _ named valued bad c.loop-place.invariant

pub loop-place-preserved : goal.loop-place-preserved
loop-place-preserved c =
    let named : c.loop-place.place < length c.args.raw.now.names = omega (arith, ap length c.items-names.ensures) in
    let valued : c.loop-place.place < length c.args.raw.now.columns = omega (arith, ap length c.items-columns.ensures) in
    let good : is_bad_column (take c.loop-place.place c.args.raw.now.names) (length c.args.raw.now.stamps) (get_or c.args.raw.now.names c.loop-place.place []) (get_or (map column_cells c.args.raw.now.columns) c.loop-place.place []) ≡ false = rw (← c.items-names.ensures, ← c.items-columns.ensures, ← c.len.ensures) (sym c.is_bad.ensures ∙ c.if-is_bad.false) in
    column_good _ _ _ _ _ _ named valued good c.loop-place.invariant

pub returns : goal.returns
returns c =
    let no_names : length c.args.raw.now.names ≤ c.loop-place.place = omega arith in
    let no_values : length (map typed_cells c.args.raw.now.columns) ≤ c.loop-place.place = omega (arith, length-map c.args.raw.now.columns typed_cells) in
    sym (nothing_left _ _ _ _ _ _ no_names no_values) ∙ c.loop-place.invariant
