use Rattle.std.proofs.Common.{◌≡◌, Some, subst}
use Rattle.key_kind.specs.declared.key.KeyKind.TheVariants.{Staged}
use Rattle.bucket_core.specs.Calls.{keys_that_match}
use Rattle.prune_rule.proofs.SetLemmas.{look_refused}
use Rattle.prune_rule.proofs.ListedLemmas.{staged_noted, none_noted, no_items}
use Rattle.prune_rule.proofs.piece_keys.add_pieces.Goals as goal

pub returns-then-is_empty-clause-noted : goal.returns-then-is_empty-clause-noted
returns-then-is_empty-clause-noted g c = none_noted _ _ _ _ (no_items c.args.consumed.now _ c.is_empty.ensures c.if-is_empty.true)

pub returns-in-Err-clause-refused : goal.returns-in-Err-clause-refused
returns-in-Err-clause-refused g c = look_refused _ _ _ _ _ _ _ _ _ c.place-place.ensures c.refused_by.ensures c.in-Err.ensures.looks c.in-Err.ensures.refused

pub returns-in-Ok-note_pieces-clause-noted : goal.returns-in-Ok-note_pieces-clause-noted
returns-in-Ok-note_pieces-clause-noted g c =
    let h = g.B.Bucket.seen c.list.new.self in
    let keys : c.in-Ok.listed.keys ≡ keys_that_match h (Some Staged) (Some c.args.symbol.now) = subst (λ n. c.in-Ok.listed.keys ≡ keys_that_match h (Some Staged) (Some n)) c.name.ensures.same c.in-Ok.ensures.listed.keys in
    staged_noted h c.args.symbol.now c.in-Ok.listed.keys c.args.consumed.now c.args.keys.now c.note_pieces.new.keys keys c.in-Ok-note_pieces.ensures
