use Rattle.std.proofs.Common.{List, map, refl, sym, ◌∙◌, subst, inl, inr, option_copied}
use Rattle.std.specs.Prelude.{Contains, filter, IfErr}
use Rattle.std.specs.List.{AllZip, AllByRecursion}
use Rattle.index_tree.specs.declared.index.Slot.{Slot}
use Rattle.index_tree.specs.declared.index.Index.{Index}
use Rattle.index_tree.specs.Covering.{covers}
use Rattle.store_model.specs.Law.{IsClaimed}
use Rattle.version_chain.proofs.SteadyLemmas.{on_err}
use Rattle.frame_read.specs.Fetches.{LacksKey, IsIndexKey}
use Rattle.frame_read.proofs.FetchLemmas.{lacks_weaker}
use Rattle.reply_model.specs.ReadAnswers.{places_asked}
use Rattle.frame_read.specs.TileSets.{IsAskedSchema, IsFetchKey, IsGot}
use Rattle.frame_read.proofs.LoopLemmas.{looks_more, index_later}
use Rattle.frame_read.proofs.PlaceLemmas.{filter_of}
use Rattle.frame_read.proofs.fetching.fetch.Goals as goal

pub get_tiles-requires : goal.get_tiles-requires
get_tiles-requires g c =
    let wanted = c.in_ok-schema.ensures.wanted in
    let index = wanted.0 in
    record { slots = (index, wanted.1, subst (AllByRecursion (Contains index.slots)) (sym (c.items.ensures ∙ wanted.2.slots_are)) (filter_of (covers c.args.range (places_asked (option_copied c.args.columns) index)) index.slots)) }

pub returns-in-Ok-clause-looks : goal.returns-in-Ok-clause-looks
returns-in-Ok-clause-looks g c =
    looks_more IsClaimed (g.B.Bucket.number c.args.bucket.now) (g.B.Bucket.sole c.args.bucket.now) (g.B.Bucket.number c.wanted.new.bucket) (g.B.Bucket.sole c.wanted.new.bucket)
    (g.B.Bucket.seen c.args.bucket.now) (g.B.Bucket.seen c.wanted.new.bucket) (g.B.Bucket.seen c.get_tiles.new.bucket)
    c.wanted.ensures.steady.same_number c.wanted.ensures.steady.stays_sole c.wanted.ensures.looks c.get_tiles.ensures.looks

pub returns-in-Ok-clause-tiles : goal.returns-in-Ok-clause-tiles
returns-in-Ok-clause-tiles g c =
    let wanted = c.in_ok-schema.ensures.wanted in
    record {
      index = wanted.0;
      index_is = index_later c.get_tiles.ensures.looks.others (g.B.Bucket.seen c.wanted.new.bucket) (g.B.Bucket.seen c.get_tiles.new.bucket) c.args.target.now wanted.0 c.get_tiles.ensures.looks.is wanted.1;
      range_is = refl;
      schema = wanted.2.schema;
      got = subst (λ (slots : List Slot). AllZip (IsGot (g.B.Bucket.seen c.get_tiles.new.bucket)) slots c.in-Ok.tiles) (c.items.ensures ∙ wanted.2.slots_are) c.in-Ok.ensures.tiles;
    }

pub returns-in-Err-clause-looks : goal.returns-in-Err-clause-looks
returns-in-Err-clause-looks g c =
    looks_more IsClaimed (g.B.Bucket.number c.args.bucket.now) (g.B.Bucket.sole c.args.bucket.now) (g.B.Bucket.number c.wanted.new.bucket) (g.B.Bucket.sole c.wanted.new.bucket)
    (g.B.Bucket.seen c.args.bucket.now) (g.B.Bucket.seen c.wanted.new.bucket) (g.B.Bucket.seen c.get_tiles.new.bucket)
    c.wanted.ensures.steady.same_number c.wanted.ensures.steady.stays_sole c.wanted.ensures.looks c.get_tiles.ensures.looks

pub returns-in_err-schema-clause-lacks : goal.returns-in_err-schema-clause-lacks
returns-in_err-schema-clause-lacks g c =
    let new = g.B.Bucket.seen c.wanted.new.bucket in
    on_err (λ r. IfErr r (LacksKey new c.args.target.now (IsFetchKey c.args.range (option_copied c.args.columns)))) c.from_residual.result c.in_err-schema.field-0.0 c.from_residual.ensures.0 c.from_residual.ensures.1
    (lacks_weaker new c.args.target.now.symbol c.args.target.now.version IsIndexKey (IsFetchKey c.args.range (option_copied c.args.columns)) c.in_err-schema.field-0.0.place (λ link key is. inl is) c.in_err-schema.field-0.0.why c.in_err-schema.ensures.lacks)

pub returns-in-Err-clause-lacks : goal.returns-in-Err-clause-lacks
returns-in-Err-clause-lacks g c =
    let new = g.B.Bucket.seen c.get_tiles.new.bucket in
    let columns = option_copied c.args.columns in
    let wanted = c.in_ok-schema.ensures.wanted in
    let index = wanted.0 in
    let slots = c.items.ensures ∙ wanted.2.slots_are in
    let all = subst (AllByRecursion (Contains index.slots)) (sym slots) (filter_of (covers c.args.range (places_asked columns index)) index.slots) in
    lacks_weaker new c.args.target.now.symbol c.args.target.now.version _ (IsFetchKey c.args.range columns) c.in-Err.refused.place
    (λ link key s. inr (
      c.in_ok-schema.schema,
      subst (λ (i : Index). IsAskedSchema i.schema columns c.in_ok-schema.schema) (sym s.0) wanted.2.schema,
      subst (λ (i : Index). Contains (map (λ (s : Slot). s.key) (filter (covers c.args.range (places_asked columns i)) i.slots)) key) (sym s.0)
          (subst (λ (ss : List Slot). Contains (map (λ (s : Slot). s.key) ss) key) slots s.1),
    )) c.in-Err.refused.why (c.in-Err.ensures.lacks index wanted.1 all)
