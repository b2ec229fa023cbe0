use Rattle.std.proofs.Common.{◌≡◌, rules, refl, sym, ap, ◌∙◌, Some}
use Rattle.std.specs.Prelude.{option_map}
use Rattle.std.specs.Arc.{arc_value}
use Rattle.bucket_core.specs.History.{body_put}
use Rattle.frame_read.specs.Fetches.{Reaches}
use Rattle.frame_read.proofs.FetchLemmas.{reaches_later, reached_was_put, gone_here, lacks_here, within_end}
use Rattle.frame_read.proofs.objects.get_reached.Goals as goal

pub returns-in-Some-clause-body : goal.returns-in-Some-clause-body
returns-in-Some-clause-body g c =
    let new = g.B.Bucket.seen c.get.new.self in
    let reaches : Reaches new c.args.target.now.symbol c.args.target.now.version c.args.key.now =
    reaches_later c.get.ensures.looks.others (g.B.Bucket.seen c.args.bucket.now) new c.args.target.now.symbol c.args.target.now.version c.args.key.now c.get.ensures.looks.is c.requires.reached in
    let put : body_put new c.args.key.now ≡ Some (arc_value c.in-Some.body) =
    reached_was_put new c.args.target.now.symbol c.args.target.now.version c.args.key.now (arc_value c.in-Some.body) (g.met.B.Bucket.lawful c.get.new.self) reaches
    (sym c.in-Ok.ensures.found.body ∙ ap (option_map arc_value) c.in-Some.is) in
    search rules

pub returns-in-None-clause-refused : goal.returns-in-None-clause-refused
returns-in-None-clause-refused g c =
    let new = g.B.Bucket.seen c.get.new.self in
    let reaches : Reaches new c.args.target.now.symbol c.args.target.now.version c.args.key.now =
    reaches_later c.get.ensures.looks.others (g.B.Bucket.seen c.args.bucket.now) new c.args.target.now.symbol c.args.target.now.version c.args.key.now c.get.ensures.looks.is c.requires.reached in
    record {
      why = (
        refl,
        gone_here new c.in-Ok.found.place c.args.target.now.symbol c.args.target.now.version c.args.key.now c.in-Ok.ensures.found.place (g.met.B.Bucket.lawful c.get.new.self) reaches
            (sym c.in-Ok.ensures.found.body ∙ ap (option_map arc_value) c.in-None.is),
      );
      place = within_end c.get.ensures.looks.others (g.B.Bucket.seen c.args.bucket.now) new c.in-Ok.found.place c.get.ensures.looks.is c.in-Ok.ensures.found.place;
    }

pub returns-in-None-clause-lacks : goal.returns-in-None-clause-lacks
returns-in-None-clause-lacks g c = λ r.
    let new = g.B.Bucket.seen c.get.new.self in
    lacks_here new c.in-Ok.found.place c.args.target.now.symbol c.args.target.now.version c.args.key.now c.in-Ok.ensures.found.place
    (reaches_later c.get.ensures.looks.others (g.B.Bucket.seen c.args.bucket.now) new c.args.target.now.symbol c.args.target.now.version c.args.key.now c.get.ensures.looks.is r)
    (sym c.in-Ok.ensures.found.body ∙ ap (option_map arc_value) c.in-None.is)
