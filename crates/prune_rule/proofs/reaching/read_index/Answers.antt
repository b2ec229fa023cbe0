use Rattle.std.proofs.Common.{◌≡◌, rules, sym, ap, ◌∙◌, subst, Ok, Some}
use Rattle.std.specs.Prelude.{option_map}
use Rattle.std.specs.Arc.{arc_value}
use Rattle.index_tree.specs.IndexText.{index_of}
use Rattle.bucket_core.specs.History.{stored}
use Rattle.prune_rule.proofs.SetLemmas.{look_refused, index_found}
use Rattle.prune_rule.proofs.reaching.read_index.Goals as goal

pub returns-in-Err-clause-refused : goal.returns-in-Err-clause-refused
returns-in-Err-clause-refused g c = look_refused _ _ _ _ _ _ _ _ _ c.place-place.ensures c.refused_by.ensures c.in-Err.ensures.looks c.in-Err.ensures.refused

pub returns-in-None-clause-found : goal.returns-in-None-clause-found
returns-in-None-clause-found g c = sym c.in-Ok.ensures.found.body ∙ ap (option_map arc_value) c.in-None.is

pub returns-in-Ok-read-clause-found : goal.returns-in-Ok-read-clause-found
returns-in-Ok-read-clause-found g c =
    let stands : stored (g.B.Bucket.seen c.get.new.self) c.args.key.now ≡ Some (arc_value c.in-Some.body) = sym c.in-Ok.ensures.found.body ∙ ap (option_map arc_value) c.in-Some.is in
    let same : c.bytes.result.now ≡ arc_value c.in-Some.body = search rules in
    index_found _ _ (arc_value c.in-Some.body) _ c.requires.kind stands (subst (λ b. index_of b ≡ Ok c.in-Ok-read.index) same c.in-Ok-read.ensures.found)
