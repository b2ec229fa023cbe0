use Rattle.std.proofs.Common.{List, cond, ap, ◌∙◌}
use Rattle.key_kind.specs.Names.{Name, same_name}
use Rattle.bucket_core.specs.declared.head.Head.{Head}
use Rattle.bucket_core.specs.Heads.{head_in, has_room}
use Rattle.bucket_core.proofs.HeadLemmas.{head_in-set_in_room}
use Rattle.bucket_core.proofs.head.Heads.set.Goals as goal

pub returns : goal.returns
returns c other =
    head_in-set_in_room c.insert.result c.self.inside.heads c.insert.new.self c.args.symbol c.args.head
    c.insert.ensures.updates c.insert.ensures.absent (ap (λ (es : List (Name × Head)). has_room es c.args.symbol) c.self.view_is ∙ c.requires.room) other
    ∙ ap (λ (es : List (Name × Head)). cond (same_name c.args.symbol other) c.args.head (head_in es other)) c.self.view_is
