use Rattle.std.proofs.Common.{List, ap, sym, subst, ◌∙◌}
use Rattle.key_kind.specs.Names.{Name}
use Rattle.bucket_core.specs.declared.head.Head.{Head}
use Rattle.bucket_core.specs.Heads.{no_head, head_in}
use Rattle.bucket_core.proofs.HeadLemmas.{Sets, head_in-room}
use Rattle.bucket_core.proofs.head.Heads.make_room.Goals as goal

pub returns-in-Ok-clause-same : goal.returns-in-Ok-clause-same
returns-in-Ok-clause-same c other =
    head_in-room c.self.inside.heads.entries c.insert.new.self.entries c.args.symbol.now
    (subst (λ (k : Name). Sets c.self.inside.heads.entries c.insert.new.self.entries k no_head) c.in_ok-symbol.ensures c.in-Ok.ensures.updates.0)
    (sym c.contains_key.ensures ∙ c.if-contains_key.false) other
    ∙ ap (λ (es : List (Name × Head)). head_in es other) c.self.view_is
