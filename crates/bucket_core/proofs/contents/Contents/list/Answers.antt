use Rattle.std.proofs.Common.{rules, ◌≡◌, filter, ap, ◌∙◌, option_copied}
use Rattle.std.specs.Map.{keys_of}
use Rattle.bucket_core.specs.Calls.{matches}
use Rattle.bucket_core.proofs.ContentsLemmas.{keys-shown}
use Rattle.bucket_core.proofs.contents.Contents.list.Goals as goal

pub returns : goal.returns
returns c = λ h shows.
    let whole : c.loop-key.keys ≡ filter (matches c.args.kind (option_copied c.args.name)) (keys_of c.args.self.now.entries.entries) = search rules in
    whole ∙ ap (filter (matches c.args.kind (option_copied c.args.name))) (keys-shown c.args.self.now.entries.entries h shows.entries)
