use Rattle.std.proofs.Common.{rules, ◌≡◌, List, [], ◌∷◌, ◌++◌, Some, sym, ap, ◌∙◌}
use Rattle.script_lang.specs.declared.client.ClientPart.{ClientPart}
use Rattle.script_lang.specs.Clients.{in_last_client}
use Rattle.script_lang.proofs.Clients.{in_last_client-append}
use Rattle.script_lang.proofs.client.in_last_client.Goals as goal

pub returns : goal.returns
returns c =
    let parts : c.args.clients ≡ c.pop.new.self.items ++ c.in-Some.part ∷ [] = sym c.into_vec-parts.ensures ∙ c.in-Some.ensures.items in
    let grown : c.pop.new.self.items ++ record c.in-Some.part { commands = c.in-Some.part.commands ++ c.args.command ∷ [] } ∷ [] ≡ c.push.new.self = search rules in
    ap (λ (list : List ClientPart). in_last_client list c.args.command) parts ∙ in_last_client-append c.pop.new.self.items c.in-Some.part c.args.command ∙ ap (λ (list : List ClientPart). Some list) grown
