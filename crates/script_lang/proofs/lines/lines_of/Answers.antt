use Rattle.std.proofs.Common.{map, ap, ◌∙◌, [], ◌∷◌}
use Rattle.std.proofs.lemmas.List.{map-append}
use Rattle.script_lang.proofs.Parts.{lines_of-parts}
use Rattle.script_lang.proofs.lines.lines_of.Goals as goal

pub returns-then-is_empty : goal.returns-then-is_empty
returns-then-is_empty c =
    lines_of-parts c.args.bytes.now c.in-Some.last.now (map (λ line. line.now) c.pop.new.self.items) (map (λ line. line.now) c.in_ok-lines.lines.items) _ c.in_ok-lines.ensures
    (ap (map (λ line. line.now)) c.in-Some.ensures.items ∙ map-append (λ line. line.now) c.pop.new.self.items (c.in-Some.last ∷ [])) c.if-is_empty.ensures

pub returns : goal.returns
returns c =
    lines_of-parts c.args.bytes.now c.in-Some.last.now (map (λ line. line.now) c.pop.new.self.items) (map (λ line. line.now) c.in_ok-lines.lines.items) _ c.in_ok-lines.ensures
    (ap (map (λ line. line.now)) c.in-Some.ensures.items ∙ map-append (λ line. line.now) c.pop.new.self.items (c.in-Some.last ∷ [])) c.if-is_empty.ensures
