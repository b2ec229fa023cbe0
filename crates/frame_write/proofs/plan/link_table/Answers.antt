use Rattle.std.proofs.Common.{rules, ◌++◌, [], ◌∷◌, ap, sym, ◌∙◌}
use Rattle.std.specs.Arc.{arc_value}
use Rattle.key_kind.specs.KeyText.{key_text}
use Rattle.frame_write.specs.Plans.{puts_seen}
use Rattle.frame_write.proofs.VersionKeys.{seen_more}
use Rattle.frame_write.proofs.plan.link_table.Goals as goal

pub returns : goal.returns
returns c = record {
  element = arc_value c.in_ok-put.put.body;
  puts_are = ap puts_seen c.in_ok-entry.ensures.puts
      ∙ (seen_more c.args.table.puts (c.in_ok-put.put ∷ []) ∙ ap (λ k. puts_seen c.args.table.puts ++ (k, arc_value c.in_ok-put.put.body) ∷ []) c.in_ok-put.ensures.key);
  spelled = search rules;
  was = c.in_ok-entered.ensures.was;
  entry = c.in_ok-entered.ensures.entry ∙ (c.in_ok-entry.ensures.key ∙ c.in_ok-put.ensures.key);
  mark = c.in_ok-entered.ensures.mark ∙ ap key_text (sym c.in_ok-entered.ensures.entry);
}
