use Rattle.std.proofs.Common.{◌≡◌, ℕ, true, List, Option, option_copied, refl, sym, ap, ◌∙◌}
use Rattle.key_kind.specs.Names.{Name}
use Rattle.expr_clause.specs.declared.command.Command.{Command}
use Rattle.expr_clause.specs.declared.command.Command.TheVariants as commands
use Rattle.reply_model.specs.Kinds.{kind_of}
use Rattle.library_api.specs.Steps.{is_carried_out, reads_or_makes, client_of}
use Rattle.library_api.proofs.StepLemmas.{tried_command, none_lays, no_reclaim}
use Rattle.library_api.proofs.step.perform.Goals as goal

pub returns-in-Delete-clause-legal : goal.returns-in-Delete-clause-legal
returns-in-Delete-clause-legal g c =
    tried_command c.args.frames.now c.args.settings (g.B.Bucket.number c.args.bucket.now) (g.B.Bucket.limit c.args.bucket.now) (g.B.Bucket.faults c.args.bucket.now) (g.B.Bucket.faults c.delete.new.bucket)
    (g.B.Bucket.seen c.args.bucket.now) (g.B.Bucket.seen c.delete.new.bucket) c.args.command.now c.delete.result
    (commands.Delete c.in-Delete.symbol (option_copied c.lent.result)) (c.in-Delete.is ∙ ap (commands.Delete c.in-Delete.symbol) (sym c.lent.ensures)) c.delete.ensures.legal

pub returns-in-Delete-clause-lays : goal.returns-in-Delete-clause-lays
returns-in-Delete-clause-lays g c grows =
    none_lays c.args.settings (client_of c.args.frames.now c.args.settings (g.B.Bucket.number c.args.bucket.now) (g.B.Bucket.limit c.args.bucket.now)).session (g.B.Bucket.seen c.args.bucket.now) (g.B.Bucket.seen c.delete.new.bucket) c.args.command.now
    (commands.Delete c.in-Delete.symbol c.in-Delete.versions) c.delete.result c.in-Delete.is refl

pub returns-in-Delete-clause-looked : goal.returns-in-Delete-clause-looked
returns-in-Delete-clause-looked g c = λ symbol reclaim. no_reclaim c.args.command.now (commands.Delete c.in-Delete.symbol c.in-Delete.versions) symbol c.in-Delete.is refl reclaim

pub returns-in-Prune-clause-legal : goal.returns-in-Prune-clause-legal
returns-in-Prune-clause-legal g c =
    tried_command c.args.frames.now c.args.settings (g.B.Bucket.number c.args.bucket.now) (g.B.Bucket.limit c.args.bucket.now) (g.B.Bucket.faults c.args.bucket.now) (g.B.Bucket.faults c.prune.new.bucket)
    (g.B.Bucket.seen c.args.bucket.now) (g.B.Bucket.seen c.prune.new.bucket) c.args.command.now c.prune.result
    (commands.Prune c.in-Prune.symbol) c.in-Prune.is c.prune.ensures.legal

pub returns-in-Prune-clause-lays : goal.returns-in-Prune-clause-lays
returns-in-Prune-clause-lays g c grows =
    none_lays c.args.settings (client_of c.args.frames.now c.args.settings (g.B.Bucket.number c.args.bucket.now) (g.B.Bucket.limit c.args.bucket.now)).session (g.B.Bucket.seen c.args.bucket.now) (g.B.Bucket.seen c.prune.new.bucket) c.args.command.now
    (commands.Prune c.in-Prune.symbol) c.prune.result c.in-Prune.is refl

pub returns-in-Prune-clause-looked : goal.returns-in-Prune-clause-looked
returns-in-Prune-clause-looked g c = λ symbol reclaim. no_reclaim c.args.command.now (commands.Prune c.in-Prune.symbol) symbol c.in-Prune.is refl reclaim

pub returns-in-Reclaim-clause-legal : goal.returns-in-Reclaim-clause-legal
returns-in-Reclaim-clause-legal g c =
    tried_command c.args.frames.now c.args.settings (g.B.Bucket.number c.args.bucket.now) (g.B.Bucket.limit c.args.bucket.now) (g.B.Bucket.faults c.args.bucket.now) (g.B.Bucket.faults c.reclaim.new.bucket)
    (g.B.Bucket.seen c.args.bucket.now) (g.B.Bucket.seen c.reclaim.new.bucket) c.args.command.now c.reclaim.result
    (commands.Reclaim c.in-Reclaim.symbol) c.in-Reclaim.is c.reclaim.ensures.legal

pub returns-in-Reclaim-clause-lays : goal.returns-in-Reclaim-clause-lays
returns-in-Reclaim-clause-lays g c grows =
    none_lays c.args.settings (client_of c.args.frames.now c.args.settings (g.B.Bucket.number c.args.bucket.now) (g.B.Bucket.limit c.args.bucket.now)).session (g.B.Bucket.seen c.args.bucket.now) (g.B.Bucket.seen c.reclaim.new.bucket) c.args.command.now
    (commands.Reclaim c.in-Reclaim.symbol) c.reclaim.result c.in-Reclaim.is refl

-- what is left reads or makes a version
left_over : (command : Command) → is_carried_out command ≡ true → ((symbol : Name) (versions : Option (List ℕ)) → command ≡ commands.Delete symbol versions → ⊥)
    → ((symbol : Name) → command ≡ commands.Prune symbol → ⊥) → ((symbol : Name) → command ≡ commands.Reclaim symbol → ⊥) → reads_or_makes (kind_of command) ≡ true
left_over (commands.Delete symbol versions) out delete prune reclaim = absurd (delete symbol versions refl)
left_over (commands.Prune symbol) out delete prune reclaim = absurd (prune symbol refl)
left_over (commands.Reclaim symbol) out delete prune reclaim = absurd (reclaim symbol refl)
left_over (commands.Read symbol as_of range columns clauses) out delete prune reclaim = refl
left_over command out delete prune reclaim = out

pub read_or_make-requires-clause-of_kind : goal.read_or_make-requires-clause-of_kind
read_or_make-requires-clause-of_kind g c = left_over c.args.command.now c.requires.served c.in_default.not-Delete c.in_default.not-Prune c.in_default.not-Reclaim

pub returns-in_default-clause-looked : goal.returns-in_default-clause-looked
returns-in_default-clause-looked g c = λ symbol reclaim. absurd (c.in_default.not-Reclaim symbol reclaim)
