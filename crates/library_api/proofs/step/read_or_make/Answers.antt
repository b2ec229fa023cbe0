use Rattle.std.proofs.Common.{◌≡◌, List, Option, true, option_copied, refl, sym, ap, subst, ◌∙◌}
use Rattle.frame_core.specs.Texts.{Text}
use Rattle.frame_core.specs.Ranges.{Range}
use Rattle.key_kind.specs.Names.{Name}
use Rattle.expr_clause.specs.declared.clause.Clause.{Clause}
use Rattle.expr_clause.specs.Fitting.{fits}
use Rattle.expr_clause.specs.declared.command.AsOf.{AsOf}
use Rattle.expr_clause.specs.declared.command.Command.{Command}
use Rattle.expr_clause.specs.declared.command.Command.TheVariants as commands
use Rattle.reply_model.specs.Kinds.{kind_of, kind_makes}
use Rattle.library_api.specs.Steps.{is_carried_out, reads_or_makes, client_of}
use Rattle.library_api.proofs.StepLemmas.{any_command, none_lays}
use Rattle.library_api.proofs.step.read_or_make.Goals as goal

pub read-requires : goal.read-requires
read-requires g c = record { small = subst (λ cs. fits cs ≡ true) (sym c.items-clauses.ensures) (subst (λ x. is_carried_out x ≡ true) c.in-Read.is c.requires.served) }

pub returns-in-Read-clause-legal : goal.returns-in-Read-clause-legal
returns-in-Read-clause-legal g c =
    any_command c.args.frames.now c.args.settings (g.B.Bucket.number c.args.bucket.now) (g.B.Bucket.limit c.args.bucket.now) (g.B.Bucket.faults c.args.bucket.now) (g.B.Bucket.faults c.read.new.bucket)
    (g.B.Bucket.seen c.args.bucket.now) (g.B.Bucket.seen c.read.new.bucket) c.args.command.now c.read.result
    (commands.Read c.in-Read.symbol c.in-Read.as_of c.in-Read.range (option_copied c.lent-columns.result) c.items-clauses.result.now)
    (c.in-Read.is ∙ ap (λ names. commands.Read c.in-Read.symbol c.in-Read.as_of c.in-Read.range names c.in-Read.clauses) (sym c.lent-columns.ensures)
    ∙ ap (commands.Read c.in-Read.symbol c.in-Read.as_of c.in-Read.range (option_copied c.lent-columns.result)) (sym c.items-clauses.ensures)) c.read.ensures.legal

pub returns-in-Read-clause-lays : goal.returns-in-Read-clause-lays
returns-in-Read-clause-lays g c grows =
    none_lays c.args.settings (client_of c.args.frames.now c.args.settings (g.B.Bucket.number c.args.bucket.now) (g.B.Bucket.limit c.args.bucket.now)).session (g.B.Bucket.seen c.args.bucket.now) (g.B.Bucket.seen c.read.new.bucket) c.args.command.now
    (commands.Read c.in-Read.symbol c.in-Read.as_of c.in-Read.range c.in-Read.columns c.in-Read.clauses) c.read.result c.in-Read.is refl

pub returns-in-Keys-clause-legal : goal.returns-in-Keys-clause-legal
returns-in-Keys-clause-legal g c =
    any_command c.args.frames.now c.args.settings (g.B.Bucket.number c.args.bucket.now) (g.B.Bucket.limit c.args.bucket.now) (g.B.Bucket.faults c.args.bucket.now) (g.B.Bucket.faults c.keys.new.bucket)
    (g.B.Bucket.seen c.args.bucket.now) (g.B.Bucket.seen c.keys.new.bucket) c.args.command.now c.keys.result
    (commands.Keys c.in-Keys.symbol) c.in-Keys.is c.keys.ensures.legal

pub returns-in-Keys-clause-lays : goal.returns-in-Keys-clause-lays
returns-in-Keys-clause-lays g c grows =
    none_lays c.args.settings (client_of c.args.frames.now c.args.settings (g.B.Bucket.number c.args.bucket.now) (g.B.Bucket.limit c.args.bucket.now)).session (g.B.Bucket.seen c.args.bucket.now) (g.B.Bucket.seen c.keys.new.bucket) c.args.command.now
    (commands.Keys c.in-Keys.symbol) c.keys.result c.in-Keys.is refl

pub returns-in-Versions-clause-legal : goal.returns-in-Versions-clause-legal
returns-in-Versions-clause-legal g c =
    any_command c.args.frames.now c.args.settings (g.B.Bucket.number c.args.bucket.now) (g.B.Bucket.limit c.args.bucket.now) (g.B.Bucket.faults c.args.bucket.now) (g.B.Bucket.faults c.versions.new.bucket)
    (g.B.Bucket.seen c.args.bucket.now) (g.B.Bucket.seen c.versions.new.bucket) c.args.command.now c.versions.result
    (commands.Versions c.in-Versions.symbol) c.in-Versions.is c.versions.ensures.legal

pub returns-in-Versions-clause-lays : goal.returns-in-Versions-clause-lays
returns-in-Versions-clause-lays g c grows =
    none_lays c.args.settings (client_of c.args.frames.now c.args.settings (g.B.Bucket.number c.args.bucket.now) (g.B.Bucket.limit c.args.bucket.now)).session (g.B.Bucket.seen c.args.bucket.now) (g.B.Bucket.seen c.versions.new.bucket) c.args.command.now
    (commands.Versions c.in-Versions.symbol) c.versions.result c.in-Versions.is refl

-- what is left makes a version
makes_left : (command : Command) → reads_or_makes (kind_of command) ≡ true → ((symbol : Name) (as_of : AsOf) (range : Range) (columns : Option (List Text)) (clauses : List Clause) → command ≡ commands.Read symbol as_of range columns clauses → ⊥)
    → ((symbol : Name) → command ≡ commands.Keys symbol → ⊥) → ((symbol : Name) → command ≡ commands.Versions symbol → ⊥) → kind_makes (kind_of command) ≡ true
makes_left (commands.Read symbol as_of range columns clauses) is read keys versions = absurd (read symbol as_of range columns clauses refl)
makes_left (commands.Keys symbol) is read keys versions = absurd (keys symbol refl)
makes_left (commands.Versions symbol) is read keys versions = absurd (versions symbol refl)
makes_left (commands.Finalize symbol append sorted at prune) is read keys versions = refl
makes_left command is read keys versions = is

pub make_version-requires-clause-of_kind : goal.make_version-requires-clause-of_kind
make_version-requires-clause-of_kind g c = makes_left c.args.command.now c.requires.of_kind c.in_default.not-Read c.in_default.not-Keys c.in_default.not-Versions
