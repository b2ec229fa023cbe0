use Rattle.std.specs.String.{string_bytes}
use Rattle.program_run.specs.CommandLine.{first_set}
use Rattle.program_run.proofs.WordPairs.{few-words}
use Rattle.program_run.proofs.words.read_words.Goals as goal

pub returns-in_default-clause-words : goal.returns-in_default-clause-words
returns-in_default-clause-words c = few-words first_set string_bytes c.args.words.now c.in_default.len_below
