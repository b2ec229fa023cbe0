use Rattle.std.proofs.Common.{rules, refl, sym}
use Rattle.program_run.specs.Preparing.{said}
use Rattle.program_run.proofs.prepare.find_script.Goals as goal

pub returns-in-Ok-clause-found : goal.returns-in-Ok-clause-found
returns-in-Ok-clause-found g c = record {
  found = record {
    said = said c.in-Some.name.now c.in-Some.options;
    words_are = sym c.in-Some.ensures.words;
    bytes = c.in_ok-bytes.bytes.items;
    held = c.in_ok-bytes.ensures.held;
    script_is = search rules;
  };
  says = refl;
}
