-- A whole run that is legal: a write, and then two clients that append at once, with one try.
use Rattle.std.proofs.Common.{[], ◌∷◌, refl, lit≤}
use Rattle.frame_core.specs.declared.refusal.Refusal.TheVariants as refusals
use Rattle.reply_model.specs.declared.outcome.Outcome.TheVariants as outcomes
use Rattle.reply_model.specs.Runs.{Talk, IsLegalRun}
use Rattle.reply_model.proofs.Covering.{all_covered}
use Rattle.model_examples.proofs.HonestWrites.{client, window, reply, writes, appends, met, write_is_legal, first_append_is_legal, second_append_is_moved}

abbrev first : Talk
first = record { client = client 1 1; commands = writes ∷ []; replies = reply 4 (4 ∷ []) (outcomes.Committed 0) ∷ []; windows = window 0 4 ∷ [] }

abbrev a : Talk
a = record { client = client 2 1; commands = appends ∷ []; replies = reply 11 (11 ∷ []) (outcomes.Committed 1) ∷ []; windows = window 4 11 ∷ [] }

abbrev b : Talk
b = record { client = client 3 1; commands = appends ∷ []; replies = reply 11 [] (outcomes.Refused (refusals.Moved 11)) ∷ []; windows = window 4 14 ∷ [] }

abbrev last : Talk
last = record { client = client 1 1; commands = []; replies = []; windows = [] }

pub two_appends_at_once : IsLegalRun met 0 first (a ∷ b ∷ []) last
two_appends_at_once = record {
  first_legal = (lit≤ tt, (lit≤ tt, write_is_legal 1 (lit≤ tt)), tt);
  clients_legal = ((lit≤ tt, (lit≤ tt, first_append_is_legal), tt), ((lit≤ tt, (lit≤ tt, second_append_is_moved), tt), tt));
  last_legal = tt;
  same_pass = refl;
  covered = all_covered 0 (first ∷ last ∷ a ∷ b ∷ []) met refl;
  apart = (((λ e. (tt, tt)), ((λ e. absurd cc), ((λ e. absurd cc), tt))), (((λ e. absurd cc), ((λ e. absurd cc), tt)), (((λ e. absurd cc), tt), (tt, tt))));
  no_fault = ((refl, tt), (tt, ((refl, tt), ((refl, tt), tt))));
  one_moment = (refl, (refl, (refl, tt)));
}
