-- A commit that makes what is asked, told of the history that it was made on.
use Rattle.std.proofs.Common.{◌≡◌, ℕ, Bool, true, map, refl, inl, inr, Some, Result, Ok, Err}
use Rattle.frame_core.specs.declared.refusal.Refused.{Refused}
use Rattle.key_kind.specs.Names.{Name}
use Rattle.bucket_core.specs.declared.event.Change.{Change}
use Rattle.bucket_core.specs.declared.event.Change.TheVariants as changes
use Rattle.bucket_core.specs.History.{History}
use Rattle.store_model.specs.Commits.{is_version}
use Rattle.store_model.specs.Library.{State, Version, new_version}
use Rattle.version_chain.specs.Traces.{Went}
use Rattle.reply_model.specs.Tries.{put_of}
use Rattle.frame_write.specs.declared.options.Committed.{Committed}
use Rattle.frame_write.specs.Tries.{Made, DidCommit, DidFail, DidTry}

-- a change that makes a version is one
pub makes_version : (st : State) (change : Change) (v : Version) → new_version st change ≡ Some v → is_version change ≡ true
makes_version st (changes.Wrote frame at) v e = refl
makes_version st (changes.Appended frame at) v e = refl
makes_version st (changes.Updated frame range at) v e = refl
makes_version st (changes.Removed versions) v e = absurd cc
makes_version st (changes.Held holder version) v e = absurd cc
makes_version st (changes.Released holder) v e = absurd cc
makes_version st (changes.Discarded pieces) v e = absurd cc
makes_version st changes.Restated v e = absurd cc

-- what follows from what was asked, of a commit over this history
module _ (client : ℕ) (sole : Bool) (symbol : Name) (Asked Other : Made → Type 0) (old : History) (follows : (m : Made) → Went client sole old m.before (map (put_of client) m.puts) → Asked m → Other m) where
  commit_on : (new : History) (done : Committed) → DidCommit client sole symbol Asked old new done → DidCommit client sole symbol Other old new done
  commit_on new done d = record {
    made = d.made;
    was = d.was;
    entry = d.entry;
    is_try = d.is_try;
    index = d.index;
    asked = follows d.made d.went d.asked;
    newest = d.newest;
    went = d.went;
    lawful = d.lawful;
    version = d.version;
    place = d.place;
  }

  fail_on : (limit before now from : ℕ) (new : History) (refused : Refused) → DidFail client sole symbol Asked limit before now from old new refused → DidFail client sole symbol Other limit before now from old new refused
  fail_on limit before now from new refused d = elim d [
    | inl s ↦ inl s
    | inr s ↦ inr (record { done = s.done; commit = commit_on new s.done s.commit; why = s.why; stops = s.stops; rose = s.rose })
  ]

  pub try_on : (limit before now from : ℕ) (new : History) (r : Result Committed Refused) → DidTry client sole symbol Asked limit before now from old new r → DidTry client sole symbol Other limit before now from old new r
  try_on limit before now from new (Ok done) d = commit_on new done d
  try_on limit before now from new (Err refused) d = elim d [
    | inl m ↦ inl m
    | inr f ↦ inr (fail_on limit before now from new refused f)
  ]
