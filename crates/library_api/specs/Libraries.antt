-- What a library is.
--     Library             a client's bucket, and its settings
--     AreSettings         settings within their limits
use Rattle.std.specs.Prelude.{◌≤◌}
use Rattle.library_api.specs.declared.settings.Settings.{Settings}

-- a client's bucket, and how the client's commands are carried out
pub record Library (B : Type 0) : Type 0 where
  pub bucket : B
  pub settings : Settings

-- 1 to 1,000 tries, and 1 to 64 workers
pub record AreSettings (settings : Settings) : Type 0 where
  pub some_tries : 1 ≤ settings.tries
  pub few_tries : settings.tries ≤ 1000
  pub some_workers : 1 ≤ settings.workers
  pub few_workers : settings.workers ≤ 64
