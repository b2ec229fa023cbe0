use Rattle.bucket_shared.specs.Passes.{store_of, badge_of}
use Rattle.client_sessions.proofs.blocks.session.Given as goal

-- the pass stays what it is
abbrev pub ghosts-kept_session : goal.ghosts-kept_session
ghosts-kept_session g a = record { store = store_of a.pass; badge = badge_of a.pass }
