-- What each pass keeps of the makers of the events that it has seen.
use Rattle.std.proofs.Common.{◌≡◌, true}
use Rattle.bucket_shared.specs.declared.pass.Pass.{Pass}
use Rattle.bucket_shared.specs.Authors.{AreEnded, AreHad}
use Rattle.bucket_shared.specs.Passes.{badge_of}

-- the clients whose passes were joined have made no event since
pub ended_of : (p : Pass) → ∥ AreEnded (badge_of p) p.seated.seat.me.0.seen ∥₁
ended_of p = p.seated.ended

-- where no other pass is in use, each event is of a client that the pass has
pub had_of : (p : Pass) → ∥ AreHad (badge_of p) p.seated.seat.me.0.seen ∥₁
had_of p = p.seated.had

-- the pass is in use
pub used_of : (p : Pass) → (badge_of p).in_use ≡ true
used_of p = p.seated.rests.0
