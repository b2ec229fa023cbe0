-- A version that a read has found.
--     HasFound        what a call has seen and found before it gets the tiles
use Rattle.std.specs.Prelude.{◌≡◌, ℕ, ◌≤◌, Bool, true}
use Rattle.key_kind.specs.Names.{Name}
use Rattle.bucket_core.specs.History.{History}
use Rattle.bucket_core.specs.Laws.{Looks}
use Rattle.store_model.specs.Law.{IsClaimed}
use Rattle.expr_clause.specs.declared.command.AsOf.{AsOf}
use Rattle.frame_read.specs.declared.target.Target.{Target}
use Rattle.frame_read.specs.Targets.{IsTarget}

-- a call that began with this client, history and count of faults has come to this one by looks, and found the target of what is asked
pub record HasFound (client : ℕ) (sole : Bool) (before : ℕ) (old : History) (number : ℕ) (alone : Bool) (now : ℕ) (new : History) (symbol : Name) (as_of : AsOf) (target : Target) : Type 0 where
  pub same_number : number ≡ client
  pub stays_sole : sole ≡ true → alone ≡ true
  pub faults_rise : before ≤ now
  pub looks : Looks IsClaimed client sole old new
  pub target_is : IsTarget old new symbol as_of target
