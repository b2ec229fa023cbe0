-- Which calls of a thing in memory fail.
--     FailPlan                the numbers of the calls that fail, and how many calls and faults there were
--     no_calls                a plan before the first call
--     fails_next, after_call  whether the next call fails, and the plan after it
use Rattle.std.specs.Prelude.{ℕ, ◌+◌, ◌-◌, ◌^◌, Bool, ◌&&◌, if◌then◌else◌, List, nat_lt, nat_eq}
use Rattle.std.specs.List.{list_any}

-- the numbers of the calls that fail, counted from 1, and how many calls and faults there were, up to 2^64 - 1
pub record FailPlan : Type 0 where
  pub fails : List ℕ
  pub calls : ℕ
  pub faults : ℕ

-- a plan before the first call
abbrev pub no_calls : List ℕ → FailPlan
no_calls fails = record { fails = fails; calls = 0; faults = 0 }

-- one more, up to 2^64 - 1
abbrev pub one_more : ℕ → ℕ
one_more n = if nat_lt n (2 ^ 64 - 1) then n + 1 else n

-- whether the number of the next call is among those that fail
abbrev pub fails_next : FailPlan → Bool
fails_next plan = nat_lt plan.calls (2 ^ 64 - 1) && list_any (nat_eq (plan.calls + 1)) plan.fails

-- the plan after one more call
abbrev pub after_call : FailPlan → FailPlan
after_call plan = record plan { calls = one_more plan.calls; faults = if fails_next plan then one_more plan.faults else plan.faults }
