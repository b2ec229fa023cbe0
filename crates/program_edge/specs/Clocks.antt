-- What a clock answers.
--     IsReading               the moment is the clock's reading, where it is told
use Rattle.std.specs.Prelude.{◌≡◌, ℤ, ⊤, Option, Some, None}

-- the moment is the reading, where that is told
abbrev pub IsReading : Option ℤ → ℤ → Type 0
IsReading None moment = ⊤
IsReading (Some reading) moment = moment ≡ reading
