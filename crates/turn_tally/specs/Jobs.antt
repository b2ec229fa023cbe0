-- AllMade: each job was done by a seat of its own. Gave: a number that a seat has or gave out itself.
use Rattle.std.specs.Prelude.{◌≡◌, ◌<◌, ℕ, List, [], ◌∷◌, ◌⊎◌, ⊤}
use Rattle.turn_cell.specs.declared.badge.Badge.{Badge}
use Rattle.turn_cell.specs.Badges.{Among, Has}
use Rattle.turn_tally.specs.declared.mark.Mark.{Mark}
use Rattle.turn_tally.specs.Marks.{marks, marks_by}

-- the seat's own number, or one that it gave out
abbrev pub Gave : Badge → ℕ → Type 0
Gave b m = (m ≡ b.number) ⊎ Among m b.gave

-- for each job the seat has a number, above m and above those of the jobs before, whose marks are those of the job's amounts, in order
abbrev pub AllMade : List (List ℕ) → ℕ → Badge → List Mark → Type 0
AllMade [] m b log = ⊤
AllMade (job ∷ jobs) m b log = (n : ℕ) × (m < n) × Has b n × (marks_by n log ≡ marks n job) × AllMade jobs n b log
