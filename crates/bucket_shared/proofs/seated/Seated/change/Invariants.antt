use Rattle.bucket_shared.proofs.seated.Seated.change.Given as goal

abbrev pub ghosts-change_named : goal.ghosts-change_named
ghosts-change_named g a = record { event = g.C.Change.event a.change a.self.now.seat.me.0.badge.number }
