use Rattle.std.proofs.Common.{◌≡◌, ℕ, map, nat_eq, ap, ◌∙◌}
use Rattle.std.specs.Prelude.{count_by}
use Rattle.store_model.specs.declared.chain.LinkRow.{LinkRow}
use Rattle.store_model.specs.declared.hold.HoldRow.{HoldRow}
use Rattle.frame_read.specs.Versions.{count_in, row_counted}
use Rattle.frame_read.proofs.versions.version_rows.Goals as goal

pub returns : goal.returns
returns c =
    let tombs : (n : ℕ) → count_in c.in_ok-tombs.tombs n ≡ count_by (nat_eq n) c.args.state.now.tombs = λ n. c.in_ok-tombs.ensures n ∙ ap (count_by (nat_eq n)) c.items.ensures in
    let holds : (n : ℕ) → count_in c.in_ok-holds.holds n ≡ count_by (λ (hold : HoldRow). nat_eq n hold.version) c.args.state.now.holds = λ n. c.in_ok-holds.ensures n ∙ ap (count_by (λ (hold : HoldRow). nat_eq n hold.version)) c.items-2.ensures in
    c.in_ok-rows.ensures
    ∙ (ap (map (row_counted c.in_ok-tombs.tombs c.in_ok-holds.holds)) c.items-3.ensures
    ∙ (λ i. map (λ (row : LinkRow). record { version = row.version; stamp = row.stamp; live = nat_eq (tombs row.version i) 0; holds = holds row.version i }) c.args.state.now.links))
