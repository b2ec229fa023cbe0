use Rattle.std.proofs.Common.{[], refl, sym, ◌∙◌, subst, arith}
use Rattle.bucket_core.specs.History.{AllByOthers}
use Rattle.version_chain.proofs.ElementForms.{walked_lawful}
use Rattle.version_chain.proofs.SteadyLemmas.{on_err}
use Rattle.version_chain.proofs.Walked.{looks_then, looks_length}
use Rattle.prune_rule.specs.DeadKeys.{NotesStaged, MissesKept, ReachesOnly, ReachesDead, FoundDead}
use Rattle.prune_rule.specs.Finding.{DidLook}
use Rattle.prune_rule.proofs.FindingLemmas.{kept_rows_put, dead_rows_put, referred_since, index_lost, found_all, look_met}
use Rattle.prune_rule.proofs.FindingEnds.{walk_finds}
use Rattle.prune_rule.proofs.finding.look_once.Goals as goal

pub dead_keys-requires : goal.dead_keys-requires
dead_keys-requires g c =
    let p = c.in_ok-rows.ensures.parted in
    let h = g.B.Bucket.seen c.part_symbol.new.bucket in
    let lawful = g.met.B.Bucket.lawful c.part_symbol.new.bucket in
    record { kept_put = kept_rows_put h c.args.symbol.now p.state p.at lawful c.in_ok-rows.field-0.rows p.parts.rows; dead_put = dead_rows_put h h [] c.args.symbol.now p.state p.at refl lawful lawful c.in_ok-rows.field-0.rows p.parts.rows }

pub returns-in_err-found-clause-looks : goal.returns-in_err-found-clause-looks
returns-in_err-found-clause-looks g c =
    looks_then _ _ _ _ _ _ _ c.part_symbol.ensures.steady.same_number c.part_symbol.ensures.steady.stays_sole c.part_symbol.ensures.looks c.dead_keys.ensures.looks

pub returns-in_err-found-clause-did : goal.returns-in_err-found-clause-did
returns-in_err-found-clause-did g c =
    on_err (DidLook (g.B.Bucket.number c.args.bucket.now) c.args.symbol.now (g.B.Bucket.faults c.args.bucket.now) (g.B.Bucket.faults c.dead_keys.new.bucket) (g.B.Bucket.seen c.args.bucket.now) (g.B.Bucket.seen c.dead_keys.new.bucket))
    c.from_residual-in_err-found.result c.in_err-found.field-0.0 c.from_residual-in_err-found.ensures.0 c.from_residual-in_err-found.ensures.1
    (walk_finds (g.B.Bucket.faults c.args.bucket.now) (g.B.Bucket.faults c.part_symbol.new.bucket) (g.B.Bucket.faults c.dead_keys.new.bucket) _ (g.B.Bucket.seen c.part_symbol.new.bucket) _ _ _
    (omega (arith, c.part_symbol.ensures.steady.faults_rise)) (looks_length _ _ _ _ (c.part_symbol.ensures.looks)) c.in_err-found.ensures.refused)

pub returns-in_err-referred_place-clause-looks : goal.returns-in_err-referred_place-clause-looks
returns-in_err-referred_place-clause-looks g c =
    looks_then _ _ _ _ _ _ _ (c.dead_keys.ensures.steady.same_number ∙ c.part_symbol.ensures.steady.same_number) (λ e. c.dead_keys.ensures.steady.stays_sole (c.part_symbol.ensures.steady.stays_sole e))
    (looks_then _ _ _ _ _ _ _ c.part_symbol.ensures.steady.same_number c.part_symbol.ensures.steady.stays_sole c.part_symbol.ensures.looks c.dead_keys.ensures.looks) c.referred_place.ensures.looks

pub returns-in_err-referred_place-clause-did : goal.returns-in_err-referred_place-clause-did
returns-in_err-referred_place-clause-did g c =
    on_err (DidLook (g.B.Bucket.number c.args.bucket.now) c.args.symbol.now (g.B.Bucket.faults c.args.bucket.now) (g.B.Bucket.faults c.referred_place.new.bucket) (g.B.Bucket.seen c.args.bucket.now) (g.B.Bucket.seen c.referred_place.new.bucket))
    c.from_residual-in_err-referred_place.result c.in_err-referred_place.field-0.0 c.from_residual-in_err-referred_place.ensures.0 c.from_residual-in_err-referred_place.ensures.1
    (walk_finds (g.B.Bucket.faults c.args.bucket.now) (g.B.Bucket.faults c.dead_keys.new.bucket) (g.B.Bucket.faults c.referred_place.new.bucket) _ (g.B.Bucket.seen c.dead_keys.new.bucket) _ _ _
    (omega (arith, c.part_symbol.ensures.steady.faults_rise, c.dead_keys.ensures.steady.faults_rise)) (looks_length _ _ _ _ (looks_then _ _ _ _ _ _ _ c.part_symbol.ensures.steady.same_number c.part_symbol.ensures.steady.stays_sole c.part_symbol.ensures.looks c.dead_keys.ensures.looks)) c.in_err-referred_place.ensures.refused)

pub returns-in_default-clause-looks : goal.returns-in_default-clause-looks
returns-in_default-clause-looks g c =
    looks_then _ _ _ _ _ _ _ (c.dead_keys.ensures.steady.same_number ∙ c.part_symbol.ensures.steady.same_number) (λ e. c.dead_keys.ensures.steady.stays_sole (c.part_symbol.ensures.steady.stays_sole e))
    (looks_then _ _ _ _ _ _ _ c.part_symbol.ensures.steady.same_number c.part_symbol.ensures.steady.stays_sole c.part_symbol.ensures.looks c.dead_keys.ensures.looks) c.referred_place.ensures.looks

pub returns-in_default-clause-did : goal.returns-in_default-clause-did
returns-in_default-clause-did g c =
    let p = c.in_ok-rows.ensures.parted in
    let h0 = g.B.Bucket.seen c.args.bucket.now in
    let h1 = g.B.Bucket.seen c.part_symbol.new.bucket in
    let h2 = g.B.Bucket.seen c.dead_keys.new.bucket in
    let law1 = g.met.B.Bucket.lawful c.part_symbol.new.bucket in
    let law2 = g.met.B.Bucket.lawful c.dead_keys.new.bucket in
    let walk = c.part_symbol.ensures.looks in
    let reach = c.dead_keys.ensures.looks in
    let last = c.referred_place.ensures.looks in
    let missing : MissesKept h1 h2 c.in_ok-rows.field-0.rows = subst (ReachesDead h1 h2 c.in_ok-rows.field-0.rows) c.in_default.is c.in_ok-found.ensures.reached in
    let since = referred_since h0 h1 h2 h2 h2 c.args.symbol.now p.state reach.others [] [] p.from p.at reach.is refl refl law1 law2 law2 law2 c.in_ok-rows.field-0.rows p.parts.rows missing.reached.none missing.reached.empty missing.kept missing.reached.reached missing.gone in
    let index = index_lost h0 h1 h2 h2 h2 c.args.symbol.now p.state reach.others [] [] p.from p.at reach.is refl refl law1 law2 law2 law2 c.in_ok-rows.field-0.rows p.parts.rows missing.reached.none missing.reached.empty missing.kept missing.reached.reached missing.gone in
    look_met (g.B.Bucket.number c.args.bucket.now) c.args.symbol.now h0 h1 h2 (g.B.Bucket.seen c.referred_place.new.bucket) p.state c.in_ok-referred_place.field-0 p.at p.from
    walk.others reach.others last.others walk.is walk.by_others reach.is (subst (λ n. AllByOthers n reach.others) c.part_symbol.ensures.steady.same_number reach.by_others)
    last.is (subst (λ n. AllByOthers n last.others) (c.dead_keys.ensures.steady.same_number ∙ c.part_symbol.ensures.steady.same_number) last.by_others) since c.in_ok-referred_place.ensures.place index

pub returns-in_err-keys-clause-looks : goal.returns-in_err-keys-clause-looks
returns-in_err-keys-clause-looks g c =
    looks_then _ _ _ _ _ _ _ (c.dead_keys.ensures.steady.same_number ∙ c.part_symbol.ensures.steady.same_number) (λ e. c.dead_keys.ensures.steady.stays_sole (c.part_symbol.ensures.steady.stays_sole e))
    (looks_then _ _ _ _ _ _ _ c.part_symbol.ensures.steady.same_number c.part_symbol.ensures.steady.stays_sole c.part_symbol.ensures.looks c.dead_keys.ensures.looks) c.with_pieces.ensures.looks

pub returns-in_err-keys-clause-did : goal.returns-in_err-keys-clause-did
returns-in_err-keys-clause-did g c =
    on_err (DidLook (g.B.Bucket.number c.args.bucket.now) c.args.symbol.now (g.B.Bucket.faults c.args.bucket.now) (g.B.Bucket.faults c.with_pieces.new.bucket) (g.B.Bucket.seen c.args.bucket.now) (g.B.Bucket.seen c.with_pieces.new.bucket))
    c.from_residual-in_err-keys.result c.in_err-keys.field-0.0 c.from_residual-in_err-keys.ensures.0 c.from_residual-in_err-keys.ensures.1
    (walk_finds (g.B.Bucket.faults c.args.bucket.now) (g.B.Bucket.faults c.dead_keys.new.bucket) (g.B.Bucket.faults c.with_pieces.new.bucket) _ (g.B.Bucket.seen c.dead_keys.new.bucket) _ _ _
    (omega (arith, c.part_symbol.ensures.steady.faults_rise, c.dead_keys.ensures.steady.faults_rise)) (looks_length _ _ _ _ (looks_then _ _ _ _ _ _ _ c.part_symbol.ensures.steady.same_number c.part_symbol.ensures.steady.stays_sole c.part_symbol.ensures.looks c.dead_keys.ensures.looks)) c.in_err-keys.ensures.refused)

pub returns-clause-looks : goal.returns-clause-looks
returns-clause-looks g c =
    looks_then _ _ _ _ _ _ _ (c.dead_keys.ensures.steady.same_number ∙ c.part_symbol.ensures.steady.same_number) (λ e. c.dead_keys.ensures.steady.stays_sole (c.part_symbol.ensures.steady.stays_sole e))
    (looks_then _ _ _ _ _ _ _ c.part_symbol.ensures.steady.same_number c.part_symbol.ensures.steady.stays_sole c.part_symbol.ensures.looks c.dead_keys.ensures.looks) c.with_pieces.ensures.looks

pub returns-clause-did : goal.returns-clause-did
returns-clause-did g c =
    let p = c.in_ok-rows.ensures.parted in
    let h0 = g.B.Bucket.seen c.args.bucket.now in
    let h1 = g.B.Bucket.seen c.part_symbol.new.bucket in
    let h3 = g.B.Bucket.seen c.dead_keys.new.bucket in
    let h4 = g.B.Bucket.seen c.with_pieces.new.bucket in
    let law3 = g.met.B.Bucket.lawful c.dead_keys.new.bucket in
    let looks = c.with_pieces.ensures.looks in
    let r : ReachesOnly h1 h3 c.in_ok-rows.field-0.rows c.in-Some.reached = subst (ReachesDead h1 h3 c.in_ok-rows.field-0.rows) c.in-Some.is c.in_ok-found.ensures.reached in
    let noted : NotesStaged h4 c.args.symbol.now p.state.consumed r.dead.keys c.in_ok-keys.keys =
    subst (λ ps. NotesStaged h4 c.args.symbol.now ps r.dead.keys c.in_ok-keys.keys) p.parts.consumed (subst (λ ks. NotesStaged h4 c.args.symbol.now c.in_ok-rows.field-0.consumed ks c.in_ok-keys.keys) r.keys_are c.in_ok-keys.ensures.noted) in
    subst (λ n. FoundDead h0 h4 c.args.symbol.now (record { keys = c.in_ok-keys.keys; place = n })) (sym p.parts.place)
    (found_all h0 h1 r.middle h3 h4 c.args.symbol.now p.state r.first r.second looks.others p.from p.at r.first_is r.second_is looks.is
    (g.met.B.Bucket.lawful c.part_symbol.new.bucket) (walked_lawful h3 r.second r.middle r.second_is law3) law3 (g.met.B.Bucket.lawful c.with_pieces.new.bucket) c.in_ok-rows.field-0.rows p.parts.rows
    r.reached.none r.reached.empty r.kept r.reached.reached r.there r.dead r.others c.in_ok-keys.keys noted p.referred)
