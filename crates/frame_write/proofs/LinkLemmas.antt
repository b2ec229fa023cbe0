-- One try on a walked tip: the plan is one for the client's next puts, and its commit makes what was asked.
use Rattle.std.proofs.Common.{◌≡◌, ℕ, suc, ◌≤◌, true, false, cond, [], ◌∷◌, ◌++◌, length, ap, sym, ◌∙◌, subst, arith, nat_eq}
use Rattle.index_tree.specs.declared.index.Index.{Index}
use Rattle.key_kind.specs.Names.{Name}
use Rattle.bucket_core.specs.declared.event.Event.TheVariants as events
use Rattle.bucket_core.specs.History.{History, puts_by, history_at}
use Rattle.store_model.specs.Law.{IsLawful}
use Rattle.store_model.specs.Library.{state_of}
use Rattle.version_chain.specs.declared.tip.ChainTip.{ChainTip}
use Rattle.reply_model.proofs.Places.{history_at_end}
use Rattle.reply_model.proofs.Later.{history_at_later}
use Rattle.frame_write.specs.declared.options.Options.{Options}
use Rattle.frame_write.specs.declared.pieces.LinkPlan.{LinkPlan}
use Rattle.frame_write.specs.declared.plan.Plan.{Plan}
use Rattle.frame_write.specs.Links.{IsLinkable, IsLinkMade}
use Rattle.frame_write.specs.Plans.{IsPlanned, IsMadeBy}
use Rattle.frame_write.specs.Tries.{Made}
use Rattle.frame_write.specs.Versions.{MayPlan, IsPlanOf}
use Rattle.frame_write.proofs.StateLemmas.{walked_lawful, same_pruned}

serials_grow : (client : ℕ) (before later : History) → puts_by client before ≤ puts_by client (later ++ before)
serials_grow client before [] = omega arith
serials_grow client before (events.Put c key body ∷ later) =
    let rest = serials_grow client before later in
    elim (nat_eq c client) as (λ b. puts_by client before ≤ cond b (suc (puts_by client (later ++ before))) (puts_by client (later ++ before))) [ true ↦ omega (arith, rest) | false ↦ rest ]
serials_grow client before (events.Refer c s was entry list ∷ later) = serials_grow client before later
serials_grow client before (events.Name c snap body ∷ later) = serials_grow client before later
serials_grow client before (events.Unname c snap ∷ later) = serials_grow client before later
serials_grow client before (events.Drop c key ∷ later) = serials_grow client before later

-- the tip is the symbol's where it was walked, and the next serial is no lower than there
pub may_plan : (client : ℕ) (h : History) (symbol : Name) (tip : ChainTip) (options : Options) (link : LinkPlan) → ∥ IsLawful h ∥₁ → (l : IsLinkable client h symbol tip options link) → MayPlan client (puts_by client h) l.walked.before symbol options.prune tip
may_plan client h symbol tip options link lawful l = record {
  lawful = walked_lawful h l.walked.later l.walked.before l.walked.split lawful;
  is_tip = l.walked.is;
  serial_is = subst (λ g. puts_by client l.walked.before ≤ puts_by client g) (sym l.walked.split) (serials_grow client l.walked.before l.walked.later);
}

-- a plan for the client's next puts
abbrev pub planned : (client : ℕ) (h : History) (symbol : Name) (tip : ChainTip) (link : LinkPlan) (options : Options) (plan : Plan) (l : IsLinkable client h symbol tip options link)
    → (p : IsPlanOf client (puts_by client h) l.walked.before symbol options link.change link.pieces plan) → IsPlanned client h symbol p.index plan
planned client h symbol tip link options plan l p = record {
  later = l.walked.later;
  before = l.walked.before;
  split = l.walked.split;
  none_own = l.none_own;
  is_plan = p.is_plan;
}

-- the state at the place of the walk
pub walked_state : (client : ℕ) (h : History) (symbol : Name) (tip : ChainTip) (options : Options) (link : LinkPlan) (l : IsLinkable client h symbol tip options link) → state_of l.walked.before symbol ≡ state_of (history_at h tip.place) symbol
walked_state client h symbol tip options link l =
    let there : history_at (l.walked.later ++ l.walked.before) (length l.walked.before) ≡ l.walked.before = history_at_later l.walked.before l.walked.later (length l.walked.before) (omega arith) ∙ history_at_end l.walked.before in
    ap (λ g. state_of g symbol) (sym there ∙ (λ i. history_at (sym l.walked.split i) (sym l.walked.place i)))

-- the commit of the plan makes what was asked
pub link_made : (client serial : ℕ) (symbol : Name) (before : History) (link : LinkPlan) (options : Options) (plan : Plan) (p : IsPlanOf client serial before symbol options link.change link.pieces plan) (m : Made)
    → IsMadeBy symbol (state_of before symbol) p.index plan m → IsLinkMade client serial symbol (state_of before symbol) link options m
link_made client serial symbol before link options plan p m b = record {
  list = b.list ∙ (p.changes ∙ ap (λ rest. link.change ∷ rest) (same_pruned (state_of before symbol) (state_of m.before symbol) options.prune b.unmoved));
  unmoved = b.unmoved;
  puts = ap length b.puts ∙ p.puts;
  slots = ap (λ (i : Index). i.slots) b.index_is ∙ p.slots;
}

-- what was planned for a client and a serial that were read is planned for those of the bucket
pub made_told : (client serial c s : ℕ) → c ≡ client → s ≡ serial → (before : History) (symbol : Name) (tip : ChainTip) (link : LinkPlan) (options : Options) (plan : Plan) → MayPlan client serial before symbol options.prune tip
    → (MayPlan c s before symbol options.prune tip → IsPlanOf c s before symbol options link.change link.pieces plan) → IsPlanOf client serial before symbol options link.change link.pieces plan
made_told client serial c s client_is serial_is before symbol tip link options plan may make =
    let there : MayPlan c s before symbol options.prune tip = subst (λ n. MayPlan n s before symbol options.prune tip) (sym client_is) (subst (λ n. MayPlan client n before symbol options.prune tip) (sym serial_is) may) in
    subst (λ n. IsPlanOf client n before symbol options link.change link.pieces plan) serial_is (subst (λ n. IsPlanOf n s before symbol options link.change link.pieces plan) client_is (make there))
