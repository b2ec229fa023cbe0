-- What a lawful history tells of a walked tip: its reference is an element, and what it buries rises.
use Rattle.std.proofs.Common.{◌≡◌, Bool, true, false, List, [], ◌∷◌, ◌++◌, map, reverse, ap, sym, subst, refl}
use Rattle.std.specs.Prelude.{IfSome}
use mathlib.Core.Logic.{∥∥₁_map}
use Rattle.key_kind.specs.Names.{Name}
use Rattle.bucket_core.specs.History.{History}
use Rattle.store_model.specs.Library.{State, Version, state_of, live_versions}
use Rattle.store_model.specs.Commits.{Rising, IsFilled}
use Rattle.store_model.specs.Law.{IsLawful}
use Rattle.store_model.proofs.Lawful.{beginning_lawful}
use Rattle.store_model.proofs.Numbering.{versions_numbered, live_may_be_buried}
use Rattle.version_chain.specs.declared.tip.ChainTip.{ChainTip}
use Rattle.version_chain.specs.MarkPlans.{IsElementKey}
use Rattle.version_chain.specs.Tips.{IsTipOf}
use Rattle.version_chain.proofs.ElementForms.{reference_told}
use Rattle.reply_model.specs.Answering.{live_numbers, pruned}
use Rattle.frame_write.specs.Plans.{IsUnmoved}

-- the reference
pub was_told : (h : History) (symbol : Name) (prune : Bool) (tip : ChainTip) → ∥ IsLawful h ∥₁ → IsTipOf h symbol prune tip → IfSome tip.was (IsElementKey symbol)
was_told h symbol prune tip lawful t = reference_told h symbol tip.was lawful t.was

-- what is buried
pub rising_buried : (h : History) (symbol : Name) (prune : Bool) (tip : ChainTip) → IsTipOf h symbol prune tip → Rising tip.buried
rising_buried h symbol false tip t = subst Rising (sym t.buried) tt
rising_buried h symbol true tip t = subst Rising (sym t.buried) (by (live_versions (state_of h symbol)) refl)
  where
    by : (vs : List Version) → live_versions (state_of h symbol) ≡ vs → Rising (live_numbers (state_of h symbol))
    by [] e = subst (λ (ws : List Version). Rising (reverse (map (λ (v : Version). v.number) ws))) (sym e) tt
    by (v ∷ vs) e = (live_may_be_buried (state_of h symbol) (versions_numbered h symbol) (subst IsFilled (sym e) tt)).rising

-- a walk's place is one of a lawful history
pub walked_lawful : (h later before : History) → h ≡ later ++ before → ∥ IsLawful h ∥₁ → ∥ IsLawful before ∥₁
walked_lawful h later before split lawful = ∥∥₁_map lawful (λ (l : IsLawful h). beginning_lawful later before (subst IsLawful split l))

-- what prune buries is the same where only pieces were staged
pub same_pruned : (st now : State) (prune : Bool) → IsUnmoved st now → pruned st prune ≡ pruned now prune
same_pruned st now prune u = sym (ap (λ s. pruned s prune) u.is)
