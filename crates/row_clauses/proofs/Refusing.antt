-- A refusal of a part is the refusal of the whole.
use Rattle.std.proofs.Common.{◌≡◌, sym, subst}
use Rattle.std.specs.Prelude.{IsErr, IsErrAnd, Result, Ok, Err}
use Rattle.frame_core.specs.declared.refusal.Refusal.{Refusal}
use Rattle.frame_core.specs.declared.refusal.Refusal.TheVariants as refusals
use Rattle.frame_core.specs.Refusals.{Answers}

-- where the part's refusal is that of the whole, an answer of the part is one of the whole; want of memory is free
pub refuses_whole : {A B : Type 0} (why : Refusal) (part : Result A Refusal) (whole : Result B Refusal) → Answers (Err why) part → (part ≡ Err why → whole ≡ Err why) → Answers (Err why) whole
refuses_whole refusals.NoMemory part whole given carry = tt
refuses_whole refusals.StoreFault part whole given carry = carry given
refuses_whole refusals.NoSuchSymbol part whole given carry = carry given
refuses_whole (refusals.NoSuchVersion asked) part whole given carry = carry given
refuses_whole (refusals.VersionGone version) part whole given carry = carry given
refuses_whole (refusals.Moved at) part whole given carry = carry given
refuses_whole (refusals.Unsorted row) part whole given carry = carry given
refuses_whole (refusals.SchemaDiffers column) part whole given carry = carry given
refuses_whole (refusals.AppendBefore last first) part whole given carry = carry given
refuses_whole (refusals.OutsideRange row) part whole given carry = carry given
refuses_whole refusals.EmptyUpdate part whole given carry = carry given
refuses_whole (refusals.NoSuchColumn clause position) part whole given carry = carry given
refuses_whole (refusals.TypeMismatch clause) part whole given carry = carry given
refuses_whole (refusals.Overflow clause row) part whole given carry = carry given
refuses_whole (refusals.GroupOverflow clause group) part whole given carry = carry given
refuses_whole (refusals.NotTimeIndexed clause) part whole given carry = carry given
refuses_whole refusals.SnapshotExists part whole given carry = carry given
refuses_whole refusals.NoSuchSnapshot part whole given carry = carry given
refuses_whole refusals.NoStaged part whole given carry = carry given
refuses_whole (refusals.StagedOverlap piece) part whole given carry = carry given
refuses_whole (refusals.Spent count) part whole given carry = carry given
refuses_whole (refusals.TooLarge what most) part whole given carry = carry given

-- what holds of an error holds of the answer that is this error
pub on_err : {A E : Type 0} (D : Result A E → Type 0) (r : Result A E) (x : E) → IsErr r → IsErrAnd r (λ y. y ≡ x) → D (Err x) → D r
on_err D (Ok a) x is same d = absurd cc
on_err D (Err y) x is same d = subst (λ z. D (Err z)) (sym same) d
