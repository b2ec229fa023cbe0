-- Names that are noted while the columns of an index are read.
--     NameSet, has_name   a set of lent names, and whether one of them has these bytes
--     AreNoted            the names in a set are those of columns
use Rattle.std.specs.Prelude.{◌≡◌, ℕ, Bool, List}
use Rattle.std.specs.List.{list_any}
use Rattle.std.specs.Cmp.Lexicographic.{slice_cmp}
use Rattle.std.specs.Ordering.{nat_cmp}
use Rattle.std.specs.BTreeSet.{BTreeSet, contains_by}
use Rattle.frame_core.specs.Texts.{same_text}
use Rattle.frame_core.specs.Schemas.{Head}
use denote.Ref.{Bor}

-- a set of lent names
abbrev pub NameSet : Type 0
NameSet = BTreeSet (Bor (List ℕ))

-- whether one of the names has these bytes
abbrev pub has_name : NameSet → List ℕ → Bool
has_name names name = contains_by (λ (other : Bor (List ℕ)). slice_cmp nat_cmp name other.now) names

-- the names that are noted are those of the columns
abbrev pub AreNoted : NameSet → List Head → Type 0
AreNoted names heads = (other : List ℕ) → has_name names other ≡ list_any (λ (head : Head). same_text other head.0) heads
