-- What a commit that is laid out makes of the run's blocks.
use Rattle.std.proofs.Common.{◌≡◌, ℕ, suc, ◌≤◌, true, false, List, [], ◌∷◌, map, Option, Some, None, refl, sym, ◌∙◌, ap, cond}
use Rattle.std.specs.Prelude.{◌*◌, find, nat_eq}
use Rattle.std.specs.Option.{option_map_or}
use Rattle.std.specs.List.{AllByRecursion}
use Rattle.std.proofs.lemmas.Bool.{true≢false}
use Rattle.key_kind.specs.Names.{Name}
use Rattle.bucket_core.specs.declared.event.Change.{Change}
use Rattle.bucket_core.specs.declared.event.Change.TheVariants as changes
use Rattle.bucket_core.specs.History.{History}
use Rattle.store_model.specs.Library.{State, Version, state_of, base_of, first_of, next_number, after_change, after_changes}
use Rattle.store_model.specs.Links.{links}
use Rattle.store_model.specs.Commits.{is_version}
use Rattle.reply_model.specs.Blocks.{Cutting, Block, Part, parts_of, blocks_from, Shape, base_blocks, blocks_made}
use Rattle.reply_model.specs.Standing.{HasShape, IsCutBy, bare_block, part_rows, fresh_in, slices, parts_laid, IsLaid}
use Rattle.reply_model.proofs.Makings.{numbers_kept, AreMade, MakesVersion}
use Rattle.reply_model.proofs.PartRows.{laid_within}
use Rattle.reply_model.proofs.PartCounts.{bare, bare_part, bare_parts, fresh_bare, rows_bare, shared_parts, parts_counted, parts_made, parts_rows, base_has_rows, base_has_keys, parts_share}

-- ---- blocks of the base

blocks_of_version : (n number : ℕ) (versions : List (ℕ × List Block)) → AllByRecursion (λ (x : ℕ × List Block). AreMade n x.1) versions
    → AreMade n (option_map_or (λ (x : ℕ × List Block). x.1) (find (λ (x : ℕ × List Block). nat_eq number x.0) versions) [])
blocks_of_version n number [] a = tt
blocks_of_version n number (x ∷ versions) a =
    elim (nat_eq number x.0) as (λ b. AreMade n (option_map_or (λ (y : ℕ × List Block). y.1) (cond b (Some x) (find (λ (y : ℕ × List Block). nat_eq number y.0) versions)) [])) [
      | true ↦ a.0
      | false ↦ blocks_of_version n number versions a.1
    ]

base_made : (n : ℕ) (s : Shape) (base : Option Version) → AllByRecursion (λ (x : ℕ × List Block). AreMade n x.1) s.versions → AreMade n (base_blocks s base)
base_made n s None a = tt
base_made n s (Some v) a = blocks_of_version n v.number s.versions a

-- the parts of the version that the run makes
abbrev parts_made_of : Cutting → State → Shape → Change → List Part
parts_made_of c st s change = parts_of c (base_of st) (base_blocks s (base_of st)) change

bare_rows : (blocks : List Block) → map bare_block (map (λ (b : Block). b.rows) blocks) ≡ map bare blocks
bare_rows [] = refl
bare_rows (x ∷ blocks) = ap (λ bs. bare x ∷ bs) (bare_rows blocks)

-- they are those that are laid, with the blocks that are shared
laid_are : (c : Cutting) (h : History) (symbol : Name) (s : Shape) (change : Change) → HasShape h symbol s → parts_laid c h symbol change ≡ map bare_part (parts_made_of c (state_of h symbol) s change)
laid_are c h symbol s change shape =
    let base = base_of (state_of h symbol) in
    ap (λ ns. parts_of c base (map bare_block ns) change) (sym (base_has_rows (links h symbol) s base shape.versions))
    ∙ (ap (λ bs. parts_of c base bs change) (bare_rows (base_blocks s base)) ∙ bare_parts c base (base_blocks s base) change)

-- ---- the version

blocks_are : (c : Cutting) (st : State) (s : Shape) (change : Change) → is_version change ≡ true
    → blocks_made c st s change ≡ Some (next_number st, blocks_from (next_number st) (slices c st change) 0 (parts_made_of c st s change))
blocks_are c st s (changes.Wrote frame at) e = refl
blocks_are c st s (changes.Appended frame at) e = refl
blocks_are c st s (changes.Updated frame range at) e = refl
blocks_are c st s (changes.Removed versions) e = absurd (true≢false (sym e))
blocks_are c st s (changes.Held holder version) e = absurd (true≢false (sym e))
blocks_are c st s (changes.Released holder) e = absurd (true≢false (sym e))
blocks_are c st s (changes.Discarded pieces) e = absurd (true≢false (sym e))
blocks_are c st s changes.Restated e = absurd (true≢false (sym e))

one_more : (st : State) (change : Change) (rest : List Change) → is_version change ≡ true → suc (next_number st) ≤ next_number (after_changes st (change ∷ rest))
one_more st (changes.Wrote frame at) rest e = numbers_kept (after_change st (changes.Wrote frame at)) rest
one_more st (changes.Appended frame at) rest e = numbers_kept (after_change st (changes.Appended frame at)) rest
one_more st (changes.Updated frame range at) rest e = numbers_kept (after_change st (changes.Updated frame range at)) rest
one_more st (changes.Removed versions) rest e = absurd (true≢false (sym e))
one_more st (changes.Held holder version) rest e = absurd (true≢false (sym e))
one_more st (changes.Released holder) rest e = absurd (true≢false (sym e))
one_more st (changes.Discarded pieces) rest e = absurd (true≢false (sym e))
one_more st changes.Restated rest e = absurd (true≢false (sym e))

-- what is laid out is what the run makes
pub laid_makes : (c : Cutting) (s : Shape) (symbol : Name) (tiles place : ℕ) (change : Change) (rest : List Change) (old new : History) → is_version change ≡ true → HasShape old symbol s
    → IsCutBy c old → IsLaid c symbol change place old new → tiles ≡ fresh_in (parts_laid c old symbol change) * slices c (state_of old symbol) change
    → MakesVersion c (state_of old symbol) s (links old symbol) (first_of (links new symbol)) tiles change rest
laid_makes c s symbol tiles place change rest old new version shape cut laid counted =
    let st : State = state_of old symbol in
    let made : List Part = parts_made_of c st s change in
    let are = laid_are c old symbol s change shape in
    let shared = shared_parts (next_number st) c (base_of st) (base_blocks s (base_of st)) change (base_made (next_number st) s (base_of st) shape.made) in
    record {
      parts = made;
      slices = slices c st change;
      blocks = blocks_from (next_number st) (slices c st change) 0 made;
      blocks_are = refl;
      version = version;
      based = parts_share (next_number st) (base_blocks s (base_of st)) (base_made (next_number st) s (base_of st) shape.made) c (base_of st) change;
      is = blocks_are c st s change version;
      counted = parts_counted (next_number st) (slices c st change) 0 made shared
          ∙ (ap (λ n. n * slices c st change) (sym (fresh_bare made)) ∙ (ap (λ ps. fresh_in ps * slices c st change) (sym are) ∙ sym counted));
      more = one_more st change rest version;
      made = parts_made (next_number st) (slices c st change) 0 (next_number (after_changes st (change ∷ rest))) made (one_more st change rest version) shared;
      link = laid.link;
      link_is = laid.newest;
      fresh = counted ∙ (ap (λ ps. fresh_in ps * slices c st change) are ∙ ap (λ n. n * slices c st change) (fresh_bare made));
      keyed = λ names named. laid.keys (base_blocks s (base_of st)) (λ (b : Block). names b.version b.number) (base_has_rows (links old symbol) s (base_of st) shape.versions) (base_has_keys names (links old symbol) s (base_of st) shape.versions named);
      within = laid_within c symbol change place old new cut laid;
      rows = parts_rows (next_number st) (slices c st change) 0 made ∙ (sym (rows_bare made) ∙ (ap (λ ps. map part_rows ps) (sym are) ∙ sym laid.rows));
    }
