use Rattle.std.proofs.Common.{◌≡◌, ◌≤◌, ◌∙◌, List, [], ◌∷◌, ◌++◌, length, reverse, refl, sym, ap, arith}
use Rattle.std.specs.Prelude.{map}
use Rattle.std.proofs.lemmas.List.{take_all, reverse-append}
use mathlib.Core.List.{map-append}
use Rattle.expr_clause.specs.declared.command.Command.{Command}
use Rattle.client_sessions.specs.Rooms.{counts}
use Rattle.client_sessions.proofs.block_rooms.make_rooms.Goals as goal

-- a map of a list in the other order
map_reversed : {X Y : Type 0} (f : X → Y) (xs : List X) → map f (reverse xs) ≡ reverse (map f xs)
map_reversed f [] = refl
map_reversed f (x ∷ xs) =
    ap (map f) (reverse-append (x ∷ []) xs)
    ∙ (map-append f (reverse xs) (x ∷ [])
    ∙ (ap (λ ys. ys ++ f x ∷ []) (map_reversed f xs) ∙ sym (reverse-append (f x ∷ []) (map f xs))))

pub returns : goal.returns
returns c =
    let all : length c.args.blocks.now ≤ c.loop-block.block-index = omega (arith, c.loop-block-test.false) in
    ap counts c.reverse.ensures.items
    ∙ (map_reversed (λ r. r.count) c.loop-block.rooms.items
    ∙ ap reverse (c.loop-block.invariant ∙ ap (λ (bs : List (List Command)). map length bs) (take_all c.loop-block.block-index c.args.blocks.now all)))
