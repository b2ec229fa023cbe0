use Rattle.std.proofs.Common.{take}
use Rattle.std.specs.List.{AllByRecursion}
use Rattle.byte_fields.proofs.Written.{Written}
use Rattle.store_model.specs.ChainText.{piece_text}
use Rattle.version_chain.specs.Entries.{FitsPiece}
use Rattle.version_chain.proofs.pieces.put_pieces.Given as goal

-- the pieces so far were written, and their numbers fit
abbrev pub invariant-loop-piece : goal.invariant-loop-piece
invariant-loop-piece l = record {
  text : Written piece_text (take l.piece-index l.pieces) l.fn.out.items l.out.items;
  fits : AllByRecursion FitsPiece (take l.piece-index l.pieces);
}
