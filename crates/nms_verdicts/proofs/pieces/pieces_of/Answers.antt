-- `pieces_of`: by `in_order`; their order is that of the sort.
use Rattle.std.proofs.Common.{ℕ, List, rules, subst}
use Rattle.std.specs.Prelude.{IsPermutation}
use Rattle.std.proofs.lemmas.List.Sorted.{IsNonDecreasingBy-from_sort_by_key}
use Rattle.nms_verdicts.specs.Begun.{texts_of}
use Rattle.nms_verdicts.specs.Pieces.{ArePieces}
use Rattle.nms_verdicts.specs.declared.pieces.Piece.{Piece}
use Rattle.nms_verdicts.proofs.PieceFacts.{in_order}
use Rattle.nms_verdicts.proofs.pieces.pieces_of.Goals as goal

pub returns-clause-parted : goal.returns-clause-parted
returns-clause-parted c =
    let sorted = c.sort_by_key.new.self.items in
    subst (λ (text : List ℕ). (texts : List (List ℕ)) × ArePieces text texts × IsPermutation texts (texts_of sorted))
    c.without_mark.ensures
    (in_order c.without_mark.result.now c.new-pieces.result.items c.push_pieces.new.pieces.items sorted c.new-pieces.ensures.items
    c.in_ok-push_pieces.ensures c.in_ok-sort_by_key.ensures.permutation)

pub returns-clause-sorted : goal.returns-clause-sorted
returns-clause-sorted c =
    IsNonDecreasingBy-from_sort_by_key (λ (piece : Piece). piece.version) _ c.in_ok-sort_by_key.ensures.sorted
    (λ a r f called. search rules)
