-- The lemmas of this crate that proofs of crates above it may cite. Its other lemmas are its own affair.
pub use Rattle.nms_board.proofs.BoardLemmas.{change_cell_elsewhere, change_cell_here, seen_stands, sizes_after, stands_after, takes_by}
pub use Rattle.nms_board.proofs.GivenOnce.{one_side}
pub use Rattle.nms_board.proofs.HistoryLemmas.{content_at-push, lot_listed-push, receipt_of-push, same_content-refl, same_content-true}
pub use Rattle.nms_board.proofs.HistoryLemmas.{state_at-push}
pub use Rattle.nms_board.proofs.LawLemmas.{receipt_counts, receipt_is_least, receipts_differ, rows_differ}
pub use Rattle.nms_board.proofs.ListLemmas.{found_alone, in_rest, slice_get-replicate_below, slice_get-set_other, slice_get-set_same}
pub use Rattle.nms_board.proofs.PartLemmas.{held_few, shown_parts, view_parts}
pub use Rattle.nms_board.proofs.RankLemmas.{above_one_way, below_limit, long_as, order_of, passing_in_order, ranked_at_is, rows_in_order, rows_read}
