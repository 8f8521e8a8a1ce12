-- The lemmas of this crate that proofs of crates above it may cite. Its other lemmas are only for this crate.
pub use Rattle.nms_rules.proofs.ApartLemmas.{Apart, Apart-IsDistinct, Apart-filter, Apart-map, Apart-rising, IsDistinct-Apart}
pub use Rattle.nms_rules.proofs.CutoffLemmas.{Passes, Pools, Sweeps, cost-not, places, pool-is, pool-not, swept-is, swept-not}
pub use Rattle.nms_rules.proofs.GivenLemmas.{filled-given, given-by, given-cons, given-none, gives, gives-other, gives-own, leg_part}
pub use Rattle.nms_rules.proofs.GivenLemmas.{row_part}
pub use Rattle.nms_rules.proofs.HeldLemmas.{first_more, held_all, held_beyond, held_more, held_shown, side_rows, usable_among}
pub use Rattle.nms_rules.proofs.LawfulLemmas.{faultless_of_none, none_of_faultless}
pub use Rattle.nms_rules.proofs.LegLemmas.{cost_of-none, cost_of-push}
pub use Rattle.nms_rules.proofs.MemberLemmas.{All-In, Any-In, In, In-All, In-Any, In-filter, In-map, filter-In, find-nothing, list_any-false}
pub use Rattle.nms_rules.proofs.MemberLemmas.{list_any-some, map-In}
pub use Rattle.nms_rules.proofs.OptimalLemmas.{accepted_optimal, optimal}
pub use Rattle.nms_rules.proofs.OrderLemmas.{better-from-rank, within-limit}
pub use Rattle.nms_rules.proofs.SignedLemmas.{cases_int, false-lt, le-false, le-true, lt-false, lt-true, plus-times, times-more, times-plus}
pub use Rattle.nms_rules.proofs.SignedLemmas.{true-lt, zero-times}
pub use Rattle.nms_rules.proofs.SumLemmas.{total_more, total_none}
pub use Rattle.nms_rules.proofs.TotalLemmas.{amount_append, amount_same, total_append, total_same}
