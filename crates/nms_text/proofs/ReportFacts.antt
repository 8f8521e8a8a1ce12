-- That the parts of a report, written one after another, are the report.
use Rattle.std.proofs.Common.{ℕ, ◌≡◌, List, Option, refl, ap, subst}
use Rattle.std.specs.Prelude.{OnOk, Result}
use Rattle.std.specs.Io.KnownBytes.{Appends}
use Rattle.std.specs.List.{flat_map}
use Rattle.std.proofs.lemmas.Result.{on_ok_weaker}
use Rattle.csv.proofs.WriteFacts.{appends-more}
use Rattle.nms_quote.specs.Roster.{Listing}
use Rattle.nms_quote.specs.declared.side_quote.Side.TheVariants.{Bid, Offer}
use Rattle.nms_board.specs.View.{Seen, rows_on}
use Rattle.nms_board.specs.declared.row.Row.{Row}
use Rattle.nms_nbbo.specs.Market.{market_of}
use Rattle.nms_nbbo.specs.Pairs.{pairs_from}
use Rattle.nms_nbbo.specs.Best.{IsBestOf}
use Rattle.nms_nbbo.specs.declared.market_kind.Market.{Market}
use Rattle.nms_text.specs.Report.{IsReport, header_line, pair_line, pairs_text, report_text, side_text}

-- the pairs from the first place on are all pairs
pub all_pairs_written : {T E : Type 0} (r : Result T E) (old new : Option (List ℕ)) (roster : Listing) (seen : Seen) (first : ℕ) → first ≡ 0
    → OnOk r (Appends old new (flat_map (pair_line roster) (pairs_from first seen))) → OnOk r (Appends old new (pairs_text roster seen))
unfolding pairs_text
all_pairs_written r old new roster seen first zeroth =
    subst (λ (text : List ℕ). OnOk r (Appends old new text))
    (ap (λ (place : ℕ). flat_map (pair_line roster) (pairs_from place seen)) zeroth)

-- the header, both sides and the pairs
pub report_written : {T E : Type 0} (r : Result T E) (old one two three new : Option (List ℕ)) (roster : Listing) (seen : Seen)
    (bid offer : Option Row) (market : Market)
    → IsBestOf Bid (rows_on Bid seen) bid → IsBestOf Offer (rows_on Offer seen) offer → market ≡ market_of bid offer
    → Appends old one (header_line roster seen market) → Appends one two (side_text roster seen Bid bid)
    → Appends two three (side_text roster seen Offer offer)
    → OnOk r (Appends three new (pairs_text roster seen)) → OnOk r ((text : List ℕ) × IsReport roster seen text × Appends old new text)
report_written r old one two three new roster seen bid offer market best_bid best_offer is header bids offers pairs =
    let head : Appends old one (header_line roster seen (market_of bid offer)) =
    subst (λ (m : Market). Appends old one (header_line roster seen m)) is header in
    on_ok_weaker r (λ last. (
      report_text roster seen bid offer,
      record { bid = bid; offer = offer; best_bid = best_bid; best_offer = best_offer; is = refl },
      appends-more old three new _ (pairs_text roster seen)
          (appends-more old two three _ (side_text roster seen Offer offer)
          (appends-more old one two _ (side_text roster seen Bid bid) head bids) offers) last,
    ))
    pairs
